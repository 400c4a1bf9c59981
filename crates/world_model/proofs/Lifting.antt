-- What a port does is what its node does.
use Rattle.std.proofs.Common.{◌≡◌, ◌∙◌, ◌∷◌, Some, None, Ok, Err, Result, option_and_then, sym, ap, refl, subst}
use Rattle.network_model.specs.declared.event.Event.{Event}
use Rattle.network_model.specs.declared.node.NodeKind.{NodeKind}
use Rattle.network_model.specs.declared.node.NodeKind.TheVariants as kinds
use Rattle.network_model.specs.declared.refusal.WorldRefusal.{WorldRefusal}
use Rattle.network_model.specs.Network.{Network, NodeName, PortSetup, kind_of, master_port, slave_port}
use Rattle.network_model.specs.Run.{Run, site_of}
use Rattle.network_model.specs.Kinds.{named_difference}
use Rattle.world_model.specs.declared.entry.Happened.{Happened}
use Rattle.world_model.specs.declared.station.Master.{Master}
use Rattle.world_model.specs.declared.station.Slave.{Slave}
use Rattle.world_model.specs.declared.station.Port.{Port}
use Rattle.world_model.specs.declared.station.Port.TheVariants as ports
use Rattle.world_model.specs.declared.station.Station.{Station}
use Rattle.world_model.specs.Inner.Stands.{MasterStands, SlaveStands, PortStands, Stands}
use Rattle.world_model.specs.Inner.Acts.{Answers, MasterActs, SlaveActs}
use Rattle.world_model.proofs.Own.{difference-stays}

-- a master stands at a node of its kind, with its setup
record MasterAt (run : Run) (name : NodeName) (kind : NodeKind) (master : Master) : Type 0 where
  setup : PortSetup
  is : master_port kind ≡ Some setup
  stands : MasterStands run name setup master

master_here : (network : Network) (run : Run) (name : NodeName) (kind : NodeKind) (master : Master)
    → PortStands network run name kind (ports.Master master) → MasterAt run name kind master
master_here network run name (kinds.Master config first) master stands = record { setup = record { config = config; first = first.0 }; is = refl; stands = stands }
master_here network run name _ master stands = absurd stands

master_there : (network : Network) (run : Run) (name : NodeName) (kind : NodeKind) (setup : PortSetup) (master : Master)
    → master_port kind ≡ Some setup → MasterStands run name setup master → PortStands network run name kind (ports.Master master)
master_there network run name (kinds.Master config first) setup master is stands =
    let same : record { config = config; first = first.0 } ≡ setup = cc in subst (λ (s : PortSetup). MasterStands run name s master) (sym same) stands
master_there network run name _ setup master is stands = absurd (cc)

-- the same of a slave
record SlaveAt (network : Network) (run : Run) (name : NodeName) (kind : NodeKind) (slave : Slave) : Type 0 where
  setup : PortSetup
  is : slave_port kind ≡ Some setup
  stands : SlaveStands network run name setup slave

slave_here : (network : Network) (run : Run) (name : NodeName) (kind : NodeKind) (slave : Slave)
    → PortStands network run name kind (ports.Slave slave) → SlaveAt network run name kind slave
slave_here network run name (kinds.Slave config first) slave stands = record { setup = record { config = config; first = first.0 }; is = refl; stands = stands }
slave_here network run name _ slave stands = absurd stands

slave_there : (network : Network) (run : Run) (name : NodeName) (kind : NodeKind) (setup : PortSetup) (slave : Slave)
    → slave_port kind ≡ Some setup → SlaveStands network run name setup slave → PortStands network run name kind (ports.Slave slave)
slave_there network run name (kinds.Slave config first) setup slave is stands =
    let same : record { config = config; first = first.0 } ≡ setup = cc in subst (λ (s : PortSetup). SlaveStands network run name s slave) (sym same) stands
slave_there network run name _ setup slave is stands = absurd (cc)

-- what an event brings about, said of more
weaker : (network : Network) (run : Run) (event : Event) (HasRoom : Type 0) {A B Same Also : Type 0} → (A → B) → (Same → Also)
    → (result : Result Happened WorldRefusal) → Answers network run event HasRoom A Same result → Answers network run event HasRoom B Also result
weaker network run event HasRoom wider kept (Ok happened) answers = (
  answers.0,
  record {
    outcome = answers.1.outcome;
    read = answers.1.read;
    stands = wider answers.1.stands;
    copy = answers.1.copy;
    stay = answers.1.stay;
  },
)
weaker network run event HasRoom wider kept (Err why) answers = (kept answers.0, answers.1)

module _ (network : Network) (run : Run) (kind : NodeKind) (event : Event) (station : Station) (calm : named_difference event ≡ None)
    (is_kind : kind_of network (site_of event) ≡ Some kind) (stands : Stands network run (site_of event) kind station)
    (HasRoom : Type 0) (result : Result Happened WorldRefusal) where
  -- the station with another port
  abbrev pub with_port : Port → Station
  with_port port = record { difference = station.difference; port = port }

  after : (port : Port) → PortStands network (event ∷ run) (site_of event) kind port → Stands network (event ∷ run) (site_of event) kind (with_port port)
  after port stood = record { difference = stands.difference ∙ sym (difference-stays event run calm); port = stood }

  pub lift-master : (old new : Master) (Given : Network → Run → Type 0) → station.port ≡ ports.Master old
      → MasterActs event Given old new HasRoom result → Given network run
      → Answers network run event HasRoom (Stands network (event ∷ run) (site_of event) kind (with_port (ports.Master new))) (with_port (ports.Master new) ≡ station) result
  lift-master old new Given is acts given =
      let here = master_here network run (site_of event) kind old (subst (PortStands network run (site_of event) kind) is stands.port) in
      weaker network run event HasRoom
      (λ stood. after (ports.Master new) (master_there network (event ∷ run) (site_of event) kind here.setup new here.is stood))
      (λ same. ap with_port (ap ports.Master same ∙ sym is)) result
      (acts network run here.setup (ap (option_and_then master_port) is_kind ∙ here.is) here.stands given)

  pub lift-slave : (old new : Slave) (Given : Network → Run → Type 0) → station.port ≡ ports.Slave old
      → SlaveActs event Given old new HasRoom result → Given network run
      → Answers network run event HasRoom (Stands network (event ∷ run) (site_of event) kind (with_port (ports.Slave new))) (with_port (ports.Slave new) ≡ station) result
  lift-slave old new Given is acts given =
      let here = slave_here network run (site_of event) kind old (subst (PortStands network run (site_of event) kind) is stands.port) in
      weaker network run event HasRoom
      (λ stood. after (ports.Slave new) (slave_there network (event ∷ run) (site_of event) kind here.setup new here.is stood))
      (λ same. ap with_port (ap ports.Slave same ∙ sym is)) result
      (acts network run here.setup (ap (option_and_then slave_port) is_kind ∙ here.is) here.stands given)
