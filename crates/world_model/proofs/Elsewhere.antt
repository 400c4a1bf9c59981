-- What an event leaves as it was at other nodes.
use Rattle.std.proofs.Common.{◌≡◌, ◌∙◌, ◌+◌, Bool, true, false, ◌∷◌, ◌++◌, if◌then◌else◌, Some, None, option_map, unwrap_or, refl, sym, ap, subst}
use Rattle.std.specs.Prelude.{◌&&◌}
use Rattle.std.specs.Option.{option_to_list}
use Rattle.ptp_units.specs.Sequence.{of_count}
use Rattle.slave_port.specs.StandsFor.{StandsFor}
use Rattle.network_model.specs.declared.event.Event.{Event}
use Rattle.network_model.specs.declared.event.Event.TheVariants.{Sync}
use Rattle.network_model.specs.declared.node.NodeKind.{NodeKind}
use Rattle.network_model.specs.declared.node.NodeKind.TheVariants as kinds
use Rattle.network_model.specs.Network.{Network, NodeName, PortSetup, is_named}
use Rattle.network_model.specs.Run.{Run, Place, place, site_of}
use Rattle.network_model.specs.Kinds.{is_at, is_sync, draws_sync, is_follow, is_request, is_stamped, named_difference}
use Rattle.network_model.specs.Clock.{difference}
use Rattle.network_model.specs.Numbering.{draws_with, waiting_sync, waiting_request}
use Rattle.network_model.specs.SlaveHistory.{slave_setup, call_made, history_of}
use Rattle.world_model.specs.declared.station.Master.{Master}
use Rattle.world_model.specs.declared.station.Slave.{Slave}
use Rattle.world_model.specs.declared.station.Port.{Port}
use Rattle.world_model.specs.declared.station.Port.TheVariants as ports
use Rattle.world_model.specs.declared.station.Station.{Station}
use Rattle.world_model.specs.Inner.Stands.{departure, sequence_of, next_sync, MasterStands, SlaveStands, PortStands, Stands}
use Rattle.world_model.proofs.Own.{count_by-failed}

and_false : (b : Bool) → (b && false) ≡ false
and_false true = refl
and_false false = refl

module _ (event : Event) (run : Run) (name : NodeName) (other : is_named (site_of event) name ≡ false) where
  not_at : (kind : Event → Bool) → is_at kind name event ≡ false
  not_at kind = ap (λ b. kind event && b) other ∙ and_false (kind event)

  difference-elsewhere : difference name (event ∷ run) ≡ difference name run
  difference-elsewhere = ap (λ b. if b then unwrap_or (named_difference event) (difference name run) else difference name run) other

  next_sync-elsewhere : (setup : PortSetup) → next_sync setup name (event ∷ run) ≡ next_sync setup name run
  next_sync-elsewhere setup =
      ap (λ n. of_count (setup.first + n)) (count_by-failed (draws_with (Sync name 0)) event run (not_at draws_sync))

  waiting_sync-elsewhere : waiting_sync name (event ∷ run) ≡ waiting_sync name run
  waiting_sync-elsewhere =
      ap (λ b. if b then Some (place event run) else (if is_at is_follow name event then None else waiting_sync name run)) (not_at is_sync)
      ∙ ap (λ b. if b then None else waiting_sync name run) (not_at is_follow)

  waiting_request-elsewhere : waiting_request name (event ∷ run) ≡ waiting_request name run
  waiting_request-elsewhere =
      ap (λ b. if b then Some (place event run) else (if is_at is_stamped name event then None else waiting_request name run)) (not_at is_request)
      ∙ ap (λ b. if b then None else waiting_request name run) (not_at is_stamped)

  history-elsewhere : (network : Network) (setup : PortSetup) → history_of network setup name (event ∷ run) ≡ history_of network setup name run
  history-elsewhere network setup =
      ap (λ b. if b then option_to_list (call_made network setup event run) ++ history_of network setup name run else history_of network setup name run) other

  MasterStands-elsewhere : (setup : PortSetup) (master : Master) → MasterStands run name setup master → MasterStands (event ∷ run) name setup master
  MasterStands-elsewhere setup master stands = record {
    config = stands.config;
    next = stands.next ∙ sym (next_sync-elsewhere setup);
    number = stands.number ∙ sym (ap (option_map (sequence_of setup)) waiting_sync-elsewhere);
    waiting = stands.waiting ∙ sym (ap (option_map (λ (p : Place). departure (sequence_of setup p) p)) waiting_sync-elsewhere);
  }

  SlaveStands-elsewhere : (network : Network) (setup : PortSetup) (slave : Slave) → SlaveStands network run name setup slave → SlaveStands network (event ∷ run) name setup slave
  SlaveStands-elsewhere network setup slave stands = record {
    port = subst (StandsFor (slave_setup setup) slave.port) (sym (history-elsewhere network setup)) stands.port;
    waiting = stands.waiting ∙ sym (ap (option_map (λ (p : Place). departure (sequence_of setup p) p)) waiting_request-elsewhere);
  }

  PortStands-elsewhere : (network : Network) (kind : NodeKind) (port : Port) → PortStands network run name kind port → PortStands network (event ∷ run) name kind port
  PortStands-elsewhere network (kinds.Master config first) (ports.Master master) stands = MasterStands-elsewhere (record { config = config; first = first.0 }) master stands
  PortStands-elsewhere network (kinds.Slave config first) (ports.Slave slave) stands = SlaveStands-elsewhere network (record { config = config; first = first.0 }) slave stands
  PortStands-elsewhere network kinds.Clock ports.Clock stands = stands
  PortStands-elsewhere network (kinds.Master config first) (ports.Slave slave) stands = stands
  PortStands-elsewhere network (kinds.Master config first) ports.Clock stands = stands
  PortStands-elsewhere network (kinds.Slave config first) (ports.Master master) stands = stands
  PortStands-elsewhere network (kinds.Slave config first) ports.Clock stands = stands
  PortStands-elsewhere network kinds.Clock (ports.Master master) stands = stands
  PortStands-elsewhere network kinds.Clock (ports.Slave slave) stands = stands

  -- a node stands as it did after an event of another node
  pub Stands-elsewhere : (network : Network) (kind : NodeKind) (station : Station) → Stands network run name kind station → Stands network (event ∷ run) name kind station
  Stands-elsewhere network kind station stands = record {
    difference = stands.difference ∙ sym difference-elsewhere;
    port = PortStands-elsewhere network kind station.port stands.port;
  }
