-- What a world keeps of its run: one station for each node and one entry for each event. Its own functions cite these;
-- what its callers are told is said by the run alone.
use Rattle.std.specs.Prelude.{◌≡◌, ℕ, zero, suc, List, [], ◌∷◌, length, map, reverse, slice_get, is_some, if◌then◌else◌}
use Rattle.std.specs.Prelude.{Option, Some, None, option_map, option_and_then}
use Rattle.std.specs.List.{list_any}
use Rattle.ptp_units.specs.Sequence.{of_count}
use Rattle.slave_port.specs.StandsFor.{StandsFor}
use Rattle.network_model.specs.declared.event.Event.{Event}
use Rattle.network_model.specs.declared.event.Event.TheVariants.{Sync}
use Rattle.network_model.specs.declared.node.NodeKind.{NodeKind}
use Rattle.network_model.specs.declared.node.NodeKind.TheVariants as kinds
use Rattle.network_model.specs.declared.node.NodeSpec.{NodeSpec}
use Rattle.network_model.specs.Network.{Network, NodeName, IsNetwork, PortSetup}
use Rattle.network_model.specs.Run.{Run, Place, place, place_at}
use Rattle.network_model.specs.Clock.{difference, reading}
use Rattle.network_model.specs.Numbering.{number_of, waiting_sync, waiting_request}
use Rattle.network_model.specs.Kinds.{entered_copy, is_leave_of}
use Rattle.network_model.specs.Truth.{TellsTruth, copy_of}
use Rattle.network_model.specs.SlaveHistory.{slave_setup, history_of}
use Rattle.network_model.specs.Outcome.{IsRun}
use Rattle.world_model.specs.declared.entry.Octets.{Octets}
use Rattle.world_model.specs.declared.entry.Octets.TheVariants.{Short, Long}
use Rattle.world_model.specs.declared.entry.Left.{Left}
use Rattle.world_model.specs.declared.entry.Left.TheVariants.{Copy, Stay, Nothing}
use Rattle.world_model.specs.declared.station.Departure.{Departure}
use Rattle.world_model.specs.declared.station.Master.{Master}
use Rattle.world_model.specs.declared.station.Slave.{Slave}
use Rattle.world_model.specs.declared.station.Port.{Port}
use Rattle.world_model.specs.declared.station.Port.TheVariants as ports
use Rattle.world_model.specs.declared.station.Station.{Station}

-- an event that happened, and what it left
pub record Entry : Type 0 where
  pub event : Event
  pub left : Left

-- the events of entries, newest first
abbrev pub run_of : List Entry → Run
run_of entries = reverse (map (λ entry. entry.event) entries)

-- octets of either length
abbrev pub listed : Octets → List ℕ
listed (Short octets) = octets
listed (Long octets) = octets

-- the octets of a copy
abbrev pub octets_in : Left → Option (List ℕ)
octets_in (Copy octets) = Some (listed octets)
octets_in (Stay transit) = None
octets_in Nothing = None

-- when a message entered a clock, by that clock's reading
abbrev pub stay_in : Left → Option ℕ
stay_in (Copy octets) = None
stay_in (Stay transit) = Some transit
stay_in Nothing = None

-- the event of this tag
abbrev pub event_at : List Entry → ℕ → Option Event
event_at entries tag = option_map (λ entry. entry.event) (slice_get entries tag)

-- the octets of the copy of this tag
abbrev pub octets_at : List Entry → ℕ → Option (List ℕ)
octets_at entries tag = option_and_then (λ entry. octets_in entry.left) (slice_get entries tag)

-- the stay of this tag, which no Leave event has left
abbrev pub stay_at : List Entry → ℕ → Option ℕ
stay_at entries tag = option_and_then (λ entry. stay_in entry.left) (slice_get entries tag)

-- what is kept of an event once its stay was left
abbrev pub ended : Left → Left
ended (Copy octets) = Copy octets
ended (Stay transit) = Nothing
ended Nothing = Nothing

-- the entries once the stay of this tag was left
abbrev pub left_stay : ℕ → List Entry → List Entry
left_stay tag [] = []
left_stay zero (entry ∷ entries) = record { event = entry.event; left = ended entry.left } ∷ entries
left_stay (suc tag) (entry ∷ entries) = entry ∷ left_stay tag entries

-- the event, where it is an Enter event
abbrev pub entering : Place → Option Place
entering p = if is_some (entered_copy p.event) then Some p else None

-- the Enter event of this tag, where no Leave event has left it
abbrev pub open_stay : Run → ℕ → Option Place
open_stay run tag = if list_any (is_leave_of tag) run then None else option_and_then entering (place_at run tag)

-- entries that keep a run: its events, the octets of its copies, and the stays in clocks that no Leave event has left
pub record Keeps (network : Network) (run : Run) (entries : List Entry) : Type 0 where
  pub accepted : IsRun network run
  pub count : length run ≡ length entries
  pub events : (tag : ℕ) → event_at entries tag ≡ option_map (λ p. p.event) (place_at run tag)
  pub copies : (tag : ℕ) → TellsTruth (copy_of network run tag) (octets_at entries tag)
  pub stays : (tag : ℕ) → stay_at entries tag ≡ option_map reading (open_stay run tag)

-- a message of this number, which departed at an event
abbrev pub departure : ℕ → Place → Departure
departure number p = record { number = record { 0 = number }; at = reading p }

-- the sequenceId that an event draws
abbrev pub sequence_of : PortSetup → Place → ℕ
sequence_of setup p = of_count (number_of setup p)

-- the sequenceId of a master's next Sync
abbrev pub next_sync : PortSetup → NodeName → Run → ℕ
next_sync setup name run = sequence_of setup (place (Sync name 0) run)

-- what is kept of a master
pub record MasterStands (run : Run) (name : NodeName) (setup : PortSetup) (master : Master) : Type 0 where
  pub config : master.port.config ≡ setup.config
  pub next : master.port.next ≡ next_sync setup name run
  pub number : master.port.waiting ≡ option_map (sequence_of setup) (waiting_sync name run)
  pub waiting : master.waiting ≡ option_map (λ p. departure (sequence_of setup p) p) (waiting_sync name run)

-- what is kept of a slave
pub record SlaveStands (network : Network) (run : Run) (name : NodeName) (setup : PortSetup) (slave : Slave) : Type 0 where
  pub port : StandsFor (slave_setup setup) slave.port (history_of network setup name run)
  pub waiting : slave.waiting ≡ option_map (λ p. departure (sequence_of setup p) p) (waiting_request name run)

-- what is kept of a node's port; a clock has none
abbrev pub PortStands : Network → Run → NodeName → NodeKind → Port → Type 0
PortStands network run name (kinds.Master config first) (ports.Master master) =
    MasterStands run name (record { config = config; first = first.0 }) master
PortStands network run name (kinds.Slave config first) (ports.Slave slave) =
    SlaveStands network run name (record { config = config; first = first.0 }) slave
PortStands network run name kinds.Clock ports.Clock = Unit {0}
PortStands network run name (kinds.Master config first) (ports.Slave slave) = ⊥
PortStands network run name (kinds.Master config first) ports.Clock = ⊥
PortStands network run name (kinds.Slave config first) (ports.Master master) = ⊥
PortStands network run name (kinds.Slave config first) ports.Clock = ⊥
PortStands network run name kinds.Clock (ports.Master master) = ⊥
PortStands network run name kinds.Clock (ports.Slave slave) = ⊥

-- what is kept of a node of this kind
pub record Stands (network : Network) (run : Run) (name : NodeName) (kind : NodeKind) (station : Station) : Type 0 where
  pub difference : station.difference ≡ difference name run
  pub port : PortStands network run name kind station.port

-- what is kept of the nodes to which these stations belong, in the order of the nodes
abbrev pub EachStands : Network → Run → List Station → Type 0
EachStands network run stations =
    (index : ℕ) (node : NodeSpec) (station : Station)
    → slice_get network index ≡ Some node → slice_get stations index ≡ Some station
    → Stands network run node.name node.kind station

-- what is kept of all nodes
pub record AllStand (network : Network) (run : Run) (stations : List Station) : Type 0 where
  pub count : length stations ≡ length network
  pub each : EachStands network run stations

-- what a world keeps of its run
pub record IsWorld (network : Network) (stations : List Station) (entries : List Entry) : Type 0 where
  pub apart : IsNetwork network
  pub nodes : AllStand network (run_of entries) stations
  pub events : Keeps network (run_of entries) entries
