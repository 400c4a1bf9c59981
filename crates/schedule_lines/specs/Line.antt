-- Which node or event a line is, from its JSON value. Each form has just its keys: as many as it has, and each of
-- these.
use Rattle.std.specs.Prelude.{ℕ, List, length, codes, if◌then◌else◌, Option, Some, None, option_map, option_and_then}
use Rattle.std.specs.Prelude.{is_some}
use Rattle.std.specs.Str.{bytes_eq}
use Rattle.serde_json.specs.Data.{Data}
use Rattle.serde_json.specs.Find.{get, as_str}
use Rattle.event_codec.specs.declared.port.PortConfig.{PortConfig}
use Rattle.ptp_units.specs.declared.sequence.Seq.{Seq}
use Rattle.network_model.specs.declared.event.Event.{Event}
use Rattle.network_model.specs.declared.node.NodeKind.{NodeKind}
use Rattle.network_model.specs.declared.node.NodeSpec.{NodeSpec}
use Rattle.schedule_lines.specs.Json.{field, has_keys, name_in, moment_in, whole_in, whole_below, signed_octet_in}
use Rattle.schedule_lines.specs.Json.{clock_in, difference_in}
use Rattle.schedule_lines.specs.declared.event_kind.EventKind.{EventKind}
use Rattle.schedule_lines.specs.declared.event_kind.EventKind.TheVariants.{Sync, SyncOne, Follow, Enter, Leave}
use Rattle.schedule_lines.specs.declared.event_kind.EventKind.TheVariants.{Arrive, Hear, Request, Stamped, Tick}
use Rattle.schedule_lines.specs.declared.event_kind.EventKind.TheVariants.{SetMaster, StepClock}
use Rattle.schedule_lines.specs.EventKind.{kind_of, kind_of_event}
use Rattle.schedule_lines.specs.Needed.{clock_keys, keys_of_event, port_keys}
use Rattle.schedule_lines.specs.declared.reading.schedule.Line.{Line}
use Rattle.network_model.specs.declared.event.Event.TheVariants as events
use Rattle.network_model.specs.declared.node.NodeKind.TheVariants as kinds
use Rattle.schedule_lines.specs.declared.reading.schedule.Line.TheVariants as lines

-- the keys of events
abbrev pub node_in : Data → Option (List ℕ)
node_in d = field name_in (codes "node") d

abbrev pub at_in : Data → Option ℕ
at_in d = field moment_in (codes "at") d

abbrev pub copy_in : Data → Option ℕ
copy_in d = field whole_in (codes "copy") d

-- an event of a kind at a node
abbrev pub event_at : EventKind → List ℕ → Data → Option Event
event_at Sync node d = option_map (events.Sync node) (at_in d)
event_at SyncOne node d = option_map (events.SyncOne node) (at_in d)
event_at Follow node d = Some (events.Follow node)
event_at Enter node d = option_and_then (λ copy. option_map (events.Enter node copy) (at_in d)) (copy_in d)
event_at Leave node d =
    option_and_then (λ transit. option_map (events.Leave node transit) (at_in d)) (field whole_in (codes "transit") d)
event_at Arrive node d = option_and_then (λ copy. option_map (events.Arrive node copy) (at_in d)) (copy_in d)
event_at Hear node d = option_map (events.Hear node) (copy_in d)
event_at Request node d = option_map (events.Request node) (at_in d)
event_at Stamped node d = Some (events.Stamped node)
event_at Tick node d = Some (events.Tick node)
event_at SetMaster node d = option_map (events.SetMaster node) (field name_in (codes "master") d)
event_at StepClock node d = option_map (events.StepClock node) (field difference_in (codes "diff") d)

-- the event that an object's keys are, whatever keys stand beside them
abbrev pub event_in : Data → Option Event
event_in d =
    option_and_then (λ kind. option_and_then (λ node. event_at kind node d) (node_in d))
    (option_and_then kind_of (field as_str (codes "ev") d))

-- how many keys an event has
abbrev pub event_keys : Event → ℕ
event_keys event = length (keys_of_event (Some (kind_of_event event)))

-- the event that an object with key `ev` is, with just its keys
abbrev pub scheduled_in : Data → Option Event
scheduled_in d = option_and_then (λ event. if has_keys (event_keys event) d then Some event else None) (event_in d)

-- the configuration of a node's port
abbrev pub config_in : Data → Option PortConfig
config_in d =
    option_and_then (λ clock. option_and_then (λ port. option_and_then (λ domain. option_map (λ log.
    record { identity = record { clock = clock; port = port }; domain = domain; log = log })
    (field signed_octet_in (codes "log") d)) (field (whole_below 256) (codes "domain") d))
    (field (whole_below 65536) (codes "port") d)) (field clock_in (codes "id") d)

-- the number that a node's port draws first
abbrev pub first_in : Data → Option Seq
first_in d = option_map (λ first. record { 0 = first }) (field (whole_below 65536) (codes "first") d)

-- a node that has a port
abbrev pub port_in : (PortConfig → Seq → NodeKind) → Data → Option NodeKind
port_in kind d =
    if has_keys (length port_keys) d then option_and_then (λ config. option_map (kind config) (first_in d)) (config_in d) else None

-- what a node is, from the text of `kind`
abbrev pub node_kind : List ℕ → Data → Option NodeKind
node_kind text d =
    if bytes_eq text (codes "master") then port_in kinds.Master d
    else if bytes_eq text (codes "slave") then port_in kinds.Slave d
    else if bytes_eq text (codes "clock") then (if has_keys (length clock_keys) d then Some kinds.Clock else None)
    else None

-- the node that an object without key `ev` is
abbrev pub node_spec_in : Data → Option NodeSpec
node_spec_in d =
    option_and_then (λ text. option_and_then (λ name.
    option_map (λ kind. record { name = name; kind = kind }) (node_kind text d)) (node_in d))
    (field as_str (codes "kind") d)

-- the line that a value is; None where a key is missing, one is too many, or one's value isn't what is asked for
abbrev pub line_of : Data → Option Line
line_of d =
    if is_some (get (codes "ev") d) then option_map lines.Event (scheduled_in d)
    else option_map lines.Node (node_spec_in d)
