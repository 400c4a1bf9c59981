-- Lines of a transcript, newest first, of whatever origin, and which of them are good.
use Rattle.std.specs.Prelude.{Bool, true, false, ◌&&◌, ◌||◌, not, List, is_some, Option, Some, None}
use Rattle.network_model.specs.declared.event.Event.{Event}
use Rattle.network_model.specs.declared.event.Event.TheVariants.{Sync, SyncOne, Follow, Enter, Leave, Arrive, Hear}
use Rattle.network_model.specs.declared.event.Event.TheVariants.{Request, Stamped, Tick, SetMaster, StepClock}
use Rattle.network_model.specs.declared.node.NodeKind.{NodeKind}
use Rattle.network_model.specs.Network.{Network, NodeName, kind_of}
use Rattle.network_model.specs.Truth.{master_at, slave_at}
use Rattle.trace_model.specs.declared.line.TraceLine.{TraceLine}
use Rattle.trace_model.specs.declared.line.TraceOut.{TraceOut}
use Rattle.network_model.specs.declared.node.NodeKind.TheVariants as kinds
use Rattle.trace_model.specs.declared.line.TraceOut.TheVariants as outs

-- lines, newest first; a line's number is the number of lines before it
abbrev pub Lines : Type 0
Lines = List TraceLine

-- it is done
abbrev pub is_done : TraceOut → Bool
is_done outs.Done = true
is_done _ = false

-- it made a message
abbrev pub is_made : TraceOut → Bool
is_made (outs.Made octets) = true
is_made _ = false

-- a message entered a clock
abbrev pub is_entered : TraceOut → Bool
is_entered outs.Entered = true
is_entered _ = false

-- a message completed a pair at a slave, with a report or without
abbrev pub completes : TraceOut → Bool
completes outs.Completed = true
completes (outs.Report report) = true
completes _ = false

-- a slave heard a message, and used or ignored it
abbrev pub is_heard : TraceOut → Bool
is_heard outs.Held = true
is_heard outs.Completed = true
is_heard (outs.Report report) = true
is_heard (outs.Ignored code) = true
is_heard _ = false

-- a port or a clock refused
abbrev pub is_refused : TraceOut → Bool
is_refused (outs.Refused code) = true
is_refused _ = false

-- a slave ignored the message
abbrev pub is_ignored : TraceOut → Bool
is_ignored (outs.Ignored code) = true
is_ignored _ = false

-- a transparent clock, as the kind of a node
abbrev pub clock_kind : NodeKind → Bool
clock_kind kinds.Clock = true
clock_kind (kinds.Master config first) = false
clock_kind (kinds.Slave config first) = false

-- the node of this name is a master
abbrev pub is_master : Network → NodeName → Bool
is_master network name = is_some (master_at network name)

-- the node of this name is a slave
abbrev pub is_slave : Network → NodeName → Bool
is_slave network name = is_some (slave_at network name)

-- whether there is a node, and it is of this kind
abbrev pub is_kind : (NodeKind → Bool) → Option NodeKind → Bool
is_kind kind None = false
is_kind kind (Some node) = kind node

-- the node of this name is a transparent clock
abbrev pub is_clock : Network → NodeName → Bool
is_clock network name = is_kind clock_kind (kind_of network name)

-- what may come of an arrival: a master answers it or refuses, and a slave hears it
abbrev pub may_arrive : Network → NodeName → TraceOut → Bool
may_arrive network node out =
    is_master network node && (is_made out || is_refused out) || is_slave network node && is_heard out

-- a good line: its nodes are of the kinds that its event is for, and the event may have come out so
abbrev pub is_good : Network → Event → TraceOut → Bool
is_good network (Sync node at) out = is_master network node && is_made out
is_good network (SyncOne node at) out = is_master network node && is_made out
is_good network (Follow node) out = is_master network node && is_made out
is_good network (Enter node copy at) out = is_clock network node && is_entered out
is_good network (Leave node transit at) out = is_clock network node && (is_made out || is_refused out)
is_good network (Arrive node copy at) out = may_arrive network node out
is_good network (Hear node copy) out = is_slave network node && is_heard out
is_good network (Request node at) out = is_slave network node && is_made out
is_good network (Stamped node) out = is_slave network node && (is_done out || is_refused out)
is_good network (Tick node) out = is_slave network node && is_done out
is_good network (SetMaster node master) out = is_slave network node && is_master network master && is_done out
is_good network (StepClock node diff) out = is_some (kind_of network node) && is_done out

-- A line counts where it is good and its event was neither refused nor ignored. To the lines after it
-- every other line is as if it weren't there.
abbrev pub counts : Network → TraceLine → Bool
counts network line = is_good network line.event line.out && not (is_refused line.out || is_ignored line.out)
