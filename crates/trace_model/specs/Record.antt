-- What lines record: the line of a number, and what clocks read and ports drew by the lines before a line.
use Rattle.std.specs.Prelude.{ℕ, ℤ, pos, Bool, false, ◌&&◌, [], ◌∷◌, length, map, filter, ◌==◌, if◌then◌else◌, Option, Some, None, unwrap_or}
use Rattle.std.specs.Ordering.{int_eq}
use Rattle.std.specs.Option.{option_or, option_map_or}
use Rattle.ptp_units.specs.Sequence.{of_count}
use Rattle.network_model.specs.declared.event.Event.{Event}
use Rattle.network_model.specs.Network.{Network, NodeName, PortSetup}
use Rattle.network_model.specs.Run.{Run, Place, place, site_of}
use Rattle.network_model.specs.Kinds.{is_at, is_request, is_stamped}
use Rattle.network_model.specs.Clock.{shown_at}
use Rattle.network_model.specs.Numbering.{number_of}
use Rattle.trace_model.specs.declared.line.TraceLine.{TraceLine}
use Rattle.trace_model.specs.Line.{Lines, counts}

-- a line with all lines before it
pub record LinePlace : Type 0 where
  pub line : TraceLine
  pub earlier : Lines

abbrev pub line_place : TraceLine → Lines → LinePlace
line_place line earlier = record { line = line; earlier = earlier }

-- a line's number
abbrev pub line_number : LinePlace → ℕ
line_number e = length e.earlier

-- the event of a line
abbrev pub event_of : LinePlace → Event
event_of e = e.line.event

-- the node at which it happened
abbrev pub site : LinePlace → NodeName
site e = site_of e.line.event

-- the line of this number, where it counts
abbrev pub line_at : Network → Lines → ℕ → Option LinePlace
line_at network [] n = None
line_at network (line ∷ earlier) n =
    if length earlier == n
    then (if counts network line then Some (line_place line earlier) else None)
    else line_at network earlier n

-- the events of those of these lines that count, newest first
abbrev pub events : Network → Lines → Run
events network lines = map (λ line. line.event) (filter (counts network) lines)

-- the event of a line, after those of the lines before it
abbrev pub place_of : Network → LinePlace → Place
place_of network e = place e.line.event (events network e.earlier)

-- the last line of this kind at a node
abbrev pub last_line : Network → (Event → Bool) → NodeName → Lines → Option LinePlace
last_line network kind node [] = None
last_line network kind node (line ∷ earlier) =
    if counts network line && is_at kind node line.event then Some (line_place line earlier)
    else last_line network kind node earlier

-- a line by which the slave learns when its request of this number departed: no other request stands between them
abbrev pub stamps : Network → ℕ → TraceLine → Lines → Bool
stamps network request line earlier =
    counts network line && is_stamped line.event
    && option_map_or (λ last. line_number last == request) (last_line network is_request (site_of line.event) earlier) false

-- the first such line
abbrev pub first_stamp : Network → ℕ → Lines → Option ℕ
first_stamp network request [] = None
first_stamp network request (line ∷ earlier) = option_or
    (first_stamp network request earlier)
    (if stamps network request line earlier then Some (length earlier) else None)

-- what a line says that the clock read, 0 where it says nothing
abbrev pub reading : LinePlace → ℕ
reading e = unwrap_or e.line.reading 0

-- whether a line says this reading
abbrev pub is_reading : Option ℕ → Option ℤ → Bool
is_reading (Some read) (Some shown) = int_eq (pos read) shown
is_reading (Some read) None = false
is_reading None shown = false

-- the reading is there, and it is what the clock showed: the true moment, and the difference that the node's last StepClock set
abbrev pub reads_right : Network → LinePlace → Bool
reads_right network e = is_reading e.line.reading (shown_at (place_of network e))

-- the sequenceId that an event of a port draws (IEEE 1588-2019, 7.3.7)
abbrev pub sequence : Network → PortSetup → LinePlace → ℕ
sequence network port e = of_count (number_of port (place_of network e))
