-- What is noted of lines beside what judges them: whatever is out of the ordinary. Each of these is a table by numbers
-- of lines.
use Rattle.std.specs.Prelude.{◌≡◌, ℕ, Bool, ◌||◌, not, List, [], ◌∷◌, ◌++◌, length, ◌&&◌, ◌==◌, is_some}
use Rattle.std.specs.Prelude.{if◌then◌else◌, reverse, Option, Some, None, option_map, option_and_then}
use Rattle.std.specs.Option.{option_or}
use Rattle.std.specs.Result.{result_err}
use Rattle.std.specs.BTreeMap.{get}
use Rattle.std.specs.Ordering.{nat_cmp}
use Rattle.slave_port.specs.declared.heard.Report.{Report}
use Rattle.network_model.specs.Network.{Network}
use Rattle.network_model.specs.Run.{true_moment}
use Rattle.network_model.specs.Kinds.{is_step, is_leave_of, named_transit}
use Rattle.trace_model.specs.declared.finding.Finding.{Finding}
use Rattle.trace_model.specs.declared.finding.Finding.TheVariants as findings
use Rattle.trace_model.specs.declared.judgement.Results.{Results}
use Rattle.trace_model.specs.declared.line.TraceLine.{TraceLine}
use Rattle.trace_model.specs.declared.line.TraceOut.{TraceOut}
use Rattle.trace_model.specs.declared.line.TraceOut.TheVariants as outs
use Rattle.trace_model.specs.declared.verdict.Why.{Why}
use Rattle.trace_model.specs.Line.{Lines, counts, is_made}
use Rattle.trace_model.specs.Record.{LinePlace, line_place, line_number, event_of, site, line_at, last_line, reads_right}
use Rattle.trace_model.specs.Journey.{LineJourney, line_journey_of, line_journey_made}
use Rattle.trace_model.specs.Octets.{writes_right}
use Rattle.trace_model.specs.ByMessages.{by_messages, tells_right}
use Rattle.trace_model.specs.Finding.{Stop, stop, finding, leave_of, stays_finding, way_made, way_of, first_of, of_exchange}
use Rattle.trace_model.specs.Sound.{Exchange}
use Rattle.exchange_check.specs.declared.evidence.Evidence.{Evidence}
use Rattle.exchange_check.specs.declared.exceptions.Exceptions.{Exceptions}
use Rattle.exchange_check.specs.declared.ways.Stop.{Stop as KeptStop}
use Rattle.exchange_check.specs.declared.kept_line.Came.{Came}
use Rattle.exchange_check.specs.declared.kept_line.Came.TheVariants as cames
use Rattle.exchange_check.specs.declared.kept_line.Uncounted.{Uncounted}
use Rattle.exchange_check.specs.declared.kept_line.WrongReading.{WrongReading}
use Rattle.exchange_check.specs.Transcript.{Transcript}

-- a table by numbers
abbrev pub Table : Type 0 → Type 0
Table X = ℕ → Option X

-- what came of an event that doesn't count
abbrev pub came_of : TraceOut → Came
came_of (outs.Refused code) = cames.Refused code
came_of (outs.Ignored code) = cames.Ignored code
came_of _ = cames.Otherwise

-- the line of this number, where it doesn't count
abbrev pub uncounted_at : Network → Lines → ℕ → Option Uncounted
uncounted_at network [] n = None
uncounted_at network (line ∷ earlier) n =
    if length earlier == n
    then (if counts network line then None else Some (record { event = line.event; came = came_of line.out }))
    else uncounted_at network earlier n

-- the octets that were made
abbrev pub octets_in : TraceOut → Option (List ℕ)
octets_in (outs.Made octets) = Some octets.items
octets_in _ = None

-- the octets of the message that the line of this number made, where it counts and made one
abbrev pub octets_at : Network → Lines → ℕ → Option (List ℕ)
octets_at network lines n = option_and_then (λ e. octets_in e.line.out) (line_at network lines n)

-- the same where they aren't right
abbrev pub wrong_octets : Network → LinePlace → Option (List ℕ)
wrong_octets network e = if writes_right network e then None else octets_in e.line.out

abbrev pub wrong_octets_at : Network → Lines → ℕ → Option (List ℕ)
wrong_octets_at network lines n = option_and_then (wrong_octets network) (line_at network lines n)

-- the reading of a line that has a true moment, where it isn't right
abbrev pub wrong_reading : Network → LinePlace → Option WrongReading
wrong_reading network e =
    if reads_right network e || not (is_some (true_moment (event_of e))) then None else Some (record {
      reading = e.line.reading;
      set = option_map line_number (last_line network is_step (site e) e.earlier);
    })

-- that of the line of this number, where it counts
abbrev pub wrong_reading_at : Network → Lines → ℕ → Option WrongReading
wrong_reading_at network lines n = option_and_then (wrong_reading network) (line_at network lines n)

-- the second line that leaves this stay
abbrev pub second_leave_of : Network → (transit : ℕ) → Lines → Option ℕ
second_leave_of network transit [] = None
second_leave_of network transit (line ∷ earlier) = option_or
    (second_leave_of network transit earlier)
    (if counts network line && is_leave_of transit line.event && is_some (leave_of network transit earlier)
    then Some (length earlier) else None)

-- a line made a message whose octets tell otherwise than those that its port or its clock writes, in a field that a slave
-- or a master reads, or that writes no message there
abbrev pub tells_otherwise : Network → LinePlace → Bool
tells_otherwise network e = is_made e.line.out && not (tells_right network e)

abbrev pub otherwise_finding : Network → LinePlace → Option Finding
otherwise_finding network e = if tells_otherwise network e then Some (findings.OtherOctets (line_number e)) else None

-- the first such message on a journey
abbrev pub journey_otherwise : Network → LineJourney → Option Finding
journey_otherwise network journey =
    option_or (otherwise_finding network journey.origin) (stays_finding (λ s. otherwise_finding network s.left) journey.stays)

-- the first such message on the journey of the copy that a line made; a line whose message has none stands for itself
abbrev pub made_otherwise : Network → LinePlace → Option LineJourney → Option Finding
made_otherwise network e None = otherwise_finding network e
made_otherwise network e (Some journey) = journey_otherwise network journey

-- the first such message of an exchange: the Sync as it was sent and as it left each clock, its Follow_Up, the
-- Delay_Req in the same way, the Delay_Resp
abbrev pub exchange_otherwise : Network → Exchange → (sync request : LineJourney) → Option Finding
exchange_otherwise network x sync request = first_of (
    journey_otherwise network sync ∷ option_and_then (otherwise_finding network) x.follow
    ∷ journey_otherwise network request ∷ otherwise_finding network x.request_arrival ∷ [])

-- where the journey stops of a copy that left a clock at a line
abbrev pub stop_made : Network → LinePlace → Option Stop
stop_made network e =
    if is_some (named_transit (event_of e))
    then result_err (way_made network (event_of e) 0 e (way_of network e.earlier)) else None

-- the tables of these
abbrev pub second_leaves : Network → Lines → Table ℕ
second_leaves network lines transit = second_leave_of network transit lines

abbrev pub first_otherwise_at : Network → Lines → Table Finding
first_otherwise_at network lines copy = option_and_then
    (λ e. made_otherwise network e (line_journey_made network (event_of e) e (line_journey_of network e.earlier)))
    (line_at network lines copy)

abbrev pub stops_at : Network → Lines → Table Stop
stops_at network lines copy = option_and_then (stop_made network) (line_at network lines copy)

-- what is noted
pub record Noted : Type 0 where
  pub octets : Table (List ℕ)
  pub readings : Table WrongReading
  pub uncounted : Table Uncounted
  pub seconds : Table ℕ
  pub first_otherwise : Table Finding
  pub stops : Table Stop

-- of lines, newest first
abbrev pub noted : Network → Lines → Noted
noted network lines = record {
  octets = wrong_octets_at network lines;
  readings = wrong_reading_at network lines;
  uncounted = uncounted_at network lines;
  seconds = second_leaves network lines;
  first_otherwise = first_otherwise_at network lines;
  stops = stops_at network lines;
}

-- a stop as it is kept
abbrev pub stop_told : KeptStop → Stop
stop_told kept = stop kept.by kept.lack

-- the stops of copies, as they are kept
abbrev pub stops_in : Table KeptStop → Table Stop
stops_in table copy = option_map stop_told (table copy)

-- octets as they are kept
abbrev pub octets_told : Exceptions → Table (List ℕ)
octets_told exceptions n = option_map (λ octets. octets.items) (get nat_cmp exceptions.octets n)

-- what is noted, by the tables that it is kept in
abbrev pub told_by : Exceptions → Noted
told_by exceptions = record {
  octets = octets_told exceptions;
  readings = get nat_cmp exceptions.readings;
  uncounted = get nat_cmp exceptions.uncounted;
  seconds = get nat_cmp exceptions.seconds;
  first_otherwise = λ n. option_map findings.OtherOctets (get nat_cmp exceptions.first_otherwise n);
  stops = stops_in (get nat_cmp exceptions.stops);
}

-- it was noted of just these lines
abbrev pub Evidences : Evidence → Transcript → Type 0
Evidences evidence transcript = told_by evidence.exceptions ≡ noted transcript.network (reverse transcript.lines)

-- a transcript without a line
abbrev pub unbegun : Network → Transcript
unbegun network = record { network = network; lines = [] }

-- a transcript is another one and one more line
abbrev pub IsWithLine : Transcript → TraceLine → Transcript → Type 0
IsWithLine before line after = after ≡ record { network = before.network; lines = before.lines ++ line ∷ [] }

-- the first thing that breaks the condition of a reason against a report of the last of these lines, newest first
abbrev pub last_finding : Network → Lines → Report → Why → Option Finding
last_finding network [] report why = None
last_finding network (line ∷ earlier) report why = finding network (line_place line earlier) report why

-- the two results by the messages of a report of the last of these lines, newest first
abbrev pub last_by_messages : Network → Lines → Report → Option Results
last_by_messages network [] report = None
last_by_messages network (line ∷ earlier) report = by_messages network (line_place line earlier) report

-- the first message of the exchange of a report of the last of these lines, newest first, whose octets tell otherwise
abbrev pub last_otherwise : Network → Lines → Report → Option Finding
last_otherwise network [] report = None
last_otherwise network (line ∷ earlier) report =
    of_exchange network (line_place line earlier) report (exchange_otherwise network)
