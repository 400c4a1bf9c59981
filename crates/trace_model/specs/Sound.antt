-- When a report line is sound: eight conditions, asked of lines of any origin. A report names four lines by their
-- numbers: the Sync's arrival, the hearing of the Follow_Up (none for a one-step Sync), the request, the hearing of
-- the Delay_Resp.
use Rattle.std.specs.Prelude.{◌≡◌, ℕ, ◌+◌, ◌-◌, ◌^◌, ℤ, pos, ◌-ℤ◌, Bool, true, false, ◌&&◌, ◌||◌, not, List, [], ◌∷◌}
use Rattle.std.specs.Prelude.{map, filter, slice_get, nat_lt, ◌==◌, is_some, IsTrue, if◌then◌else◌, Option, Some, None}
use Rattle.std.specs.Prelude.{option_map, option_and_then}
use Rattle.std.specs.List.{list_all}
use Rattle.std.specs.Option.{option_map_or}
use Rattle.std.specs.Ordering.{int_eq}
use Rattle.ptp_units.specs.Exchange.{offset2, path2}
use Rattle.ptp_units.specs.Moment.{fraction_of}
use Rattle.slave_port.specs.declared.heard.Report.{Report}
use Rattle.network_model.specs.declared.event.Event.{Event}
use Rattle.network_model.specs.Network.{Network, NodeName, PortSetup, is_named}
use Rattle.network_model.specs.Kinds.{is_at, is_sync, is_one_step_sync, draws_sync, is_follow, is_request}
use Rattle.network_model.specs.Kinds.{is_set_master, named_master, heard_copy, is_arrival, is_hearing}
use Rattle.network_model.specs.Truth.{master_at, slave_at}
use Rattle.trace_model.specs.declared.judgement.Judgement.{Judgement}
use Rattle.trace_model.specs.declared.judgement.Results.{Results}
use Rattle.trace_model.specs.declared.verdict.Why.{Why}
use Rattle.trace_model.specs.declared.verdict.Why.TheVariants.{NoSuchLine, OtherNumber, OtherMaster, BrokenJourney}
use Rattle.trace_model.specs.declared.verdict.Why.TheVariants.{WrongReading, WrongValue, TooBig, Bytes}
use Rattle.trace_model.specs.Line.{Lines, counts, is_made, completes}
use Rattle.trace_model.specs.Record.{LinePlace, line_number, event_of, site, line_at, events, last_line, first_stamp}
use Rattle.trace_model.specs.Record.{reading, reads_right}
use Rattle.trace_model.specs.Journey.{LineStay, LineJourney, line_journey_of, line_residence, left_once}
use Rattle.trace_model.specs.Octets.{writes_right}

-- a value, where there is one and it passes a test
abbrev pub where_passes : {X : Type 0} → (X → Bool) → Option X → Option X
where_passes test None = None
where_passes test (Some x) = if test x then Some x else None

-- what is found under a number, where that is below another number
abbrev pub below : {X : Type 0} → (ℕ → Option X) → (limit number : ℕ) → Option X
below found limit number = if nat_lt number limit then found number else None

-- all lines up to a line
abbrev pub lines_to : LinePlace → Lines
lines_to e = e.line ∷ e.earlier

-- 701: the lines that a report is of are there (IEEE 1588-2019, 11.3)

-- the lines of an exchange
pub record Exchange : Type 0 where
  -- the Sync's arrival at the slave
  pub sync_arrival : LinePlace
  -- the line that sent the Follow_Up, of a two-step Sync
  pub follow : Option LinePlace
  -- the line that sent the Delay_Req
  pub request : LinePlace
  -- the Delay_Req's arrival at a master, which sent the Delay_Resp
  pub request_arrival : LinePlace

-- the line of this number, where it is of this kind and at this node
abbrev pub line_of : Network → Lines → (Event → Bool) → NodeName → ℕ → Option LinePlace
line_of network lines kind node number =
    where_passes (λ e. is_at kind node (event_of e)) (line_at network lines number)

-- the line that made the copy which is heard at a line, and stands before it
abbrev pub sender : Network → Lines → LinePlace → Option LinePlace
sender network lines e = option_and_then (below (line_at network lines) (line_number e)) (heard_copy (event_of e))

-- the Sync's arrival: it is used by the slave, and where there is no Follow_Up it completes by itself
abbrev pub sync_line : Network → Lines → NodeName → Report → Option LinePlace
sync_line network lines slave report =
    where_passes (λ e. is_some report.follow_tag || completes e.line.out)
    (line_of network lines is_arrival slave report.sync_tag)

-- the line that sent the Follow_Up which the slave heard and used at the line of this number
abbrev pub follow_line : Network → Lines → NodeName → ℕ → Option LinePlace
follow_line network lines slave hearing =
    where_passes (λ e. is_follow (event_of e))
    (option_and_then (sender network lines) (line_of network lines is_hearing slave hearing))

-- the same where the report has a Follow_Up; nothing is asked where it has none
abbrev pub follow_lines : Network → Lines → NodeName → Option ℕ → Option (Option LinePlace)
follow_lines network lines slave None = Some None
follow_lines network lines slave (Some hearing) = option_map Some (follow_line network lines slave hearing)

-- the arrival at a master that sent the Delay_Resp which completed at the slave at the line of this number
abbrev pub arrival_line : Network → Lines → NodeName → ℕ → Option LinePlace
arrival_line network lines slave hearing =
    where_passes (λ e. is_arrival (event_of e) && is_made e.line.out)
    (option_and_then (sender network lines)
    (where_passes (λ e. completes e.line.out) (line_of network lines is_hearing slave hearing)))

-- a report is of the line at which it is answered
abbrev pub is_of_line : ℕ → Report → Bool
is_of_line number report =
    report.sync_tag == number || option_map_or (λ hearing. hearing == number) report.follow_tag false
    || report.response_tag == number

-- the slave learned between these two lines when its request departed
abbrev pub is_stamped_between : Network → Lines → (request hearing : ℕ) → Bool
is_stamped_between network lines request hearing =
    nat_lt request hearing && option_map_or (λ stamp. nat_lt stamp hearing) (first_stamp network request lines) false

-- what a report line asks beside the lines of its exchange: it is good, and the two facts above
abbrev pub is_report_in_place : Network → LinePlace → Report → Bool
is_report_in_place network e report =
    counts network e.line && is_of_line (line_number e) report
    && is_stamped_between network e.earlier report.request_tag report.response_tag

-- the lines of a report, where they are all there
abbrev pub exchange_of : Network → NodeName → LinePlace → Report → Option Exchange
exchange_of network slave e report =
    if is_report_in_place network e report
    then option_and_then (λ sync.
    option_and_then (λ follow.
    option_and_then (λ request.
    option_map (λ arrival. record { sync_arrival = sync; follow = follow; request = request; request_arrival = arrival })
    (arrival_line network (lines_to e) slave report.response_tag))
    (line_of network (lines_to e) is_request slave report.request_tag))
    (follow_lines network (lines_to e) slave report.follow_tag))
    (sync_line network (lines_to e) slave report)
    else None

-- 704: the journeys can be followed (IEEE 1588-2019, 10.2)

-- the journey of the copy that arrives at a line, where it begins at a line of this kind
abbrev pub journey_to : Network → Lines → (Event → Bool) → LinePlace → Option LineJourney
journey_to network lines kind e =
    where_passes (λ journey. kind (event_of journey.origin))
    (option_and_then (below (line_journey_of network lines) (line_number e)) (heard_copy (event_of e)))

-- the same, where no stay was left twice by the events of these lines
abbrev pub unbroken : Network → LinePlace → (Event → Bool) → LinePlace → Option LineJourney
unbroken network e kind arrival =
    where_passes (left_once (events network e.earlier)) (journey_to network (lines_to e) kind arrival)

-- 702: one Sync, and the slave's own request (IEEE 1588-2019, 11.3)

-- the Follow_Up follows this Sync: it is its master's last two-step Sync before it. Without a Follow_Up the Sync is
-- one-step.
abbrev pub is_followed : Network → Option LinePlace → (origin : LinePlace) → Bool
is_followed network None origin = is_one_step_sync (event_of origin)
is_followed network (Some follow) origin =
    option_map_or (λ last. line_number last == line_number origin)
    (last_line network is_sync (site follow) follow.earlier) false

-- 702: the Follow_Up's Sync is the report's, and the Delay_Req is the report's request
abbrev pub are_paired : Network → Exchange → (sync request : LineJourney) → Bool
are_paired network x sync request =
    is_followed network x.follow sync.origin && line_number request.origin == line_number x.request

-- 703: the slave's present master

-- the four lines of a report are later than a line
abbrev pub are_later : ℕ → Report → Bool
are_later number report =
    nat_lt number report.sync_tag && option_map_or (λ hearing. nat_lt number hearing) report.follow_tag true
    && nat_lt number report.request_tag && nat_lt number report.response_tag

-- the slave was told this master last, before all four lines
abbrev pub is_present_master : Network → NodeName → NodeName → LinePlace → Report → Bool
is_present_master network slave master e report = option_map_or
    (λ set. option_map_or (λ named. is_named named master) (named_master (event_of set)) false
    && are_later (line_number set) report)
    (last_line network is_set_master slave e.earlier) false

-- two ports have one domainNumber
abbrev pub is_domain : Option PortSetup → Option PortSetup → Bool
is_domain (Some one) (Some other) = one.config.domain == other.config.domain
is_domain (Some one) None = false
is_domain None other = false

-- 703: Sync and Delay_Resp are of the slave's present master, told before all lines of the report, in one domain
abbrev pub is_of_master : Network → NodeName → LinePlace → Report → Exchange → (sync : LineJourney) → Bool
is_of_master network slave e report x sync =
    is_present_master network slave (site sync.origin) e report
    && is_named (site x.request_arrival) (site sync.origin)
    && is_domain (slave_at network slave) (master_at network (site sync.origin))

-- 705: the readings are those of the clocks

-- no clock reads less at the end of a stay than at its beginning, and both readings are right
abbrev pub stay_reads_right : Network → LineStay → Bool
stay_reads_right network s =
    reads_right network s.entered && reads_right network s.left && not (nat_lt (reading s.left) (reading s.entered))

-- all readings of a journey are right
abbrev pub journey_reads_right : Network → LineJourney → Bool
journey_reads_right network journey =
    reads_right network journey.origin && list_all (stay_reads_right network) journey.stays

-- 705: all readings of the report and of its journeys are right
abbrev pub are_readings : Network → Exchange → (sync request : LineJourney) → Bool
are_readings network x sync request =
    reads_right network x.sync_arrival && journey_reads_right network sync
    && reads_right network x.request_arrival && journey_reads_right network request

-- 707: the residence fits the correctionField (IEEE 1588-2019, 13.3.2.9)

-- the fraction of a nanosecond that a message is sent with in its correctionField: only a one-step Sync is
abbrev pub fraction_sent : LinePlace → ℕ
fraction_sent e = if is_one_step_sync (event_of e) then fraction_of (reading e) else 0

-- 707: what a message is sent with and its residence are below 2^63 - 1 (IEEE 1588-2019, 13.3.2.9)
abbrev pub fits : LineJourney → Bool
fits journey = nat_lt (fraction_sent journey.origin + line_residence journey) (2 ^ 63 - 1)

-- 706: the two results

-- what a clock read at the arrival, less what another read at the departure, less the residence
abbrev pub bracket : (arrival : LinePlace) → LineJourney → ℤ
bracket arrival journey = (pos (reading arrival) -ℤ pos (reading journey.origin)) -ℤ pos (line_residence journey)

-- twice offsetFromMaster and twice meanPathDelay (IEEE 1588-2019, 11.2 and 11.3) by the readings
abbrev pub results_of : Exchange → (sync request : LineJourney) → Results
results_of x sync request = record {
  offset2 = offset2 (bracket x.sync_arrival sync) (bracket x.request_arrival request);
  path2 = path2 (bracket x.sync_arrival sync) (bracket x.request_arrival request);
}

-- 706: the two results are those of the readings (IEEE 1588-2019, 11.2 and 11.3)
abbrev pub are_results : Report → Exchange → (sync request : LineJourney) → Bool
are_results report x sync request =
    int_eq report.offset2 (results_of x sync request).offset2
    && int_eq report.path2 (results_of x sync request).path2

-- 708: the octets are those that ports and clocks write (IEEE 1588-2019, 13.3 and 13.6 to 13.8)

-- all octets of a journey: those that were sent, and those that left each clock
abbrev pub journey_writes_right : Network → LineJourney → Bool
journey_writes_right network journey =
    writes_right network journey.origin && list_all (λ stay. writes_right network stay.left) journey.stays

-- 708: the octets of the report's messages are those that ports and clocks write
abbrev pub are_octets : Network → Exchange → (sync request : LineJourney) → Bool
are_octets network x sync request =
    journey_writes_right network sync && option_map_or (writes_right network) x.follow true
    && journey_writes_right network request && writes_right network x.request_arrival

-- the conditions of a sound line that don't speak of octets, each but 708: 701, 704, 702, 703, 705, 707, 706
pub record HasExchange (network : Network) (e : LinePlace) (report : Report) : Type 0 where
  pub x : Exchange
  pub sync : LineJourney
  pub request : LineJourney
  pub lines : exchange_of network (site e) e report ≡ Some x
  pub sync_unbroken : unbroken network e draws_sync x.sync_arrival ≡ Some sync
  pub request_unbroken : unbroken network e is_request x.request_arrival ≡ Some request
  pub paired : IsTrue (are_paired network x sync request)
  pub of_master : IsTrue (is_of_master network (site e) e report x sync)
  pub readings : IsTrue (are_readings network x sync request)
  pub sync_fits : IsTrue (fits sync)
  pub request_fits : IsTrue (fits request)
  pub results : IsTrue (are_results report x sync request)

-- A report line is sound where all eight conditions hold: it has an exchange, and the octets of that are right.
pub record Sound (network : Network) (e : LinePlace) (report : Report) : Type 0 where
  pub exchange : HasExchange network e report
  pub octets : IsTrue (are_octets network exchange.x exchange.sync exchange.request)

-- what is asked of a report: conditions, each after the reason that stands where it fails
abbrev pub Conditions : Type 0
Conditions = List (Why × Bool)

-- one condition that fails where something isn't there, and else the conditions that are asked with it
abbrev pub needs : {X : Type 0} → Why → Option X → (X → Conditions) → Conditions
needs why None asked = (why, false) ∷ []
needs why (Some x) asked = asked x

-- what is asked of a report: its lines and its journeys, and where they are there the six conditions on them
abbrev pub conditions : Network → LinePlace → Report → Conditions
conditions network e report =
    needs NoSuchLine (exchange_of network (site e) e report) (λ x.
    needs BrokenJourney (unbroken network e draws_sync x.sync_arrival) (λ sync.
    needs BrokenJourney (unbroken network e is_request x.request_arrival) (λ request.
    (OtherNumber, are_paired network x sync request)
    ∷ (OtherMaster, is_of_master network (site e) e report x sync)
    ∷ (WrongReading, are_readings network x sync request)
    ∷ (TooBig, fits sync && fits request)
    ∷ (WrongValue, are_results report x sync request)
    ∷ (Bytes, are_octets network x sync request) ∷ [])))

-- the reasons whose conditions fail
abbrev pub failing : Conditions → List Why
failing asked = map (λ condition. condition.0) (filter (λ condition. not condition.1) asked)

-- why a report line isn't sound, or nothing where it is: 701 alone, or else 704 alone, or else each that fails of 702,
-- 703, 705, 707, 706, 708
abbrev pub reasons : Network → LinePlace → Report → List Why
reasons network e report = failing (conditions network e report)

-- the first of these
abbrev pub reason : Network → LinePlace → Report → Option Why
reason network e report = slice_get (reasons network e report) 0

-- the two results by the readings, where the report's lines and its journeys are there: where 701 and 704 hold
abbrev pub by_readings : Network → LinePlace → Report → Option Results
by_readings network e report =
    option_and_then (λ x.
    option_and_then (λ sync.
    option_map (λ request. results_of x sync request)
    (unbroken network e is_request x.request_arrival))
    (unbroken network e draws_sync x.sync_arrival))
    (exchange_of network (site e) e report)

-- what a report line is judged to be
abbrev pub judgement : Network → LinePlace → Report → Judgement
judgement network e report =
    record { reasons = reasons network e report; by_readings = by_readings network e report }
