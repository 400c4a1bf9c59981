-- What is found wrong with a report: of each reason the first thing that breaks its condition. Things are named by the
-- numbers of events; what they are, what their clocks read and what their octets are can be asked for by these.
use Rattle.std.specs.Prelude.{◌≡◌, ℕ, Bool, true, false, ◌&&◌, ◌||◌, not, List, [], ◌∷◌, length, nat_lt, ◌==◌}
use Rattle.std.specs.Prelude.{is_some, if◌then◌else◌, Option, Some, None, option_map, option_and_then, Result, Ok, Err}
use Rattle.std.specs.Prelude.{ok_or}
use Rattle.std.specs.List.{list_any}
use Rattle.std.specs.Option.{option_or, option_map_or}
use Rattle.std.specs.Result.{result_err}
use Rattle.slave_port.specs.declared.heard.Report.{Report}
use Rattle.network_model.specs.declared.event.Event.{Event}
use Rattle.network_model.specs.declared.event.Event.TheVariants.{Sync, SyncOne, Leave, Request}
use Rattle.network_model.specs.Network.{Network, NodeName, is_named}
use Rattle.network_model.specs.Kinds.{is_at, is_sync, draws_sync, is_follow, is_request, is_arrival, is_hearing}
use Rattle.network_model.specs.Kinds.{is_set_master, is_step, is_leave_of, named_master, named_transit, heard_copy}
use Rattle.network_model.specs.Kinds.{entered_copy}
use Rattle.network_model.specs.Truth.{master_at, slave_at}
use Rattle.trace_model.specs.declared.finding.Part.{Part}
use Rattle.trace_model.specs.declared.finding.Part.TheVariants as parts
use Rattle.trace_model.specs.declared.finding.Lack.{Lack}
use Rattle.trace_model.specs.declared.finding.Lack.TheVariants.{NotBefore, CameToNothing, OtherEvent, CompletedNothing}
use Rattle.trace_model.specs.declared.finding.Finding.{Finding}
use Rattle.trace_model.specs.declared.finding.Finding.TheVariants as findings
use Rattle.trace_model.specs.declared.verdict.Why.{Why}
use Rattle.trace_model.specs.declared.verdict.Why.TheVariants as whys
use Rattle.trace_model.specs.Refusal.{code_of}
use Rattle.trace_model.specs.Line.{Lines, counts, is_made, completes}
use Rattle.trace_model.specs.Record.{LinePlace, line_place, line_number, event_of, site, line_at, last_line, first_stamp}
use Rattle.trace_model.specs.Record.{reading, reads_right}
use Rattle.trace_model.specs.Journey.{LineStay, LineJourney, line_begun, with_stay}
use Rattle.trace_model.specs.Octets.{writes_right}
use Rattle.trace_model.specs.Sound.{Exchange, lines_to, exchange_of, unbroken, is_of_line, is_stamped_between}
use Rattle.trace_model.specs.Sound.{is_followed, is_domain, fits, are_results, reasons}

-- the first of several findings, where there is one
abbrev pub first_of : List (Option Finding) → Option Finding
first_of [] = None
first_of (finding ∷ others) = option_or finding (first_of others)

-- what is found where a condition doesn't hold
abbrev pub broken : (holds : Bool) → Finding → Option Finding
broken holds finding = if holds then None else Some finding

-- a value that passes a test, or what it lacks
abbrev pub passing : {X E : Type 0} → (X → Bool) → (X → E) → Result X E → Result X E
passing test lack (Ok x) = if test x then Ok x else Err (lack x)
passing test lack (Err other) = Err other

-- what is found from a value, or what the one or the other lacks
abbrev pub going_on : {X Y E : Type 0} → (X → Result Y E) → Result X E → Result Y E
going_on next (Ok x) = next x
going_on next (Err lack) = Err lack

-- the line of a number below another one, or what this number lacks
abbrev pub line_found : Network → Lines → (limit number : ℕ) → Result LinePlace Lack
line_found network lines limit number =
    if nat_lt number limit then ok_or (line_at network lines number) (CameToNothing number) else Err (NotBefore number)

-- 701: the report's own event, then its tags, and last when the Delay_Req left

-- the line of a report's tag, of this kind and at this node
abbrev pub tag_found : Network → Lines → (Event → Bool) → NodeName → ℕ → Result LinePlace Lack
tag_found network lines kind node number = passing
    (λ e. is_at kind node (event_of e))
    (λ e. OtherEvent number)
    (line_found network lines (length lines) number)

-- the line that made the copy which is heard at the line of this number
abbrev pub copy_found : Network → Lines → (hearing : ℕ) → Option ℕ → Result LinePlace Lack
copy_found network lines hearing None = Err (OtherEvent hearing)
copy_found network lines hearing (Some copy) = line_found network lines hearing copy

-- the line that made the copy which is heard at a line, or what the number of that copy lacks
abbrev pub sender_found : Network → Lines → LinePlace → Result LinePlace Lack
sender_found network lines e = copy_found network lines (line_number e) (heard_copy (event_of e))

-- the Sync's arrival
abbrev pub sync_found : Network → Lines → NodeName → Report → Result LinePlace Lack
sync_found network lines slave report = passing
    (λ e. is_some report.follow_tag || completes e.line.out)
    (λ e. CompletedNothing report.sync_tag)
    (tag_found network lines is_arrival slave report.sync_tag)

-- the line that sent the Follow_Up
abbrev pub follow_found : Network → Lines → NodeName → ℕ → Result LinePlace Lack
follow_found network lines slave hearing = passing
    (λ e. is_follow (event_of e))
    (λ e. OtherEvent (line_number e))
    (going_on (sender_found network lines) (tag_found network lines is_hearing slave hearing))

-- what it lacks; nothing where the report has no Follow_Up
abbrev pub follow_lack : Network → Lines → NodeName → Option ℕ → Option Lack
follow_lack network lines slave None = None
follow_lack network lines slave (Some hearing) = result_err (follow_found network lines slave hearing)

-- the arrival that sent the Delay_Resp
abbrev pub response_found : Network → Lines → NodeName → ℕ → Result LinePlace Lack
response_found network lines slave hearing = passing
    (λ e. is_arrival (event_of e) && is_made e.line.out)
    (λ e. OtherEvent (line_number e))
    (going_on (sender_found network lines) (passing
    (λ e. completes e.line.out)
    (λ e. CompletedNothing hearing)
    (tag_found network lines is_hearing slave hearing)))

-- what breaks 701: something of the report's own event, or of one of its tags
abbrev pub place_finding : Network → NodeName → LinePlace → Report → Option Finding
place_finding network slave e report = first_of (
    broken (counts network e.line) findings.CantReport
    ∷ broken (is_of_line (line_number e) report) findings.OfOtherLine
    ∷ option_map (findings.WrongTag parts.Sync) (result_err (sync_found network (lines_to e) slave report))
    ∷ option_map (findings.WrongTag parts.FollowUp) (follow_lack network (lines_to e) slave report.follow_tag)
    ∷ option_map (findings.WrongTag parts.DelayReq)
    (result_err (tag_found network (lines_to e) is_request slave report.request_tag))
    ∷ option_map (findings.WrongTag parts.DelayResp)
    (result_err (response_found network (lines_to e) slave report.response_tag))
    ∷ broken (is_stamped_between network e.earlier report.request_tag report.response_tag)
    (findings.Unstamped (first_stamp network report.request_tag e.earlier)) ∷ [])

-- 704: where a journey can't be followed, and then the stay that was left twice

-- the number of the line that names another one, and what that lacks
pub record Stop : Type 0 where
  pub by : ℕ
  pub lack : Lack

abbrev pub stop : ℕ → Lack → Stop
stop by lack = record { by = by; lack = lack }

abbrev pub stopping : {X : Type 0} → (by : ℕ) → Result X Lack → Result X Stop
stopping by (Ok x) = Ok x
stopping by (Err lack) = Err (stop by lack)

-- the copy that entered a clock at a line, from where this line left it
abbrev pub entered_found : NodeName → (left entered : LinePlace) → Option ℕ → Result ℕ Stop
entered_found clock left entered None = Err (stop (line_number left) (OtherEvent (line_number entered)))
entered_found clock left entered (Some copy) =
    if is_named (site entered) clock
    then (if nat_lt copy (line_number entered) then Ok copy else Err (stop (line_number entered) (NotBefore copy)))
    else Err (stop (line_number left) (OtherEvent (line_number entered)))

-- the journey with one more stay
abbrev pub more_stay : (left entered : LinePlace) → Result LineJourney Stop → Result LineJourney Stop
more_stay left entered (Ok journey) = Ok (with_stay left entered journey)
more_stay left entered (Err other) = Err other

-- the journey of a copy that leaves a clock, from those of earlier copies, each named by a line
abbrev pub left_found : NodeName → (left : LinePlace) → (journeys : ℕ → ℕ → Result LineJourney Stop)
    → (entered : LinePlace) → Result LineJourney Stop
left_found clock left journeys entered = going_on
    (λ copy. more_stay left entered (journeys (line_number entered) copy))
    (entered_found clock left entered (entered_copy (event_of entered)))

-- the journey of the copy that a line made, which is named by the line of another number
abbrev pub way_made : Network → Event → (by : ℕ) → LinePlace → (ℕ → ℕ → Result LineJourney Stop) → Result LineJourney Stop
way_made network (Sync node at) by e journeys = Ok (line_begun e)
way_made network (SyncOne node at) by e journeys = Ok (line_begun e)
way_made network (Leave node transit at) by e journeys = going_on
    (left_found node e journeys)
    (stopping (line_number e) (line_found network e.earlier (line_number e) transit))
way_made network (Request node at) by e journeys = Ok (line_begun e)
way_made network _ by e journeys = Err (stop by (OtherEvent (line_number e)))

-- the journey of the copy of this number, which is named by the line of another one, or where it stops
abbrev pub way_of : Network → Lines → (by number : ℕ) → Result LineJourney Stop
way_of network [] by number = Err (stop by (NotBefore number))
way_of network (line ∷ earlier) by number =
    if length earlier == number
    then (if counts network line then way_made network line.event by (line_place line earlier) (way_of network earlier)
    else Err (stop by (CameToNothing number)))
    else way_of network earlier by number

-- the same of the copy that arrives
abbrev pub way_below : Network → Lines → (arrival : ℕ) → Option ℕ → Result LineJourney Stop
way_below network lines arrival None = Err (stop arrival (OtherEvent arrival))
way_below network lines arrival (Some copy) =
    if nat_lt copy arrival then way_of network lines arrival copy else Err (stop arrival (NotBefore copy))

-- the journey of the copy that arrives at a line, which begins at a line of this kind
abbrev pub way_to : Network → Lines → (Event → Bool) → LinePlace → Result LineJourney Stop
way_to network lines kind arrival = passing
    (λ journey. kind (event_of journey.origin))
    (λ journey. stop (line_number arrival) (OtherEvent (line_number journey.origin)))
    (way_below network lines (line_number arrival) (heard_copy (event_of arrival)))

-- the first line that leaves this stay
abbrev pub leave_of : Network → (transit : ℕ) → Lines → Option ℕ
leave_of network transit [] = None
leave_of network transit (line ∷ earlier) = option_or
    (leave_of network transit earlier)
    (if counts network line && is_leave_of transit line.event then Some (length earlier) else None)

-- a stay of a journey that is left again at the line of this number
abbrev pub left_again : Network → Part → LineJourney → Lines → (number : ℕ) → Option ℕ → Option Finding
left_again network part journey earlier number None = None
left_again network part journey earlier number (Some transit) =
    if list_any (λ stay. line_number stay.entered == transit) journey.stays
    then option_map (λ first. findings.LeftTwice part transit first number) (leave_of network transit earlier)
    else None

-- the stay of a journey that was left twice first
abbrev pub left_twice : Network → Part → LineJourney → Lines → Option Finding
left_twice network part journey [] = None
left_twice network part journey (line ∷ earlier) = option_or
    (left_twice network part journey earlier)
    (if counts network line then left_again network part journey earlier (length earlier) (named_transit line.event) else None)

-- where a journey stops, or the stay of it that was left twice
abbrev pub way_finding : Network → LinePlace → Part → Result LineJourney Stop → Option Finding
way_finding network e part (Ok journey) = left_twice network part journey e.earlier
way_finding network e part (Err stop) = Some (findings.Stops part stop.by stop.lack)

-- what breaks 704: where the journey of the Sync stops, or else that of the Delay_Req
abbrev pub ways_finding : Network → LinePlace → Exchange → Option Finding
ways_finding network e x = first_of (
    way_finding network e parts.Sync (way_to network (lines_to e) draws_sync x.sync_arrival)
    ∷ way_finding network e parts.DelayReq (way_to network (lines_to e) is_request x.request_arrival) ∷ [])

-- 702: the Follow_Up is of another Sync, or there is none of a two-step Sync, or the Delay_Req is another one

abbrev pub follow_finding : Network → Option LinePlace → (origin : LinePlace) → Finding
follow_finding network None origin = findings.NoFollowUp (line_number origin)
follow_finding network (Some follow) origin = findings.OtherSync
    (line_number follow)
    (option_map line_number (last_line network is_sync (site follow) follow.earlier))
    (line_number origin)

-- what breaks 702: the Follow_Up is of another Sync, or the Delay_Req is another one
abbrev pub pair_finding : Network → Exchange → (sync request : LineJourney) → Option Finding
pair_finding network x sync request = first_of (
    broken (is_followed network x.follow sync.origin) (follow_finding network x.follow sync.origin)
    ∷ broken (line_number request.origin == line_number x.request) (findings.OtherRequest (line_number request.origin)) ∷ [])

-- 703: what the slave was told of its master, then who answers, and the domain

-- the lines of a report that aren't later than a line
abbrev pub early_finding : (set : ℕ) → Report → Option Finding
early_finding set report = first_of (
    broken (nat_lt set report.sync_tag) (findings.Early parts.Sync set)
    ∷ broken (option_map_or (λ hearing. nat_lt set hearing) report.follow_tag true) (findings.Early parts.FollowUp set)
    ∷ broken (nat_lt set report.request_tag) (findings.Early parts.DelayReq set)
    ∷ broken (nat_lt set report.response_tag) (findings.Early parts.DelayResp set) ∷ [])

abbrev pub told_finding : (master : NodeName) → Report → Option LinePlace → Option Finding
told_finding master report None = Some findings.NoMaster
told_finding master report (Some set) = first_of (
    broken (option_map_or (λ named. is_named named master) (named_master (event_of set)) false)
    (findings.ToldOther (line_number set))
    ∷ early_finding (line_number set) report ∷ [])

-- what breaks 703: what the slave was told of its master, who answered, or the domain
abbrev pub master_finding : Network → NodeName → LinePlace → Report → Exchange → (sync : LineJourney) → Option Finding
master_finding network slave e report x sync = first_of (
    told_finding (site sync.origin) report (last_line network is_set_master slave e.earlier)
    ∷ broken (is_named (site x.request_arrival) (site sync.origin)) (findings.OtherAnswers (line_number x.request_arrival))
    ∷ broken (is_domain (slave_at network slave) (master_at network (site sync.origin))) findings.OtherDomain ∷ [])

-- 705: the Sync's arrival and its journey, then the Delay_Req's, of a journey what is oldest first

-- a reading that isn't its clock's, and the line that set this clock last
abbrev pub reading_finding : Network → LinePlace → Option Finding
reading_finding network e = broken (reads_right network e) (findings.WrongReading
    (line_number e)
    (option_map line_number (last_line network is_step (site e) e.earlier)))

abbrev pub stay_finding : Network → LineStay → Option Finding
stay_finding network s = first_of (
    reading_finding network s.entered ∷ reading_finding network s.left
    ∷ broken (not (nat_lt (reading s.left) (reading s.entered)))
    (findings.Falls (line_number s.entered) (line_number s.left)) ∷ [])

-- the last stay is the first of the list
abbrev pub stays_finding : (LineStay → Option Finding) → List LineStay → Option Finding
stays_finding found [] = None
stays_finding found (s ∷ before) = option_or (stays_finding found before) (found s)

-- what breaks 705: the first reading of the Sync's, and then of the Delay_Req's, that isn't right
abbrev pub readings_finding : Network → Exchange → (sync request : LineJourney) → Option Finding
readings_finding network x sync request = first_of (
    reading_finding network x.sync_arrival
    ∷ reading_finding network sync.origin ∷ stays_finding (stay_finding network) sync.stays
    ∷ reading_finding network x.request_arrival
    ∷ reading_finding network request.origin ∷ stays_finding (stay_finding network) request.stays ∷ [])

-- 707: which message was in clocks for longer than a correction can say

-- what breaks 707: which of the two was in clocks for too long
abbrev pub size_finding : (sync request : LineJourney) → Option Finding
size_finding sync request = first_of (
    broken (fits sync) (findings.TooLong parts.Sync) ∷ broken (fits request) (findings.TooLong parts.DelayReq) ∷ [])

-- 708: the Sync as it was sent and as it left each clock, its Follow_Up, the Delay_Req in the same way, the Delay_Resp

abbrev pub octets_finding : Network → LinePlace → Option Finding
octets_finding network e = broken (writes_right network e) (findings.OtherOctets (line_number e))

abbrev pub follow_octets : Network → Option LinePlace → Option Finding
follow_octets network None = None
follow_octets network (Some follow) = octets_finding network follow

-- what breaks 708: the first message of the exchange with other octets
abbrev pub all_octets_finding : Network → Exchange → (sync request : LineJourney) → Option Finding
all_octets_finding network x sync request = first_of (
    octets_finding network sync.origin ∷ stays_finding (λ s. octets_finding network s.left) sync.stays
    ∷ follow_octets network x.follow
    ∷ octets_finding network request.origin ∷ stays_finding (λ s. octets_finding network s.left) request.stays
    ∷ octets_finding network x.request_arrival ∷ [])

-- what is found of an exchange and its journeys, where they are there
abbrev pub of_exchange : Network → LinePlace → Report
    → (Exchange → (sync request : LineJourney) → Option Finding) → Option Finding
of_exchange network e report found =
    option_and_then (λ x.
    option_and_then (λ sync.
    option_and_then (λ request. found x sync request)
    (unbroken network e is_request x.request_arrival))
    (unbroken network e draws_sync x.sync_arrival))
    (exchange_of network (site e) e report)

-- the first thing that breaks the condition of a reason against a report, and nothing where it isn't against it
abbrev pub finding : Network → LinePlace → Report → Why → Option Finding
finding network e report whys.NoSuchLine = place_finding network (site e) e report
finding network e report whys.BrokenJourney =
    option_and_then (ways_finding network e) (exchange_of network (site e) e report)
finding network e report whys.OtherNumber = of_exchange network e report (pair_finding network)
finding network e report whys.OtherMaster =
    of_exchange network e report (λ x sync request. master_finding network (site e) e report x sync)
finding network e report whys.WrongReading = of_exchange network e report (readings_finding network)
finding network e report whys.TooBig = of_exchange network e report (λ x sync request. size_finding sync request)
finding network e report whys.WrongValue = of_exchange network e report
    (λ x sync request. broken (are_results report x sync request) findings.OtherResults)
finding network e report whys.Bytes = of_exchange network e report (all_octets_finding network)

-- there is a finding of a reason exactly where it is among the reasons against a report
abbrev pub EachReasonHasItsFinding : Type 0
EachReasonHasItsFinding = (network : Network) (e : LinePlace) (report : Report) (why : Why)
    → is_some (finding network e report why)
    ≡ list_any (λ other. code_of other == code_of why) (reasons network e report)
