-- How the checker judges a report by what it keeps. Its own functions cite these; what its callers are told is said
-- by the lines alone. A definition `x_by` is `x`, `x_line` or `are_x` of trace_model's `Sound` by what is kept, and
-- `found_by` and `found_journey_to` are its `exchange_of` and `unbroken`: proofs/Exchanges and proofs/Standing show it.
use Rattle.std.specs.Prelude.{ℕ, ◌+◌, ◌-◌, ◌^◌, ℤ, pos, negsuc, ◌-ℤ◌, ◌<ℤ◌, Bool, true, false, ◌&&◌, ◌||◌}
use Rattle.std.specs.Prelude.{nat_lt, ◌==◌, is_some, is_none, if◌then◌else◌, [], ◌∷◌, Option, Some, None, Result, Ok, Err, option_map, option_and_then}
use Rattle.std.specs.Option.{option_map_or}
use Rattle.std.specs.Result.{result_ok}
use Rattle.std.specs.Ordering.{int_eq}
use Rattle.ptp_units.specs.Exchange.{offset2, path2}
use Rattle.ptp_units.specs.Moment.{fraction_of}
use Rattle.slave_port.specs.declared.heard.Report.{Report}
use Rattle.network_model.specs.declared.event.Event.{Event}
use Rattle.network_model.specs.Network.{Network, NodeName, is_named}
use Rattle.network_model.specs.Run.{site_of}
use Rattle.network_model.specs.Kinds.{is_at, is_one_step_sync, draws_sync, is_follow, is_request, heard_copy}
use Rattle.network_model.specs.Kinds.{is_arrival, is_hearing}
use Rattle.network_model.specs.Truth.{master_at, slave_at}
use Rattle.exchange_check.specs.declared.facts.Fact.{Fact}
use Rattle.exchange_check.specs.declared.facts.Found.{Found}
use Rattle.exchange_check.specs.declared.facts.Site.{Site}
use Rattle.exchange_check.specs.declared.facts.FoundJourney.{FoundJourney}
use Rattle.exchange_check.specs.declared.judging.LineKind.{LineKind}
use Rattle.exchange_check.specs.declared.ways.Unfollowed.{Unfollowed}
use Rattle.exchange_check.specs.declared.ways.Unfollowed.TheVariants.{Stops, Lost, LeftTwice}
use Rattle.trace_model.specs.declared.finding.Lack.TheVariants.{NotBefore, OtherEvent}
use Rattle.exchange_check.specs.declared.judging.LineKind.TheVariants.{DrawsSync, Request, Arrival, Hearing}
use Rattle.trace_model.specs.declared.judgement.Judgement.{Judgement}
use Rattle.trace_model.specs.declared.judgement.Results.{Results}
use Rattle.trace_model.specs.declared.verdict.Why.{Why}
use Rattle.trace_model.specs.declared.verdict.Why.TheVariants.{NoSuchLine, OtherNumber, OtherMaster, BrokenJourney}
use Rattle.trace_model.specs.declared.verdict.Why.TheVariants.{WrongReading, WrongValue, TooBig, Bytes}
use Rattle.trace_model.specs.Sound.{where_passes, below, are_later, is_domain, is_of_line, Conditions, failing}
use Rattle.exchange_check.specs.Inner.Kept.{Facts, Stamps, Sites, kept_journey_at, wrong_reading_in, wrong_octets_in}
use Rattle.copy_stays.specs.Leaves.{Once}

-- the events of a kind that a line has to tell of
abbrev pub is_of_kind : LineKind → Event → Bool
is_of_kind DrawsSync = draws_sync
is_of_kind Request = is_request
is_of_kind Arrival = is_arrival
is_of_kind Hearing = is_hearing

-- the line of this number, where it is of this kind and at this node
abbrev pub line_of_by : Facts → (Event → Bool) → NodeName → ℕ → Option Fact
line_of_by facts kind node number = where_passes (λ fact. is_at kind node fact.event) (facts number)

-- the line that made the copy which is heard at a line
abbrev pub sender_by : Facts → Fact → Option Fact
sender_by facts fact = option_and_then (below facts fact.line) (heard_copy fact.event)

abbrev pub sync_by : Facts → NodeName → Report → Option Fact
sync_by facts slave report =
    where_passes (λ fact. is_some report.follow_tag || fact.completes)
    (line_of_by facts is_arrival slave report.sync_tag)

abbrev pub follow_by : Facts → NodeName → ℕ → Option Fact
follow_by facts slave hearing =
    where_passes (λ fact. is_follow fact.event)
    (option_and_then (sender_by facts) (line_of_by facts is_hearing slave hearing))

abbrev pub follows_by : Facts → NodeName → Option ℕ → Option (Option Fact)
follows_by facts slave None = Some None
follows_by facts slave (Some hearing) = option_map Some (follow_by facts slave hearing)

abbrev pub completion_by : Facts → NodeName → ℕ → Option Fact
completion_by facts slave hearing = where_passes (λ fact. fact.completes) (line_of_by facts is_hearing slave hearing)

abbrev pub arrival_by : Facts → NodeName → ℕ → Option Fact
arrival_by facts slave hearing =
    where_passes (λ fact. is_arrival fact.event && fact.made)
    (option_and_then (sender_by facts) (completion_by facts slave hearing))

abbrev pub is_stamped_by : Stamps → (request hearing : ℕ) → Bool
is_stamped_by stamps request hearing =
    nat_lt request hearing && option_map_or (λ stamp. nat_lt stamp hearing) (stamps request) false

-- the lines of a report of the line of this number
abbrev pub found_by : Facts → Stamps → NodeName → ℕ → Report → Option Found
found_by facts stamps slave number report =
    if is_of_line number report && is_stamped_by stamps report.request_tag report.response_tag
    then option_and_then (λ sync.
    option_and_then (λ follow.
    option_and_then (λ request.
    option_map (λ arrival.
    record { sync_arrival = sync; follow = follow; request = request; request_arrival = arrival })
    (arrival_by facts slave report.response_tag))
    (line_of_by facts is_request slave report.request_tag))
    (follows_by facts slave report.follow_tag))
    (sync_by facts slave report)
    else None

-- the journey of the copy that the line of this number made
abbrev pub found_journey_at : Facts → ℕ → Option FoundJourney
found_journey_at facts copy = option_and_then
    (λ kept. option_map (λ origin. record { kept = kept; origin = origin }) (facts kept.origin))
    (kept_journey_at facts copy)

-- the journey of the copy of a number, which the line `by` names
abbrev pub followed_from : Once → (Event → Bool) → (by copy : ℕ) → Option FoundJourney → Result FoundJourney Unfollowed
followed_from once kind by copy None = Err (Lost by copy)
followed_from once kind by copy (Some journey) =
    if kind journey.origin.event then (if once copy then Ok journey else Err (LeftTwice copy))
    else Err (Stops by (OtherEvent journey.origin.line))

-- the journey of the copy that the line `by` hears, if it hears one
abbrev pub followed_heard : Facts → Once → (Event → Bool) → (by : ℕ) → Option ℕ → Result FoundJourney Unfollowed
followed_heard facts once kind by None = Err (Stops by (OtherEvent by))
followed_heard facts once kind by (Some copy) =
    if nat_lt copy by then followed_from once kind by copy (found_journey_at facts copy) else Err (Stops by (NotBefore copy))

-- the journey of the copy that arrives at a line, where it begins at a line of this kind and no stay was left twice
abbrev pub followed_to : Facts → Once → (Event → Bool) → Fact → Result FoundJourney Unfollowed
followed_to facts once kind arrival = followed_heard facts once kind arrival.line (heard_copy arrival.event)

-- the same without why it isn't followed
abbrev pub found_journey_to : Facts → Once → (Event → Bool) → Fact → Option FoundJourney
found_journey_to facts once kind arrival = result_ok (followed_to facts once kind arrival)

abbrev pub is_followed_by : Option Fact → Fact → Bool
is_followed_by None origin = is_one_step_sync origin.event
is_followed_by (Some follow) origin = option_map_or (λ last. last == origin.line) follow.last_sync false

abbrev pub paired_by : Found → (sync request : FoundJourney) → Bool
paired_by found sync request =
    is_followed_by found.follow sync.origin && request.origin.line == found.request.line

abbrev pub is_told : Option (NodeName × ℕ) → NodeName → Report → Bool
is_told set master report = option_map_or (λ told. is_named told.0 master && are_later told.1 report) set false

abbrev pub of_master_by : Network → Site → NodeName → Report → Found → (sync : FoundJourney) → Bool
of_master_by network site slave report found sync =
    is_told site.set_master (site_of sync.origin.event) report
    && is_named (site_of found.request_arrival.event) (site_of sync.origin.event)
    && is_domain (slave_at network slave) (master_at network (site_of sync.origin.event))

abbrev pub readings_by : Found → (sync request : FoundJourney) → Bool
readings_by found sync request =
    found.sync_arrival.reads_right && is_none (wrong_reading_in sync.kept.wrong)
    && found.request_arrival.reads_right && is_none (wrong_reading_in request.kept.wrong)

abbrev pub fraction_by : Fact → ℕ
fraction_by fact = if is_one_step_sync fact.event then fraction_of fact.reading else 0

abbrev pub fits_by : FoundJourney → Bool
fits_by journey = nat_lt (fraction_by journey.origin + journey.kept.residence) (2 ^ 63 - 1)

abbrev pub bracket_by : Fact → FoundJourney → ℤ
bracket_by arrival journey = (pos arrival.reading -ℤ pos journey.origin.reading) -ℤ pos journey.kept.residence

-- more than -2^126 and less than 2^126, as every bracket is that is kept
pub record IsElapsed (a : ℤ) : Type 0 where
  pub above : negsuc (2 ^ 126 - 1) <ℤ a
  pub below : a <ℤ pos (2 ^ 126)

abbrev pub results_of_by : Found → (sync request : FoundJourney) → Results
results_of_by found sync request = record {
  offset2 = offset2 (bracket_by found.sync_arrival sync) (bracket_by found.request_arrival request);
  path2 = path2 (bracket_by found.sync_arrival sync) (bracket_by found.request_arrival request);
}

abbrev pub results_by : Report → Results → Bool
results_by report results = int_eq report.offset2 results.offset2 && int_eq report.path2 results.path2

abbrev pub octets_by : Found → (sync request : FoundJourney) → Bool
octets_by found sync request =
    is_none (wrong_octets_in sync.kept.wrong) && option_map_or (λ follow. follow.writes_right) found.follow true
    && is_none (wrong_octets_in request.kept.wrong) && found.request_arrival.writes_right

-- the conditions on an exchange and its journeys
abbrev pub journeys_conditions_by : Network → Site → NodeName → Report → Found → (sync request : FoundJourney)
    → Conditions
journeys_conditions_by network site slave report found sync request =
    (OtherNumber, paired_by found sync request)
    ∷ (OtherMaster, of_master_by network site slave report found sync)
    ∷ (WrongReading, readings_by found sync request)
    ∷ (TooBig, fits_by sync && fits_by request)
    ∷ (WrongValue, results_by report (results_of_by found sync request))
    ∷ (Bytes, octets_by found sync request) ∷ []

abbrev pub journeys_judgement_by : Network → Site → NodeName → Report → Found → (sync request : FoundJourney)
    → Judgement
journeys_judgement_by network site slave report found sync request = record {
  reasons = failing (journeys_conditions_by network site slave report found sync request);
  by_readings = Some (results_of_by found sync request);
}

-- the judgement where nothing else can be judged
abbrev pub alone : Why → Judgement
alone why = record { reasons = why ∷ []; by_readings = None }

abbrev pub both_journeys : Network → Site → NodeName → Report → Found → (sync request : Option FoundJourney)
    → Judgement
both_journeys network site slave report found None request = alone BrokenJourney
both_journeys network site slave report found (Some sync) None = alone BrokenJourney
both_journeys network site slave report found (Some sync) (Some request) =
    journeys_judgement_by network site slave report found sync request

abbrev pub found_judgement : Network → Facts → Once → Site → NodeName → Report → Option Found → Judgement
found_judgement network facts once site slave report None = alone NoSuchLine
found_judgement network facts once site slave report (Some found) =
    both_journeys network site slave report found
    (found_journey_to facts once draws_sync found.sync_arrival)
    (found_journey_to facts once is_request found.request_arrival)

-- what a report at a line that counts is judged to be
abbrev pub fact_judgement : Network → Facts → Once → Stamps → Sites → Fact → Report → Judgement
fact_judgement network facts once stamps sites fact report =
    found_judgement network facts once (sites (site_of fact.event)) (site_of fact.event) report
    (found_by facts stamps (site_of fact.event) fact.line report)

-- the same at any line
abbrev pub judgement_by : Network → Facts → Once → Stamps → Sites → Option Fact → Report → Judgement
judgement_by network facts once stamps sites None report = alone NoSuchLine
judgement_by network facts once stamps sites (Some fact) report =
    fact_judgement network facts once stamps sites fact report
