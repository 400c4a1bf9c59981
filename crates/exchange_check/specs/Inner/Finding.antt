-- What is found wrong with a report, by what is kept and noted: where trace_model's `Finding` has an `x`, `x_by` is that by
-- these, as proofs/FoundFindings and what it stands on show.
use Rattle.std.specs.Prelude.{ℕ, ◌==◌}
use Rattle.std.specs.Prelude.{Option, Some, None, option_map, option_and_then, if◌then◌else◌}
use Rattle.std.specs.Option.{option_or}
use Rattle.slave_port.specs.declared.heard.Report.{Report}
use Rattle.network_model.specs.Network.{Network, NodeName, is_named}
use Rattle.network_model.specs.Run.{site_of}
use Rattle.network_model.specs.Kinds.{named_transit}
use Rattle.network_model.specs.Truth.{master_at, slave_at}
use Rattle.trace_model.specs.declared.finding.Finding.{Finding}
use Rattle.trace_model.specs.declared.finding.Finding.TheVariants as findings
use Rattle.trace_model.specs.declared.finding.Part.TheVariants as parts
use Rattle.trace_model.specs.declared.verdict.Why.{Why}
use Rattle.trace_model.specs.declared.verdict.Why.TheVariants as whys
use Rattle.trace_model.specs.Finding.{broken, early_finding}
use Rattle.trace_model.specs.Sound.{is_domain}
use Rattle.exchange_check.specs.declared.facts.Fact.{Fact}
use Rattle.exchange_check.specs.declared.facts.Found.{Found}
use Rattle.exchange_check.specs.declared.facts.FoundJourney.{FoundJourney}
use Rattle.exchange_check.specs.declared.facts.Site.{Site}
use Rattle.exchange_check.specs.declared.kept_line.WrongReading.{WrongReading}
use Rattle.exchange_check.specs.Evidence.{Table}
use Rattle.exchange_check.specs.Inner.Judged.{is_followed_by, fits_by, results_of_by, results_by}
use Rattle.exchange_check.specs.Inner.Kept.{Facts, Sites, wrong_line, wrong_reading_in, wrong_octets_in}

-- 702
abbrev pub follow_finding_by : Option Fact → (origin : Fact) → Finding
follow_finding_by None origin = findings.NoFollowUp origin.line
follow_finding_by (Some follow) origin = findings.OtherSync follow.line follow.last_sync origin.line

abbrev pub pair_finding_by : Found → (sync request : FoundJourney) → Option Finding
pair_finding_by found sync request = option_or
    (broken (is_followed_by found.follow sync.origin) (follow_finding_by found.follow sync.origin))
    (broken (request.origin.line == found.request.line) (findings.OtherRequest request.origin.line))

-- 703
abbrev pub told_finding_by : Option (NodeName × ℕ) → NodeName → Report → Option Finding
told_finding_by None master report = Some findings.NoMaster
told_finding_by (Some set) master report = option_or
    (broken (is_named set.0 master) (findings.ToldOther set.1))
    (early_finding set.1 report)

abbrev pub master_finding_by : Network → Site → NodeName → Report → Found → (sync : FoundJourney) → Option Finding
master_finding_by network site slave report found sync = option_or
    (told_finding_by site.set_master (site_of sync.origin.event) report)
    (option_or
    (broken (is_named (site_of found.request_arrival.event) (site_of sync.origin.event))
    (findings.OtherAnswers found.request_arrival.line))
    (broken (is_domain (slave_at network slave) (master_at network (site_of sync.origin.event))) findings.OtherDomain))

-- 705: the line where the first thing is met that is wrong with readings
abbrev pub reading_line_by : Found → (sync request : FoundJourney) → Option ℕ
reading_line_by found sync request = option_or (option_or (option_or
    (wrong_line found.sync_arrival.reads_right found.sync_arrival.line)
    (wrong_reading_in sync.kept.wrong))
    (wrong_line found.request_arrival.reads_right found.request_arrival.line))
    (wrong_reading_in request.kept.wrong)

-- what this is: the reading of that line, or else the stay that ends there
abbrev pub reading_met_by : (number : ℕ) → Option WrongReading → Fact → Option Finding
reading_met_by number wrong fact =
    if fact.reads_right then option_map (λ entered. findings.Falls entered number) (named_transit fact.event)
    else Some (findings.WrongReading number (option_and_then (λ wrong. wrong.set) wrong))

abbrev pub reading_met : Facts → Table WrongReading → (number : ℕ) → Option Finding
reading_met facts readings number = option_and_then (reading_met_by number (readings number)) (facts number)

abbrev pub readings_finding_by : Facts → Table WrongReading → Found → (sync request : FoundJourney) → Option Finding
readings_finding_by facts readings found sync request =
    option_and_then (reading_met facts readings) (reading_line_by found sync request)

-- 707
abbrev pub size_finding_by : (sync request : FoundJourney) → Option Finding
size_finding_by sync request = option_or
    (broken (fits_by sync) (findings.TooLong parts.Sync))
    (broken (fits_by request) (findings.TooLong parts.DelayReq))

-- 706
abbrev pub value_finding_by : Report → Found → (sync request : FoundJourney) → Option Finding
value_finding_by report found sync request =
    broken (results_by report (results_of_by found sync request)) findings.OtherResults

-- 708: the line of the first message with wrong octets
abbrev pub follow_line_by : Option Fact → Option ℕ
follow_line_by None = None
follow_line_by (Some follow) = wrong_line follow.writes_right follow.line

abbrev pub octets_line_by : Found → (sync request : FoundJourney) → Option ℕ
octets_line_by found sync request = option_or (option_or (option_or
    (wrong_octets_in sync.kept.wrong)
    (follow_line_by found.follow))
    (wrong_octets_in request.kept.wrong))
    (wrong_line found.request_arrival.writes_right found.request_arrival.line)

abbrev pub octets_finding_by : Found → (sync request : FoundJourney) → Option Finding
octets_finding_by found sync request = option_map findings.OtherOctets (octets_line_by found sync request)

-- each of these
abbrev pub found_finding_by : Network → Sites → Facts → Table WrongReading → Report → Why → Fact → Found → (sync request : FoundJourney) → Option Finding
found_finding_by network sites facts readings report whys.OtherNumber fact found sync request =
    pair_finding_by found sync request
found_finding_by network sites facts readings report whys.OtherMaster fact found sync request =
    master_finding_by network (sites (site_of fact.event)) (site_of fact.event) report found sync
found_finding_by network sites facts readings report whys.WrongReading fact found sync request =
    readings_finding_by facts readings found sync request
found_finding_by network sites facts readings report whys.TooBig fact found sync request =
    size_finding_by sync request
found_finding_by network sites facts readings report whys.WrongValue fact found sync request =
    value_finding_by report found sync request
found_finding_by network sites facts readings report whys.Bytes fact found sync request =
    octets_finding_by found sync request
found_finding_by network sites facts readings report _ fact found sync request = None
