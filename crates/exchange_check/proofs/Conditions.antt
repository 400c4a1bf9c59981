-- A condition holds exactly where nothing is found that breaks it.
use Rattle.std.proofs.Common.{◌≡◌, ◌∙◌, ℕ, Bool, true, false, ◌&&◌, Option, Some, None, refl}
use Rattle.std.specs.Prelude.{is_none, nat_lt}
use Rattle.std.specs.Option.{option_or, option_map_or}
use Rattle.slave_port.specs.declared.heard.Report.{Report}
use Rattle.network_model.specs.Network.{Network, NodeName, is_named}
use Rattle.network_model.specs.Run.{site_of}
use Rattle.network_model.specs.Truth.{master_at, slave_at}
use Rattle.trace_model.specs.declared.finding.Finding.{Finding}
use Rattle.trace_model.specs.declared.finding.Finding.TheVariants as findings
use Rattle.trace_model.specs.declared.finding.Part.TheVariants as parts
use Rattle.trace_model.specs.Finding.{broken, early_finding}
use Rattle.trace_model.specs.Sound.{are_later, is_domain}
use Rattle.exchange_check.specs.declared.facts.Fact.{Fact}
use Rattle.exchange_check.specs.declared.facts.Found.{Found}
use Rattle.exchange_check.specs.declared.facts.FoundJourney.{FoundJourney}
use Rattle.exchange_check.specs.declared.facts.Site.{Site}
use Rattle.exchange_check.specs.Inner.Judged.{is_told, of_master_by, readings_by, fits_by, octets_by, is_followed_by, paired_by}
use Rattle.exchange_check.specs.Inner.Finding.{follow_finding_by, pair_finding_by, told_finding_by, master_finding_by}
use Rattle.exchange_check.specs.Inner.Finding.{size_finding_by, reading_line_by, follow_line_by, octets_line_by}
use Rattle.exchange_check.specs.Inner.Kept.{wrong_line, wrong_reading_in, wrong_octets_in}
use Rattle.exchange_check.proofs.Options.{none_of_two, none_of_four}

pub broken_holds : (holds : Bool) (finding : Finding) → is_none (broken holds finding) ≡ holds
broken_holds true finding = refl
broken_holds false finding = refl

joined : (a b c : Bool) → (a && (b && c)) ≡ (a && b && c)
joined true b c = refl
joined false b c = refl

two : (one other : Bool) (a b : Finding) → is_none (option_or (broken one a) (broken other b)) ≡ (one && other)
two true other a b = broken_holds other b
two false other a b = refl

-- 702
pub pair_holds : (found : Found) (sync request : FoundJourney)
    → is_none (pair_finding_by found sync request) ≡ paired_by found sync request
pair_holds found sync request = two (is_followed_by found.follow sync.origin) _
    (follow_finding_by found.follow sync.origin) (findings.OtherRequest request.origin.line)

-- 703
early_holds : (sync follow request response : Bool) (a b c d : Finding)
    → is_none (option_or (broken sync a) (option_or (broken follow b) (option_or (broken request c)
    (option_or (broken response d) None)))) ≡ (sync && follow && request && response)
early_holds false follow request response a b c d = refl
early_holds true false request response a b c d = refl
early_holds true true false response a b c d = refl
early_holds true true true false a b c d = refl
early_holds true true true true a b c d = refl

later_holds : (set : ℕ) (report : Report) → is_none (early_finding set report) ≡ are_later set report
later_holds set report = early_holds (nat_lt set report.sync_tag)
    (option_map_or (λ hearing. nat_lt set hearing) report.follow_tag true) (nat_lt set report.request_tag)
    (nat_lt set report.response_tag) (findings.Early parts.Sync set) (findings.Early parts.FollowUp set)
    (findings.Early parts.DelayReq set) (findings.Early parts.DelayResp set)

told_holds : (set : Option (NodeName × ℕ)) (master : NodeName) (report : Report)
    → is_none (told_finding_by set master report) ≡ is_told set master report
told_holds None master report = refl
told_holds (Some set) master report =
    none_of_two (broken (is_named set.0 master) (findings.ToldOther set.1)) (early_finding set.1 report)
    ∙ (λ i. broken_holds (is_named set.0 master) (findings.ToldOther set.1) i && later_holds set.1 report i)

pub master_holds : (network : Network) (site : Site) (slave : NodeName) (report : Report) (found : Found) (sync : FoundJourney)
    → is_none (master_finding_by network site slave report found sync) ≡ of_master_by network site slave report found sync
master_holds network site slave report found sync =
    let answers : Bool = is_named (site_of found.request_arrival.event) (site_of sync.origin.event) in
    let domain : Bool = is_domain (slave_at network slave) (master_at network (site_of sync.origin.event)) in
    none_of_two (told_finding_by site.set_master (site_of sync.origin.event) report)
    (option_or (broken answers (findings.OtherAnswers found.request_arrival.line)) (broken domain findings.OtherDomain))
    ∙ (λ i. told_holds site.set_master (site_of sync.origin.event) report i
    && two answers domain (findings.OtherAnswers found.request_arrival.line) findings.OtherDomain i)
    ∙ joined (is_told site.set_master (site_of sync.origin.event) report) answers domain

-- 707
pub size_holds : (sync request : FoundJourney) → is_none (size_finding_by sync request) ≡ (fits_by sync && fits_by request)
size_holds sync request = two (fits_by sync) (fits_by request) (findings.TooLong parts.Sync) (findings.TooLong parts.DelayReq)

-- 705
line_holds : (right : Bool) (number : ℕ) → is_none (wrong_line right number) ≡ right
line_holds true number = refl
line_holds false number = refl

pub reading_holds : (found : Found) (sync request : FoundJourney)
    → is_none (reading_line_by found sync request) ≡ readings_by found sync request
reading_holds found sync request =
    none_of_four (wrong_line found.sync_arrival.reads_right found.sync_arrival.line) (wrong_reading_in sync.kept.wrong)
    (wrong_line found.request_arrival.reads_right found.request_arrival.line) (wrong_reading_in request.kept.wrong)
    ∙ (λ i. line_holds found.sync_arrival.reads_right found.sync_arrival.line i
    && is_none (wrong_reading_in sync.kept.wrong)
    && line_holds found.request_arrival.reads_right found.request_arrival.line i
    && is_none (wrong_reading_in request.kept.wrong))

-- 708
follow_holds : (follow : Option Fact)
    → is_none (follow_line_by follow) ≡ option_map_or (λ (fact : Fact). fact.writes_right) follow true
follow_holds None = refl
follow_holds (Some fact) = line_holds fact.writes_right fact.line

pub octets_hold : (found : Found) (sync request : FoundJourney)
    → is_none (octets_line_by found sync request) ≡ octets_by found sync request
octets_hold found sync request =
    none_of_four (wrong_octets_in sync.kept.wrong) (follow_line_by found.follow) (wrong_octets_in request.kept.wrong)
    (wrong_line found.request_arrival.writes_right found.request_arrival.line)
    ∙ (λ i. is_none (wrong_octets_in sync.kept.wrong) && follow_holds found.follow i
    && is_none (wrong_octets_in request.kept.wrong)
    && line_holds found.request_arrival.writes_right found.request_arrival.line i)
