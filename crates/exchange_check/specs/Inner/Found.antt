-- What is found of a report by what is kept, from the lines that it is of and from their journeys.
use Rattle.std.specs.Prelude.{ℕ, Option, option_and_then}
use Rattle.slave_port.specs.declared.heard.Report.{Report}
use Rattle.network_model.specs.Run.{site_of}
use Rattle.network_model.specs.Kinds.{draws_sync, is_request}
use Rattle.exchange_check.specs.declared.facts.Fact.{Fact}
use Rattle.exchange_check.specs.declared.facts.Found.{Found}
use Rattle.exchange_check.specs.declared.facts.FoundJourney.{FoundJourney}
use Rattle.exchange_check.specs.Inner.Kept.{Facts, Stamps}
use Rattle.exchange_check.specs.Inner.Judged.{found_by, found_journey_to}
use Rattle.copy_stays.specs.Leaves.{Once}

-- from the lines of a report of the line of this number, where they are there
abbrev pub of_report : {Y : Type 0} → Facts → Stamps → (Fact → Found → Option Y) → ℕ → Report → Option Y
of_report facts stamps next number report = option_and_then
    (λ fact. option_and_then (next fact) (found_by facts stamps (site_of fact.event) fact.line report)) (facts number)

-- from the journeys of these lines, where they can be followed
abbrev pub of_found : {Y : Type 0} → Facts → Once → (Found → (sync request : FoundJourney) → Option Y) → Found → Option Y
of_found facts once next found = option_and_then
    (λ sync. option_and_then (next found sync) (found_journey_to facts once is_request found.request_arrival))
    (found_journey_to facts once draws_sync found.sync_arrival)
