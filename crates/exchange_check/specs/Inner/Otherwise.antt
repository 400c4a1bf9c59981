-- The first message of an exchange whose octets tell otherwise, by what is noted.
use Rattle.std.specs.Prelude.{ℕ, Option, option_and_then}
use Rattle.std.specs.Option.{option_or}
use Rattle.slave_port.specs.declared.heard.Report.{Report}
use Rattle.network_model.specs.Kinds.{heard_copy}
use Rattle.trace_model.specs.declared.finding.Finding.{Finding}
use Rattle.exchange_check.specs.declared.facts.Fact.{Fact}
use Rattle.exchange_check.specs.declared.facts.Found.{Found}
use Rattle.exchange_check.specs.Evidence.{Table}
use Rattle.exchange_check.specs.Inner.Found.{of_report, of_found}
use Rattle.exchange_check.specs.Inner.Kept.{Facts, Stamps}
use Rattle.copy_stays.specs.Leaves.{Once}

-- of the copy that arrives at a line
abbrev pub copy_in : {X : Type 0} → Table X → Fact → Option X
copy_in table arrival = option_and_then table (heard_copy arrival.event)

-- of the lines of a report
abbrev pub exchange_otherwise_by : Table Finding → Found → Option Finding
exchange_otherwise_by firsts found = option_or
    (copy_in firsts found.sync_arrival)
    (option_or (option_and_then (λ follow. firsts follow.line) found.follow)
    (option_or (copy_in firsts found.request_arrival) (firsts found.request_arrival.line)))

-- of a report of the line of this number
abbrev pub otherwise_by : Facts → Once → Stamps → Table Finding → ℕ → Report → Option Finding
otherwise_by facts once stamps firsts number report = of_report facts stamps
    (λ fact. of_found facts once (λ found sync request. exchange_otherwise_by firsts found)) number report
