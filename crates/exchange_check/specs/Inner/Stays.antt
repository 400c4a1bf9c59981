-- The last stays of the copies that lines made, by what is kept of these lines.
use Rattle.std.specs.Prelude.{ℕ, nat_lt, is_some, if◌then◌else◌, Option, None, option_map, option_and_then}
use Rattle.network_model.specs.Kinds.{entered_copy, named_transit}
use Rattle.trace_model.specs.Sound.{where_passes, below}
use Rattle.copy_stays.specs.Leaves.{LastStays}
use Rattle.exchange_check.specs.declared.facts.Fact.{Fact}
use Rattle.exchange_check.specs.Inner.Kept.{Facts}

-- the stay that began at the line of this number, where that line and the copy that entered there are below a limit
abbrev pub stay_below : Facts → (limit transit : ℕ) → Option (ℕ × ℕ)
stay_below facts limit transit = option_and_then
    (λ entered. option_map (λ copy. (transit, copy))
    (where_passes (λ copy. nat_lt copy limit) (entered_copy entered.event)))
    (below facts limit transit)

-- the last stay of the copy that a line made
abbrev pub stay_of : Facts → (number : ℕ) → Fact → Option (ℕ × ℕ)
stay_of facts number fact =
    if is_some fact.journey then option_and_then (stay_below facts number) (named_transit fact.event) else None

-- that of the copy of each number
abbrev pub last_stays : Facts → LastStays
last_stays facts copy = option_and_then (stay_of facts copy) (facts copy)
