-- 704: what is found of the journeys of a report, by what is kept and noted. Where trace_model's `Finding` has an `x`,
-- `x_by` is that by these, as proofs/WaysFound shows.
use Rattle.std.specs.Prelude.{ℕ, zero, suc, ◌+◌, nat_lt, if◌then◌else◌, Option, Some, None, Result, Ok, Err, option_map, option_and_then}
use Rattle.std.specs.Option.{option_or, option_map_or}
use Rattle.network_model.specs.Kinds.{draws_sync, is_request, entered_copy}
use Rattle.trace_model.specs.declared.finding.Finding.{Finding}
use Rattle.trace_model.specs.declared.finding.Finding.TheVariants as findings
use Rattle.trace_model.specs.declared.finding.Part.{Part}
use Rattle.trace_model.specs.declared.finding.Part.TheVariants as parts
use Rattle.trace_model.specs.Sound.{where_passes}
use Rattle.trace_model.specs.Finding.{Stop}
use Rattle.exchange_check.specs.declared.facts.Found.{Found}
use Rattle.exchange_check.specs.declared.facts.FoundJourney.{FoundJourney}
use Rattle.exchange_check.specs.declared.way_finding.Twice.{Twice}
use Rattle.exchange_check.specs.declared.ways.Unfollowed.{Unfollowed}
use Rattle.exchange_check.specs.declared.ways.Unfollowed.TheVariants.{Stops, Lost, LeftTwice}
use Rattle.exchange_check.specs.Evidence.{Table}
use Rattle.exchange_check.specs.Inner.Kept.{Facts}
use Rattle.copy_stays.specs.Leaves.{Firsts, Once}
use Rattle.exchange_check.specs.Inner.Judged.{followed_to}
use Rattle.exchange_check.specs.Inner.Telling.{last_stay_by}
use Rattle.exchange_check.specs.Inner.Noting.{stop_of_copy}

-- the stay by which a copy left its last clock, and the copy that entered there
abbrev pub stay_before : Facts → (copy : ℕ) → Option (ℕ × ℕ)
stay_before facts copy = option_and_then
    (λ stay. option_map (λ before. (stay.entered.number, before))
    (where_passes (λ before. nat_lt before copy) (entered_copy stay.entered.event)))
    (last_stay_by facts copy)

-- a stay that was left twice
abbrev pub twice_at : Table ℕ → (entered : ℕ) → Option Twice
twice_at seconds entered = option_map (λ second. record { entered = entered; second = second }) (seconds entered)

-- the one of two that was left twice first
abbrev pub earlier_twice : Option Twice → Option Twice → Option Twice
earlier_twice None other = other
earlier_twice (Some one) None = Some one
earlier_twice (Some one) (Some other) = if nat_lt other.second one.second then Some other else Some one

-- the stay that was left twice first of the last ones of a copy, of so many
unfoldable pub first_twice_of : Facts → Table ℕ → (count copy : ℕ) → Option Twice
first_twice_of facts seconds zero copy = None
first_twice_of facts seconds (suc count) copy = option_map_or
    (λ stay. earlier_twice (twice_at seconds stay.0) (first_twice_of facts seconds count stay.1))
    (stay_before facts copy) None

-- of all of them
abbrev pub first_twice : Facts → Table ℕ → (copy : ℕ) → Option Twice
first_twice facts seconds copy = first_twice_of facts seconds (copy + 1) copy

abbrev pub twice_finding_by : Firsts → Part → Twice → Option Finding
twice_finding_by firsts part twice =
    option_map (λ first. findings.LeftTwice part twice.entered first twice.second) (firsts twice.entered)

abbrev pub stop_finding : Part → Stop → Finding
stop_finding part stop = findings.Stops part stop.by stop.lack

-- of a journey that isn't followed, for this reason
abbrev pub unfollowed_finding : Facts → Firsts → (seconds : Table ℕ) → Table Stop → Part → Unfollowed → Option Finding
unfollowed_finding facts firsts seconds stops part (Stops by lack) = Some (findings.Stops part by lack)
unfollowed_finding facts firsts seconds stops part (Lost by copy) =
    option_map (stop_finding part) (stop_of_copy stops by copy (facts copy))
unfollowed_finding facts firsts seconds stops part (LeftTwice copy) =
    option_and_then (twice_finding_by firsts part) (first_twice facts seconds copy)

-- of a journey, where it isn't followed
abbrev pub way_finding_by : Facts → Firsts → (seconds : Table ℕ) → Table Stop → Part → Result FoundJourney Unfollowed
    → Option Finding
way_finding_by facts firsts seconds stops part (Ok journey) = None
way_finding_by facts firsts seconds stops part (Err why) = unfollowed_finding facts firsts seconds stops part why

-- of the journey of the Sync, or else of that of the Delay_Req
abbrev pub ways_finding_by : Facts → Firsts → Once → (seconds : Table ℕ) → Table Stop → Found → Option Finding
ways_finding_by facts firsts once seconds stops found = option_or
    (way_finding_by facts firsts seconds stops parts.Sync (followed_to facts once draws_sync found.sync_arrival))
    (way_finding_by facts firsts seconds stops parts.DelayReq (followed_to facts once is_request found.request_arrival))
