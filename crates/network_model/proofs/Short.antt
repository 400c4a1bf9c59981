-- Short runs are fresh, ticked and within one turn of the numbers.
use Rattle.std.proofs.Common.{ℕ, ◌+◌, ◌<◌, ◌≤◌, Bool, true, false, [], ◌∷◌, length, if◌then◌else◌, Option, Some, None, IfSome, arith}
use Rattle.std.specs.Prelude.{◌||◌}
use Rattle.std.proofs.lemmas.List.Sums.{count_by-le-length}
use Rattle.network_model.specs.Network.{Network, NodeName}
use Rattle.network_model.specs.Run.{Run, Place, place}
use Rattle.network_model.specs.Kinds.{is_at, is_tick, is_set_master, draws_sync, is_request}
use Rattle.network_model.specs.Numbering.{draws_with, drawn_later}
use Rattle.network_model.specs.Truth.{origin_heard}
use Rattle.network_model.specs.Premises.{draws_present, syncs_since_tick, IsTickedAt, IsTicked, IsFresh, IsWithinOneTurn}

drawn_later-lt : (origin : Place) (run : Run) (late : ℕ) → length run < late → drawn_later origin run < late
drawn_later-lt origin run late short = omega (arith, count_by-le-length (draws_with origin.event) run)

pub each_origin : (heard : Option Place) (run : Run) (late : ℕ) → length run < late → IfSome heard (λ origin. drawn_later origin run < late)
each_origin None run late short = tt
each_origin (Some origin) run late short = drawn_later-lt origin run late short

-- a run of at most so many events
pub IsFresh-short : (late : ℕ) (network : Network) (run : Run) → length run ≤ late → IsFresh late network run
IsFresh-short late network [] short = tt
IsFresh-short late network (event ∷ earlier) short = (
  λ _. each_origin (origin_heard (place event earlier)) earlier late (omega arith),
  IsFresh-short late network earlier (omega arith),
)

one_more : (stops counts : Bool) (before room : ℕ) → before ≤ room → (if stops then 0 else if counts then before + 1 else before) ≤ room + 1
one_more true counts before room fits = omega arith
one_more false true before room fits = omega arith
one_more false false before room fits = omega arith

-- no more Syncs than events
syncs_since_tick-le : (slave : NodeName) (run : Run) → syncs_since_tick slave run ≤ length run
syncs_since_tick-le slave [] = omega arith
syncs_since_tick-le slave (event ∷ earlier) =
    omega (
      arith,
      one_more
          (is_at is_tick slave event || is_at is_set_master slave event) (draws_present slave earlier event)
          (syncs_since_tick slave earlier) (length earlier) (syncs_since_tick-le slave earlier),
    )

IsTickedAt-short : (between_ticks : ℕ) (slave : NodeName) (run : Run) → length run ≤ between_ticks → IsTickedAt between_ticks slave run
IsTickedAt-short between_ticks slave [] short = tt
IsTickedAt-short between_ticks slave (event ∷ earlier) short = (
  omega (arith, syncs_since_tick-le slave (event ∷ earlier)),
  IsTickedAt-short between_ticks slave earlier (omega arith),
)

-- a run of at most so many events
pub IsTicked-short : (between_ticks : ℕ) (run : Run) → length run ≤ between_ticks → IsTicked between_ticks run
IsTicked-short between_ticks run short slave = IsTickedAt-short between_ticks slave run short

-- a run of at most 65,536 events
pub IsWithinOneTurn-short : (run : Run) → length run ≤ 65536 → IsWithinOneTurn run
IsWithinOneTurn-short run short = record {
  syncs = λ node. omega (arith, count_by-le-length (is_at draws_sync node) run);
  requests = λ node. omega (arith, count_by-le-length (is_at is_request node) run);
}
