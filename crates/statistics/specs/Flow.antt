-- What the numbers and times of a port's messages of one kind tell (IEEE 1588-2019, 7.3.7). Lists have the newest in front.
use Rattle.std.specs.Prelude.{◌≡◌, ℕ, ◌+◌, ◌-◌, ◌==◌, pos, ◌-ℤ◌, ◌*ℤ◌, Bool, true, false, not, ◌&&◌, if◌then◌else◌, ⊤}
use Rattle.std.specs.Prelude.{List, [], ◌∷◌, length, Option, Some, None}
use Rattle.std.specs.List.{cons_option}
use Rattle.ptp_units.specs.Sequence.{ahead, next, is_newer}
use Rattle.statistics.specs.declared.flow.Flow.{Flow}
use Rattle.statistics.specs.declared.flow.Sent.{Sent}
use Rattle.statistics.specs.declared.series.Point.{Point}
use Rattle.statistics.specs.Cases.{first_of}
use Rattle.statistics.specs.Series.{IsSeries}
use Rattle.statistics.specs.Wide.{at_most}

-- a message comes late: its number is no newer than the newest one's, and it doesn't begin anew
abbrev pub is_late : Sent → (newest : Option Sent) → Bool
is_late m None = false
is_late m (Some n) = not m.begins && not (is_newer m.number.0 n.number.0)

-- the last message that didn't come late
abbrev pub newest : List Sent → Option Sent
newest [] = None
newest (m ∷ earlier) = if is_late m (newest earlier) then newest earlier else Some m

-- how many numbers lie between a message and the newest one before it; none where it comes late or begins anew
abbrev pub skipped_by : Sent → (newest : Option Sent) → ℕ
skipped_by m None = 0
skipped_by m (Some n) =
    if not m.begins && is_newer m.number.0 n.number.0 then ahead m.number.0 n.number.0 - 1 else 0

-- how many numbers were passed over
abbrev pub skipped : List Sent → ℕ
skipped [] = 0
skipped (m ∷ earlier) = skipped earlier + skipped_by m (newest earlier)

-- how many messages came late
abbrev pub late : List Sent → ℕ
late [] = 0
late (m ∷ earlier) = if is_late m (newest earlier) then late earlier + 1 else late earlier

-- how long a message came after the newest one before it, doubled, where its number is the next one
abbrev pub interval_by : Sent → (newest : Option Sent) → Option Point
interval_by m None = None
interval_by m (Some n) =
    if not m.begins && m.number.0 == next n.number.0
    then Some (record { line = m.line; time = m.time; value = pos 2 *ℤ (pos m.time -ℤ pos n.time) })
    else None

abbrev pub intervals : List Sent → List Point
intervals [] = []
intervals (m ∷ earlier) = cons_option (interval_by m (newest earlier)) (intervals earlier)

-- this is told of these messages
pub record IsFlow (all : List Sent) (f : Flow) : Type 0 where
  pub count : f.count ≡ at_most (length all)
  pub skipped : f.skipped ≡ at_most (skipped all)
  pub late : f.late ≡ at_most (late all)
  pub first : f.first ≡ first_of all
  pub newest : f.newest ≡ newest all
  pub intervals : IsSeries (intervals all) f.intervals

-- ---- each number is counted once
-- numbers of one life, each ahead of the one before it by less than half a turn
abbrev pub IsInOrder : List Sent → Type 0
IsInOrder [] = ⊤
IsInOrder (m ∷ []) = ⊤
IsInOrder (m ∷ n ∷ earlier) =
    (m.begins ≡ false) × (is_newer m.number.0 n.number.0 ≡ true) × IsInOrder (n ∷ earlier)

-- how far the last of these numbers is ahead of the first
abbrev pub span : List Sent → ℕ
span [] = 0
span (m ∷ []) = 0
span (m ∷ n ∷ earlier) = ahead m.number.0 n.number.0 + span (n ∷ earlier)

-- Of numbers in order each came or was passed over, from the first to the last. So none was where each is the next of the one before.
abbrev pub EachNumberIsCountedOnce : Type 0
EachNumberIsCountedOnce = (m : Sent) (earlier : List Sent) → IsInOrder (m ∷ earlier)
    → (length (m ∷ earlier) + skipped (m ∷ earlier) ≡ span (m ∷ earlier) + 1) × (late (m ∷ earlier) ≡ 0)
