-- The stays of messages in clocks, and which of them were left, and left again. A stay is named by the number of its Enter
-- line, and a copy of a message by that of the line which made it.
use Rattle.std.specs.Prelude.{ℕ, zero, suc, Bool, true, false, ◌&&◌, not, ◌==◌, is_some, if◌then◌else◌}
use Rattle.std.specs.Prelude.{Option, Some, None}
use Rattle.std.specs.Option.{option_or, option_map_or}

-- the last stay of each copy whose journey is known: the number of its Enter line, and the copy that entered there
abbrev pub LastStays : Type 0
LastStays = ℕ → Option (ℕ × ℕ)

-- the same with the last stay of one more copy
abbrev pub with_stay : ℕ → Option (ℕ × ℕ) → LastStays → LastStays
with_stay number stay stays copy = if number == copy then stay else stays copy

-- of each stay that was left: whether it was left again
abbrev pub Leaves : Type 0
Leaves = ℕ → Option Bool

-- the same after one more line that leaves a stay
abbrev pub left_again : ℕ → Leaves → Leaves
left_again transit leaves stay = if transit == stay then Some (is_some (leaves stay)) else leaves stay

-- a stay was left, and not again
abbrev pub is_once : Option Bool → Bool
is_once None = false
is_once (Some again) = not again

-- whether each of the last so many stays of a copy's journey was left once
abbrev pub once_by : LastStays → Leaves → (count : ℕ) → (copy : ℕ) → Bool
once_by stays leaves zero copy = true
once_by stays leaves (suc count) copy =
    option_map_or (λ stay. is_once (leaves stay.0) && once_by stays leaves count stay.1) (stays copy) true

-- of the copy of each number: whether each stay of its journey was left once
abbrev pub Once : Type 0
Once = ℕ → Bool

-- of all its stays: each copy is younger than the one that entered, so it has no more of them than its number says
abbrev pub once_of : LastStays → Leaves → Once
once_of stays leaves copy = once_by stays leaves (suc copy) copy

-- of each stay that was left: the first line that leaves it
abbrev pub Firsts : Type 0
Firsts = ℕ → Option ℕ

-- the same after one more line that leaves a stay
abbrev pub first_kept : (transit number : ℕ) → Firsts → Firsts
first_kept transit number firsts stay = option_or (firsts stay) (if transit == stay then Some number else None)
