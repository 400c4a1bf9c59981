-- What one step changes.
use Rattle.std.specs.Prelude.{ℕ, Some, ◌==◌, if◌then◌else◌}
use Rattle.copy_stays.specs.declared.stays.CopyState.{CopyState}
use Rattle.copy_stays.specs.Leaves.{Firsts}
use Rattle.copy_stays.specs.Stays.{CopyStates}

-- with what is kept of one of them
abbrev pub with_state : ℕ → CopyState → CopyStates → CopyStates
with_state number state states copy = if number == copy then state else states copy

-- the first line that leaves each stay, with that of one more stay
abbrev pub with_first : (transit number : ℕ) → Firsts → Firsts
with_first transit number firsts stay = if transit == stay then Some number else firsts stay
