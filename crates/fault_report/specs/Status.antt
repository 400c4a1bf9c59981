-- Exit statuses.
use Rattle.std.specs.Prelude.{ℕ, Result, Ok, Err}

-- the exit status of a subcommand that ended in this answer
abbrev pub status_of : {F : Type 0} → Result ℕ F → ℕ
status_of (Ok count) = 0
status_of (Err fault) = 3
