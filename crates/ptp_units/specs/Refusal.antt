-- The numbers of the refusals, and which one a pair of seconds and nanoseconds meets first.
use Rattle.std.specs.Prelude.{ℕ, ◌^◌, nat_lt, Option, Some, None, if◌then◌else◌}
use Rattle.ptp_units.specs.declared.refusal.UnitRefusal.{UnitRefusal}
use Rattle.ptp_units.specs.declared.refusal.UnitRefusal.TheVariants.{OutOfRange, Seconds, Nanoseconds, TooLow}

-- the number of a refusal
abbrev pub code_of : UnitRefusal → ℕ
code_of OutOfRange = 101
code_of Seconds = 102
code_of Nanoseconds = 103
code_of TooLow = 104

-- the seconds come first
abbrev pub timestamp_refusal : ℕ → ℕ → Option UnitRefusal
timestamp_refusal seconds nanos =
    if nat_lt seconds (2 ^ 48) then (if nat_lt nanos (10 ^ 9) then None else Some Nanoseconds) else Some Seconds
