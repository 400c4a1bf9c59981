-- The numbers of a clock's refusals.
use Rattle.std.specs.Prelude.{ℕ}
use Rattle.transparent_clock.specs.declared.refusal.ClockRefusal.{ClockRefusal}
use Rattle.transparent_clock.specs.declared.refusal.ClockRefusal.TheVariants.{Decode, NotEvent, NegativeResidence}

-- the number of a refusal
abbrev pub code_of : ClockRefusal → ℕ
code_of (Decode refusal) = 401
code_of NotEvent = 402
code_of NegativeResidence = 403
