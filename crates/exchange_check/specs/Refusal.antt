-- The number of the fault.
use Rattle.std.specs.Prelude.{ℕ}
use Rattle.exchange_check.specs.declared.refusal.CheckFault.{CheckFault}
use Rattle.exchange_check.specs.declared.refusal.CheckFault.TheVariants.{Memory}

-- the number of the fault, 709
abbrev pub code_of : CheckFault → ℕ
code_of Memory = 709
