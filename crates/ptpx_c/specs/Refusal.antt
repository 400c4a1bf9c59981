-- The numbers of the refusals of what C passes.
use Rattle.std.specs.Prelude.{ℕ}
use Rattle.ptpx_c.specs.declared.refusal.InputRefusal.{InputRefusal}
use Rattle.ptpx_c.specs.declared.refusal.InputRefusal.TheVariants.{OtherType, Nibble, LeftAlready, NoBracket, Wide}
use Rattle.ptpx_c.specs.declared.refusal.InputRefusal.TheVariants.{NoExchange, NoTimespec}

-- the number of a refusal
abbrev pub code_of : InputRefusal → ℕ
code_of OtherType = 903
code_of Nibble = 904
code_of LeftAlready = 905
code_of NoBracket = 908
code_of Wide = 909
code_of NoExchange = 910
code_of NoTimespec = 911
