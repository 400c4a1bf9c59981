-- The numbers of a master's refusals.
use Rattle.std.specs.Prelude.{ℕ}
use Rattle.master_port.specs.declared.refusal.MasterRefusal.{MasterRefusal}
use Rattle.master_port.specs.declared.refusal.MasterRefusal.TheVariants.{NotWaiting, Decode, NotRequest, OtherDomain}
use Rattle.master_port.specs.declared.refusal.MasterRefusal.TheVariants.{CorrectionTooLow}

-- the number of a refusal
abbrev pub code_of : MasterRefusal → ℕ
code_of NotWaiting = 301
code_of (Decode refusal) = 302
code_of NotRequest = 303
code_of OtherDomain = 304
code_of CorrectionTooLow = 305
