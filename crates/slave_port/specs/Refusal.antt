-- The numbers of the reasons and of the refusal.
use Rattle.std.specs.Prelude.{ℕ}
use Rattle.slave_port.specs.declared.reason.Reason.{Reason}
use Rattle.slave_port.specs.declared.reason.Reason.TheVariants.{Decode, WrongType, OtherDomain, NoMaster, OtherMaster}
use Rattle.slave_port.specs.declared.reason.Reason.TheVariants.{TooBig, OtherRequester, UnknownRequest, EgressUnknown}
use Rattle.slave_port.specs.declared.reason.Reason.TheVariants.{NotNewer}
use Rattle.slave_port.specs.declared.reason.SlaveRefusal.{SlaveRefusal}
use Rattle.slave_port.specs.declared.reason.SlaveRefusal.TheVariants.{NotHeld}

-- the number of a reason; 506 was that of a Sync that isn't two-step, and no reason gets it again
abbrev pub code_of_reason : Reason → ℕ
code_of_reason (Decode refusal) = 501
code_of_reason WrongType = 502
code_of_reason OtherDomain = 503
code_of_reason NoMaster = 504
code_of_reason OtherMaster = 505
code_of_reason TooBig = 507
code_of_reason NotNewer = 512
code_of_reason OtherRequester = 508
code_of_reason UnknownRequest = 509
code_of_reason EgressUnknown = 510

-- the number of a refusal
abbrev pub code_of : SlaveRefusal → ℕ
code_of NotHeld = 511
