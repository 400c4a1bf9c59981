-- The numbers of the refusals.
use Rattle.std.specs.Prelude.{ℕ}
use Rattle.network_model.specs.declared.refusal.WorldRefusal.{WorldRefusal}
use Rattle.network_model.specs.declared.refusal.WorldRefusal.TheVariants.{SameName, SameIdentity, NoNode, WrongKind}
use Rattle.network_model.specs.declared.refusal.WorldRefusal.TheVariants.{NoCopy, NoTransit, ReadingOutOfRange}
use Rattle.network_model.specs.declared.refusal.WorldRefusal.TheVariants.{NothingWaiting, Memory}

-- each refusal has its own number
abbrev pub code_of : WorldRefusal → ℕ
code_of SameName = 601
code_of SameIdentity = 602
code_of NoNode = 603
code_of WrongKind = 604
code_of NoCopy = 605
code_of NoTransit = 606
code_of ReadingOutOfRange = 607
code_of NothingWaiting = 608
code_of Memory = 609
