-- What an answer says by the rules of a task, with each fault told by its kind.
use Rattle.std.specs.Prelude.{◌≡◌, ℕ, List, Option, Result, MatchResult}
use Rattle.std.specs.Option.{ForSome}
use Rattle.text_lines.specs.declared.counted.Counted.{Counted}
use Rattle.text_lines.specs.declared.fault.Cause.{Cause}
use Rattle.text_lines.specs.Counted.{device_of}
use Rattle.text_lines.specs.Task.{Rules, AnswersAll, AnswersUntil}
use Rattle.transcript_text.specs.declared.fault.Fault.{Fault}
use Rattle.transcript_text.specs.declared.fault.FaultKind.{FaultKind}
use Rattle.transcript_text.specs.Fault.{kind_by}

-- the lines of an input of these octets were taken up to a fault
abbrev pub SaysUntil : {S A F : Type 0} → (F → FaultKind) → Rules S A F → (start : S) → List ℕ
    → (left before after : Option (List ℕ)) → Fault → Type 0
SaysUntil {F = F} of rules start octets left before after stop =
    (what : Cause F) × (stop.what ≡ kind_by of what) × AnswersUntil rules start octets left before after stop.line what

-- what an answer over these octets says, of what is left of them and of what was written
abbrev pub Says : {S A F : Type 0} → (F → FaultKind) → Rules S A F → (start : S) → List ℕ
    → (left before after : Option (List ℕ)) → Result A Fault → Type 0
Says of rules start octets left before after answer = MatchResult answer
    (AnswersAll rules start octets left before after) (SaysUntil of rules start octets left before after)

-- what an answer says where the reader tells its octets: of the lines whatever the writer is, and of what was written
-- where the writer tells its octets, too
abbrev pub SaysAnswer : {S A F R W : Type 0} → (F → FaultKind) → Rules S A F → (start : S)
    → (R → Option (List ℕ)) → (W → Option (List ℕ)) → Result A Fault
    → (input input' : Counted R) (output output' : Counted W) → Type 0
SaysAnswer of rules start remaining contents answer input input' output output' =
    ForSome (remaining (device_of input)) (λ octets.
    Says of rules start octets (remaining (device_of input')) (contents (device_of output))
    (contents (device_of output')) answer)
