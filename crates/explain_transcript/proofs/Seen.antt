-- What is known of a line that was looked at, by how the writing of its text ended, and what of a line that can't be read.
use Rattle.std.proofs.Common.{◌≡◌, ◌⊎◌, inl, refl, subst, ℕ, Bool, List, [], Option, Result, Ok, Err}
use Rattle.std.specs.Prelude.{MatchResult}
use Rattle.std.specs.Io.KnownBytes.{Appends}
use Rattle.text_lines.specs.declared.counted.Counted.{Counted}
use Rattle.text_lines.specs.declared.fault.Cause.{Cause}
use Rattle.text_lines.specs.declared.fault.Cause.TheVariants.{Reading, Task}
use Rattle.text_lines.specs.declared.fault.ReadingFault.{ReadingFault}
use Rattle.text_lines.specs.Counted.{failures_of}
use Rattle.text_lines.specs.Task.{WentOut, AnswersUntil, FailedAt}
use Rattle.schedule_reading.specs.declared.fault.TaskFault.{TaskFault}
use Rattle.schedule_reading.specs.declared.fault.TaskFault.TheVariants.{Write, Memory}
use Rattle.schedule_reading.specs.Fault.{is_write}
use Rattle.explain_transcript.specs.declared.explaining.Explaining.{Explaining}
use Rattle.explain_transcript.specs.Explained.{Seen, Sees, explain_rules, unseen, WritesMore, ExplainsUntil}
use Rattle.explain_transcript.specs.Inner.Explaining.{IsExplaining}

pub looked_at : {A : Type 0} (r : Result A TaskFault) (later : Explaining) (state : Seen) (line : List ℕ)
    (before after : Option (List ℕ)) (written : List ℕ)
    → (x : Seen) × IsExplaining later x × Sees line state.fault state x written
    → MatchResult r (λ _. Appends before after written) (λ fault. fault ≡ Write)
    → MatchResult r
    (λ _. (x : Seen) × (written : List ℕ) × IsExplaining later x × Sees line state.fault state x written
    × Appends before after written)
    (λ fault. (written : List ℕ) × (((fault ≡ Write) ⊎ (fault ≡ Memory)) × (written ≡ []))
    × WentOut (is_write fault) (Appends before after written))
looked_at (Ok x) later state line before after written (seen, is, sees) appended = (seen, written, is, sees, appended)
looked_at (Err fault) later state line before after written seen is = rw is ([], (inl refl, refl), tt)

-- a text stands behind what was told of the lines, where a line can't be read
pub told_behind : {R W : Type 0} (first : Bool) (octets : List ℕ) (left before told after : Option (List ℕ)) (line : ℕ) (what : Cause TaskFault) (fault : ReadingFault)
    (failures : ℕ) (input input' : Counted R) (output between : Counted W) → what ≡ Reading fault
    → AnswersUntil explain_rules (unseen first) octets left before told line what → FailedAt explain_rules what input input' output between
    → WritesMore told after (failures_of between) failures → ExplainsUntil first octets left before after (failures_of output) failures line what
told_behind first octets left before told after line (Reading kind) fault failures input input' output between is until failed more =
    (told, until, subst (λ (n : ℕ). WritesMore told after n failures) failed.1 more)
told_behind first octets left before told after line (Task kind) fault failures input input' output between is until failed more = absurd (cc is)
