use Rattle.std.proofs.Common.{◌≡◌, List, [], ℕ, Option, Result, Ok, Err, ap, refl}
use Rattle.std.specs.Prelude.{MatchResult, is_ok}
use Rattle.std.specs.Io.KnownBytes.{Appends}
use Rattle.text_lines.specs.declared.line_fault.LineFault.{LineFault}
use Rattle.text_lines.specs.declared.line_fault.LineFault.TheVariants.{Write}
use Rattle.text_lines.specs.Fault.{is_write}
use Rattle.datagram_text.specs.Show.{IsAnswer, show_rules}
use Rattle.text_lines.specs.Counted.{HasFailed, HasFailedIf, HasNotFailed}
use Rattle.text_lines.specs.Task.{WentOut}
use Rattle.text_lines.specs.declared.counted.Counted.{Counted}
use Rattle.text_lines.specs.declared.writing.WriteFailed.{WriteFailed}
use Rattle.datagram_text.proofs.showing.ShowingLineTask.take.Goals as goal

-- the answer to a line was written, or the writer failed
written : {A : Type 0} (r : Result A LineFault) (line text : List ℕ) (before after : Option (List ℕ))
    → IsAnswer line text
    → MatchResult r (λ _. Appends before after text) (λ fault. (failed : WriteFailed) × (fault ≡ Write))
    → MatchResult r
    (λ _. (later : Unit {0}) × (out : List ℕ) × Unit {0} × show_rules.Takes line tt later out
    × Appends before after out)
    (λ fault. (out : List ℕ) × show_rules.Stops line tt fault out × WentOut (is_write fault) (Appends before after out))
written (Ok x) line text before after shown appended = (tt, text, tt, shown, appended)
written (Err fault) line text before after shown is = rw is.1 ([], (ap is_ok shown.hexadecimal, refl), tt)

pub returns-clause-taken : goal.returns-clause-taken
returns-clause-taken g c = λ state at.
    written c.write_text.result c.args.digits.now _ _ _ c.in_ok-make_answer.ensures
    (rw c.as_str.ensures.value at c.write_text.ensures.written)

-- a failure of the writer is counted where the fault says so
counted : {A W : Type 0} (r : Result A LineFault) (text : List ℕ) (before after : Option (List ℕ)) (old new : Counted W)
    → MatchResult r (λ _. Appends before after text) (λ fault. (failed : WriteFailed) × (fault ≡ Write))
    → MatchResult r (λ _. HasNotFailed old new) (λ _. HasFailed old new)
    → MatchResult r (λ _. HasNotFailed old new) (λ fault. HasFailedIf (is_write fault) old new)
counted (Ok x) text before after old new appended failures = failures
counted (Err fault) text before after old new is failed = rw is.1 failed

pub returns-clause-failures : goal.returns-clause-failures
returns-clause-failures g c =
    counted c.write_text.result _ _ _ _ _ c.write_text.ensures.written c.write_text.ensures.failures
