-- What is noted after one more line, where lines are told oldest first.
use Rattle.std.proofs.Common.{◌≡◌, ◌∙◌, ◌∷◌, length, sym, ap}
use Rattle.std.proofs.Math.Path.{transport}
use Rattle.std.specs.Prelude.{reverse}
use Rattle.network_model.specs.Network.{Network}
use Rattle.trace_model.specs.declared.line.TraceLine.{TraceLine}
use Rattle.trace_model.specs.Line.{Lines}
use Rattle.exchange_check.specs.declared.exceptions.Exceptions.{Exceptions}
use Rattle.exchange_check.specs.declared.kept.Kept.{Kept}
use Rattle.exchange_check.specs.Evidence.{noted, told_by, IsWithLine}
use Rattle.exchange_check.specs.Transcript.{Transcript}
use Rattle.exchange_check.specs.Inner.Machine.{IsKept, machine}
use Rattle.exchange_check.proofs.Reversed.{reverse_push}

module _ (checker before : Transcript) (network : Network) (kept : Kept) (line : TraceLine) (old new : Exceptions)
    (same : network ≡ checker.network)
    (h : IsKept checker.network kept (length (reverse checker.lines)) (machine checker.network (reverse checker.lines)))
    (more : IsWithLine before line checker)
    (step : (earlier : Lines) → IsKept network kept (length (line ∷ earlier)) (machine network (line ∷ earlier))
    → told_by old ≡ noted network earlier → told_by new ≡ noted network (line ∷ earlier))
    (was : told_by old ≡ noted before.network (reverse before.lines)) where
  lines_are : reverse checker.lines ≡ line ∷ reverse before.lines
  lines_are = ap (λ (t : Transcript). reverse t.lines) more ∙ reverse_push before.lines line

  network_is : network ≡ before.network
  network_is = same ∙ ap (λ (t : Transcript). t.network) more

  kept_now : IsKept network kept (length (line ∷ reverse before.lines)) (machine network (line ∷ reverse before.lines))
  kept_now = transport (λ i. IsKept (sym same i) kept (length (lines_are i)) (machine (sym same i) (lines_are i))) h

  pub noted-on : told_by new ≡ noted checker.network (reverse checker.lines)
  noted-on =
      step (reverse before.lines) kept_now (was ∙ (λ i. noted (sym network_is i) (reverse before.lines)))
      ∙ (λ i. noted (same i) (sym lines_are i))
