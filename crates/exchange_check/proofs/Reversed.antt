-- What is kept of lines that are given oldest first, and what the verdict on lines says of them.
use Rattle.std.proofs.Common.{◌≡◌, ◌∙◌, ℕ, ◌+◌, ◌<◌, ◌≤◌, List, [], ◌∷◌, ◌++◌}
use Rattle.std.proofs.Common.{length, take, get_or, Option, sym, ap, subst, arith}
use Rattle.std.specs.Prelude.{reverse}
use Rattle.std.proofs.lemmas.Grind.{common_steps}
use Rattle.std.proofs.lemmas.List.{take_more, length-reverse, length-take-le, reverse-reverse}
use Rattle.network_model.specs.Network.{Network}
use Rattle.exchange_check.specs.declared.kept.Kept.{Kept}
use Rattle.trace_model.specs.declared.line.TraceLine.{TraceLine}
use Rattle.exchange_check.proofs.Standing.{machine-verdict, machine-judgement}
use Rattle.trace_model.specs.declared.judgement.Judgement.{Judgement}
use Rattle.trace_model.specs.declared.verdict.Verdict.{Verdict}
use Rattle.trace_model.specs.Line.{Lines}
use Rattle.trace_model.specs.Record.{line_place}
use Rattle.trace_model.specs.Verdict.{verdict, line_judgement}
use Rattle.trace_model.specs.Soundness.{TellsSoundness}
use Rattle.trace_model.proofs.Soundness.{tells_soundness}
use Rattle.trace_model.specs.Complete.{AcceptsTruth}
use Rattle.trace_model.proofs.Complete.{complete, complete_within_one_turn}
use Rattle.network_model.specs.Premises.{IsFreshAndTicked, IsWithinTurn, exact_limits}
use Rattle.exchange_check.specs.Inner.Machine.{Machine, IsKept, machine, after_line, judgement_after}

pub reverse_push : (lines : List TraceLine) (line : TraceLine) → reverse (lines ++ line ∷ []) ≡ line ∷ reverse lines
reverse_push lines line = grind (arith, common_steps)

reverse_more : (lines : List TraceLine) (line : TraceLine) (i : ℕ) → i < length lines → line ≡ get_or lines i line
    → reverse (take (i + 1) lines) ≡ line ∷ reverse (take i lines)
reverse_more lines line i within read =
    ap reverse (take_more lines i line within ∙ ap (λ (x : TraceLine). take i lines ++ x ∷ []) (sym read))
    ∙ reverse_push (take i lines) line

-- after one more of the lines
pub IsKept-more : (network : Network) (lines : List TraceLine) (line : TraceLine) (kept : Kept) (i : ℕ)
    → i < length lines → line ≡ get_or lines i line
    → IsKept network kept (i + 1) (after_line network line i (machine network (reverse (take i lines))))
    → IsKept network kept (i + 1) (machine network (reverse (take (i + 1) lines)))
IsKept-more network lines line kept i within read h =
    let count : length (reverse (take i lines)) ≡ i =
    length-reverse (take i lines) ∙ length-take-le i lines (omega arith) in
    let m : after_line network line i (machine network (reverse (take i lines)))
    ≡ machine network (reverse (take (i + 1) lines)) =
    (λ k. after_line network line (sym count k) (machine network (reverse (take i lines))))
    ∙ sym (ap (machine network) (reverse_more lines line i within read)) in
    subst (λ (s : Machine). IsKept network kept (i + 1) s) m h

-- the verdict that is kept of all lines
pub verdict-kept : (network : Network) (lines : Lines) (kept : Kept) (count : ℕ)
    → IsKept network kept count (machine network lines) → kept.verdict ≡ verdict network lines
verdict-kept network lines kept count h = h.verdict ∙ machine-verdict network lines

-- what the report of the next line is judged to be, where these lines were fed before it, newest first
pub judgement-told : (network : Network) (line : TraceLine) (fed : Lines) (answer : Option Judgement)
    → answer ≡ judgement_after network line (length fed) (machine network fed)
    → answer ≡ line_judgement network (line_place line (reverse (reverse fed)))
judgement-told network line fed answer h =
    h ∙ machine-judgement network line fed
    ∙ ap (λ (lines : Lines). line_judgement network (line_place line lines)) (sym (reverse-reverse fed))

take_whole : (lines : List TraceLine) (i : ℕ) → length lines ≤ i → take i lines ≡ lines
take_whole lines i h = grind (arith, common_steps)

pub verdict-kept-all : (network : Network) (lines : List TraceLine) (kept : Kept) (count i : ℕ) → length lines ≤ i
    → IsKept network kept count (machine network (reverse (take i lines))) → kept.verdict ≡ verdict network (reverse lines)
verdict-kept-all network lines kept count i past h =
    verdict-kept network (reverse (take i lines)) kept count h
    ∙ ap (λ (xs : List TraceLine). verdict network (reverse xs)) (take_whole lines i past)

-- the verdict on lines tells which of them are sound
pub TellsSoundness-of : (network : Network) (lines : Lines) (answer : Verdict) → answer ≡ verdict network lines
    → TellsSoundness network lines answer
TellsSoundness-of network lines answer h = subst (TellsSoundness network lines) (sym h) (tells_soundness network lines)

-- what the verdict's answer says of lines that tell a run
pub AcceptsTruth-of : (network : Network) (lines : Lines) (answer : Verdict) → answer ≡ verdict network lines
    → AcceptsTruth (IsFreshAndTicked exact_limits) network lines answer
AcceptsTruth-of network lines answer h run premise told = h ∙ complete.verdicts network lines run premise told

pub AcceptsTruth-within_one_turn : (network : Network) (lines : Lines) (answer : Verdict)
    → answer ≡ verdict network lines
    → AcceptsTruth IsWithinTurn network lines answer
AcceptsTruth-within_one_turn network lines answer h run premise told =
    h ∙ complete_within_one_turn.verdicts network lines run premise told
