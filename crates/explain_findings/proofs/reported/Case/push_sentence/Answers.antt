use Rattle.std.proofs.Common.{◌≡◌, List, ◌++◌, ℕ, Result, subst}
use Rattle.std.specs.Prelude.{OnOk}
use Rattle.explain_findings.specs.declared.found.Sentence.{Sentence}
use Rattle.explain_findings.specs.Found.{line_text}
use Rattle.explain_findings.proofs.reported.Case.push_sentence.Goals as goal

-- the line of a sentence is that of another one which is the same
same_line : {E : Type 0} (r : Result (Unit {0}) E) (old new : List ℕ) (one other : Sentence) → one ≡ other
    → OnOk r (new ≡ old ++ line_text one) → OnOk r (new ≡ old ++ line_text other)
same_line r old new one other same told = subst (λ (it : Sentence). OnOk r (new ≡ old ++ line_text it)) same told

pub returns : goal.returns
returns c noted = same_line c.write.result _ _ _ _ (c.sentence.ensures noted) c.write.ensures.bytes
