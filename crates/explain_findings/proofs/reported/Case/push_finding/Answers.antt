use Rattle.std.proofs.Common.{◌≡◌, ◌∙◌, List, ◌++◌, ℕ, Result, Ok, Err, refl, sym, ap, subst, append_assoc}
use Rattle.std.specs.Prelude.{OnOk}
use Rattle.explain_findings.specs.declared.found.Behind.{Behind}
use Rattle.explain_findings.specs.declared.found.Behind.TheVariants as behinds
use Rattle.explain_findings.specs.declared.found.Sentence.{Sentence}
use Rattle.explain_findings.specs.Found.{line_text, TellsBehind}
use Rattle.explain_findings.proofs.reported.Case.push_finding.Goals as goal

-- a text that tells this of a finding, by what stands behind its sentence
told_so : {E : Type 0} (r : Result (Unit {0}) E) (sentence : Sentence) (one other : Behind) (old new : List ℕ) → one ≡ other
    → OnOk r ((told : List ℕ) × TellsBehind sentence one told × (new ≡ old ++ told))
    → OnOk r ((told : List ℕ) × TellsBehind sentence other told × (new ≡ old ++ told))
told_so r sentence one other old new same told =
    subst (λ (it : Behind). OnOk r ((told : List ℕ) × TellsBehind sentence it told × (new ≡ old ++ told))) same told

told_alone : {E : Type 0} (r : Result (Unit {0}) E) (sentence : Sentence) (old new : List ℕ)
    → OnOk r (new ≡ old ++ line_text sentence)
    → OnOk r ((told : List ℕ) × TellsBehind sentence behinds.Nothing told × (new ≡ old ++ told))
told_alone (Ok x) sentence old new is = (line_text sentence, refl, is)
told_alone (Err e) sentence old new is = tt

told_with : {E : Type 0} (r : Result (Unit {0}) E) (sentence : Sentence) (old middle new : List ℕ)
    → middle ≡ old ++ line_text sentence → OnOk r ((others : List ℕ) × (new ≡ middle ++ others))
    → OnOk r ((told : List ℕ) × TellsBehind sentence behinds.Readings told × (new ≡ old ++ told))
told_with (Ok x) sentence old middle new first (others, is) = (
  line_text sentence ++ others,
  (others, refl),
  is ∙ ap (λ (it : List ℕ). it ++ others) first ∙ append_assoc old (line_text sentence) others,
)
told_with (Err e) sentence old middle new first is = tt

told_otherwise : {E : Type 0} (r : Result (Unit {0}) E) (sentence : Sentence) (old new : List ℕ)
    → OnOk r ((told : List ℕ) × (new ≡ old ++ told))
    → OnOk r ((told : List ℕ) × TellsBehind sentence behinds.Octets told × (new ≡ old ++ told))
told_otherwise (Ok x) sentence old new (told, is) = (told, tt, is)
told_otherwise (Err e) sentence old new is = tt

pub returns-in-Nothing : goal.returns-in-Nothing
returns-in-Nothing c noted =
    told_so c.push_sentence.result _ behinds.Nothing _ _ _ (sym c.in-Nothing.is ∙ c.stands_behind.ensures)
    (told_alone c.push_sentence.result _ _ _ (c.push_sentence.ensures noted))

pub returns-in_ok-push_sentence-in-Readings : goal.returns-in_ok-push_sentence-in-Readings
returns-in_ok-push_sentence-in-Readings c noted =
    told_so c.push_more.result _ behinds.Readings _ _ _ (sym c.in-Readings.is ∙ c.stands_behind.ensures)
    (told_with c.push_more.result _ _ _ _ (c.in_ok-push_sentence-in-Readings.ensures noted) c.push_more.ensures)
