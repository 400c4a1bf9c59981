-- Numbers of reasons, written one after another.
use Rattle.std.proofs.Common.{◌≡◌, ℕ, ◌+◌, ◌<◌, ◌≤◌, List, [], ◌∷◌, ◌++◌, length, get_or}
use Rattle.std.proofs.Common.{drop, refl, sym, ◌∙◌, append_assoc}
use Rattle.std.specs.Prelude.{codes}
use Rattle.std.specs.List.{flat_map}
use Rattle.std.specs.Fmt.{decimal}
use Rattle.std.proofs.lemmas.List.{at_drop_all, at_drop_more, append-nil}
use Rattle.trace_model.specs.declared.verdict.Why.{Why}
use Rattle.trace_model.specs.Refusal.{code_of}
use Rattle.explain_transcript.specs.Judged.{codes_text}

-- the numbers of the reasons that are left, this before the first and a comma before each other
abbrev pub codes_left : List ℕ → List Why → List ℕ
codes_left before [] = []
codes_left before (why ∷ others) =
    before ++ (decimal (code_of why) ++ flat_map (λ other. codes "," ++ decimal (code_of other)) others)

pub codes_left-all : (whys : List Why) → codes_left [] whys ≡ codes_text whys
codes_left-all [] = refl
codes_left-all (why ∷ others) = refl

codes_left-commas : (whys : List Why)
    → codes_left (codes ",") whys ≡ flat_map (λ other. codes "," ++ decimal (code_of other)) whys
codes_left-commas [] = refl
codes_left-commas (why ∷ others) = simp append_assoc

-- one reason more was written
pub codes_left-step : (front before all : List ℕ) (whys : List Why) (i : ℕ) (why : Why) → i < length whys
    → front ++ codes_left before (drop i whys) ≡ all
    → front ++ (before ++ decimal (code_of (get_or whys i why))) ++ codes_left (codes ",") (drop (i + 1) whys) ≡ all
codes_left-step front before all whys i why more same =
    let step = at_drop_more (codes_left before) whys i why more in
    rw (codes_left-commas (drop (i + 1) whys)) (simp append_assoc (rw step at same))

-- none is left
pub codes_left-none : (front before all : List ℕ) (whys : List Why) (i : ℕ) → length whys ≤ i
    → front ++ codes_left before (drop i whys) ≡ all → front ≡ all
codes_left-none front before all whys i none same =
    let empty = at_drop_all (codes_left before) whys i none in
    sym (append-nil front) ∙ (rw empty at same)
