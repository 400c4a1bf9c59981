-- Reports that weren't handed on.
use Rattle.std.proofs.Common.{◌≡◌, ◌∙◌, ◌++◌, ℕ, List, [], ◌∷◌, map, sym, ap}
use Rattle.std.proofs.lemmas.List.{reverse-append}
use Rattle.recording_measure.specs.Made.{Measured}
use Rattle.recording_measure.specs.declared.completion.Completion.{Completion}
use Rattle.recording_measure.specs.Fresh.{AreFresh, completion_of}

-- one more of them
pub fresh_more : (m : Measured) (all : List Measured) (handed : ℕ) (before after : List Completion) → after ≡ before ++ completion_of m ∷ []
    → AreFresh all handed before → AreFresh (m ∷ all) handed after
fresh_more m all handed before after is fresh = record {
  newer = m ∷ fresh.newer;
  earlier = fresh.earlier;
  parts = ap (λ (ms : List Measured). m ∷ ms) fresh.parts;
  counted = fresh.counted;
  told = is ∙ ap (λ (cs : List Completion). cs ++ completion_of m ∷ []) fresh.told
      ∙ sym (reverse-append (completion_of m ∷ []) (map completion_of fresh.newer));
}
