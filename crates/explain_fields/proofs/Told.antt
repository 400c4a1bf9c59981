-- What is told of messages that have other octets, piece by piece.
use Rattle.std.proofs.Common.{◌≡◌, ◌∙◌, ℕ, List, ◌++◌, Result, Ok, Err, refl, true, append_assoc}
use Rattle.std.specs.Prelude.{codes, OnOk}
use Rattle.explain_words.specs.Lines.{are_lines}
use Rattle.explain_fields.specs.Differing.{TellsMessages, other_octets_text}

-- lines on messages that have other octets, and between them how many these are
pub others_told : {E : Type 0} (r : Result (Unit {0}) E) (others messages : ℕ) (old first second new fields : List ℕ)
    → are_lines (codes "  ") fields ≡ true → first ≡ old ++ fields → second ≡ first ++ other_octets_text others messages
    → OnOk r ((places : List ℕ) × (are_lines (codes "  ") places ≡ true) × (new ≡ second ++ places))
    → OnOk r ((told : List ℕ) × TellsMessages true told × (new ≡ old ++ told))
others_told (Ok x) others messages old first second new fields read first_is second_is (places, differ, is) = (
  fields ++ (other_octets_text others messages ++ places),
  (fields, others, messages, places, read, differ, refl),
  is ∙ rw (second_is, first_is) (simp append_assoc),
)
others_told (Err e) others messages old first second new fields read first_is second_is placed = tt
