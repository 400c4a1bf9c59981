-- From one TLV to the next.
use Rattle.std.proofs.Common.{◌≡◌, ℕ, zero, suc, ◌-◌, ◌<◌, List, [], ◌∷◌, length, drop, None, refl, sym, ap, ◌∙◌, arith}
use Rattle.std.specs.Option.{option_or}
use Rattle.signaling_codec.specs.Tlv.{TlvOf, tlv_length}
use Rattle.signaling_codec.specs.Refusal.{tlv_refusal, tlvs_refusal}
use Rattle.signaling_codec.specs.Inner.Parsed.{tlv_at, tlvs_in}

-- octets of a TLV are passed over
tlvs_refusal-drop : (left : ℕ) (b : List ℕ) → tlvs_refusal left b ≡ tlvs_refusal 0 (drop left b)
unfolding tlvs_refusal
tlvs_refusal-drop zero b = refl
tlvs_refusal-drop (suc left) [] = refl
tlvs_refusal-drop (suc left) (octet ∷ b) = tlvs_refusal-drop left b

tlvs_in-drop : (left : ℕ) (b : List ℕ) → tlvs_in left b ≡ tlvs_in 0 (drop left b)
unfolding tlvs_in
tlvs_in-drop zero b = refl
tlvs_in-drop (suc left) [] = refl
tlvs_in-drop (suc left) (octet ∷ b) = tlvs_in-drop left b

drop_behind : (n octet : ℕ) (b : List ℕ) → 0 < n → drop n (octet ∷ b) ≡ drop (n - 1) b
drop_behind n octet b some = let e : n ≡ suc (n - 1) = omega arith in ap (λ (k : ℕ). drop k (octet ∷ b)) e

-- where octets are left, a TLV begins
pub tlvs_refusal-first : (b : List ℕ) → 0 < length b → tlvs_refusal 0 b ≡ option_or (tlv_refusal b) (tlvs_refusal 0 (drop (tlv_length b) b))
unfolding tlvs_refusal
tlvs_refusal-first [] some = absurd (omega arith)
tlvs_refusal-first (octet ∷ b) some =
    let n : ℕ = tlv_length (octet ∷ b) in
    ap (option_or (tlv_refusal (octet ∷ b))) (tlvs_refusal-drop (n - 1) b ∙ ap (tlvs_refusal 0) (sym (drop_behind n octet b (omega arith))))

pub tlvs_in-first : (b : List ℕ) → 0 < length b → tlvs_in 0 b ≡ tlv_at b ∷ tlvs_in 0 (drop (tlv_length b) b)
unfolding tlvs_in
tlvs_in-first [] some = absurd (omega arith)
tlvs_in-first (octet ∷ b) some =
    let n : ℕ = tlv_length (octet ∷ b) in
    ap (λ (x : List TlvOf). tlv_at (octet ∷ b) ∷ x) (tlvs_in-drop (n - 1) b ∙ ap (tlvs_in 0) (sym (drop_behind n octet b (omega arith))))

-- where none are left, there is none
pub tlvs_refusal-end : (b : List ℕ) → length b ≡ 0 → tlvs_refusal 0 b ≡ None
unfolding tlvs_refusal
tlvs_refusal-end [] none = refl
tlvs_refusal-end (octet ∷ b) none = absurd (omega arith)

pub tlvs_in-end : (b : List ℕ) → length b ≡ 0 → tlvs_in 0 b ≡ []
unfolding tlvs_in
tlvs_in-end [] none = refl
tlvs_in-end (octet ∷ b) none = absurd (omega arith)
