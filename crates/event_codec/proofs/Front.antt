-- The refusals of octets whose header and length are sound.
use Rattle.std.proofs.Common.{◌≡◌, ℕ, ◌%◌, ◌^◌, ◌≤◌, List, length, take, get_or, Some, None, cond, ltb, refl, sym, ap, ◌∙◌, arith}
use Rattle.std.proofs.lemmas.Bool.{le-ltb, eq-eqb}
use Rattle.event_codec.specs.declared.message_type.MessageType.{MessageType}
use Rattle.event_codec.specs.declared.refusal.DecodeRefusal.TheVariants.{Nanoseconds}
use Rattle.event_codec.specs.Layout.{number, number_of, type_numbered, fields_length}
use Rattle.event_codec.specs.Refusal.{body_refusal, decode_refusal}
use Rattle.event_codec.proofs.Fields.{type_numbered-number_of, fields_length_above}
use Rattle.event_codec.proofs.Numbers.{number-take}

-- octets with a header of a known type, and as many octets as it says
pub record IsWhole (b : List ℕ) (kind : MessageType) : Type 0 where
  pub header : 34 ≤ length b
  pub version : get_or b 1 0 % 16 ≡ 2
  pub numbered : get_or b 0 0 % 16 ≡ number_of kind
  pub long : fields_length kind ≤ number b 2 2
  pub whole : number b 2 2 ≤ length b

-- then the nanoseconds decide
pub decode_refusal-whole : (b : List ℕ) (kind : MessageType) → IsWhole b kind → decode_refusal b ≡ cond (ltb (number b 40 4) (10 ^ 9)) None (Some Nanoseconds)
unfolding decode_refusal
decode_refusal-whole b kind s =
    rw (le-ltb (length b) 34 s.header, eq-eqb (get_or b 1 0 % 16) 2 s.version)
    (ap (body_refusal b) (ap type_numbered s.numbered ∙ type_numbered-number_of kind)
    ∙ rw (le-ltb (number b 2 2) (fields_length kind) s.long, le-ltb (length b) (number b 2 2) s.whole) refl)

-- the same by the octets up to messageLength
pub decode_refusal-packet : (b packet : List ℕ) (kind : MessageType) → 34 ≤ length b → get_or b 1 0 % 16 ≡ 2 → get_or b 0 0 % 16 ≡ number_of kind
    → fields_length kind ≤ number b 2 2 → number b 2 2 ≤ length b → packet ≡ take (number b 2 2) b
    → decode_refusal b ≡ cond (ltb (number packet 40 4) (10 ^ 9)) None (Some Nanoseconds)
decode_refusal-packet b packet kind header version is long whole front =
    let fits : 44 ≤ number b 2 2 = omega (arith, fields_length_above kind) in
    decode_refusal-whole b kind (record { header = header; version = version; numbered = is; long = long; whole = whole })
    ∙ ap (λ (n : ℕ). cond (ltb n (10 ^ 9)) None (Some Nanoseconds)) (sym (ap (λ (x : List ℕ). number x 40 4) front ∙ number-take b (number b 2 2) 40 4 (omega arith)))
