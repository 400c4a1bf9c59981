-- A message with another correction is its octets with another correction.
use Rattle.std.proofs.Common.{◌≡◌, ℕ, ◌+◌, ◌-◌, ◌<◌, ◌≤◌, List, ◌++◌, length, take, drop, get_or, FitsSigned, ℤ, sym, subst, ap, ◌∙◌, arith}
use Rattle.std.specs.Int.{w64, cast_signed, cast_unsigned, to_be_bytes}
use Rattle.std.proofs.lemmas.Int.{ints, to_z-of_z}
use Rattle.std.proofs.lemmas.List.{get_or-take, drop_at, drop-take, length-append, length-drop, length-take-le, take-take, take_at}
use Rattle.ptp_units.specs.declared.interval.Interval.{Interval}
use Rattle.event_codec.specs.Layout.{number, number_of, type_of, fields_length, stamp_in}
use Rattle.event_codec.specs.Packet.{Contents, Packet}
use Rattle.event_codec.specs.Correction.{corrected, with_correction}
use Rattle.event_codec.proofs.Fields.{fields_length_above}
use Rattle.event_codec.proofs.Numbers.{number-take, number-to_be_bytes_8}
use Rattle.event_codec.proofs.Agreement.{drop_further, number_agrees, IsHeader-corrected, IsTimestampAt-agrees, IsRequesting-agrees}

-- the octets before the correction, its own, and those after it
pub record IsCorrected (a b : List ℕ) (c : ℤ) : Type 0 where
  pub front : take 8 a ≡ take 8 b
  pub correction : c ≡ cast_signed w64 (number a 8 8)
  pub back : drop 16 a ≡ drop 16 b
  pub same : length a ≡ length b

IsCorrected-corrected : (b : List ℕ) (c : ℤ) → FitsSigned w64 c → 16 ≤ length b → IsCorrected (corrected b c) b c
IsCorrected-corrected b c fits long =
    let bytes : List ℕ = to_be_bytes w64 (cast_unsigned w64 c) in
    let front : List ℕ = take 8 b in
    let len : length front ≡ 8 = length-take-le 8 b (omega arith) in
    let begin : length (front ++ bytes) ≡ 16 = omega (arith, length-append front bytes) in
    let known : take 16 (corrected b c) ≡ front ++ bytes = take_at (front ++ bytes) (drop 16 b) 16 begin in
    let middle : take 8 (drop 8 (corrected b c)) ≡ take 8 bytes = sym (drop-take 8 8 (corrected b c)) ∙ ap (drop 8) known ∙ drop_at front bytes 8 len in
    let written : number (corrected b c) 8 8 ≡ cast_unsigned w64 c =
    number_agrees 8 8 0 (corrected b c) bytes middle 0 8 (omega arith) ∙ number-to_be_bytes_8 (cast_unsigned w64 c) (omega (arith, ints, fits)) in
    record {
      front = sym (take-take 8 16 (corrected b c) (omega arith)) ∙ ap (take 8) known ∙ take_at front bytes 8 len;
      correction = sym (ap (cast_signed w64) written ∙ to_z-of_z w64 c fits);
      back = drop_at (front ++ bytes) (drop 16 b) 16 begin;
      same = omega (arith, length-append (front ++ bytes) (drop 16 b), length-drop 16 b);
    }

-- of a part that ends after the correction
IsCorrected-take : (a b : List ℕ) (c : ℤ) (n : ℕ) → 16 ≤ n → n ≤ length b → IsCorrected a b c → IsCorrected (take n a) (take n b) c
IsCorrected-take a b c n le fits h =
    let k : 16 + (n - 16) ≡ n = omega arith in
    let back : drop 16 (take (16 + (n - 16)) a) ≡ drop 16 (take (16 + (n - 16)) b) = drop-take 16 (n - 16) a ∙ ap (take (n - 16)) h.back ∙ sym (drop-take 16 (n - 16) b) in
    record {
      front = take-take 8 n a (omega arith) ∙ h.front ∙ sym (take-take 8 n b (omega arith));
      correction = h.correction ∙ ap (cast_signed w64) (sym (number-take a n 8 8 (omega arith)));
      back = ap (λ (i : ℕ). drop 16 (take i a)) (sym k) ∙ back ∙ ap (λ (i : ℕ). drop 16 (take i b)) k;
      same = length-take-le n a (omega (arith, h.same)) ∙ sym (length-take-le n b fits);
    }

Packet-IsCorrected : (m : Contents) (a b : List ℕ) (c : Interval) → ((k : ℕ) → k < length a → get_or a k 0 < 256) → IsCorrected a b c.0 → Packet m b → Packet (with_correction m c) a
Packet-IsCorrected m a b c octets h p =
    let back = λ (n : ℕ). ap (take n) h.back in
    record {
      octets = octets;
      least = omega (arith, p.least, h.same);
      header = rw h.same (IsHeader-corrected m.header c (number_of (type_of m.body)) (length b) a b h.front (back 18) h.correction p.header);
      timestamp = IsTimestampAt-agrees 28 16 16 a b (back 28) (stamp_in m.body) 18 (omega arith) p.timestamp;
      requesting = IsRequesting-agrees m.body a b (back (fields_length (type_of m.body) - 16)) p.requesting;
      suffix = p.suffix ∙ sym (drop_further 16 (fields_length (type_of m.body)) a b (omega (arith, fields_length_above (type_of m.body))) h.back);
    }

-- a message in front keeps all but its correction
pub Packet-corrected : (old new : List ℕ) (c : Interval) → FitsSigned w64 c.0 → ((k : ℕ) → get_or new k 0 < 256) → new ≡ corrected old c.0
    → (m : Contents) (n : ℕ) → n ≤ length old → Packet m (take n old) → Packet (with_correction m c) (take n new)
Packet-corrected old new c fits octets patched = λ m n whole p.
    let above = fields_length_above (type_of m.body) in
    let len : length (take n old) ≡ n = length-take-le n old whole in
    let all : IsCorrected new old c.0 = subst (λ (x : List ℕ). IsCorrected x old c.0) (sym patched) (IsCorrected-corrected old c.0 fits (omega (arith, p.least))) in
    let part : IsCorrected (take n new) (take n old) c.0 = IsCorrected-take new old c.0 n (omega (arith, p.least)) whole all in
    let low = λ (k : ℕ) (lt : k < length (take n new)). subst (λ (x : ℕ). x < 256) (sym (get_or-take n new k 0 (omega (arith, part.same)))) (octets k) in
    Packet-IsCorrected m (take n new) (take n old) c low part p
