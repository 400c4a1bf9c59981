-- A message has one spelling: octets that are the same message are the same octets.
use Rattle.std.proofs.Common.{◌≡◌, ℕ, zero, suc, ◌+◌, ◌^◌, ◌<◌, ◌≤◌, List, ◌++◌, length, take, drop, get_or, slice_range, refl, sym, ap, ◌∙◌, arith}
use Rattle.std.specs.Int.{w8, w64, cast_signed, cast_unsigned}
use Rattle.std.proofs.lemmas.Int.{of_z-to_z}
use Rattle.std.proofs.lemmas.List.{length-drop, take-take, take-append-drop, take_more_same}
use Rattle.std.proofs.lemmas.Slice.{between_is}
use Rattle.event_codec.specs.declared.message.Header.{Header}
use Rattle.event_codec.specs.declared.message.Body.{Body}
use Rattle.event_codec.specs.declared.message.Body.TheVariants.{Sync, DelayReq, FollowUp, DelayResp}
use Rattle.event_codec.specs.declared.port.PortIdentity.{PortIdentity}
use Rattle.event_codec.specs.Layout.{number, number_of, type_of, fields_length}
use Rattle.event_codec.specs.Packet.{Contents, Packet, IsHeader, IsIdentityAt, IsRequesting}
use Rattle.event_codec.proofs.Fields.{fields_length_above}

abbrev AreOctets : List ℕ → Type 0
AreOctets b = (k : ℕ) → k < length b → get_or b k 0 < 256

below_64 : (b : List ℕ) → AreOctets b → 16 ≤ length b → number b 8 8 < 2 ^ 64
below_64 b fits le =
    omega (arith, fits 8 (omega arith), fits 9 (omega arith), fits 10 (omega arith), fits 11 (omega arith), fits 12 (omega arith), fits 13 (omega arith), fits 14 (omega arith), fits 15 (omega arith))

signed_64 : (x y : ℕ) → x < 2 ^ 64 → y < 2 ^ 64 → cast_signed w64 x ≡ cast_signed w64 y → x ≡ y
signed_64 x y p q e = sym (of_z-to_z w64 x p) ∙ ap (cast_unsigned w64) e ∙ of_z-to_z w64 y q

signed_8 : (x y : ℕ) → x < 2 ^ 8 → y < 2 ^ 8 → cast_signed w8 x ≡ cast_signed w8 y → x ≡ y
signed_8 x y p q e = sym (of_z-to_z w8 x p) ∙ ap (cast_unsigned w8) e ∙ of_z-to_z w8 y q

-- two lists agree in their first i octets, and a field further
module _ (a b : List ℕ) (fits_a : AreOctets a) (fits_b : AreOctets b) (same : length a ≡ length b) where
  octet_goes_on : (i : ℕ) → i < length a → take i a ≡ take i b → get_or a i 0 ≡ get_or b i 0 → take (i + 1) a ≡ take (i + 1) b
  octet_goes_on i lt agree e = take_more_same a b i 0 lt (omega arith) agree e

  number_goes_on : (i count : ℕ) → i + count ≤ length a → take i a ≡ take i b → number a i count ≡ number b i count → take (i + count) a ≡ take (i + count) b
  number_goes_on i zero le agree e = let stays : i + 0 ≡ i = omega arith in rw stays agree
  number_goes_on i (suc count) le agree e =
      let low_a = fits_a (i + count) (omega arith) in
      let low_b = fits_b (i + count) (omega arith) in
      let front : number a i count ≡ number b i count = omega arith in
      let last : get_or a (i + count) 0 ≡ get_or b (i + count) 0 = omega arith in
      let further : i + suc count ≡ (i + count) + 1 = omega arith in
      rw further (octet_goes_on (i + count) (omega arith) (number_goes_on i count (omega arith) agree front) last)

  range_goes_on : (i j : ℕ) → i ≤ j → take i a ≡ take i b → slice_range a i j ≡ slice_range b i j → take j a ≡ take j b
  range_goes_on i j le agree e =
      sym (take-append-drop i (take j a))
      ∙ ap (λ (x : List ℕ). x ++ drop i (take j a)) (take-take i j a le ∙ agree ∙ sym (take-take i j b le))
      ∙ ap (λ (x : List ℕ). take i (take j b) ++ x) (sym (between_is a i j) ∙ e ∙ between_is b i j)
      ∙ take-append-drop i (take j b)

  identity_goes_on : (p : PortIdentity) (i : ℕ) → i + 10 ≤ length a → take i a ≡ take i b → IsIdentityAt p a i → IsIdentityAt p b i → take (i + 10) a ≡ take (i + 10) b
  identity_goes_on p i le agree h k =
      let clock : take (i + 8) a ≡ take (i + 8) b = range_goes_on i (i + 8) (omega arith) agree (sym h.clock ∙ k.clock) in
      let further : i + 10 ≡ (i + 8) + 2 = omega arith in
      rw further (number_goes_on (i + 8) 2 (omega arith) clock (sym h.port ∙ k.port))

  requesting_goes_on : (x : Body) → fields_length (type_of x) ≤ length a → take 44 a ≡ take 44 b → IsRequesting x a → IsRequesting x b → take (fields_length (type_of x)) a ≡ take (fields_length (type_of x)) b
  requesting_goes_on (Sync s) le agree h k = agree
  requesting_goes_on (DelayReq s) le agree h k = agree
  requesting_goes_on (FollowUp s) le agree h k = agree
  requesting_goes_on (DelayResp s p) le agree h k = identity_goes_on p 44 le agree h k

  header_goes_on : (h : Header) (kind size : ℕ) → 34 ≤ length a → IsHeader h kind size a → IsHeader h kind size b → take 34 a ≡ take 34 b
  header_goes_on h kind size le p q =
      let t1 : take 1 a ≡ take 1 b = octet_goes_on 0 (omega arith) refl (p.major_sdo_and_type ∙ sym q.major_sdo_and_type) in
      let t2 : take 2 a ≡ take 2 b = octet_goes_on 1 (omega arith) t1 (p.minor_version_and_version ∙ sym q.minor_version_and_version) in
      let t4 : take 4 a ≡ take 4 b = number_goes_on 2 2 (omega arith) t2 (p.message_length ∙ sym q.message_length) in
      let t5 : take 5 a ≡ take 5 b = octet_goes_on 4 (omega arith) t4 (sym p.domain ∙ q.domain) in
      let t6 : take 6 a ≡ take 6 b = octet_goes_on 5 (omega arith) t5 (sym p.minor_sdo ∙ q.minor_sdo) in
      let t8 : take 8 a ≡ take 8 b = range_goes_on 6 8 (omega arith) t6 (sym p.flags ∙ q.flags) in
      let correction : number a 8 8 ≡ number b 8 8 = signed_64 (number a 8 8) (number b 8 8) (below_64 a fits_a (omega arith)) (below_64 b fits_b (omega arith)) (sym p.correction ∙ q.correction) in
      let t16 : take 16 a ≡ take 16 b = number_goes_on 8 8 (omega arith) t8 correction in
      let t20 : take 20 a ≡ take 20 b = range_goes_on 16 20 (omega arith) t16 (sym p.specific ∙ q.specific) in
      let t30 : take 30 a ≡ take 30 b = identity_goes_on h.source 20 (omega arith) t20 p.source q.source in
      let t32 : take 32 a ≡ take 32 b = number_goes_on 30 2 (omega arith) t30 (sym p.sequence ∙ q.sequence) in
      let t33 : take 33 a ≡ take 33 b = octet_goes_on 32 (omega arith) t32 (sym p.control ∙ q.control) in
      let log : get_or a 33 0 ≡ get_or b 33 0 = signed_8 (get_or a 33 0) (get_or b 33 0) (fits_a 33 (omega arith)) (fits_b 33 (omega arith)) (sym p.log ∙ q.log) in
      octet_goes_on 33 (omega arith) t33 log

  fields_go_on : (m : Contents) → Packet m a → Packet m b → take (fields_length (type_of m.body)) a ≡ take (fields_length (type_of m.body)) b
  fields_go_on m p q =
      let above = fields_length_above (type_of m.body) in
      let long : fields_length (type_of m.body) ≤ length a = p.least in
      let header : IsHeader m.header (number_of (type_of m.body)) (length a) b = rw same q.header in
      let t34 : take 34 a ≡ take 34 b = header_goes_on m.header (number_of (type_of m.body)) (length a) (omega arith) p.header header in
      let t40 : take 40 a ≡ take 40 b = number_goes_on 34 6 (omega arith) t34 (sym p.timestamp.seconds ∙ q.timestamp.seconds) in
      let t44 : take 44 a ≡ take 44 b = number_goes_on 40 4 (omega arith) t40 (sym p.timestamp.nanoseconds ∙ q.timestamp.nanoseconds) in
      requesting_goes_on m.body p.least t44 p.requesting q.requesting

pub octets_same : (m : Contents) (a b : List ℕ) → Packet m a → Packet m b → a ≡ b
octets_same m a b p q =
    let f : ℕ = fields_length (type_of m.body) in
    let rest : drop f a ≡ drop f b = sym p.suffix ∙ q.suffix in
    let same : length a ≡ length b = omega (arith, p.least, q.least, ap (length {A = ℕ}) rest, length-drop f a, length-drop f b) in
    sym (take-append-drop f a) ∙ ap (λ (x : List ℕ). x ++ drop f a) (fields_go_on a b p.octets q.octets same m p q) ∙ ap (λ (x : List ℕ). take f b ++ x) rest ∙ take-append-drop f b
