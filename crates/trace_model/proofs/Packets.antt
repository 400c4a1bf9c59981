-- The test of a message's octets decides `Packet`.
use Rattle.std.proofs.Common.{◌≡◌, ℕ, ◌+◌, ◌*◌, ◌^◌, ◌<◌, ◌≤◌, Bool, true, false, ◌&&◌, not, List, [], ◌∷◌}
use Rattle.std.proofs.Common.{length, drop, Decides, refl, sym, subst, ◌∙◌, arith, suc, ◌==◌, Some}
use Rattle.std.specs.Prelude.{nat_lt, slice_index, slice_range, EachIndex}
use Rattle.std.specs.Int.{w8, w64, cast_signed}
use Rattle.std.specs.List.{list_all}
use Rattle.std.specs.Ordering.{int_eq}
use Rattle.std.specs.Str.{bytes_eq}
use Rattle.std.proofs.lemmas.Bool.{and_from, lt-ltb, false≢true}
use Rattle.std.proofs.lemmas.Bool.Decides.{Decides-eqb, Decides-int_eq, Decides-ltb, Decides-and}
use Rattle.std.proofs.lemmas.Bool.Decides.{Decides-like, nat_tests, same_from_decides}
use Rattle.std.proofs.lemmas.Slice.Eq.{bytes_eq-Decides}
use Rattle.event_codec.specs.declared.message.Body.{Body}
use Rattle.event_codec.specs.declared.message.Body.TheVariants as bodies
use Rattle.event_codec.specs.declared.port.PortIdentity.{PortIdentity}
use Rattle.event_codec.specs.Layout.{number, number_of, type_of, fields_length, stamp_in}
use Rattle.event_codec.specs.Packet.{Contents, Packet, IsIdentityAt, IsRequesting}
use Rattle.event_codec.specs.declared.refusal.EncodeRefusal.{EncodeRefusal}
use Rattle.event_codec.specs.EncodeRefusal.{encode_refusal}
use Rattle.event_codec.specs.Refusal.{message_length}
use Rattle.event_codec.proofs.Lengths.{length-Packet, all_octets}
use Rattle.trace_model.specs.Octets.{is_identity_at, is_requesting, is_packet}

octets_tested : (b : List ℕ) → EachIndex b (λ k. slice_index b k < 256) → list_all (λ octet. nat_lt octet 256) b ≡ true
octets_tested [] h = refl
octets_tested (x ∷ xs) h = and_from (nat_lt x 256) _ (lt-ltb x 256 (h 0 (omega arith)))
    (octets_tested xs (λ k within. h (suc k) (omega arith)))

octets_decided : (b : List ℕ)
    → Decides (list_all (λ octet. nat_lt octet 256) b) (EachIndex b (λ k. slice_index b k < 256))
octets_decided b = (all_octets b, octets_tested b)

pub Decides-at_most : (m n : ℕ) → Decides (not (nat_lt n m)) (m ≤ n)
Decides-at_most m n = grind (arith, nat_tests)

pub identity_decided : (identity : PortIdentity) (b : List ℕ) (i : ℕ)
    → Decides (is_identity_at identity b i) (IsIdentityAt identity b i)
identity_decided identity b i = Decides-like (is_identity_at identity b i)
    (λ p. record { clock = p.0; port = p.1 }) (λ p. (p.clock, p.port))
    (Decides-and (bytes_eq identity.clock (slice_range b i (i + 8))) (identity.port == number b (i + 8) 2)
    (bytes_eq-Decides _ _) (Decides-eqb _ _))

pub requesting_decided : (body : Body) (b : List ℕ) → Decides (is_requesting body b) (IsRequesting body b)
requesting_decided (bodies.DelayResp receive requesting) b = identity_decided requesting b 44
requesting_decided _ b = (λ _. tt, λ _. refl)

abbrev Both : Type 0 → Type 0 → Type 0
Both P Q = P × Q

both : {P Q : Type 0} (x y : Bool) → Decides x P → Decides y Q → Decides (x && y) (Both P Q)
both x y p q = Decides-and x y p q

abbrev Parts1 : Contents → List ℕ → Type 0
Parts1 m b = Both (EachIndex b (λ k. slice_index b k < 256)) (number b 2 2 ≡ length b)

abbrev tests1 : Contents → List ℕ → Bool
tests1 m b = (list_all (λ octet. nat_lt octet 256) b) && number b 2 2 == length b

decided1 : (m : Contents) (b : List ℕ) → Decides (tests1 m b) (Parts1 m b)
decided1 m b = both (list_all (λ octet. nat_lt octet 256) b) (number b 2 2 == length b) (octets_decided b)
    (Decides-eqb _ _)

abbrev Parts2 : Contents → List ℕ → Type 0
Parts2 m b = Both (Parts1 m b) (fields_length (type_of m.body) ≤ length b)

abbrev tests2 : Contents → List ℕ → Bool
tests2 m b = (tests1 m b) && not (nat_lt (length b) (fields_length (type_of m.body)))

decided2 : (m : Contents) (b : List ℕ) → Decides (tests2 m b) (Parts2 m b)
decided2 m b = both (tests1 m b) (not (nat_lt (length b) (fields_length (type_of m.body)))) (decided1 m b)
    (Decides-at_most (fields_length (type_of m.body)) (length b))

abbrev Parts3 : Contents → List ℕ → Type 0
Parts3 m b = Both (Parts2 m b) (slice_index b 0 ≡ 16 * m.header.major_sdo + number_of (type_of m.body))

abbrev tests3 : Contents → List ℕ → Bool
tests3 m b = (tests2 m b) && slice_index b 0 == 16 * m.header.major_sdo + number_of (type_of m.body)

decided3 : (m : Contents) (b : List ℕ) → Decides (tests3 m b) (Parts3 m b)
decided3 m b = both (tests2 m b) (slice_index b 0 == 16 * m.header.major_sdo + number_of (type_of m.body))
    (decided2 m b) (Decides-eqb _ _)

abbrev Parts4 : Contents → List ℕ → Type 0
Parts4 m b = Both (Parts3 m b) (slice_index b 1 ≡ 16 * m.header.minor_version + 2)

abbrev tests4 : Contents → List ℕ → Bool
tests4 m b = (tests3 m b) && slice_index b 1 == 16 * m.header.minor_version + 2

decided4 : (m : Contents) (b : List ℕ) → Decides (tests4 m b) (Parts4 m b)
decided4 m b = both (tests3 m b) (slice_index b 1 == 16 * m.header.minor_version + 2) (decided3 m b) (Decides-eqb _ _)

abbrev Parts5 : Contents → List ℕ → Type 0
Parts5 m b = Both (Parts4 m b) (m.header.domain ≡ slice_index b 4)

abbrev tests5 : Contents → List ℕ → Bool
tests5 m b = (tests4 m b) && m.header.domain == slice_index b 4

decided5 : (m : Contents) (b : List ℕ) → Decides (tests5 m b) (Parts5 m b)
decided5 m b = both (tests4 m b) (m.header.domain == slice_index b 4) (decided4 m b) (Decides-eqb _ _)

abbrev Parts6 : Contents → List ℕ → Type 0
Parts6 m b = Both (Parts5 m b) (m.header.minor_sdo ≡ slice_index b 5)

abbrev tests6 : Contents → List ℕ → Bool
tests6 m b = (tests5 m b) && m.header.minor_sdo == slice_index b 5

decided6 : (m : Contents) (b : List ℕ) → Decides (tests6 m b) (Parts6 m b)
decided6 m b = both (tests5 m b) (m.header.minor_sdo == slice_index b 5) (decided5 m b) (Decides-eqb _ _)

abbrev Parts7 : Contents → List ℕ → Type 0
Parts7 m b = Both (Parts6 m b) (m.header.flags ≡ slice_range b 6 8)

abbrev tests7 : Contents → List ℕ → Bool
tests7 m b = (tests6 m b) && bytes_eq m.header.flags (slice_range b 6 8)

decided7 : (m : Contents) (b : List ℕ) → Decides (tests7 m b) (Parts7 m b)
decided7 m b = both (tests6 m b) (bytes_eq m.header.flags (slice_range b 6 8)) (decided6 m b) (bytes_eq-Decides _ _)

abbrev Parts8 : Contents → List ℕ → Type 0
Parts8 m b = Both (Parts7 m b) (m.header.correction.0 ≡ cast_signed w64 (number b 8 8))

abbrev tests8 : Contents → List ℕ → Bool
tests8 m b = (tests7 m b) && int_eq m.header.correction.0 (cast_signed w64 (number b 8 8))

decided8 : (m : Contents) (b : List ℕ) → Decides (tests8 m b) (Parts8 m b)
decided8 m b = both (tests7 m b) (int_eq m.header.correction.0 (cast_signed w64 (number b 8 8))) (decided7 m b)
    (Decides-int_eq _ _)

abbrev Parts9 : Contents → List ℕ → Type 0
Parts9 m b = Both (Parts8 m b) (m.header.specific ≡ slice_range b 16 20)

abbrev tests9 : Contents → List ℕ → Bool
tests9 m b = (tests8 m b) && bytes_eq m.header.specific (slice_range b 16 20)

decided9 : (m : Contents) (b : List ℕ) → Decides (tests9 m b) (Parts9 m b)
decided9 m b = both (tests8 m b) (bytes_eq m.header.specific (slice_range b 16 20)) (decided8 m b)
    (bytes_eq-Decides _ _)

abbrev Parts10 : Contents → List ℕ → Type 0
Parts10 m b = Both (Parts9 m b) (IsIdentityAt m.header.source b 20)

abbrev tests10 : Contents → List ℕ → Bool
tests10 m b = (tests9 m b) && is_identity_at m.header.source b 20

decided10 : (m : Contents) (b : List ℕ) → Decides (tests10 m b) (Parts10 m b)
decided10 m b = both (tests9 m b) (is_identity_at m.header.source b 20) (decided9 m b)
    (identity_decided m.header.source b 20)

abbrev Parts11 : Contents → List ℕ → Type 0
Parts11 m b = Both (Parts10 m b) (m.header.sequence.0 ≡ number b 30 2)

abbrev tests11 : Contents → List ℕ → Bool
tests11 m b = (tests10 m b) && m.header.sequence.0 == number b 30 2

decided11 : (m : Contents) (b : List ℕ) → Decides (tests11 m b) (Parts11 m b)
decided11 m b = both (tests10 m b) (m.header.sequence.0 == number b 30 2) (decided10 m b) (Decides-eqb _ _)

abbrev Parts12 : Contents → List ℕ → Type 0
Parts12 m b = Both (Parts11 m b) (m.header.control ≡ slice_index b 32)

abbrev tests12 : Contents → List ℕ → Bool
tests12 m b = (tests11 m b) && m.header.control == slice_index b 32

decided12 : (m : Contents) (b : List ℕ) → Decides (tests12 m b) (Parts12 m b)
decided12 m b = both (tests11 m b) (m.header.control == slice_index b 32) (decided11 m b) (Decides-eqb _ _)

abbrev Parts13 : Contents → List ℕ → Type 0
Parts13 m b = Both (Parts12 m b) (m.header.log ≡ cast_signed w8 (slice_index b 33))

abbrev tests13 : Contents → List ℕ → Bool
tests13 m b = (tests12 m b) && int_eq m.header.log (cast_signed w8 (slice_index b 33))

decided13 : (m : Contents) (b : List ℕ) → Decides (tests13 m b) (Parts13 m b)
decided13 m b = both (tests12 m b) (int_eq m.header.log (cast_signed w8 (slice_index b 33))) (decided12 m b)
    (Decides-int_eq _ _)

abbrev Parts14 : Contents → List ℕ → Type 0
Parts14 m b = Both (Parts13 m b) ((stamp_in m.body).seconds ≡ number b 34 6)

abbrev tests14 : Contents → List ℕ → Bool
tests14 m b = (tests13 m b) && (stamp_in m.body).seconds == number b 34 6

decided14 : (m : Contents) (b : List ℕ) → Decides (tests14 m b) (Parts14 m b)
decided14 m b = both (tests13 m b) ((stamp_in m.body).seconds == number b 34 6) (decided13 m b) (Decides-eqb _ _)

abbrev Parts15 : Contents → List ℕ → Type 0
Parts15 m b = Both (Parts14 m b) ((stamp_in m.body).nanos ≡ number b 40 4)

abbrev tests15 : Contents → List ℕ → Bool
tests15 m b = (tests14 m b) && (stamp_in m.body).nanos == number b 40 4

decided15 : (m : Contents) (b : List ℕ) → Decides (tests15 m b) (Parts15 m b)
decided15 m b = both (tests14 m b) ((stamp_in m.body).nanos == number b 40 4) (decided14 m b) (Decides-eqb _ _)

abbrev Parts16 : Contents → List ℕ → Type 0
Parts16 m b = Both (Parts15 m b) (number b 40 4 < 10 ^ 9)

abbrev tests16 : Contents → List ℕ → Bool
tests16 m b = (tests15 m b) && nat_lt (number b 40 4) (10 ^ 9)

decided16 : (m : Contents) (b : List ℕ) → Decides (tests16 m b) (Parts16 m b)
decided16 m b = both (tests15 m b) (nat_lt (number b 40 4) (10 ^ 9)) (decided15 m b) (Decides-ltb _ _)

abbrev Parts17 : Contents → List ℕ → Type 0
Parts17 m b = Both (Parts16 m b) (IsRequesting m.body b)

abbrev tests17 : Contents → List ℕ → Bool
tests17 m b = (tests16 m b) && is_requesting m.body b

decided17 : (m : Contents) (b : List ℕ) → Decides (tests17 m b) (Parts17 m b)
decided17 m b = both (tests16 m b) (is_requesting m.body b) (decided16 m b) (requesting_decided m.body b)

abbrev Parts18 : Contents → List ℕ → Type 0
Parts18 m b = Both (Parts17 m b) (m.suffix ≡ drop (fields_length (type_of m.body)) b)

abbrev tests18 : Contents → List ℕ → Bool
tests18 m b = (tests17 m b) && bytes_eq m.suffix (drop (fields_length (type_of m.body)) b)

decided18 : (m : Contents) (b : List ℕ) → Decides (tests18 m b) (Parts18 m b)
decided18 m b = both (tests17 m b) (bytes_eq m.suffix (drop (fields_length (type_of m.body)) b)) (decided17 m b)
    (bytes_eq-Decides _ _)

packet_told : (m : Contents) (b : List ℕ) → Parts18 m b → Packet m b
packet_told m b p = record {
  octets = p.0.0.0.0.0.0.0.0.0.0.0.0.0.0.0.0.0.0;
  least = p.0.0.0.0.0.0.0.0.0.0.0.0.0.0.0.0.1;
  header = record {
    major_sdo_and_type = p.0.0.0.0.0.0.0.0.0.0.0.0.0.0.0.1;
    minor_version_and_version = p.0.0.0.0.0.0.0.0.0.0.0.0.0.0.1;
    message_length =
        p.0.0.0.0.0.0.0.0.0.0.0.0.0.0.0.0.0.1;
    domain = p.0.0.0.0.0.0.0.0.0.0.0.0.0.1;
    minor_sdo =
        p.0.0.0.0.0.0.0.0.0.0.0.0.1;
    flags = p.0.0.0.0.0.0.0.0.0.0.0.1;
    correction = p.0.0.0.0.0.0.0.0.0.0.1;
    specific = p.0.0.0.0.0.0.0.0.0.1;
    source = p.0.0.0.0.0.0.0.0.1;
    sequence = p.0.0.0.0.0.0.0.1;
    control = p.0.0.0.0.0.0.1;
    log = p.0.0.0.0.0.1;
  };
  timestamp = record { seconds = p.0.0.0.0.1; nanoseconds = p.0.0.0.1; within_second = p.0.0.1 };
  requesting = p.0.1;
  suffix = p.1;
}

parts_of : (m : Contents) (b : List ℕ) → Packet m b → Parts18 m b
parts_of m b packet =
    ((((((((((((((((((packet.octets, packet.header.message_length), packet.least), packet.header.major_sdo_and_type), packet.header.minor_version_and_version), packet.header.domain), packet.header.minor_sdo), packet.header.flags), packet.header.correction), packet.header.specific), packet.header.source), packet.header.sequence), packet.header.control), packet.header.log), packet.timestamp.seconds), packet.timestamp.nanoseconds), packet.timestamp.within_second), packet.requesting), packet.suffix)

-- the test is true exactly where the octets are the message
pub is_packet-Decides : (m : Contents) (b : List ℕ) → Decides (is_packet m b) (Packet m b)
is_packet-Decides m b = Decides-like (is_packet m b) (packet_told m b) (parts_of m b) (decided18 m b)

-- octets are the message where they are the octets that were written of it
pub is_packet-written : (m : Contents) (b room : List ℕ) (same : Bool) → Packet m room
    → ((c : List ℕ) → Packet m c → room ≡ c) → same ≡ bytes_eq b room → same ≡ is_packet m b
is_packet-written m b room same written again tested =
    let decided : Decides same (Packet m b) = (
      λ h. let P : List ℕ → Type 0 =
          λ c. Packet m c in subst P (sym ((bytes_eq-Decides b room).0 (sym tested ∙ h))) written,
      λ packet. tested ∙ (bytes_eq-Decides b room).1 (sym (again b packet)),
    ) in same_from_decides same (is_packet m b) decided (is_packet-Decides m b)

not_refused : (m : Contents) (refusal : EncodeRefusal) (n : ℕ) → n ≡ message_length m → n ≤ 54
    → encode_refusal m 54 ≡ Some refusal → ⊥
not_refused m refusal n same within refused = grind (arith, nat_tests)

-- octets that are too few for a message aren't the message
pub is_packet-refused : (m : Contents) (b : List ℕ) (refusal : EncodeRefusal) → length b ≤ 54
    → encode_refusal m 54 ≡ Some refusal → false ≡ is_packet m b
is_packet-refused m b refusal within refused =
    let decided : Decides false (Packet m b) = (
      λ h. absurd (false≢true h),
      λ packet. absurd (not_refused m refusal (length b) (length-Packet m b packet) within refused),
    ) in same_from_decides false (is_packet m b) decided (is_packet-Decides m b)
