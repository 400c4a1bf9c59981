-- Octets that begin with a Signaling message: no refusal applies, and they are those of one message, of one length.
use Rattle.std.proofs.Common.{◌≡◌, ◌≢◌, ℕ, ◌-◌, ◌%◌, ◌<◌, ◌≤◌, true, false, List, length, take, drop, get_or, Some, None, refl, sym, ap, subst, ◌∙◌, arith}
use Rattle.std.proofs.lemmas.Bool.{le-ltb}
use Rattle.std.proofs.lemmas.Bool.Decides.{nat_tests}
use Rattle.std.proofs.lemmas.List.{get_or-take, length-take-le, take-take}
use Rattle.std.proofs.lemmas.Slice.{between_to_end}
use Rattle.ptp_units.specs.declared.interval.Interval.{Interval}
use Rattle.ptp_units.specs.declared.sequence.Seq.{Seq}
use Rattle.event_codec.specs.declared.message.Header.{Header}
use Rattle.event_codec.specs.declared.port.PortIdentity.{PortIdentity}
use Rattle.event_codec.specs.declared.refusal.DecodeRefusal.{DecodeRefusal}
use Rattle.event_codec.specs.Header.{header_refusal}
use Rattle.event_codec.specs.Layout.{number}
use Rattle.event_codec.specs.Packet.{IsHeader}
use Rattle.event_codec.proofs.Numbers.{number-take}
use Rattle.event_codec.proofs.Agreement.{IsHeader-agrees}
use Rattle.signaling_codec.specs.declared.refusal.SignalingRefusal.TheVariants.{NoSignaling}
use Rattle.signaling_codec.specs.declared.signaling.Signaling.{Signaling}
use Rattle.signaling_codec.specs.Tlv.{TlvOf, AreTlvs}
use Rattle.signaling_codec.specs.Packet.{IsSignaling}
use Rattle.signaling_codec.specs.Refusal.{is_signaling, signaling_refusal, tlvs_refusal}
use Rattle.signaling_codec.specs.Inner.Parsed.{identity_at, tlvs_in}
use Rattle.signaling_codec.proofs.Records.{identity_is}
use Rattle.signaling_codec.proofs.Sound.{tlvs_sound, tlvs_none, tlvs_only}

-- octets with a header of Signaling, and as many as it says
pub refusal_whole : (b : List ℕ) → is_signaling b ≡ true → 44 ≤ number b 2 2 → number b 2 2 ≤ length b
    → signaling_refusal b ≡ tlvs_refusal 0 (drop 44 (take (number b 2 2) b))
unfolding signaling_refusal
refusal_whole b is long whole = rw (is, le-ltb (number b 2 2) 44 long, le-ltb (length b) (number b 2 2) whole) refl

interval_same : (x y : Interval) → x.0 ≡ y.0 → x ≡ y
interval_same x y h = λ j. record { 0 = h j }

seq_same : (x y : Seq) → x.0 ≡ y.0 → x ≡ y
seq_same x y h = λ j. record { 0 = h j }

header_same : (h g : Header) (kind size : ℕ) (b : List ℕ) → kind < 16 → IsHeader h kind size b → IsHeader g kind size b → h ≡ g
header_same h g kind size b low p q =
    let major : h.major_sdo ≡ g.major_sdo = omega (arith, p.major_sdo_and_type, q.major_sdo_and_type) in
    let minor : h.minor_version ≡ g.minor_version = omega (arith, p.minor_version_and_version, q.minor_version_and_version) in
    let domain : h.domain ≡ g.domain = p.domain ∙ sym q.domain in
    let minor_sdo : h.minor_sdo ≡ g.minor_sdo = p.minor_sdo ∙ sym q.minor_sdo in
    let flags : h.flags ≡ g.flags = p.flags ∙ sym q.flags in
    let correction : h.correction ≡ g.correction = interval_same h.correction g.correction (p.correction ∙ sym q.correction) in
    let specific : h.specific ≡ g.specific = p.specific ∙ sym q.specific in
    let source : h.source ≡ g.source = identity_is h.source b 20 p.source ∙ sym (identity_is g.source b 20 q.source) in
    let sequence : h.sequence ≡ g.sequence = seq_same h.sequence g.sequence (p.sequence ∙ sym q.sequence) in
    let control : h.control ≡ g.control = p.control ∙ sym q.control in
    let log : h.log ≡ g.log = p.log ∙ sym q.log in
    λ j. record { major_sdo = major j; minor_version = minor j; domain = domain j; minor_sdo = minor_sdo j; flags = flags j; correction = correction j; specific = specific j; source = source j; sequence = sequence j; control = control j; log = log j }

-- octets are no two messages
pub signaling_same : (m n : Signaling) (b : List ℕ) → IsSignaling m b → IsSignaling n b → m ≡ n
signaling_same m n b p q =
    let header : m.header ≡ n.header = header_same m.header n.header 12 (length b) b (omega arith) p.header q.header in
    let target : m.target ≡ n.target = identity_is m.target b 34 p.target ∙ sym (identity_is n.target b 34 q.target) in
    let tlvs : m.tlvs ≡ n.tlvs = tlvs_only m.tlvs (drop 44 b) p.tlvs ∙ sym (tlvs_only n.tlvs (drop 44 b) q.tlvs) in
    λ j. record { header = header j; target = target j; tlvs = tlvs j }

-- messageLength can be read in front
pub front_length : (m : Signaling) (b : List ℕ) (n : ℕ) → n ≤ length b → IsSignaling m (take n b) → number b 2 2 ≡ n
front_length m b n fits p =
    let len : length (take n b) ≡ n = length-take-le n b fits in
    sym (number-take b n 2 2 (omega (arith, p.least))) ∙ p.header.message_length ∙ len

-- no refusal applies to octets that begin with a message
pub signaling_none : (m : Signaling) (b : List ℕ) (n : ℕ) → n ≤ length b → IsSignaling m (take n b) → signaling_refusal b ≡ None
signaling_none m b n fits p =
    let len : length (take n b) ≡ n = length-take-le n b fits in
    let long : 44 ≤ n = omega (arith, p.least) in
    let front : number b 2 2 ≡ n = front_length m b n fits p in
    let first : get_or (take n b) 0 0 ≡ get_or b 0 0 = get_or-take n b 0 0 (omega arith) in
    let second : get_or (take n b) 1 0 ≡ get_or b 1 0 = get_or-take n b 1 0 (omega arith) in
    let version : get_or b 1 0 % 16 ≡ 2 = omega (arith, p.header.minor_version_and_version) in
    let kind : get_or b 0 0 % 16 ≡ 12 = omega (arith, p.header.major_sdo_and_type) in
    let is : is_signaling b ≡ true = grind (arith, nat_tests) in
    refusal_whole b is (omega arith) (omega arith)
    ∙ ap (λ (k : ℕ). tlvs_refusal 0 (drop 44 (take k b))) front
    ∙ tlvs_none m.tlvs (drop 44 (take n b)) p.tlvs

-- whether a header is one of Signaling
pub refusal_other : (b : List ℕ) → is_signaling b ≡ false → signaling_refusal b ≡ Some NoSignaling
unfolding signaling_refusal
refusal_other b other = rw other refl

pub header_none : (b : List ℕ) (e : DecodeRefusal) → header_refusal b ≡ Some e → is_signaling b ≡ false
header_none b e refused = grind (arith, nat_tests)

pub header_other : (b : List ℕ) → get_or b 0 0 % 16 ≢ 12 → is_signaling b ≡ false
header_other b other = grind (arith, nat_tests)

pub header_is : (b : List ℕ) → header_refusal b ≡ None → get_or b 0 0 % 16 ≡ 12 → is_signaling b ≡ true
header_is b none kind = grind (arith, nat_tests)

-- the TLVs of the message in front
pub part_is : (b message : List ℕ) → number b 2 2 ≤ length b → message ≡ take (number b 2 2) b
    → take (length message - 44) (drop 44 message) ≡ drop 44 (take (number b 2 2) b)
part_is b message fits is = between_to_end message 44 (length message) (omega arith) ∙ ap (drop 44) is

-- and the whole of it
pub signaling_read : (m : Signaling) (b message : List ℕ) → ((k : ℕ) → get_or b k 0 < 256) → number b 2 2 ≤ length b → message ≡ take (number b 2 2) b
    → 44 ≤ number b 2 2 → IsHeader m.header 12 (number b 2 2) b → m.target ≡ identity_at message 34
    → (m.tlvs ≡ tlvs_in 0 (take (length message - 44) (drop 44 message))) × (tlvs_refusal 0 (take (length message - 44) (drop 44 message)) ≡ None)
    → IsSignaling m (take (number b 2 2) b)
signaling_read m b message fits whole is long header target tlvs =
    let n : ℕ = number b 2 2 in
    let len : length (take n b) ≡ n = length-take-le n b whole in
    let part = part_is b message whole is in
    let none : tlvs_refusal 0 (drop 44 (take n b)) ≡ None = sym (ap (tlvs_refusal 0) part) ∙ tlvs.1 in
    let same : m.tlvs ≡ tlvs_in 0 (drop 44 (take n b)) = tlvs.0 ∙ ap (tlvs_in 0) part in
    let there : m.target ≡ identity_at (take n b) 34 = target ∙ ap (λ (x : List ℕ). identity_at x 34) is in
    record {
      octets = λ k lt. subst (λ (x : ℕ). x < 256) (sym (get_or-take n b k 0 (omega arith))) (fits k);
      least = omega arith;
      header = subst (λ (size : ℕ). IsHeader m.header 12 size (take n b)) (sym len) (IsHeader-agrees m.header 12 n (take n b) b (take-take 34 n b (omega arith)) header);
      target = record { clock = ap (λ (p : PortIdentity). p.clock) there; port = ap (λ (p : PortIdentity). p.port) there };
      tlvs = subst (λ (ts : List TlvOf). AreTlvs ts (drop 44 (take n b))) (sym same) (tlvs_sound (drop 44 (take n b)) none);
    }
