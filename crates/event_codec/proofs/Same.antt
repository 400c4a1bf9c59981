-- Octets are those of one message, of one length.
use Rattle.std.proofs.Common.{◌≡◌, ℕ, ◌+◌, ◌^◌, ◌<◌, ◌≤◌, List, length, take, get_or, slice_range, drop, None, refl, sym, ap, ◌∙◌, arith}
use Rattle.std.proofs.lemmas.Bool.{lt-ltb}
use Rattle.std.proofs.lemmas.List.{get_or-take, length-take-le}
use Rattle.ptp_units.specs.Moment.{Stamp}
use Rattle.ptp_units.specs.declared.interval.Interval.{Interval}
use Rattle.ptp_units.specs.declared.sequence.Seq.{Seq}
use Rattle.event_codec.specs.declared.message_type.MessageType.{MessageType}
use Rattle.event_codec.specs.declared.message_type.MessageType.TheVariants as types
use Rattle.event_codec.specs.declared.message.Header.{Header}
use Rattle.event_codec.specs.declared.message.Body.{Body}
use Rattle.event_codec.specs.declared.message.Body.TheVariants.{Sync, DelayReq, FollowUp, DelayResp}
use Rattle.event_codec.specs.declared.port.PortIdentity.{PortIdentity}
use Rattle.event_codec.specs.Layout.{number, number_of, type_of, fields_length, stamp_in}
use Rattle.event_codec.specs.Packet.{Contents, Packet, IsHeader, IsIdentityAt, IsTimestampAt, IsRequesting}
use Rattle.event_codec.specs.Refusal.{decode_refusal}
use Rattle.event_codec.proofs.Fields.{number_of_below, number_of_same, fields_length_above}
use Rattle.event_codec.proofs.Numbers.{number-take}
use Rattle.event_codec.proofs.Front.{IsWhole, decode_refusal-whole}

-- the identity and the timestamp in octets i to i + 9
abbrev identity_at : List ℕ → ℕ → PortIdentity
identity_at b i = record { clock = slice_range b i (i + 8); port = number b (i + 8) 2 }

abbrev timestamp_at : List ℕ → ℕ → Stamp
timestamp_at b i = record { seconds = number b i 6; nanos = number b (i + 6) 4 }

identity_is : (p : PortIdentity) (b : List ℕ) (i : ℕ) → IsIdentityAt p b i → p ≡ identity_at b i
identity_is p b i h = λ j. record { clock = h.clock j; port = h.port j }

timestamp_is : (t : Stamp) (b : List ℕ) (i : ℕ) → IsTimestampAt t b i → t ≡ timestamp_at b i
timestamp_is t b i h = λ j. record { seconds = h.seconds j; nanos = h.nanoseconds j }

-- the body of a type, with this timestamp and this requestingPortIdentity
abbrev body_with : MessageType → Stamp → PortIdentity → Body
body_with types.Sync t p = Sync t
body_with types.DelayReq t p = DelayReq t
body_with types.FollowUp t p = FollowUp t
body_with types.DelayResp t p = DelayResp t p

body_is : (x : Body) (b : List ℕ) → IsRequesting x b → x ≡ body_with (type_of x) (stamp_in x) (identity_at b 44)
body_is (Sync s) b p = refl
body_is (DelayReq s) b p = refl
body_is (FollowUp s) b p = refl
body_is (DelayResp s i) b p = ap (DelayResp s) (identity_is i b 44 p)

interval_same : (x y : Interval) → x.0 ≡ y.0 → x ≡ y
interval_same x y h = λ j. record { 0 = h j }

seq_same : (x y : Seq) → x.0 ≡ y.0 → x ≡ y
seq_same x y h = λ j. record { 0 = h j }

header_same : (h g : Header) (kind other size length : ℕ) (b : List ℕ) → kind < 16 → other < 16 → IsHeader h kind size b → IsHeader g other length b → h ≡ g
header_same h g kind other size length b low small p q =
    let major : h.major_sdo ≡ g.major_sdo = omega (arith, p.major_sdo_and_type, q.major_sdo_and_type) in
    let minor : h.minor_version ≡ g.minor_version = omega (arith, p.minor_version_and_version, q.minor_version_and_version) in
    let domain : h.domain ≡ g.domain = p.domain ∙ sym q.domain in
    let minor_sdo : h.minor_sdo ≡ g.minor_sdo = p.minor_sdo ∙ sym q.minor_sdo in
    let flags : h.flags ≡ g.flags = p.flags ∙ sym q.flags in
    let correction : h.correction ≡ g.correction = interval_same h.correction g.correction (p.correction ∙ sym q.correction) in
    let specific : h.specific ≡ g.specific = p.specific ∙ sym q.specific in
    let source : h.source ≡ g.source = identity_is h.source b 20 p.source ∙ sym (identity_is g.source b 20 q.source) in
    let sequence : h.sequence ≡ g.sequence = seq_same h.sequence g.sequence (p.sequence ∙ sym q.sequence) in
    let control : h.control ≡ g.control = p.control ∙ sym q.control in
    let log : h.log ≡ g.log = p.log ∙ sym q.log in
    λ j. record { major_sdo = major j; minor_version = minor j; domain = domain j; minor_sdo = minor_sdo j; flags = flags j; correction = correction j; specific = specific j; source = source j; sequence = sequence j; control = control j; log = log j }

-- octets are no two messages
pub contents_same : (m n : Contents) (b : List ℕ) → Packet m b → Packet n b → m ≡ n
contents_same m n b p q =
    let t = number_of_below (type_of m.body) in
    let u = number_of_below (type_of n.body) in
    let kind : type_of m.body ≡ type_of n.body = number_of_same (type_of m.body) (type_of n.body) (omega (arith, p.header.major_sdo_and_type, q.header.major_sdo_and_type)) in
    let stamp : stamp_in m.body ≡ stamp_in n.body = timestamp_is (stamp_in m.body) b 34 p.timestamp ∙ sym (timestamp_is (stamp_in n.body) b 34 q.timestamp) in
    let body : m.body ≡ n.body =
    body_is m.body b p.requesting ∙ (λ j. body_with (kind j) (stamp j) (identity_at b 44)) ∙ sym (body_is n.body b q.requesting) in
    let header : m.header ≡ n.header = header_same m.header n.header (number_of (type_of m.body)) (number_of (type_of n.body)) (length b) (length b) b t u p.header q.header in
    let suffix : m.suffix ≡ n.suffix = p.suffix ∙ ap (λ (k : MessageType). drop (fields_length k) b) kind ∙ sym q.suffix in
    λ j. record { header = header j; body = body j; suffix = suffix j }

-- messageLength can be read in front
pub front_length : (m : Contents) (b : List ℕ) (n : ℕ) → n ≤ length b → Packet m (take n b) → number b 2 2 ≡ n
front_length m b n fits p =
    let len : length (take n b) ≡ n = length-take-le n b fits in
    let above = fields_length_above (type_of m.body) in
    sym (number-take b n 2 2 (omega (arith, p.least))) ∙ p.header.message_length ∙ len

-- no refusal applies to octets that begin with a message
pub decode_refusal-message : (m : Contents) (b : List ℕ) (n : ℕ) → n ≤ length b → Packet m (take n b) → decode_refusal b ≡ None
decode_refusal-message m b n fits p =
    let kind : MessageType = type_of m.body in
    let above = fields_length_above kind in
    let below = number_of_below kind in
    let len : length (take n b) ≡ n = length-take-le n b fits in
    let long : fields_length kind ≤ n = omega (arith, p.least) in
    let front : number b 2 2 ≡ n = front_length m b n fits p in
    let first : get_or (take n b) 0 0 ≡ get_or b 0 0 = get_or-take n b 0 0 (omega arith) in
    let second : get_or (take n b) 1 0 ≡ get_or b 1 0 = get_or-take n b 1 0 (omega arith) in
    let whole : IsWhole b kind = record {
      header = omega arith;
      version = omega (arith, p.header.minor_version_and_version);
      numbered = omega (arith, p.header.major_sdo_and_type);
      long = omega arith;
      whole = omega arith;
    } in
    let nanos : number b 40 4 < 10 ^ 9 = rw (← number-take b n 40 4 (omega arith)) p.timestamp.within_second in
    decode_refusal-whole b kind whole ∙ rw (lt-ltb (number b 40 4) (10 ^ 9) nanos) refl
