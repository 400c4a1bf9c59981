-- Octets that tell the same as a message are used and answered as it is.
use Rattle.std.proofs.Common.{◌≡◌, ◌∙◌, ℕ, ◌+◌, ◌-◌, ◌%◌, ◌≤◌, pos, Bool, true, false, not, List, [], ◌∷◌, refl, sym, ap, subst, arith, ◌==◌}
use Rattle.std.proofs.Common.{if◌then◌else◌, Ok, length, take, drop, take-take, length-take-le}
use Rattle.std.specs.Prelude.{slice_index}
use Rattle.ptp_units.specs.Moment.{Stamp}
use Rattle.event_codec.specs.declared.message.Body.{Body}
use Rattle.event_codec.specs.declared.message.Body.TheVariants.{Sync, DelayReq, FollowUp, DelayResp}
use Rattle.event_codec.specs.declared.message.Header.{Header}
use Rattle.event_codec.specs.declared.port.PortConfig.{PortConfig}
use Rattle.event_codec.specs.declared.port.PortIdentity.{PortIdentity}
use Rattle.event_codec.specs.Layout.{number_of, type_of, fields_length, stamp_in}
use Rattle.event_codec.specs.Packet.{Contents, IsHeader, IsIdentityAt, IsTimestampAt, IsRequesting}
use Rattle.event_codec.specs.Reading.{IsReading}
use Rattle.event_codec.specs.Refusal.{message_length}
use Rattle.event_codec.proofs.Agreement.{IsHeader-agrees, IsTimestampAt-agrees, IsRequesting-agrees, after}
use Rattle.event_codec.proofs.Fields.{number_of_below, fields_length_above}
use Rattle.master_port.specs.Written.{answer_to, answer_to_request}
use Rattle.pairing.specs.Marked.{entry}
use Rattle.slave_port.specs.Usable.{Criteria, is_two_step, sync_reason, used_unless, sync_use}
use Rattle.slave_port.specs.Usable.{event_use, general_use}
use Rattle.trace_model.specs.declared.field.Field.TheVariants as fields
use Rattle.trace_model.specs.Field.{two_step_bit, is_sync_body, is_stamp_read, tells_same, EachTellsAlike}
use Rattle.trace_model.proofs.FieldTests.{IsStampAt, reads_told, low_half, octets_6_and_7}

-- what is read of a header, but for twoStepFlag
abbrev read_of : Header → Header
read_of header = record {
  major_sdo = 0;
  minor_version = 0;
  domain = header.domain;
  minor_sdo = 0;
  flags = [];
  correction = record { 0 = header.correction.0 };
  specific = [];
  source = record { clock = header.source.clock; port = header.source.port };
  sequence = record { 0 = header.sequence.0 };
  control = 0;
  log = pos 0;
}

one_identity : (one other : PortIdentity) (b : List ℕ) (i : ℕ) → IsIdentityAt one b i → IsIdentityAt other b i
    → other ≡ one
one_identity one other b i is also =
    let clock : other.clock ≡ one.clock = also.clock ∙ sym is.clock in
    let port : other.port ≡ one.port = also.port ∙ sym is.port in
    λ k. record { clock = clock k; port = port k }

one_stamp : (one other : Stamp) (b : List ℕ) → IsStampAt one b → IsStampAt other b → other ≡ one
one_stamp one other b is also =
    let seconds : other.seconds ≡ one.seconds = also.seconds ∙ sym is.seconds in
    let nanos : other.nanos ≡ one.nanos = also.nanoseconds ∙ sym is.nanoseconds in
    λ k. record { seconds = seconds k; nanos = nanos k }

-- the same with flags of this first octet
abbrev flagged : ℕ → Header → Header
flagged first header = record (read_of header) { flags = first ∷ [] }

-- what a Sync is used as goes by twoStepFlag, and by its timestamp where that isn't set
sync_alike : (h g : Header) (o p : Stamp) (t2 tag : ℕ) → is_two_step g ≡ is_two_step h → read_of g ≡ read_of h
    → (is_two_step h ≡ false → p ≡ o) → sync_use g p t2 tag ≡ sync_use h o t2 tag
sync_alike h g o p t2 tag two read stamps =
    (λ k. if two k then sync_use (flagged 2 (read k)) p t2 tag else sync_use (flagged 0 (read k)) p t2 tag)
    ∙ by (is_two_step h) stamps
  where
    by : (is : Bool) → (is ≡ false → p ≡ o)
        → (if is then sync_use (flagged 2 (read_of h)) p t2 tag else sync_use (flagged 0 (read_of h)) p t2 tag)
        ≡ (if is then sync_use (flagged 2 (read_of h)) o t2 tag else sync_use (flagged 0 (read_of h)) o t2 tag)
    by true same = refl
    by false same = ap (λ (s : Stamp). sync_use (flagged 0 (read_of h)) s t2 tag) (same refl)

-- the requestingPortIdentity of two Delay_Resps
abbrev IsSameRequesting : Body → Body → Type 0
IsSameRequesting (DelayResp o r) (DelayResp p q) = q ≡ r
IsSameRequesting _ _ = Unit {0}

same_requesting : (o p : Body) (b : List ℕ) → IsRequesting o b → IsRequesting p b → IsSameRequesting o p
same_requesting (DelayResp o r) (DelayResp p q) b is also = one_identity r q b 44 is also
same_requesting (DelayResp o r) _ b is also = tt
same_requesting (Sync o) p b is also = tt
same_requesting (DelayReq o) p b is also = tt
same_requesting (FollowUp o) p b is also = tt

-- what two messages have alike
record AreAlike (h g : Header) (o p : Body) : Type 0 where
  read : read_of g ≡ read_of h
  kind : number_of (type_of p) ≡ number_of (type_of o)
  two_step : is_sync_body o ≡ true → is_two_step g ≡ is_two_step h
  stamp : is_stamp_read (is_two_step h) o ≡ true → stamp_in p ≡ stamp_in o
  requesting : IsSameRequesting o p

event_alike : (h g : Header) (o p : Body) → AreAlike h g o p → (criteria : Criteria) (t2 tag : ℕ)
    → event_use criteria g p t2 tag ≡ event_use criteria h o t2 tag
event_alike h g (Sync o) (Sync p) are criteria t2 tag =
    let same : sync_use g p t2 tag ≡ sync_use h o t2 tag =
    sync_alike h g o p t2 tag (are.two_step refl) are.read (λ one. are.stamp (ap not one)) in
    λ k. used_unless (sync_reason criteria (are.read k)) (entry (are.read k).sequence.0 (same k))
event_alike h g (Sync o) _ are criteria t2 tag = absurd (omega arith)
event_alike h g (DelayReq o) (DelayReq p) are criteria t2 tag = refl
event_alike h g (DelayReq o) _ are criteria t2 tag = absurd (omega arith)
event_alike h g (FollowUp o) (FollowUp p) are criteria t2 tag = refl
event_alike h g (FollowUp o) _ are criteria t2 tag = absurd (omega arith)
event_alike h g (DelayResp o r) (DelayResp p q) are criteria t2 tag = refl
event_alike h g (DelayResp o r) _ are criteria t2 tag = absurd (omega arith)

general_alike : (h g : Header) (o p : Body) → AreAlike h g o p → (criteria : Criteria) (tag : ℕ)
    → general_use criteria g p tag ≡ general_use criteria h o tag
general_alike h g (Sync o) (Sync p) are criteria tag = refl
general_alike h g (Sync o) _ are criteria tag = absurd (omega arith)
general_alike h g (DelayReq o) (DelayReq p) are criteria tag = refl
general_alike h g (DelayReq o) _ are criteria tag = absurd (omega arith)
general_alike h g (FollowUp o) (FollowUp p) are criteria tag =
    let stamp : p ≡ o = are.stamp refl in
    λ k. general_use criteria (are.read k) (FollowUp (stamp k)) tag
general_alike h g (FollowUp o) _ are criteria tag = absurd (omega arith)
general_alike h g (DelayResp o r) (DelayResp p q) are criteria tag =
    let stamp : p ≡ o = are.stamp refl in
    let requesting : q ≡ r = are.requesting in
    λ k. general_use criteria (are.read k) (DelayResp (stamp k) (requesting k)) tag
general_alike h g (DelayResp o r) _ are criteria tag = absurd (omega arith)

answer_alike : (h g : Header) (o p : Body) → AreAlike h g o p → (config : PortConfig) (t4 : ℕ)
    → answer_to config p g t4 ≡ answer_to config o h t4
answer_alike h g (DelayReq o) (DelayReq p) are config t4 = λ k. answer_to_request config (are.read k) t4
answer_alike h g (DelayReq o) _ are config t4 = absurd (omega arith)
answer_alike h g (Sync o) (Sync p) are config t4 = refl
answer_alike h g (Sync o) _ are config t4 = absurd (omega arith)
answer_alike h g (FollowUp o) (FollowUp p) are config t4 = refl
answer_alike h g (FollowUp o) _ are config t4 = absurd (omega arith)
answer_alike h g (DelayResp o r) (DelayResp p q) are config t4 = refl
answer_alike h g (DelayResp o r) _ are config t4 = absurd (omega arith)

-- the fields of a message in octets that begin with it
record Begins (other : Contents) (b : List ℕ) : Type 0 where
  room : 44 ≤ length b
  header : IsHeader other.header (number_of (type_of other.body)) (message_length other) b
  timestamp : IsTimestampAt (stamp_in other.body) b 34
  requesting : IsRequesting other.body b

begins : (other : Contents) (b : List ℕ) → IsReading b (Ok other) → Begins other b
begins other b (there, packet) =
    let n : ℕ = message_length other in
    let least : 44 ≤ fields_length (type_of other.body) = fields_length_above (type_of other.body) in
    let whole : take n b ≡ take n (take n b) = sym (take-take n n b (omega arith)) in
    let header : take 34 b ≡ take 34 (take n b) = sym (take-take 34 n b (omega (arith, least))) in
    let fields : take (16 + (fields_length (type_of other.body) - 16)) b
    ≡ take (16 + (fields_length (type_of other.body) - 16)) (take n b) =
    sym (take-take (16 + (fields_length (type_of other.body) - 16)) n b (omega (arith, least))) in
    record {
      room = omega (arith, least, there);
      header = subst (λ (size : ℕ). IsHeader other.header (number_of (type_of other.body)) size b)
          (length-take-le n b there) (IsHeader-agrees other.header (number_of (type_of other.body)) (length (take n b)) b (take n b) header packet.header);
      timestamp = IsTimestampAt-agrees n 0 0 b (take n b) whole (stamp_in other.body) 34 (omega (arith, least)) packet.timestamp;
      requesting = IsRequesting-agrees other.body b (take n b)
          (after 16 (fields_length (type_of other.body) - 16) b (take n b) fields) packet.requesting;
    }

two_step_told : (other : Contents) (b : List ℕ) → Begins other b
    → two_step_bit (slice_index other.header.flags 0) ≡ two_step_bit (slice_index b 6)
two_step_told other b begin =
    ap (λ (flags : List ℕ). two_step_bit (slice_index flags 0))
    (begin.header.flags ∙ octets_6_and_7 b (omega (arith, begin.room)))

are_alike : (m other : Contents) (b : List ℕ) → tells_same m b ≡ true → Begins other b
    → AreAlike m.header other.header m.body other.body
are_alike m other b tells begin =
    let domain : other.header.domain ≡ m.header.domain =
    begin.header.domain ∙ sym (reads_told m b tells fields.DomainNumber refl) in
    let correction : other.header.correction.0 ≡ m.header.correction.0 =
    begin.header.correction ∙ sym (reads_told m b tells fields.Correction refl) in
    let source : other.header.source ≡ m.header.source = one_identity m.header.source other.header.source b 20
    (reads_told m b tells fields.SourcePort refl) begin.header.source in
    let sequence : other.header.sequence.0 ≡ m.header.sequence.0 =
    begin.header.sequence ∙ sym (reads_told m b tells fields.SequenceId refl) in
    let kind : number_of (type_of other.body) ≡ slice_index b 0 % 16 =
    low_half (slice_index b 0) other.header.major_sdo (number_of (type_of other.body))
    (number_of_below (type_of other.body)) begin.header.major_sdo_and_type in
    record {
      read = λ k. record {
        major_sdo = 0;
        minor_version = 0;
        domain = domain k;
        minor_sdo = 0;
        flags = [];
        correction = record { 0 = correction k };
        specific = [];
        source = record { clock = (source k).clock; port = (source k).port };
        sequence = record { 0 = sequence k };
        control = 0;
        log = pos 0;
      };
      kind = kind ∙ sym (reads_told m b tells fields.MessageType refl);
      two_step = λ sync. ap (λ (bit : ℕ). bit == 1)
          (two_step_told other b begin ∙ sym (reads_told m b tells fields.TwoStepFlag sync));
      stamp = λ read. one_stamp (stamp_in m.body) (stamp_in other.body) b (reads_told m b tells fields.Timestamp read)
          (record { seconds = begin.timestamp.seconds; nanoseconds = begin.timestamp.nanoseconds });
      requesting = same_requesting m.body other.body b
          (reads_told m b tells fields.RequestingPort refl) begin.requesting;
    }

pub each_tells_alike : EachTellsAlike
each_tells_alike m other b tells reading =
    let are = are_alike m other b tells (begins other b reading) in
    record {
      event = event_alike m.header other.header m.body other.body are;
      general = general_alike m.header other.header m.body other.body are;
      answer = answer_alike m.header other.header m.body other.body are;
    }
