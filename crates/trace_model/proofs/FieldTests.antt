-- Octets are a message exactly where they have each of its fields.
use Rattle.std.proofs.Common.{◌≡◌, ℕ, zero, suc, ◌+◌, ◌-◌, ◌*◌, ◌/◌, ◌%◌, ◌^◌, ◌<◌, ◌≤◌, Bool, true, false, ◌&&◌, not, List}
use Rattle.std.proofs.Common.{[], ◌∷◌}
use Rattle.std.proofs.Common.{if◌then◌else◌, length, drop, take, get_or, Decides, refl, sym, ap, ◌∙◌, arith, ◌==◌}
use Rattle.std.specs.Prelude.{filter, nat_lt, slice_index, slice_range}
use Rattle.std.specs.Int.{w8, w64, cast_signed}
use Rattle.std.specs.List.{list_all}
use Rattle.std.proofs.lemmas.Bool.{and_parts}
use Rattle.std.proofs.lemmas.Bool.Decides.{Decides-eqb, Decides-int_eq, Decides-ltb, Decides-and, Decides-like}
use Rattle.std.proofs.lemmas.List.{drop_more, length-drop}
use Rattle.std.proofs.lemmas.Slice.Eq.{bytes_eq-Decides}
use Rattle.ptp_units.specs.Moment.{Stamp}
use Rattle.event_codec.specs.declared.message.Body.{Body}
use Rattle.event_codec.specs.Layout.{number, number_of, type_of, fields_length, stamp_in}
use Rattle.event_codec.specs.Packet.{Contents, Packet, IsIdentityAt, IsRequesting}
use Rattle.event_codec.specs.Refusal.{message_length}
use Rattle.event_codec.proofs.Fields.{number_of_below, fields_length_above}
use Rattle.event_codec.proofs.Lengths.{all_octets}
use Rattle.trace_model.specs.declared.field.Field.{Field}
use Rattle.trace_model.specs.declared.field.Field.TheVariants as fields
use Rattle.trace_model.specs.Octets.{is_packet}
use Rattle.trace_model.specs.Field.{all_fields, is_whole, two_step_bit, are_other_flags, is_stamp_at, has_field}
use Rattle.trace_model.specs.Field.{differing, is_read, tells_same, EachFieldIsTested}
use Rattle.trace_model.proofs.Packets.{Decides-at_most, identity_decided, requesting_decided, is_packet-Decides}

-- what each test of a field says

pub record IsWholeFor (body : Body) (b : List ℕ) : Type 0 where
  pub room : fields_length (type_of body) ≤ number b 2 2
  pub there : number b 2 2 ≤ length b

pub record AreOtherFlags (flags b : List ℕ) : Type 0 where
  pub high : slice_index flags 0 / 4 ≡ slice_index b 6 / 4
  pub low : slice_index flags 0 % 2 ≡ slice_index b 6 % 2
  pub second : slice_index flags 1 ≡ slice_index b 7

pub record IsStampAt (stamp : Stamp) (b : List ℕ) : Type 0 where
  pub seconds : stamp.seconds ≡ number b 34 6
  pub nanoseconds : stamp.nanos ≡ number b 40 4

abbrev pub HasField : Contents → List ℕ → Field → Type 0
HasField m b fields.MajorSdoId = m.header.major_sdo ≡ slice_index b 0 / 16
HasField m b fields.MessageType = number_of (type_of m.body) ≡ slice_index b 0 % 16
HasField m b fields.MinorVersion = m.header.minor_version ≡ slice_index b 1 / 16
HasField m b fields.Version = slice_index b 1 % 16 ≡ 2
HasField m b fields.MessageLength = number b 2 2 ≡ message_length m
HasField m b fields.Whole = IsWholeFor m.body b
HasField m b fields.DomainNumber = m.header.domain ≡ slice_index b 4
HasField m b fields.MinorSdoId = m.header.minor_sdo ≡ slice_index b 5
HasField m b fields.TwoStepFlag = two_step_bit (slice_index m.header.flags 0) ≡ two_step_bit (slice_index b 6)
HasField m b fields.OtherFlags = AreOtherFlags m.header.flags b
HasField m b fields.Correction = m.header.correction.0 ≡ cast_signed w64 (number b 8 8)
HasField m b fields.TypeSpecific = m.header.specific ≡ slice_range b 16 20
HasField m b fields.SourcePort = IsIdentityAt m.header.source b 20
HasField m b fields.SequenceId = m.header.sequence.0 ≡ number b 30 2
HasField m b fields.Control = m.header.control ≡ slice_index b 32
HasField m b fields.LogInterval = m.header.log ≡ cast_signed w8 (slice_index b 33)
HasField m b fields.Timestamp = IsStampAt (stamp_in m.body) b
HasField m b fields.Nanoseconds = number b 40 4 < 10 ^ 9
HasField m b fields.RequestingPort = IsRequesting m.body b
HasField m b fields.Suffix = m.suffix ≡ drop (fields_length (type_of m.body)) b

whole_decided : (body : Body) (b : List ℕ) → Decides (is_whole body b) (IsWholeFor body b)
whole_decided body b = Decides-like (is_whole body b)
    (λ p. record { room = p.0; there = p.1 }) (λ p. (p.room, p.there))
    (Decides-and (not (nat_lt (number b 2 2) (fields_length (type_of body)))) (not (nat_lt (length b) (number b 2 2)))
    (Decides-at_most _ _) (Decides-at_most _ _))

flags_decided : (flags b : List ℕ) → Decides (are_other_flags flags b) (AreOtherFlags flags b)
flags_decided flags b = Decides-like (are_other_flags flags b)
    (λ p. record { high = p.0.0; low = p.0.1; second = p.1 }) (λ p. ((p.high, p.low), p.second))
    (Decides-and (slice_index flags 0 / 4 == slice_index b 6 / 4 && slice_index flags 0 % 2 == slice_index b 6 % 2)
    (slice_index flags 1 == slice_index b 7)
    (Decides-and (slice_index flags 0 / 4 == slice_index b 6 / 4) (slice_index flags 0 % 2 == slice_index b 6 % 2)
    (Decides-eqb _ _) (Decides-eqb _ _)) (Decides-eqb _ _))

stamp_decided : (stamp : Stamp) (b : List ℕ) → Decides (is_stamp_at stamp b) (IsStampAt stamp b)
stamp_decided stamp b = Decides-like (is_stamp_at stamp b)
    (λ p. record { seconds = p.0; nanoseconds = p.1 }) (λ p. (p.seconds, p.nanoseconds))
    (Decides-and (stamp.seconds == number b 34 6) (stamp.nanos == number b 40 4) (Decides-eqb _ _) (Decides-eqb _ _))

pub field_decided : (m : Contents) (b : List ℕ) (field : Field) → Decides (has_field m b field) (HasField m b field)
field_decided m b fields.Whole = whole_decided m.body b
field_decided m b fields.OtherFlags = flags_decided m.header.flags b
field_decided m b fields.Correction = Decides-int_eq _ _
field_decided m b fields.TypeSpecific = bytes_eq-Decides _ _
field_decided m b fields.SourcePort = identity_decided m.header.source b 20
field_decided m b fields.LogInterval = Decides-int_eq _ _
field_decided m b fields.Timestamp = stamp_decided (stamp_in m.body) b
field_decided m b fields.Nanoseconds = Decides-ltb _ _
field_decided m b fields.RequestingPort = requesting_decided m.body b
field_decided m b fields.Suffix = bytes_eq-Decides _ _
field_decided m b _ = Decides-eqb _ _

-- of a list of tests none fails exactly where all hold

none_fails : {X : Type 0} (test : X → Bool) (xs : List X) → ((x : X) → test x ≡ true)
    → filter (λ x. not (test x)) xs ≡ []
none_fails test [] all = refl
none_fails test (x ∷ xs) all = rw (all x) (none_fails test xs all)

kept_where : {X : Type 0} (holds : Bool) (x : X) (rest : List X) (kept : List X)
    → kept ≡ (if not holds then x ∷ rest else rest) → kept ≡ [] → (holds ≡ true) × (rest ≡ [])
kept_where true x rest kept is none = (refl, sym is ∙ none)
kept_where false x rest kept is none = cc

passes_at : {X : Type 0} (test : X → Bool) (xs : List X) (i : ℕ) (d : X) → i < length xs
    → filter (λ x. not (test x)) xs ≡ [] → test (get_or xs i d) ≡ true
passes_at test [] i d within none = absurd (omega arith)
passes_at test (x ∷ xs) zero d within none = (kept_where (test x) x (filter (λ x. not (test x)) xs) _ refl none).0
passes_at test (x ∷ xs) (suc i) d within none =
    passes_at test xs i d (omega arith) (kept_where (test x) x (filter (λ x. not (test x)) xs) _ refl none).1

-- the flags are two octets, of which three tests say all

two_items : (xs : List ℕ) → length xs ≡ 2 → xs ≡ slice_index xs 0 ∷ slice_index xs 1 ∷ []
two_items [] e = absurd (omega arith)
two_items (x ∷ []) e = absurd (omega arith)
two_items (x ∷ y ∷ []) e = refl
two_items (x ∷ y ∷ z ∷ xs) e = absurd (omega arith)

pub octets_6_and_7 : (b : List ℕ) → 8 ≤ length b → slice_range b 6 8 ≡ slice_index b 6 ∷ slice_index b 7 ∷ []
octets_6_and_7 b room =
    let one : drop 6 b ≡ get_or b 6 0 ∷ drop 7 b = drop_more b 6 0 (omega arith) in
    let other : drop 7 b ≡ get_or b 7 0 ∷ drop 8 b = drop_more b 7 0 (omega arith) in
    ap (take 2) (one ∙ ap (λ (rest : List ℕ). get_or b 6 0 ∷ rest) other)

octet_of_bits : (x y : ℕ) → x / 4 ≡ y / 4 → two_step_bit x ≡ two_step_bit y → x % 2 ≡ y % 2 → x ≡ y
octet_of_bits x y high middle low = omega arith

flags_same : (flags b : List ℕ) → length flags ≡ 2 → 8 ≤ length b
    → two_step_bit (slice_index flags 0) ≡ two_step_bit (slice_index b 6) → AreOtherFlags flags b
    → flags ≡ slice_range b 6 8
flags_same flags b two room bit others =
    let first : slice_index flags 0 ≡ slice_index b 6 =
    octet_of_bits (slice_index flags 0) (slice_index b 6) others.high bit others.low in
    two_items flags two
    ∙ ap (λ (x : ℕ). x ∷ slice_index flags 1 ∷ []) first
    ∙ ap (λ (y : ℕ). slice_index b 6 ∷ y ∷ []) others.second
    ∙ sym (octets_6_and_7 b room)

first_octet : (x sdo kind : ℕ) → kind < 16 → sdo ≡ x / 16 → kind ≡ x % 16 → x ≡ 16 * sdo + kind
first_octet x sdo kind small high low = omega arith

second_octet : (x version : ℕ) → version ≡ x / 16 → x % 16 ≡ 2 → x ≡ 16 * version + 2
second_octet x version high low = omega arith

-- octets that have all fields are the message
packet_told : (m : Contents) (b : List ℕ) → list_all (λ octet. nat_lt octet 256) b ≡ true
    → length m.header.flags ≡ 2 → ((field : Field) → HasField m b field) → Packet m b
packet_told m b octets two has = record {
  octets = all_octets b octets;
  least = least;
  header = record {
    major_sdo_and_type = first_octet (slice_index b 0) m.header.major_sdo (number_of (type_of m.body))
        (number_of_below (type_of m.body)) (has fields.MajorSdoId) (has fields.MessageType);
    minor_version_and_version = second_octet (slice_index b 1) m.header.minor_version
        (has fields.MinorVersion) (has fields.Version);
    message_length = all;
    domain = has fields.DomainNumber;
    minor_sdo = has fields.MinorSdoId;
    flags = flags_same m.header.flags b two (room_for_flags least)
        (has fields.TwoStepFlag) (has fields.OtherFlags);
    correction = has fields.Correction;
    specific = has fields.TypeSpecific;
    source = has fields.SourcePort;
    sequence = has fields.SequenceId;
    control = has fields.Control;
    log = has fields.LogInterval;
  };
  timestamp = record {
    seconds = (has fields.Timestamp).seconds;
    nanoseconds = (has fields.Timestamp).nanoseconds;
    within_second = has fields.Nanoseconds;
  };
  requesting = has fields.RequestingPort;
  suffix = has fields.Suffix;
}
  where
    least : fields_length (type_of m.body) ≤ length b
    least = omega (arith, (has fields.Whole).room, (has fields.Whole).there)

    behind : length m.suffix ≡ length b - fields_length (type_of m.body)
    behind = ap length (has fields.Suffix) ∙ length-drop (fields_length (type_of m.body)) b

    all : number b 2 2 ≡ length b
    all = omega (arith, has fields.MessageLength, behind, least)

    room_for_flags : fields_length (type_of m.body) ≤ length b → 8 ≤ length b
    room_for_flags room = omega (arith, fields_length_above (type_of m.body))

high_half : (x sdo kind : ℕ) → kind < 16 → x ≡ 16 * sdo + kind → sdo ≡ x / 16
high_half x sdo kind small is = omega arith

pub low_half : (x sdo kind : ℕ) → kind < 16 → x ≡ 16 * sdo + kind → kind ≡ x % 16
low_half x sdo kind small is = omega arith

flags_at : (m : Contents) (b : List ℕ) → Packet m b → (slice_index m.header.flags 0 ≡ slice_index b 6)
    × (slice_index m.header.flags 1 ≡ slice_index b 7)
flags_at m b packet =
    let room : 8 ≤ length b = omega (arith, fields_length_above (type_of m.body), packet.least) in
    let same : m.header.flags ≡ slice_index b 6 ∷ slice_index b 7 ∷ [] = packet.header.flags ∙ octets_6_and_7 b room in
    (ap (λ (x : List ℕ). slice_index x 0) same, ap (λ (x : List ℕ). slice_index x 1) same)

-- the octets of a message have all its fields
pub has_told : (m : Contents) (b : List ℕ) → Packet m b → (field : Field) → HasField m b field
has_told m b packet fields.MajorSdoId = high_half (slice_index b 0) m.header.major_sdo (number_of (type_of m.body))
    (number_of_below (type_of m.body)) packet.header.major_sdo_and_type
has_told m b packet fields.MessageType = low_half (slice_index b 0) m.header.major_sdo (number_of (type_of m.body))
    (number_of_below (type_of m.body)) packet.header.major_sdo_and_type
has_told m b packet fields.MinorVersion = high_half (slice_index b 1) m.header.minor_version 2 (omega arith)
    packet.header.minor_version_and_version
has_told m b packet fields.Version = sym (low_half (slice_index b 1) m.header.minor_version 2 (omega arith)
    packet.header.minor_version_and_version)
has_told m b packet fields.MessageLength =
    let behind : length m.suffix ≡ length b - fields_length (type_of m.body) =
    ap length packet.suffix ∙ length-drop (fields_length (type_of m.body)) b in
    omega (arith, packet.header.message_length, behind, packet.least)
has_told m b packet fields.Whole = record {
  room = omega (arith, packet.header.message_length, packet.least);
  there = omega (arith, packet.header.message_length);
}
has_told m b packet fields.DomainNumber = packet.header.domain
has_told m b packet fields.MinorSdoId = packet.header.minor_sdo
has_told m b packet fields.TwoStepFlag = ap two_step_bit (flags_at m b packet).0
has_told m b packet fields.OtherFlags = record {
  high = ap (λ (x : ℕ). x / 4) (flags_at m b packet).0;
  low = ap (λ (x : ℕ). x % 2) (flags_at m b packet).0;
  second = (flags_at m b packet).1;
}
has_told m b packet fields.Correction = packet.header.correction
has_told m b packet fields.TypeSpecific = packet.header.specific
has_told m b packet fields.SourcePort = packet.header.source
has_told m b packet fields.SequenceId = packet.header.sequence
has_told m b packet fields.Control = packet.header.control
has_told m b packet fields.LogInterval = packet.header.log
has_told m b packet fields.Timestamp =
    record { seconds = packet.timestamp.seconds; nanoseconds = packet.timestamp.nanoseconds }
has_told m b packet fields.Nanoseconds = packet.timestamp.within_second
has_told m b packet fields.RequestingPort = packet.requesting
has_told m b packet fields.Suffix = packet.suffix

-- the place of each field among all fields

abbrev place : Field → ℕ
place fields.MajorSdoId = 0
place fields.MessageType = 1
place fields.MinorVersion = 2
place fields.Version = 3
place fields.MessageLength = 4
place fields.Whole = 5
place fields.DomainNumber = 6
place fields.MinorSdoId = 7
place fields.TwoStepFlag = 8
place fields.OtherFlags = 9
place fields.Correction = 10
place fields.TypeSpecific = 11
place fields.SourcePort = 12
place fields.SequenceId = 13
place fields.Control = 14
place fields.LogInterval = 15
place fields.Timestamp = 16
place fields.Nanoseconds = 17
place fields.RequestingPort = 18
place fields.Suffix = 19

place_within : (field : Field) → place field < 20
place_within fields.MajorSdoId = omega arith
place_within _ = omega arith

field_at : (field : Field) → get_or all_fields (place field) fields.Suffix ≡ field
field_at fields.MajorSdoId = refl
field_at _ = refl

none_differs : (m : Contents) (b : List ℕ) → differing m b ≡ [] → (field : Field) → has_field m b field ≡ true
none_differs m b none field =
    ap (has_field m b) (sym (field_at field))
    ∙ passes_at (has_field m b) all_fields (place field) fields.Suffix (place_within field) none

pub each_field_is_tested : EachFieldIsTested
each_field_is_tested m b octets two = (
  λ is. none_fails (has_field m b) all_fields
      (λ field. (field_decided m b field).1 (has_told m b ((is_packet-Decides m b).0 is) field)),
  λ none. (is_packet-Decides m b).1 (packet_told m b octets two
      (λ field. (field_decided m b field).0 (none_differs m b none field))),
)

-- octets that tell the same have each field that is read

kept_parts : {X : Type 0} (read : X → Bool) (x : X) (others : List X) (has is : Bool) → read x ≡ is
    → list_all (λ y. not (read y)) (if not has then x ∷ others else others) ≡ true
    → ((is ≡ true → has ≡ true) × (list_all (λ y. not (read y)) others ≡ true))
kept_parts read x others true is e all = (λ _. refl, all)
kept_parts read x others false true e all =
    let no = and_parts (not (read x)) (list_all (λ y. not (read y)) others) all in
    let other : not (read x) ≡ false = ap not e in (λ _. cc, no.1)
kept_parts read x others false false e all =
    (λ read. cc, (and_parts (not (read x)) (list_all (λ y. not (read y)) others) all).1)

has_what_is_read : {X : Type 0} (read has : X → Bool) (xs : List X) (i : ℕ) (d : X) → i < length xs
    → list_all (λ x. not (read x)) (filter (λ x. not (has x)) xs) ≡ true
    → read (get_or xs i d) ≡ true → has (get_or xs i d) ≡ true
has_what_is_read read has [] i d within all is = absurd (omega arith)
has_what_is_read read has (x ∷ xs) zero d within all is =
    (kept_parts read x (filter (λ x. not (has x)) xs) (has x) (read x) refl all).0 is
has_what_is_read read has (x ∷ xs) (suc i) d within all is = has_what_is_read read has xs i d (omega arith)
    (kept_parts read x (filter (λ x. not (has x)) xs) (has x) (read x) refl all).1 is

pub reads_told : (m : Contents) (b : List ℕ) → tells_same m b ≡ true → (field : Field) → is_read m field ≡ true
    → HasField m b field
reads_told m b tells field read = (field_decided m b field).0
    (ap (has_field m b) (sym (field_at field))
    ∙ has_what_is_read (is_read m) (has_field m b) all_fields (place field) fields.Suffix (place_within field) tells
    (ap (is_read m) (field_at field) ∙ read))

-- the octets of a message tell the same as it
pub packet_tells : (m : Contents) (b : List ℕ) → is_packet m b ≡ true → tells_same m b ≡ true
packet_tells m b is =
    ap (list_all (λ field. not (is_read m field)))
    (none_fails (has_field m b) all_fields
    (λ field. (field_decided m b field).1 (has_told m b ((is_packet-Decides m b).0 is) field)))
