-- A message is read of a datagram.
use Rattle.std.proofs.Common.{◌≡◌, ◌∙◌, ℕ, ◌+◌, ◌<◌, Bool, true, false, cond, List, take, drop, get_or, slice_range, Option, None, Result, Ok, Err, sym, ap, arith}
use Rattle.std.proofs.lemmas.List.{get_or-drop, get_or-take, take-take}
use Rattle.ptp_units.specs.declared.interval.Interval.{Interval}
use Rattle.ptp_units.specs.declared.sequence.Seq.{Seq}
use Rattle.event_codec.specs.declared.message.Header.{Header}
use Rattle.event_codec.specs.declared.port.PortIdentity.{PortIdentity}
use Rattle.event_codec.specs.Header.{HasHeader, header_refusal}
use Rattle.event_codec.specs.Layout.{number}
use Rattle.event_codec.specs.Packet.{IsIdentityAt}
use Rattle.datagram_source.specs.Datagram.{DatagramOf}
use Rattle.datagram_source.specs.Stream.{type_in}
use Rattle.capture_extract.specs.declared.header.Listed.{Listed}
use Rattle.capture_extract.specs.declared.header.Unlisted.{Unlisted}
use Rattle.capture_extract.specs.declared.header.Unlisted.TheVariants.{TooShort}
use Rattle.capture_extract.specs.declared.message_type.MessageType.{MessageType}
use Rattle.capture_extract.specs.Message.{header_in, identity_at, is_cut, read, read_by, requesting_in, type_numbered}

interval_is : (x : Interval) (y : Interval) → x.0 ≡ y.0 → x ≡ y
interval_is x y h = λ j. record { 0 = h j }

seq_is : (x : Seq) (y : Seq) → x.0 ≡ y.0 → x ≡ y
seq_is x y h = λ j. record { 0 = h j }

identity_is : (p : PortIdentity) (b : List ℕ) (i : ℕ) → IsIdentityAt p b i → p ≡ identity_at b i
identity_is p b i h = λ j. record { clock = h.clock j; port = h.port j }

header_is : (h : Header) (kind : ℕ) (b : List ℕ) → HasHeader kind h b → h ≡ header_in b
header_is h kind b has =
    let g : Header = header_in b in
    let major : h.major_sdo ≡ g.major_sdo = omega (arith, has.0, has.1.major_sdo_and_type) in
    let minor : h.minor_version ≡ g.minor_version = omega (arith, has.1.minor_version_and_version) in
    let correction : h.correction ≡ g.correction = interval_is h.correction g.correction has.1.correction in
    let source : h.source ≡ g.source = identity_is h.source b 20 has.1.source in
    let sequence : h.sequence ≡ g.sequence = seq_is h.sequence g.sequence has.1.sequence in
    λ j. record {
      major_sdo = major j;
      minor_version = minor j;
      domain = has.1.domain j;
      minor_sdo = has.1.minor_sdo j;
      flags = has.1.flags j;
      correction = correction j;
      specific = has.1.specific j;
      source = source j;
      sequence = sequence j;
      control = has.1.control j;
      log = has.1.log j;
    }

-- whom a message answers, where it isn't cut
abbrev pub answered_in : (is_cut : Bool) → Option PortIdentity → Result (Option PortIdentity) Unlisted
answered_in is_cut q = cond is_cut (Err TooShort) (Ok q)

abbrev pub listed_in : (is_cut : Bool) → Listed → Result Listed Unlisted
listed_in is_cut listed = cond is_cut (Err TooShort) (Ok listed)

chosen : (is_cut : Bool) (r q : Option PortIdentity) (f : Option PortIdentity → Listed)
    → answered_in false r ≡ answered_in is_cut q → listed_in false (f r) ≡ listed_in is_cut (f q)
chosen true r q f e = cc
chosen false r q f e = cc

pub read_is : (d : DatagramOf) (kind : ℕ) (header : Header) (requesting : Option PortIdentity) (message : MessageType)
    → header_refusal d.octets ≡ None → HasHeader kind header d.octets → message ≡ type_numbered kind
    → answered_in false requesting ≡ answered_in (is_cut message d.octets) (requesting_in message d.octets)
    → listed_in false (record { packet = d.number; time = d.time; message = message; header = header; requesting = requesting }) ≡ read d
read_is d kind header requesting message none has is answered =
    let b : List ℕ = d.octets in
    let type : MessageType = type_numbered (type_in b) in
    let numbered : kind ≡ type_in b = omega (arith, has.0, has.1.major_sdo_and_type) in
    let same : message ≡ type = is ∙ ap type_numbered numbered in
    let whole : header ≡ header_in b = header_is header kind b has in
    let here : answered_in false requesting ≡ answered_in (is_cut type b) (requesting_in type b) =
    answered ∙ ap (λ (m : MessageType). answered_in (is_cut m b) (requesting_in m b)) same in
    let listed : Option PortIdentity → Listed = λ r. record {
      packet = d.number;
      time = d.time;
      message = type;
      header = header_in b;
      requesting = r;
    } in
    (λ j. listed_in false (record { packet = d.number; time = d.time; message = same j; header = whole j; requesting = requesting }))
    ∙ chosen (is_cut type b) requesting (requesting_in type b) listed here
    ∙ ap (λ r. read_by r d) (sym none)

-- ten octets of others are an identity
octet_after : (b : List ℕ) (k : ℕ) → k < 10 → get_or (take 10 (drop 44 b)) k 0 ≡ get_or b (44 + k) 0
octet_after b k below = get_or-take 10 (drop 44 b) k 0 below ∙ get_or-drop 44 b k 0

pub identity_behind : (b : List ℕ) → identity_at (slice_range b 44 54) 0 ≡ identity_at b 44
identity_behind b =
    let clock : slice_range (take 10 (drop 44 b)) 0 8 ≡ slice_range b 44 52 = take-take 8 10 (drop 44 b) (omega arith) in
    let eighth : get_or (take 10 (drop 44 b)) 8 0 ≡ get_or b 52 0 = octet_after b 8 (omega arith) in
    let ninth : get_or (take 10 (drop 44 b)) 9 0 ≡ get_or b 53 0 = octet_after b 9 (omega arith) in
    let port : number (take 10 (drop 44 b)) 8 2 ≡ number b 52 2 = omega arith in
    λ j. record { clock = clock j; port = port j }
