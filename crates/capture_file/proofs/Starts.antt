-- What the next part comes to, by what was read of its front.
use Rattle.std.proofs.Common.{◌≡◌, ◌≢◌, ℕ, ◌≤◌, ◌<◌, List, ◌++◌, length, false, sym, ap, ◌∙◌, refl, inl, inr, arith, Option, Some, None, Result}
use Rattle.std.proofs.Common.{length-append}
use Rattle.std.specs.Prelude.{MatchOption}
use Rattle.std.specs.Option.{ok_or}
use Rattle.std.specs.Io.KnownBytes.{Consumes, IsAtEnd, prepend_known}
use Rattle.text_lines.proofs.KnownOctets.{Consumes-known}
use Rattle.capture_file.specs.declared.fault.CaptureFault.{CaptureFault}
use Rattle.capture_file.specs.declared.fault.CaptureFault.TheVariants.{NoCapture, Version, ByteOrderMagic, Length, Interface, CutOff}
use Rattle.capture_file.specs.declared.order.ByteOrder.TheVariants.{Big, Little}
use Rattle.capture_file.specs.declared.part.PartStop.{PartStop}
use Rattle.capture_file.specs.declared.part.PartStop.TheVariants.{Fault}
use Rattle.capture_file.specs.declared.reader.Magic.{Magic}
use Rattle.capture_file.specs.Order.{number32}
use Rattle.capture_file.specs.Pcap.{unit_of}
use Rattle.capture_file.specs.Pcapng.{BeginsSection, section_type, is_length_of}
use Rattle.capture_file.specs.Section.{SectionOf}
use Rattle.capture_file.specs.Packet.{PacketOf}
use Rattle.capture_file.specs.Parts.{Form, Start, Pcap, Section, IsPart}
use Rattle.capture_file.specs.Wrong.{IsFault, IsSectionFault, IsBlockFault}
use Rattle.capture_file.specs.Inner.Reading.{StopsBy, StopsPart, TellsMagic, ReadsMagic}
use Rattle.capture_file.proofs.Fronts.{number32_front, all_read, stops_from}

-- behind a part another form stands than at the start
pub behind_start : (old new : Form) (octets : List ℕ) (packet : Option PacketOf) → IsPart old octets packet new → new ≢ Start
behind_start old (Pcap pcap) octets packet is start = absurd cc
behind_start old (Section section) octets packet is start = absurd cc
behind_start Start Start octets None is start = absurd is
behind_start Start Start octets (Some packet) is start = absurd is
behind_start (Pcap pcap) Start octets None is start = absurd is
behind_start (Pcap pcap) Start octets (Some packet) (same, is) start = absurd cc
behind_start (Section section) Start octets None (inl (order, is, same)) start = absurd cc
behind_start (Section section) Start octets None (inr (inl (d, is, same))) start = absurd cc
behind_start (Section section) Start octets None (inr (inr (is, same))) start = absurd cc
behind_start (Section section) Start octets (Some packet) (is, same) start = absurd cc

-- what the first four octets tell, or that they are no magic
tells_magic : (a b : Option (List ℕ)) (front : List ℕ) (told : Option Magic) → Consumes a b front → length front ≡ 4
    → MatchOption told ((unit_of (number32 Big front 0) ≡ None) × (unit_of (number32 Little front 0) ≡ None) × (number32 Big front 0 ≢ section_type))
    (λ magic. TellsMagic magic front) → ReadsMagic (ok_or told (Fault NoCapture 0)) front a b
tells_magic a b front None read size (big, little, other) = (
  (front, read),
  λ octets known.
      let (rest, left, split) = Consumes-known a b front octets read known in
      rw split (
        refl,
        inr (
          ap unit_of (number32_front Big front rest 0 (omega (arith, size))) ∙ big,
          ap unit_of (number32_front Little front rest 0 (omega (arith, size))) ∙ little,
          λ begins. other (sym (number32_front Big front rest 0 (omega (arith, size))) ∙ begins),
        ),
      ),
)
tells_magic a b front (Some magic) read size tells = (read, size, tells)

pub reads_magic : (a b : Option (List ℕ)) (front : List ℕ) (told : Option Magic) (r : Result Magic PartStop) → r ≡ ok_or told (Fault NoCapture 0) → Consumes a b front
    → length front ≡ 4
    → MatchOption told ((unit_of (number32 Big front 0) ≡ None) × (unit_of (number32 Little front 0) ≡ None) × (number32 Big front 0 ≢ section_type))
    (λ magic. TellsMagic magic front) → ReadsMagic r front a b
reads_magic a b front told r is read size tells = rw is (tells_magic a b front told read size tells)

-- there are fewer
pub reads_no_magic : (a b : Option (List ℕ)) (front : List ℕ) → Consumes a b front → length front < 4 → IsAtEnd b → StopsPart Start (Fault NoCapture 0) a b
reads_no_magic a b front read short end = ((front, read), λ octets known. rw (all_read a b front octets read end known) (refl, inl short))

begins_front : (front rest : List ℕ) → 4 ≤ length front → BeginsSection front → BeginsSection (front ++ rest)
begins_front front rest least begins = number32_front Big front rest 0 least ∙ begins

longer : (front rest : List ℕ) (least : ℕ) → least ≤ length front → least ≤ length (front ++ rest)
longer front rest least within = rw (length-append front rest) (omega (arith, within))

-- the first section header isn't read
start_stops : (octets : List ℕ) (fault : CaptureFault) (place : ℕ) → 4 ≤ length octets → BeginsSection octets → IsSectionFault octets fault place → IsFault Start octets fault place
start_stops octets NoCapture place least begins wrong = absurd wrong
start_stops octets Version place least begins wrong = inr ((least, begins), wrong)
start_stops octets ByteOrderMagic place least begins wrong = inr ((least, begins), wrong)
start_stops octets Length place least begins wrong = inr ((least, begins), wrong)
start_stops octets Interface place least begins wrong = inr ((least, begins), wrong)
start_stops octets CutOff place least begins wrong = inr ((least, begins), wrong)

pub first_header_stops : (a b c : Option (List ℕ)) (front : List ℕ) (stop : PartStop) → Consumes a b front → 4 ≤ length front → BeginsSection front
    → StopsBy IsSectionFault stop (prepend_known front b) c → StopsPart Start stop a c
first_header_stops a b c front stop first least begins stops =
    stops_from a b c front IsSectionFault (IsFault Start) stop
    (λ rest fault place wrong. start_stops (front ++ rest) fault place (longer front rest 4 least) (begins_front front rest least begins) wrong)
    first stops

-- a further one isn't
pub header_stops : (a b c : Option (List ℕ)) (s : SectionOf) (front : List ℕ) (stop : PartStop) → Consumes a b front → 8 ≤ length front → BeginsSection front
    → StopsBy IsSectionFault stop (prepend_known front b) c → StopsPart (Section s) stop a c
header_stops a b c s front stop first least begins stops =
    stops_from a b c front IsSectionFault (IsFault (Section s)) stop
    (λ rest fault place wrong. inl (longer front rest 8 least, begins_front front rest (omega (arith, least)) begins, wrong))
    first stops

-- another block isn't
pub sized_stops : (a b c : Option (List ℕ)) (s : SectionOf) (front : List ℕ) (stop : PartStop) → Consumes a b front
    → StopsBy (IsBlockFault s) stop (prepend_known front b) c → StopsPart (Section s) stop a c
sized_stops a b c s front stop first stops =
    stops_from a b c front (IsBlockFault s) (IsFault (Section s)) stop (λ rest fault place wrong. inr wrong) first stops

-- a total length that is none
pub wrong_total : (a b : Option (List ℕ)) (s : SectionOf) (front : List ℕ) → Consumes a b front → 8 ≤ length front → (BeginsSection front → ⊥)
    → is_length_of (number32 s.order front 0) (number32 s.order front 4) ≡ false → StopsPart (Section s) (Fault Length 4) a b
wrong_total a b s front read least other wrong = (
  (front, read),
  λ octets known.
      let (rest, left, split) = Consumes-known a b front octets read known in
      rw split (inr (inl (
        longer front rest 8 least,
        (λ begins. other (sym (number32_front Big front rest 0 (omega (arith, least))) ∙ begins)),
        (λ i. is_length_of (number32_front s.order front rest 0 (omega (arith, least)) i) (number32_front s.order front rest 4 least i)) ∙ wrong,
        refl,
      ))),
)
