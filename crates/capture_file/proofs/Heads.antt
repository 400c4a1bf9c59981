-- What the reading of a pcap's head comes to.
use Rattle.std.proofs.Common.{◌≡◌, ◌≢◌, ℕ, ◌≤◌, ◌<◌, List, ◌++◌, length, true, false, ap, ◌∙◌, refl, inl, arith, Option, Some, None, Result, Ok, Err}
use Rattle.std.specs.Prelude.{⊤}
use Rattle.std.specs.Option.{ForSome}
use Rattle.std.specs.Io.KnownBytes.{Consumes, IsAtEnd, prepend_known}
use Rattle.std.proofs.KnownBytes.{Consumes-trans}
use Rattle.std.proofs.Common.{length-append}
use Rattle.text_lines.proofs.KnownOctets.{Consumes-known}
use Rattle.capture_file.specs.declared.fault.CaptureFault.TheVariants.{NoCapture, Version, ByteOrderMagic, Length, Interface, CutOff}
use Rattle.capture_file.specs.declared.order.ByteOrder.{ByteOrder}
use Rattle.capture_file.specs.declared.part.PartStop.{PartStop}
use Rattle.capture_file.specs.declared.part.PartStop.TheVariants.{Read, Memory, Fault}
use Rattle.capture_file.specs.declared.pcap.FractionUnit.{FractionUnit}
use Rattle.capture_file.specs.declared.pcap.PcapHead.{PcapHead}
use Rattle.capture_file.specs.Order.{number32}
use Rattle.capture_file.specs.Pcap.{unit_of, is_pcap_version}
use Rattle.capture_file.specs.Parts.{Start}
use Rattle.capture_file.specs.Wrong.{IsFault}
use Rattle.capture_file.specs.Inner.Octets.{Fills}
use Rattle.capture_file.specs.Inner.Reading.{Wants, StopsPart, ReadsHead}
use Rattle.capture_file.proofs.Fronts.{number32_front, version_front, all_read, consumes_front}

-- the octets that were read of a head, and the unit that its magic tells
pub record IsBegun (a b : Option (List ℕ)) (order : ByteOrder) (unit : FractionUnit) (front : List ℕ) : Type 0 where
  pub read : Consumes a b front
  pub least : 4 ≤ length front
  pub magic : unit_of (number32 order front 0) ≡ Some unit

pub begun : (b : Option (List ℕ)) (order : ByteOrder) (unit : FractionUnit) (front : List ℕ) → (length front ≡ 4) × (unit_of (number32 order front 0) ≡ Some unit)
    → IsBegun (prepend_known front b) b order unit front
begun b order unit front (size, magic) = record { read = consumes_front b front; least = omega (arith, size); magic = magic }

some : {T : Type 0} (o : Option T) (x : T) → o ≡ Some x → o ≢ None
some o x is none = absurd cc

-- with more octets
pub begun_more : (a b c : Option (List ℕ)) (order : ByteOrder) (unit : FractionUnit) (front new : List ℕ) → IsBegun a b order unit front → Fills front new b c
    → IsBegun a c order unit new
begun_more a b c order unit front new begun (more, is, next) = record {
  read = rw is (Consumes-trans a b c front more begun.read next);
  least = rw (is, length-append front more) (let least = begun.least in omega arith);
  magic = rw is (number32_front_unit ∙ begun.magic);
}
  where
    number32_front_unit : unit_of (number32 order (front ++ more) 0) ≡ unit_of (number32 order front 0)
    number32_front_unit = ap unit_of (number32_front order front more 0 begun.least)

-- the version stays what it is
pub version_more : (b c : Option (List ℕ)) (order : ByteOrder) (front new : List ℕ) → 8 ≤ length front → Fills front new b c
    → is_pcap_version order new ≡ is_pcap_version order front
version_more b c order front new least (more, is, next) = rw is (version_front order front more least)

-- an input that ends within a head
cut_off : (a c : Option (List ℕ)) (order : ByteOrder) (unit : FractionUnit) (front : List ℕ) → IsBegun a c order unit front → IsAtEnd c → length front < 24
    → (8 ≤ length front → is_pcap_version order front ≡ true) → ForSome a (λ octets. IsFault Start octets CutOff 0)
cut_off a c order unit front begun end short version octets known =
    rw (all_read a c front octets begun.read end known)
    (inl (order, (begun.least, some (unit_of (number32 order front 0)) unit begun.magic), short, version, refl))

-- why a head isn't read whole
pub head_stops : (a b c : Option (List ℕ)) (size : ℕ) (order : ByteOrder) (unit : FractionUnit) (front new : List ℕ) (stop : PartStop)
    → size ≤ 24 → IsBegun a b order unit front → Wants {T = ⊤} size (Err stop) front new b c
    → (length new < size → 8 ≤ length new → Fills front new b c → is_pcap_version order new ≡ true) → StopsPart Start stop a c
head_stops a b c size order unit front new Read most begun wants version =
    let after = begun_more a b c order unit front new begun wants in (new, after.read)
head_stops a b c size order unit front new Memory most begun wants version = absurd wants
head_stops a b c size order unit front new (Fault CutOff place) most begun (fills, short, end, first) version =
    let after = begun_more a b c order unit front new begun fills in
    ((new, after.read), rw first (cut_off a c order unit new after end (omega (arith, short, most)) (λ least. version short least fills)))
head_stops a b c size order unit front new (Fault NoCapture place) most begun wants version = absurd wants
head_stops a b c size order unit front new (Fault Version place) most begun wants version = absurd wants
head_stops a b c size order unit front new (Fault ByteOrderMagic place) most begun wants version = absurd wants
head_stops a b c size order unit front new (Fault Length place) most begun wants version = absurd wants
head_stops a b c size order unit front new (Fault Interface place) most begun wants version = absurd wants

pub reads_none : (a c : Option (List ℕ)) (r : Result PcapHead PartStop) (stop : PartStop) → r ≡ Err stop → StopsPart Start stop a c → ReadsHead r a c
reads_none a c (Ok head) stop is stops = absurd cc
reads_none a c (Err other) stop is stops = let same : other ≡ stop = cc in rw same stops

-- a version that isn't known
pub wrong_version : (a b : Option (List ℕ)) (order : ByteOrder) (unit : FractionUnit) (front : List ℕ) → IsBegun a b order unit front → 8 ≤ length front
    → is_pcap_version order front ≡ false → StopsPart Start (Fault Version 4) a b
wrong_version a b order unit front begun least wrong = (
  (front, begun.read),
  λ octets known.
      let (rest, left, split) = Consumes-known a b front octets begun.read known in
      rw split (inl (
        order,
        (
          rw (length-append front rest) (let least = begun.least in omega arith),
          some (unit_of (number32 order (front ++ rest) 0)) unit (ap unit_of (number32_front order front rest 0 begun.least) ∙ begun.magic),
        ),
        rw (length-append front rest) (omega (arith, least)),
        version_front order front rest least ∙ wrong,
        refl,
      )),
)
