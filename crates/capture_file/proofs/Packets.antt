-- What the reading of a packet of a pcap comes to.
use Rattle.std.proofs.Common.{◌≡◌, ◌≢◌, ℕ, ◌+◌, ◌-◌, ◌≤◌, ◌<◌, List, [], ◌∷◌, ◌++◌, length, take, drop, sym, ap, ◌∙◌, refl, arith, Bool, true, false, Option, Some, None, Result, Ok, Err}
use Rattle.std.proofs.Common.{length-append, append-nil}
use Rattle.std.specs.Prelude.{⊤}
use Rattle.std.specs.Option.{ForSome}
use Rattle.std.specs.Io.KnownBytes.{Consumes, IsAtEnd}
use Rattle.std.proofs.KnownBytes.{Consumes-trans}
use Rattle.std.proofs.lemmas.Bool.{le-ltb, lt-ltb}
use Rattle.std.proofs.lemmas.List.{take-append-le, drop-append-le, length-drop, take_all}
use Rattle.ptp_units.specs.Moment.{Stamp}
use Rattle.capture_file.specs.declared.fault.CaptureFault.TheVariants.{NoCapture, Version, ByteOrderMagic, Length, Interface, CutOff}
use Rattle.capture_file.specs.declared.order.ByteOrder.{ByteOrder}
use Rattle.capture_file.specs.declared.part.Part.{Part}
use Rattle.capture_file.specs.declared.part.PartStop.{PartStop}
use Rattle.capture_file.specs.declared.part.PartStop.TheVariants.{Read, Memory, Fault}
use Rattle.capture_file.specs.Order.{number32}
use Rattle.capture_file.specs.Packet.{InterfaceOf, PacketOf, Captured, packet_at}
use Rattle.capture_file.specs.Pcap.{PcapOf, pcap_time, pcap_interface, IsPcapPacket}
use Rattle.capture_file.specs.Parts.{Form, Pcap}
use Rattle.capture_file.specs.Wrong.{packet_length, IsFault}
use Rattle.capture_file.specs.Inner.Reading.{Wants, PassesRest, StopsPart, ReadsPacketHead, ReadsPart}
use Rattle.capture_file.proofs.Fronts.{number32_front, all_read}

-- ---- a packet that is whole

-- what nobody looks at changes nothing
packet_front : (time : Option Stamp) (interface : InterfaceOf) (link : ℕ) (front passed : List ℕ) → 16 ≤ length front
    → (0 < length passed → 65552 ≤ length front) → packet_at time interface link (drop 16 (front ++ passed)) ≡ packet_at time interface link (drop 16 front)
packet_front None interface link front passed least full = refl
packet_front (Some time) interface link front [] least full = rw (append-nil front) refl
packet_front (Some time) interface link front (x ∷ xs) least full =
    ap (Captured interface time link) (
    ap (take 65536) (drop-append-le 16 front (x ∷ xs) least)
    ∙ take-append-le 65536 (drop 16 front) (x ∷ xs) (rw (length-drop 16 front) (let long = full (omega arith) in omega arith))
    )

-- those that were read are the packet that they say
pub is_packet : (pcap : PcapOf) (front passed : List ℕ) (packet : PacketOf) → 16 ≤ length front → (0 < length passed → 65552 ≤ length front)
    → length front + length passed ≡ 16 + number32 pcap.order front 8
    → packet ≡ packet_at (pcap_time pcap.unit (number32 pcap.order front 0) (number32 pcap.order front 4)) pcap_interface pcap.link (drop 16 front)
    → IsPcapPacket pcap (front ++ passed) packet
is_packet pcap front passed packet least full whole is = record {
  least = rw (length-append front passed) (omega (arith, least));
  captured_length = length-append front passed ∙ whole ∙ ap (λ n. 16 + n) (sym (number32_front pcap.order front passed 8 (omega (arith, least))));
  packet_is = is ∙ sym (
      (λ i. packet_at (pcap_time pcap.unit (number32_front pcap.order front passed 0 (omega (arith, least)) i) (number32_front pcap.order front passed 4 (omega (arith, least)) i)) pcap_interface pcap.link (drop 16 (front ++ passed)))
      ∙ packet_front (pcap_time pcap.unit (number32 pcap.order front 0) (number32 pcap.order front 4)) pcap_interface pcap.link front passed least full
      );
}

-- the octets of a packet whose time is one
pub captured_is : (time : Option Stamp) (stamp : Stamp) (link : ℕ) (octets : List ℕ) → time ≡ Some stamp → length octets ≤ 65552
    → Captured pcap_interface stamp link (take (length octets - 16) (drop 16 octets)) ≡ packet_at time pcap_interface link (drop 16 octets)
captured_is time stamp link octets is most =
    rw is (ap (Captured pcap_interface stamp link) (
    take_all (length octets - 16) (drop 16 octets) (rw (length-drop 16 octets) (omega arith))
    ∙ sym (take_all 65536 (drop 16 octets) (rw (length-drop 16 octets) (omega (arith, most))))
    ))

-- ---- a packet that is cut off

-- how many octets it has, where its head is there
pub length_is : (order : ByteOrder) (octets : List ℕ) → 16 ≤ length octets → packet_length order octets ≡ 16 + number32 order octets 8
length_is order octets least = rw (le-ltb (length octets) 16 least) refl

not_empty : (octets : List ℕ) → 16 ≤ length octets → octets ≢ []
not_empty octets least is = absurd (omega (arith, least, ap length is))

-- an input that ends behind the head of a packet
cut_packet : (a c : Option (List ℕ)) (pcap : PcapOf) (octets : List ℕ) → Consumes a c octets → IsAtEnd c → 16 ≤ length octets
    → length octets < 16 + number32 pcap.order octets 8 → ForSome a (λ o. IsFault (Pcap pcap) o CutOff 0)
cut_packet a c pcap octets read end least short all known =
    rw (all_read a c octets all read end known) (not_empty octets least, rw (length_is pcap.order octets least) short, refl)

-- an input that ends before it
pub cut_head : (a c : Option (List ℕ)) (octets : List ℕ) → Consumes a c octets → IsAtEnd c → octets ≢ [] → length octets < 16 → (pcap : PcapOf)
    → ForSome a (λ o. IsFault (Pcap pcap) o CutOff 0)
cut_head a c octets read end some short pcap all known =
    rw (all_read a c octets all read end known) (some, rw (lt-ltb (length octets) 16 short) short, refl)

-- there is a head
pub head_is : (a b : Option (List ℕ)) (there : Bool) (front : List ℕ) → there ≡ true → ReadsPacketHead (Ok there) front a b → Consumes a b front × (length front ≡ 16)
head_is a b true front is read = read
head_is a b false front is read = absurd cc

-- why the octets of a packet aren't read whole, behind its head
pub packet_stops : (a b c : Option (List ℕ)) (pcap : PcapOf) (size : ℕ) (front new : List ℕ) (stop : PartStop) → Consumes a b front → length front ≡ 16
    → size ≤ 16 + number32 pcap.order front 8 → Wants {T = ⊤} size (Err stop) front new b c → StopsPart (Pcap pcap) stop a c
packet_stops a b c pcap size front new Read read head most (more, is, next) = (new, rw is (Consumes-trans a b c front more read next))
packet_stops a b c pcap size front new Memory read head most wants = absurd wants
packet_stops a b c pcap size front new (Fault CutOff place) read head most ((more, is, next), short, end, first) =
    let all : Consumes a c new = rw is (Consumes-trans a b c front more read next) in (
      (new, all),
      rw first (cut_packet a c pcap new all end
          (rw (is, length-append front more) (omega (arith, head)))
          (rw (is, number32_front pcap.order front more 8 (omega (arith, head))) (omega (arith, most, ap length is, short)))),
    )
packet_stops a b c pcap size front new (Fault NoCapture place) read head most wants = absurd wants
packet_stops a b c pcap size front new (Fault Version place) read head most wants = absurd wants
packet_stops a b c pcap size front new (Fault ByteOrderMagic place) read head most wants = absurd wants
packet_stops a b c pcap size front new (Fault Length place) read head most wants = absurd wants
packet_stops a b c pcap size front new (Fault Interface place) read head most wants = absurd wants

-- the same of those that nobody looks at
pub rest_stops : (a b c : Option (List ℕ)) (pcap : PcapOf) (count : ℕ) (front : List ℕ) (stop : PartStop) → Consumes a b front → 16 ≤ length front
    → length front + count ≡ 16 + number32 pcap.order front 8 → PassesRest {T = ⊤} count (Err stop) b c → StopsPart (Pcap pcap) stop a c
rest_stops a b c pcap count front Read read least whole (passed, next) = (front ++ passed, Consumes-trans a b c front passed read next)
rest_stops a b c pcap count front Memory read least whole passes = absurd passes
rest_stops a b c pcap count front (Fault CutOff place) read least whole (passed, next, short, end, first) =
    let all = Consumes-trans a b c front passed read next in (
      (front ++ passed, all),
      rw first (cut_packet a c pcap (front ++ passed) all end
          (rw (length-append front passed) (omega (arith, least)))
          (rw (length-append front passed, number32_front pcap.order front passed 8 (omega (arith, least))) (omega (arith, short, whole)))),
    )
rest_stops a b c pcap count front (Fault NoCapture place) read least whole passes = absurd passes
rest_stops a b c pcap count front (Fault Version place) read least whole passes = absurd passes
rest_stops a b c pcap count front (Fault ByteOrderMagic place) read least whole passes = absurd passes
rest_stops a b c pcap count front (Fault Length place) read least whole passes = absurd passes
rest_stops a b c pcap count front (Fault Interface place) read least whole passes = absurd passes

pub reads_no_part : (a c : Option (List ℕ)) (old new : Form) (r : Result (Option Part) PartStop) (stop : PartStop) → r ≡ Err stop → StopsPart old stop a c
    → ReadsPart old new r a c
reads_no_part a c old new (Ok part) stop is stops = absurd cc
reads_no_part a c old new (Err other) stop is stops = let same : other ≡ stop = cc in rw same stops
