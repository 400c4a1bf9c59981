-- What stands next at the start, and in a pcap.
use Rattle.std.proofs.Common.{◌≡◌, ◌≢◌, ◌⊎◌, ℕ, ◌+◌, ◌%◌, ◌^◌, ◌≤◌, ◌<◌, List, ◌++◌, length, take, drop, Bool, true, false, ltb, eqb, refl, sym, ap, ◌∙◌, inl, inr, arith, Option, Some, None}
use Rattle.std.proofs.Common.{length-append}
use Rattle.std.proofs.lemmas.Bool.{lt-ltb, le-ltb, eq-eqb, ne_eqb, cases_lt}
use Rattle.std.proofs.lemmas.List.{take_at}
use Rattle.ptp_units.specs.Moment.{Stamp}
use Rattle.capture_file.specs.declared.fault.CaptureFault.{CaptureFault}
use Rattle.capture_file.specs.declared.fault.CaptureFault.TheVariants.{NoCapture, Version, ByteOrderMagic, Length, Interface, CutOff}
use Rattle.capture_file.specs.declared.order.ByteOrder.{ByteOrder}
use Rattle.capture_file.specs.declared.order.ByteOrder.TheVariants.{Big, Little}
use Rattle.capture_file.specs.declared.pcap.FractionUnit.{FractionUnit}
use Rattle.capture_file.specs.Order.{AreOctets, number32}
use Rattle.capture_file.specs.Packet.{PacketOf, packet_at}
use Rattle.capture_file.specs.Parts.{Start, Pcap}
use Rattle.capture_file.specs.Pcap.{PcapOf, unit_of, is_pcap_version, pcap_time, pcap_interface, IsPcapHead, IsPcapPacket}
use Rattle.capture_file.specs.Pcapng.{section_type, BeginsSection}
use Rattle.capture_file.specs.Wrong.{packet_length, IsPcapFault, IsFault}
use Rattle.capture_laws.proofs.FirstFour.{unit_no_section, little_no_big}
use Rattle.capture_file.proofs.Fronts.{number32_front, version_front}
use Rattle.capture_file.proofs.Packets.{length_is}
use Rattle.capture_laws.proofs.Next.{Whole, Wrong, whole, header, head, head_by, start, start_by, packet, packet_by}
use Rattle.capture_laws.proofs.NextHeader.{section_fault, is_whole}

-- ---- the magic

start_as : (octets : List ℕ) (section : Bool) (big little : Option FractionUnit) → 4 ≤ length octets → eqb (number32 Big octets 0) section_type ≡ section
    → unit_of (number32 Big octets 0) ≡ big → unit_of (number32 Little octets 0) ≡ little → start octets ≡ start_by false section big little octets
start_as octets section big little there section_is big_is little_is =
    λ i. start_by (le-ltb (length octets) 4 there i) (section_is i) (big_is i) (little_is i) octets

start_pcap : (order : ByteOrder) (unit : FractionUnit) (octets : List ℕ) → AreOctets octets → 4 ≤ length octets → unit_of (number32 order octets 0) ≡ Some unit
    → start octets ≡ head order unit octets
start_pcap Big unit octets are there is =
    start_as octets false (Some unit) (unit_of (number32 Little octets 0)) there
    (ne_eqb (number32 Big octets 0) section_type (unit_no_section (number32 Big octets 0) unit is)) is refl
start_pcap Little unit octets are there is =
    let (none, other) = little_no_big octets unit are there is in
    start_as octets false None (Some unit) there (ne_eqb (number32 Big octets 0) section_type other) none is

pub start_section : (octets : List ℕ) → 4 ≤ length octets → BeginsSection octets → start octets ≡ header octets
start_section octets there begins =
    start_as octets true (unit_of (number32 Big octets 0)) (unit_of (number32 Little octets 0)) there (eq-eqb (number32 Big octets 0) section_type begins) refl refl

-- ---- the head of a pcap

head_as : (order : ByteOrder) (unit : FractionUnit) (octets : List ℕ) (short version cut : Bool) → ltb (length octets) 8 ≡ short → is_pcap_version order octets ≡ version
    → ltb (length octets) 24 ≡ cut → head order unit octets ≡ head_by short version cut order unit octets
head_as order unit octets short version cut short_is version_is cut_is = λ i. head_by (short_is i) (version_is i) (cut_is i) order unit octets

some_unit : (unit : Option FractionUnit) → unit ≢ None → (u : FractionUnit) × (unit ≡ Some u)
some_unit None some = absurd (some refl)
some_unit (Some u) some = (u, refl)

pcap_fault : (octets : List ℕ) (fault : CaptureFault) (place : ℕ) → AreOctets octets → IsPcapFault octets fault place → start octets ≡ Wrong fault place
pcap_fault octets Version place are (order, (there, some), long, wrong, at) =
    let (unit, is) = some_unit (unit_of (number32 order octets 0)) some in
    start_pcap order unit octets are there is
    ∙ head_as order unit octets false false (ltb (length octets) 24) (le-ltb (length octets) 8 long) wrong refl
    ∙ ap (Wrong Version) (sym at)
pcap_fault octets CutOff place are (order, (there, some), short, version, at) =
    let (unit, is) = some_unit (unit_of (number32 order octets 0)) some in
    start_pcap order unit octets are there is ∙ go unit (cases_lt (length octets) 8) ∙ ap (Wrong CutOff) (sym at)
  where
    go : (unit : FractionUnit) → (length octets < 8) ⊎ (8 ≤ length octets) → head order unit octets ≡ Wrong CutOff 0
    go unit (inl less) = head_as order unit octets true (is_pcap_version order octets) (ltb (length octets) 24) (lt-ltb (length octets) 8 less) refl refl
    go unit (inr long) = head_as order unit octets false true true (le-ltb (length octets) 8 long) (version long) (lt-ltb (length octets) 24 short)
pcap_fault octets NoCapture place are wrong = absurd wrong
pcap_fault octets ByteOrderMagic place are wrong = absurd wrong
pcap_fault octets Length place are wrong = absurd wrong
pcap_fault octets Interface place are wrong = absurd wrong

-- one that is there
pub head_whole : (pcap : PcapOf) (octets rest : List ℕ) → AreOctets (octets ++ rest) → IsPcapHead pcap octets
    → start (octets ++ rest) ≡ Whole (record { octets = octets; packet = None; later = Pcap pcap })
head_whole pcap octets rest are h =
    start_pcap pcap.order pcap.unit (octets ++ rest) are (omega (arith, long, size)) (ap unit_of (number32_front pcap.order octets rest 0 (omega (arith, size))) ∙ h.magic)
    ∙ head_as pcap.order pcap.unit (octets ++ rest) false true false (le-ltb (length (octets ++ rest)) 8 (omega (arith, long, size)))
    (version_front pcap.order octets rest (omega (arith, size)) ∙ h.version) (le-ltb (length (octets ++ rest)) 24 (omega (arith, long, size)))
    ∙ ap (λ l. whole 24 (octets ++ rest) None (Pcap (record { order = pcap.order; unit = pcap.unit; link = l }))) link
    ∙ ap (λ n. whole n (octets ++ rest) None (Pcap pcap)) (sym size)
    ∙ is_whole octets rest None (Pcap pcap)
  where
    size : length octets ≡ 24
    size = h.size

    long : length (octets ++ rest) ≡ length octets + length rest
    long = length-append octets rest

    link : number32 pcap.order (octets ++ rest) 20 % 2 ^ 16 ≡ pcap.link
    link = ap (λ n. n % 2 ^ 16) (number32_front pcap.order octets rest 20 (omega (arith, size))) ∙ sym h.link_type

-- ---- what is wrong at the start

pub start_fault : (octets : List ℕ) (fault : CaptureFault) (place : ℕ) → AreOctets octets → IsFault Start octets fault place → start octets ≡ Wrong fault place
start_fault octets NoCapture place are (at, none) =
    go (cases_lt (length octets) 4) none ∙ ap (Wrong NoCapture) (sym at)
  where
    few : length octets < 4 → start octets ≡ Wrong NoCapture 0
    few short = λ i. start_by (lt-ltb (length octets) 4 short i) (eqb (number32 Big octets 0) section_type) (unit_of (number32 Big octets 0)) (unit_of (number32 Little octets 0)) octets

    go : (length octets < 4) ⊎ (4 ≤ length octets)
        → (length octets < 4) ⊎ ((unit_of (number32 Big octets 0) ≡ None) × (unit_of (number32 Little octets 0) ≡ None) × (BeginsSection octets → ⊥))
        → start octets ≡ Wrong NoCapture 0
    go (inl short) none = few short
    go (inr there) (inl short) = few short
    go (inr there) (inr (big, little, other)) = start_as octets false None None there (ne_eqb (number32 Big octets 0) section_type other) big little
start_fault octets Version place are (inl wrong) = pcap_fault octets Version place are wrong
start_fault octets Version place are (inr ((there, begins), wrong)) = start_section octets there begins ∙ section_fault octets Version place wrong
start_fault octets ByteOrderMagic place are (inl wrong) = absurd wrong
start_fault octets ByteOrderMagic place are (inr ((there, begins), wrong)) = start_section octets there begins ∙ section_fault octets ByteOrderMagic place wrong
start_fault octets Length place are (inl wrong) = absurd wrong
start_fault octets Length place are (inr ((there, begins), wrong)) = start_section octets there begins ∙ section_fault octets Length place wrong
start_fault octets Interface place are (inl wrong) = absurd wrong
start_fault octets Interface place are (inr ((there, begins), wrong)) = absurd wrong
start_fault octets CutOff place are (inl wrong) = pcap_fault octets CutOff place are wrong
start_fault octets CutOff place are (inr ((there, begins), wrong)) = start_section octets there begins ∙ section_fault octets CutOff place wrong

-- ---- a packet of a pcap

pub packet_fault : (pcap : PcapOf) (octets : List ℕ) (fault : CaptureFault) (place : ℕ) → IsFault (Pcap pcap) octets fault place → packet pcap octets ≡ Wrong fault place
packet_fault pcap octets CutOff place (some, short, at) =
    (λ i. packet_by (lt-ltb (length octets) (packet_length pcap.order octets) short i) pcap octets) ∙ ap (Wrong CutOff) (sym at)
packet_fault pcap octets NoCapture place wrong = absurd wrong
packet_fault pcap octets Version place wrong = absurd wrong
packet_fault pcap octets ByteOrderMagic place wrong = absurd wrong
packet_fault pcap octets Length place wrong = absurd wrong
packet_fault pcap octets Interface place wrong = absurd wrong

pub packet_whole : (pcap : PcapOf) (octets rest : List ℕ) (p : PacketOf) → IsPcapPacket pcap octets p
    → packet pcap (octets ++ rest) ≡ Whole (record { octets = octets; packet = Some p; later = Pcap pcap })
packet_whole pcap octets rest p is =
    (λ i. packet_by (le-ltb (length (octets ++ rest)) (packet_length pcap.order (octets ++ rest)) within i) pcap (octets ++ rest))
    ∙ ap (λ n. whole n (octets ++ rest) (Some (packet_at time pcap_interface pcap.link (drop 16 (take n (octets ++ rest))))) (Pcap pcap)) size
    ∙ ap (λ o. Whole (record { octets = o; packet = Some (packet_at time pcap_interface pcap.link (drop 16 o)); later = Pcap pcap })) (take_at octets rest (length octets) refl)
    ∙ (λ i. Whole (record {
      octets = octets;
      packet = Some (packet_at (pcap_time pcap.unit (front 0 (omega (arith, least)) i) (front 4 (omega (arith, least)) i)) pcap_interface pcap.link (drop 16 octets));
      later = Pcap pcap;
    }))
    ∙ ap (λ q. Whole (record { octets = octets; packet = Some q; later = Pcap pcap })) (sym is.packet_is)
  where
    least : 16 ≤ length octets
    least = is.least

    front : (k : ℕ) → k + 4 ≤ length octets → number32 pcap.order (octets ++ rest) k ≡ number32 pcap.order octets k
    front k there = number32_front pcap.order octets rest k there

    size : 16 + number32 pcap.order (octets ++ rest) 8 ≡ length octets
    size = ap (λ n. 16 + n) (front 8 (omega (arith, least))) ∙ sym is.captured_length

    within : packet_length pcap.order (octets ++ rest) ≤ length (octets ++ rest)
    within =
        let long = length-append octets rest in
        let length_of = length_is pcap.order (octets ++ rest) (omega (arith, long, least)) in
        omega (arith, long, length_of, size)

    time : Option Stamp
    time = pcap_time pcap.unit (number32 pcap.order (octets ++ rest) 0) (number32 pcap.order (octets ++ rest) 4)
