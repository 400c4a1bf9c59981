-- Worked cases: captures octet for octet, from the text of the format, and what they are read as.
use Rattle.std.proofs.Common.{ℕ, List, [], ◌∷◌, ◌≡◌, ◌&&◌, Bool, true, ltb, refl, arith, Some, None}
use Rattle.std.specs.Prelude.{codes}
use Rattle.std.proofs.lemmas.Bool.{and_parts, ltb-true}
use Rattle.std.proofs.lemmas.List.Elements.{All-nil, All-cons}
use Rattle.ptp_units.specs.Moment.{stamp}
use Rattle.capture_file.specs.declared.order.ByteOrder.TheVariants.{Big, Little}
use Rattle.capture_file.specs.declared.pcap.FractionUnit.TheVariants.{Microseconds, Nanoseconds}
use Rattle.capture_file.specs.Packet.{Captured}
use Rattle.capture_file.specs.Pcap.{PcapOf, pcap_interface}
use Rattle.capture_file.specs.Order.{AreOctets}
use Rattle.capture_file.specs.Options.{OptionOf, found_in}
use Rattle.capture_file.specs.Section.{DescriptionOf, description_of, own_name}
use Rattle.capture_laws.specs.Writing.{WrittenPacket, AreReadAs, PcapIgnored, pcap_octets, FitsPcap, WrittenInterface, PacketAt, Describes, Captures, PassedOver}
use Rattle.capture_laws.specs.Writing.{WrittenSection, pcapng_octets, FitsOption, TellsOther, FitsInterface, FitsPcapng, FitsPassedOver, HaveOtherNames, FitsSection}
use Rattle.capture_laws.proofs.Writing.{no_octets, one_octet, pcap_is_read}
use Rattle.capture_laws.proofs.WritingSections.{pcapng_is_read}

-- whether each is below 256
abbrev each_octet : List ℕ → Bool
each_octet [] = true
each_octet (x ∷ xs) = ltb x 256 && each_octet xs

are_octets : (xs : List ℕ) → each_octet xs ≡ true → AreOctets xs
are_octets [] is = no_octets
are_octets (x ∷ xs) is = let (here, rest) = and_parts (ltb x 256) (each_octet xs) is in one_octet x xs (ltb-true x 256 here) (are_octets xs rest)

-- ---- a pcap of one packet over Ethernet, of which four octets of 60 were captured at 1,700,000,000.000123 s

abbrev small_pcap : List ℕ
small_pcap =
    0xd4 ∷ 0xc3 ∷ 0xb2 ∷ 0xa1 ∷ 0x02 ∷ 0x00 ∷ 0x04 ∷ 0x00 ∷ 0x00 ∷ 0x00 ∷ 0x00 ∷ 0x00 ∷ 0x00 ∷ 0x00 ∷ 0x00 ∷ 0x00
    ∷ 0x00 ∷ 0x00 ∷ 0x04 ∷ 0x00 ∷ 0x01 ∷ 0x00 ∷ 0x00 ∷ 0x00
    ∷ 0x00 ∷ 0xf1 ∷ 0x53 ∷ 0x65 ∷ 0x7b ∷ 0x00 ∷ 0x00 ∷ 0x00 ∷ 0x04 ∷ 0x00 ∷ 0x00 ∷ 0x00 ∷ 0x3c ∷ 0x00 ∷ 0x00 ∷ 0x00
    ∷ 0x01 ∷ 0x1b ∷ 0x19 ∷ 0xff ∷ []

abbrev pcap_told : PcapOf
pcap_told = record { order = Little; unit = Microseconds; link = 1 }

abbrev pcap_ignored : PcapIgnored
pcap_ignored = record { first_reserved = 0; second_reserved = 0; snap_length = 262144; above_link = 0 }

abbrev small_packet : WrittenPacket
small_packet = record { time = stamp 1700000000 123000; octets = 0x01 ∷ 0x1b ∷ 0x19 ∷ 0xff ∷ []; original_length = 60 }

small_pcap_is_written : pcap_octets pcap_told pcap_ignored (small_packet ∷ []) ≡ small_pcap
small_pcap_is_written = refl

small_fits : FitsPcap Microseconds small_packet
small_fits = record {
  seconds = omega arith;
  nanos = omega arith;
  whole = refl;
  octets = are_octets (0x01 ∷ 0x1b ∷ 0x19 ∷ 0xff ∷ []) refl;
  captured_length = omega arith;
  original_length = omega arith;
}

small_pcap_is_read : AreReadAs small_pcap (Captured pcap_interface (stamp 1700000000 123000) 1 (0x01 ∷ 0x1b ∷ 0x19 ∷ 0xff ∷ []) ∷ [])
small_pcap_is_read =
    pcap_is_read pcap_told pcap_ignored (small_packet ∷ [])
    (record { link = omega arith; first_reserved = omega arith; second_reserved = omega arith; snap_length = omega arith; above_link = omega arith })
    (All-cons (FitsPcap Microseconds) small_packet [] small_fits (All-nil (FitsPcap Microseconds)))

-- ---- a pcapng of one packet over Ethernet, of which three octets of 60 came in at eth0 at 1,700,000,000.000000123 s, and of
-- a block of statistics

abbrev small_pcapng : List ℕ
small_pcapng =
    0x0a ∷ 0x0d ∷ 0x0d ∷ 0x0a ∷ 0x00 ∷ 0x00 ∷ 0x00 ∷ 0x1c ∷ 0x1a ∷ 0x2b ∷ 0x3c ∷ 0x4d ∷ 0x00 ∷ 0x01 ∷ 0x00 ∷ 0x00
    ∷ 0xff ∷ 0xff ∷ 0xff ∷ 0xff ∷ 0xff ∷ 0xff ∷ 0xff ∷ 0xff ∷ 0x00 ∷ 0x00 ∷ 0x00 ∷ 0x1c
    ∷ 0x00 ∷ 0x00 ∷ 0x00 ∷ 0x01 ∷ 0x00 ∷ 0x00 ∷ 0x00 ∷ 0x28 ∷ 0x00 ∷ 0x01 ∷ 0x00 ∷ 0x00 ∷ 0x00 ∷ 0x04 ∷ 0x00 ∷ 0x00
    ∷ 0x00 ∷ 0x02 ∷ 0x00 ∷ 0x04 ∷ 0x65 ∷ 0x74 ∷ 0x68 ∷ 0x30 ∷ 0x00 ∷ 0x09 ∷ 0x00 ∷ 0x01 ∷ 0x09 ∷ 0x00 ∷ 0x00 ∷ 0x00
    ∷ 0x00 ∷ 0x00 ∷ 0x00 ∷ 0x00 ∷ 0x00 ∷ 0x00 ∷ 0x00 ∷ 0x28
    ∷ 0x00 ∷ 0x00 ∷ 0x00 ∷ 0x06 ∷ 0x00 ∷ 0x00 ∷ 0x00 ∷ 0x30 ∷ 0x00 ∷ 0x00 ∷ 0x00 ∷ 0x00 ∷ 0x17 ∷ 0x97 ∷ 0x9c ∷ 0xfe
    ∷ 0x36 ∷ 0x2a ∷ 0x00 ∷ 0x7b ∷ 0x00 ∷ 0x00 ∷ 0x00 ∷ 0x03 ∷ 0x00 ∷ 0x00 ∷ 0x00 ∷ 0x3c ∷ 0x01 ∷ 0x1b ∷ 0x19 ∷ 0x00
    ∷ 0x00 ∷ 0x02 ∷ 0x00 ∷ 0x04 ∷ 0x00 ∷ 0x00 ∷ 0x00 ∷ 0x01 ∷ 0x00 ∷ 0x00 ∷ 0x00 ∷ 0x00 ∷ 0x00 ∷ 0x00 ∷ 0x00 ∷ 0x30
    ∷ 0x00 ∷ 0x00 ∷ 0x00 ∷ 0x05 ∷ 0x00 ∷ 0x00 ∷ 0x00 ∷ 0x18 ∷ 0x00 ∷ 0x00 ∷ 0x00 ∷ 0x00 ∷ 0x17 ∷ 0x97 ∷ 0x9c ∷ 0xfe
    ∷ 0x36 ∷ 0x2a ∷ 0x00 ∷ 0x7b ∷ 0x00 ∷ 0x00 ∷ 0x00 ∷ 0x18 ∷ []

abbrev eth0 : WrittenInterface
eth0 = record { link = 1; snap_length = 262144; name = Some (codes "eth0"); told = Some Nanoseconds; others = [] }

-- that it came in is said by epb_flags
abbrev came_in : OptionOf
came_in = record { code = 2; value = 0x00 ∷ 0x00 ∷ 0x00 ∷ 0x01 ∷ [] }

abbrev short_at_eth0 : PacketAt
short_at_eth0 = record {
  place = 0;
  interface = eth0;
  packet = record { time = stamp 1700000000 123; octets = 0x01 ∷ 0x1b ∷ 0x19 ∷ []; original_length = 60 };
  options = came_in ∷ [];
}

-- at eth0 at this time
abbrev statistics : List ℕ
statistics = 0x00 ∷ 0x00 ∷ 0x00 ∷ 0x00 ∷ 0x17 ∷ 0x97 ∷ 0x9c ∷ 0xfe ∷ 0x36 ∷ 0x2a ∷ 0x00 ∷ 0x7b ∷ []

abbrev small_section : WrittenSection
small_section = record { order = Big; options = []; blocks = Describes eth0 ∷ Captures short_at_eth0 ∷ PassedOver 5 statistics ∷ [] }

small_pcapng_is_written : pcapng_octets (small_section ∷ []) ≡ small_pcapng
small_pcapng_is_written = refl

eth0_fits : FitsInterface Big eth0
eth0_fits = record {
  link = omega arith;
  snap_length = omega arith;
  name = record { some = λ none. absurd cc; octets = are_octets (codes "eth0") refl; size = omega arith };
  others = All-nil FitsOption;
  tell_other = All-nil TellsOther;
  size = omega arith;
}

came_in_fits : FitsOption came_in
came_in_fits = record { code = omega arith; some = λ none. omega arith; octets = are_octets (0x00 ∷ 0x00 ∷ 0x00 ∷ 0x01 ∷ []) refl; size = omega arith }

short_fits : FitsPcapng Big (eth0 ∷ []) short_at_eth0
short_fits = record {
  place = omega arith;
  there = refl;
  time = omega arith;
  nanos = omega arith;
  whole = omega arith;
  octets = are_octets (0x01 ∷ 0x1b ∷ 0x19 ∷ []) refl;
  original_length = omega arith;
  options = All-cons FitsOption came_in [] came_in_fits (All-nil FitsOption);
  size = omega arith;
}

statistics_fit : FitsPassedOver 5 statistics
statistics_fit = record {
  other = refl;
  no_section = λ same. omega arith;
  within = omega arith;
  octets = are_octets statistics refl;
  size = refl;
  total_length = omega arith;
}

small_section_fits : FitsSection small_section
small_section_fits = record {
  options = All-nil FitsOption;
  size = omega arith;
  blocks = (eth0_fits, All-nil (λ earlier. HaveOtherNames earlier eth0), (short_fits, (statistics_fit, tt)));
}

small_pcapng_is_read : AreReadAs small_pcapng
    (Captured (record { place = 0; name = Some (codes "eth0") }) (stamp 1700000000 123) 1 (0x01 ∷ 0x1b ∷ 0x19 ∷ []) ∷ [])
small_pcapng_is_read =
    pcapng_is_read (small_section ∷ []) (λ none. absurd cc) (All-cons FitsSection small_section [] small_section_fits (All-nil FitsSection))

-- ---- which names are an interface's own, behind these
abbrev behind : List DescriptionOf
behind = description_of 1 [] (found_in Big (record { code = 2; value = codes "eth0" } ∷ [])) ∷ []

another_name : own_name behind (Some (codes "eth1")) ≡ Some (codes "eth1")
another_name = refl

a_name_that_is_taken : own_name behind (Some (codes "eth0")) ≡ None
a_name_that_is_taken = refl

a_name_as_of_a_place : own_name behind (Some (codes "if12")) ≡ None
a_name_as_of_a_place = refl

a_name_without_digits : own_name behind (Some (codes "if")) ≡ Some (codes "if")
a_name_without_digits = refl

a_name_with_more : own_name behind (Some (codes "if1a")) ≡ Some (codes "if1a")
a_name_with_more = refl

an_empty_name : own_name behind (Some []) ≡ None
an_empty_name = refl
