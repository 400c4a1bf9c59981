-- What stands next in a section of a pcapng.
use Rattle.std.proofs.Common.{◌≡◌, ◌⊎◌, ℕ, ◌+◌, ◌-◌, ◌*◌, ◌^◌, ◌≤◌, ◌<◌, List, [], ◌++◌, length, take, Bool, true, false, cond, ltb, leb, eqb, refl, sym, ap, ◌∙◌, inl, inr, arith, Option, Some, None}
use Rattle.std.proofs.Common.{length-append}
use Rattle.std.specs.Prelude.{nat_le, ◌==◌, ◌%◌, ◌||◌, not, slice_get, slice_range}
use Rattle.std.proofs.lemmas.Bool.{and_parts, leb-true, lt-ltb, le-ltb, le-leb, lt-leb, eqb-true, eq-eqb, ne_eqb, cases_lt}
use Rattle.capture_file.specs.declared.fault.CaptureFault.{CaptureFault}
use Rattle.capture_file.specs.declared.fault.CaptureFault.TheVariants.{NoCapture, Version, ByteOrderMagic, Length, Interface, CutOff}
use Rattle.capture_file.specs.declared.order.ByteOrder.{ByteOrder}
use Rattle.capture_file.specs.declared.order.ByteOrder.TheVariants.{Big}
use Rattle.capture_file.specs.Clock.{time_at}
use Rattle.capture_file.specs.Order.{AreOctets, number16, number32}
use Rattle.capture_file.specs.Options.{OptionOf, found_in}
use Rattle.capture_file.specs.Packet.{PacketOf, Simple, packet_at}
use Rattle.capture_file.specs.Parts.{Form, Section, IsSectionPacket, IsSectionBlock}
use Rattle.capture_file.specs.Pcapng.{BeginsSection, section_type, description_type, enhanced_packet_type, simple_packet_type, old_packet_type, padded}
use Rattle.capture_file.specs.Pcapng.{least_of, is_length_of, IsBlock, IsSection}
use Rattle.capture_file.specs.Section.{DescriptionOf, SectionOf, begun, with_interface, description_of, options_there, packet_time}
use Rattle.capture_file.specs.Section.{IsDescription, IsEnhanced, IsSimple, IsOther}
use Rattle.capture_file.specs.Wrong.{total_of, kind_of, IsBegun, IsBlockSoFar, IsBlockFault, IsFault}
use Rattle.capture_file.proofs.Blocks.{padded_least, least_enhanced}
use Rattle.capture_file.proofs.Descriptions.{least_description}
use Rattle.capture_laws.proofs.FirstFour.{no_section}
use Rattle.capture_file.proofs.Fronts.{slice_front, number16_front, number32_front}
use Rattle.capture_laws.proofs.Next.{Whole, Wrong, Scan, ending, header, scan, scanned, description, description_by, enhanced, enhanced_by, block, block_by, section, section_by}
use Rattle.capture_laws.proofs.NextHeader.{section_fault, section_whole, ending_whole, ending_short, ending_other, is_whole}
use Rattle.capture_laws.proofs.NextOptions.{options_are, option_wrong, there_within}

-- ---- which kind

section_as : (s : SectionOf) (octets : List ℕ) (begins size : Bool) → 8 ≤ length octets → eqb (number32 Big octets 0) section_type ≡ begins
    → is_length_of (kind_of s.order octets) (total_of s.order octets) ≡ size → section s octets ≡ section_by false begins size s octets
section_as s octets begins size there begins_is size_is = λ i. section_by (le-ltb (length octets) 8 there i) (begins_is i) (size_is i) s octets

section_header : (s : SectionOf) (octets : List ℕ) → 8 ≤ length octets → BeginsSection octets → section s octets ≡ header octets
section_header s octets there begins =
    section_as s octets true (is_length_of (kind_of s.order octets) (total_of s.order octets)) there (eq-eqb (number32 Big octets 0) section_type begins) refl

section_block : (s : SectionOf) (kind : ℕ) (octets : List ℕ) → 8 ≤ length octets → (BeginsSection octets → ⊥) → kind_of s.order octets ≡ kind
    → is_length_of kind (total_of s.order octets) ≡ true → section s octets ≡ block kind s octets
section_block s kind octets there other kind_is size =
    section_as s octets false true there (ne_eqb (number32 Big octets 0) section_type other) (ap (λ k. is_length_of k (total_of s.order octets)) kind_is ∙ size)
    ∙ ap (λ k. block k s octets) kind_is

-- a block of one of the small types
begun_block : (s : SectionOf) (kind : ℕ) (octets : List ℕ) → AreOctets octets → kind < 168627466 → IsBegun s.order kind octets → section s octets ≡ block kind s octets
begun_block s kind octets are small b =
    section_block s kind octets b.head
    (no_section s.order octets kind are (let head = b.head in omega arith) b.kind_is (λ same. absurd (omega (arith, small, same))))
    b.kind_is b.size

enhanced_as : (s : SectionOf) (octets : List ℕ) (interface : Option DescriptionOf) (cut fits : Bool) → 12 ≤ length octets
    → slice_get s.interfaces (number32 s.order octets 8) ≡ interface → ltb (length octets) 24 ≡ cut
    → leb (32 + padded (number32 s.order octets 20)) (total_of s.order octets) ≡ fits → enhanced s octets ≡ enhanced_by false interface cut fits s octets
enhanced_as s octets interface cut fits there interface_is cut_is fits_is =
    λ i. enhanced_by (le-ltb (length octets) 12 there i) (interface_is i) (cut_is i) (fits_is i) s octets

description_as : (s : SectionOf) (octets : List ℕ) (wrong : Option ℕ) (options : List OptionOf) → 16 ≤ length octets → (scanned s octets).wrong ≡ wrong
    → (scanned s octets).options ≡ options → description s octets ≡ description_by false wrong options s octets
description_as s octets wrong options there wrong_is options_is =
    λ i. description_by (le-ltb (length octets) 16 there i) (wrong_is i) (options_is i) s octets

description_sound : (s : SectionOf) (octets : List ℕ) (options : List OptionOf) → 16 ≤ length octets → scanned s octets ≡ record { wrong = None; options = options }
    → description s octets ≡ description_by false None options s octets
description_sound s octets options there is = description_as s octets None options there (ap (λ (scan : Scan). scan.wrong) is) (ap (λ (scan : Scan). scan.options) is)

-- ---- a block whose fields are sound

-- it ends within
block_short : (s : SectionOf) (octets : List ℕ) → IsBlockSoFar s octets → length octets < total_of s.order octets → section s octets ≡ Wrong CutOff 0
block_short s octets b short =
    section_block s b.kind octets b.begun.head b.other b.begun.kind_is b.begun.size
    ∙ go (eqb b.kind enhanced_packet_type) (eqb b.kind description_type) (eqb b.kind simple_packet_type || eqb b.kind old_packet_type) refl refl
  where
    within : (is : b.kind ≡ enhanced_packet_type) → (length octets < 12) ⊎ (12 ≤ length octets) → enhanced s octets ≡ Wrong CutOff 0
    within is (inl less) =
        λ i. enhanced_by (lt-ltb (length octets) 12 less i) (slice_get s.interfaces (number32 s.order octets 8)) (ltb (length octets) 24)
        (leb (32 + padded (number32 s.order octets 20)) (total_of s.order octets)) s octets
    within is (inr there) =
        let (d, found) = b.described is there in
        deeper d found (cases_lt (length octets) 24)
      where
        deeper : (d : DescriptionOf) → slice_get s.interfaces (number32 s.order octets 8) ≡ Some d → (length octets < 24) ⊎ (24 ≤ length octets) → enhanced s octets ≡ Wrong CutOff 0
        deeper d found (inl less) =
            enhanced_as s octets (Some d) true (leb (32 + padded (number32 s.order octets 20)) (total_of s.order octets)) there found (lt-ltb (length octets) 24 less) refl
        deeper d found (inr more) =
            enhanced_as s octets (Some d) false true there found (le-ltb (length octets) 24 more)
            (le-leb (32 + padded (number32 s.order octets 20)) (total_of s.order octets) (b.fits is more))
            ∙ ending_short (total_of s.order octets) s.order octets _ (Section s) short

    described : (is : b.kind ≡ description_type) → (length octets < 16) ⊎ (16 ≤ length octets) → description s octets ≡ Wrong CutOff 0
    described is (inl less) = λ i. description_by (lt-ltb (length octets) 16 less i) (scanned s octets).wrong (scanned s octets).options s octets
    described is (inr there) =
        let (options, are) = b.options is there in
        description_sound s octets options there
        (options_are s.order (total_of s.order octets - 20) (options_there (total_of s.order octets) octets) options (there_within (total_of s.order octets) octets) are)
        ∙ ending_short (total_of s.order octets) s.order octets None _ short

    go : (e d p : Bool) → eqb b.kind enhanced_packet_type ≡ e → eqb b.kind description_type ≡ d → block_by e d p s octets ≡ Wrong CutOff 0
    go true d p is other = within (eqb-true b.kind enhanced_packet_type is) (cases_lt (length octets) 12)
    go false true p other is = described (eqb-true b.kind description_type is) (cases_lt (length octets) 16)
    go false false true other other' = ending_short (total_of s.order octets) s.order octets (Some Simple) (Section s) short
    go false false false other other' = ending_short (total_of s.order octets) s.order octets None (Section s) short

-- its end is there
block_ends : (s : SectionOf) (octets : List ℕ) → IsBlockSoFar s octets → total_of s.order octets ≤ length octets
    → (packet : Option PacketOf) × (later : Form) × (section s octets ≡ ending (total_of s.order octets) s.order octets packet later)
block_ends s octets b long =
    let (packet, later, is) = go (eqb b.kind enhanced_packet_type) (eqb b.kind description_type) (eqb b.kind simple_packet_type || eqb b.kind old_packet_type) refl refl in
    (packet, later, section_block s b.kind octets b.begun.head b.other b.begun.kind_is b.begun.size ∙ is)
  where
    go : (e d p : Bool) → eqb b.kind enhanced_packet_type ≡ e → eqb b.kind description_type ≡ d
        → (packet : Option PacketOf) × (later : Form) × (block_by e d p s octets ≡ ending (total_of s.order octets) s.order octets packet later)
    go true d p is other =
        let kind = eqb-true b.kind enhanced_packet_type is in
        let least = least_enhanced (total_of s.order octets) (ap (λ k. is_length_of k (total_of s.order octets)) (sym kind) ∙ b.begun.size) in
        let (interface, found) = b.described kind (omega (arith, least, long)) in (
          Some (packet_at (packet_time interface s.order octets) (record { place = number32 s.order octets 8; name = interface.name }) interface.link
              (slice_range octets 28 (28 + number32 s.order octets 20))),
          Section s,
          enhanced_as s octets (Some interface) false true (omega (arith, least, long)) found (le-ltb (length octets) 24 (omega (arith, least, long)))
              (le-leb (32 + padded (number32 s.order octets 20)) (total_of s.order octets) (b.fits kind (omega (arith, least, long)))),
        )
    go false true p other is =
        let kind = eqb-true b.kind description_type is in
        let least = least_description (total_of s.order octets) (ap (λ k. is_length_of k (total_of s.order octets)) (sym kind) ∙ b.begun.size) in
        let (options, are) = b.options kind (omega (arith, least, long)) in (
          None,
          Section (with_interface (description_of (number16 s.order octets 8) s.interfaces (found_in s.order options)) s),
          description_sound s octets options (omega (arith, least, long))
              (options_are s.order (total_of s.order octets - 20) (options_there (total_of s.order octets) octets) options (there_within (total_of s.order octets) octets) are),
        )
    go false false true other other' = (Some Simple, Section s, refl)
    go false false false other other' = (None, Section s, refl)

-- ---- a block that is wrong

block_fault : (s : SectionOf) (octets : List ℕ) (fault : CaptureFault) (place : ℕ) → AreOctets octets → IsBlockFault s octets fault place → section s octets ≡ Wrong fault place
block_fault s octets Length place are (inl (there, other, wrong, at)) =
    section_as s octets false false there (ne_eqb (number32 Big octets 0) section_type other) wrong ∙ ap (Wrong Length) (sym at)
block_fault s octets Length place are (inr (inl (begun, there, (d, found), long, at))) =
    begun_block s enhanced_packet_type octets are (omega arith) begun
    ∙ enhanced_as s octets (Some d) false false (omega (arith, there)) found (le-ltb (length octets) 24 there)
    (lt-leb (32 + padded (number32 s.order octets 20)) (total_of s.order octets) long)
    ∙ ap (Wrong Length) (sym at)
block_fault s octets Length place are (inr (inr (inl (begun, there, within, wrong, at)))) =
    let (w, is, sum) = option_wrong s.order (total_of s.order octets - 20) (options_there (total_of s.order octets) octets) within (there_within (total_of s.order octets) octets) wrong in
    begun_block s description_type octets are (omega arith) begun
    ∙ description_as s octets (Some w) (scanned s octets).options there is refl
    ∙ ap (Wrong Length) (omega (arith, sum, at))
block_fault s octets Length place are (inr (inr (inr (so_far, (within, other, at))))) =
    let (packet, later, is) = block_ends s octets so_far within in
    is ∙ ending_other (total_of s.order octets) s.order octets packet later within other ∙ ap (Wrong Length) (omega (arith, at))
block_fault s octets Interface place are (begun, there, none, at) =
    begun_block s enhanced_packet_type octets are (omega arith) begun
    ∙ enhanced_as s octets None (ltb (length octets) 24) (leb (32 + padded (number32 s.order octets 20)) (total_of s.order octets)) there none refl refl
    ∙ ap (Wrong Interface) (sym at)
block_fault s octets CutOff place are (at, some, inl short) =
    (λ i. section_by (lt-ltb (length octets) 8 short i) (eqb (number32 Big octets 0) section_type) (is_length_of (kind_of s.order octets) (total_of s.order octets)) s octets)
    ∙ ap (Wrong CutOff) (sym at)
block_fault s octets CutOff place are (at, some, inr (so_far, short)) = block_short s octets so_far short ∙ ap (Wrong CutOff) (sym at)
block_fault s octets NoCapture place are wrong = absurd wrong
block_fault s octets Version place are wrong = absurd wrong
block_fault s octets ByteOrderMagic place are wrong = absurd wrong

pub part_fault : (s : SectionOf) (octets : List ℕ) (fault : CaptureFault) (place : ℕ) → AreOctets octets → IsFault (Section s) octets fault place
    → section s octets ≡ Wrong fault place
part_fault s octets fault place are (inl (there, begins, wrong)) = section_header s octets there begins ∙ section_fault octets fault place wrong
part_fault s octets fault place are (inr wrong) = block_fault s octets fault place are wrong

-- ---- a block that is there

least_any : (kind total : ℕ) → is_length_of kind total ≡ true → 12 ≤ total
least_any kind total size =
    let within = leb-true (least_of kind) total (and_parts (nat_le (least_of kind) total) (total % 4 == 0) size).0 in
    let least = twelve (eqb kind section_type) (eqb kind description_type) (eqb kind simple_packet_type) (eqb kind enhanced_packet_type) in
    omega (arith, within, least)
  where
    twelve : (a b c d : Bool) → 12 ≤ cond a 28 (cond b 20 (cond c 16 (cond d 32 12)))
    twelve true b c d = omega arith
    twelve false true c d = omega arith
    twelve false false true d = omega arith
    twelve false false false true = omega arith
    twelve false false false false = omega arith

block_long : (s : SectionOf) (kind : ℕ) (octets : List ℕ) → IsBlock s.order kind octets → 12 ≤ length octets
block_long s kind octets b = least_any kind (length octets) b.size

total_is : (s : SectionOf) (kind : ℕ) (octets rest : List ℕ) → IsBlock s.order kind octets → total_of s.order (octets ++ rest) ≡ length octets
total_is s kind octets rest b = number32_front s.order octets rest 4 (let long = block_long s kind octets b in omega arith) ∙ b.total_length

whole_block : (s : SectionOf) (kind : ℕ) (octets rest : List ℕ) (packet : Option PacketOf) (later : Form) → IsBlock s.order kind octets
    → ending (total_of s.order (octets ++ rest)) s.order (octets ++ rest) packet later ≡ Whole (record { octets = octets; packet = packet; later = later })
whole_block s kind octets rest packet later b =
    ap (λ t. ending t s.order (octets ++ rest) packet later) (total_is s kind octets rest b)
    ∙ ending_whole (length octets) s.order (octets ++ rest) packet later (rw (length-append octets rest) (omega arith))
    (number32_front s.order octets rest (length octets - 4) (let long = block_long s kind octets b in omega arith) ∙ b.total_length_again)
    ∙ is_whole octets rest packet later

begun_behind : (s : SectionOf) (kind : ℕ) (octets rest : List ℕ) → IsBlock s.order kind octets → IsBegun s.order kind (octets ++ rest)
begun_behind s kind octets rest b = record {
  head = rw (length-append octets rest) (let long = block_long s kind octets b in omega arith);
  kind_is = number32_front s.order octets rest 0 (let long = block_long s kind octets b in omega arith) ∙ b.kind_is;
  size = ap (is_length_of kind) (total_is s kind octets rest b) ∙ b.size;
}

enhanced_whole : (s : SectionOf) (octets rest : List ℕ) (p : PacketOf) → AreOctets (octets ++ rest) → IsEnhanced s octets p
    → section s (octets ++ rest) ≡ Whole (record { octets = octets; packet = Some p; later = Section s })
enhanced_whole s octets rest p are e =
    begun_block s enhanced_packet_type (octets ++ rest) are (omega arith) (begun_behind s enhanced_packet_type octets rest e.block)
    ∙ enhanced_as s (octets ++ rest) (Some e.interface) false true (omega (arith, long, least)) (ap (slice_get s.interfaces) (front 8 (omega (arith, least))) ∙ e.described)
    (le-ltb (length (octets ++ rest)) 24 (omega (arith, long, least)))
    (le-leb (32 + padded (number32 s.order (octets ++ rest) 20)) (total_of s.order (octets ++ rest)) (omega (arith, room, fits, total_is s enhanced_packet_type octets rest e.block)))
    ∙ whole_block s enhanced_packet_type octets rest _ (Section s) e.block
    ∙ (λ i. Whole (record {
      octets = octets;
      packet = Some (packet_at
          (time_at e.interface.resolution e.interface.offset (front 12 (omega (arith, least)) i * 2 ^ 32 + front 16 (omega (arith, least)) i))
          (record { place = front 8 (omega (arith, least)) i; name = e.interface.name })
          e.interface.link
          (captured i));
      later = Section s;
    }))
    ∙ ap (λ q. Whole (record { octets = octets; packet = Some q; later = Section s })) (sym e.packet_is)
  where
    least : 32 ≤ length octets
    least = least_enhanced (length octets) e.block.size

    long : length (octets ++ rest) ≡ length octets + length rest
    long = length-append octets rest

    fits : 32 + padded (number32 s.order octets 20) ≤ length octets
    fits = e.fits

    front : (k : ℕ) → k + 4 ≤ length octets → number32 s.order (octets ++ rest) k ≡ number32 s.order octets k
    front k there = number32_front s.order octets rest k there

    room : 32 + padded (number32 s.order (octets ++ rest) 20) ≡ 32 + padded (number32 s.order octets 20)
    room = ap (λ n. 32 + padded n) (front 20 (omega (arith, least)))

    captured : slice_range (octets ++ rest) 28 (28 + number32 s.order (octets ++ rest) 20) ≡ slice_range octets 28 (28 + number32 s.order octets 20)
    captured =
        ap (λ n. slice_range (octets ++ rest) 28 (28 + n)) (front 20 (omega (arith, least)))
        ∙ slice_front octets rest 28 (28 + number32 s.order octets 20) (omega arith)
        (let within = padded_least (number32 s.order octets 20) in omega (arith, fits, within))

description_whole : (s : SectionOf) (octets rest : List ℕ) (d : DescriptionOf) → AreOctets (octets ++ rest) → IsDescription s octets d
    → section s (octets ++ rest) ≡ Whole (record { octets = octets; packet = None; later = Section (with_interface d s) })
description_whole s octets rest d are i =
    begun_block s description_type (octets ++ rest) are (omega arith) (begun_behind s description_type octets rest i.block)
    ∙ description_sound s (octets ++ rest) i.options (omega (arith, long, least)) scanned_is
    ∙ whole_block s description_type octets rest None _ i.block
    ∙ ap (λ l. Whole (record {
      octets = octets;
      packet = None;
      later = Section (with_interface (description_of l s.interfaces (found_in s.order i.options)) s);
    })) (number16_front s.order octets rest 8 (omega (arith, least)))
    ∙ ap (λ e. Whole (record { octets = octets; packet = None; later = Section (with_interface e s) })) (sym i.said)
  where
    least : 20 ≤ length octets
    least = least_description (length octets) i.block.size

    long : length (octets ++ rest) ≡ length octets + length rest
    long = length-append octets rest

    there : options_there (length octets) (octets ++ rest) ≡ options_there (length octets) octets
    there = ap (take 65584) (slice_front octets rest 16 (length octets - 4) (omega (arith, least)) (omega (arith, least)))

    scanned_is : scanned s (octets ++ rest) ≡ record { wrong = None; options = i.options }
    scanned_is =
        ap (λ t. scan s.order (t - 20) (t - 20) (options_there t (octets ++ rest)) []) (total_is s description_type octets rest i.block)
        ∙ ap (λ o. scan s.order (length octets - 20) (length octets - 20) o []) there
        ∙ options_are s.order (length octets - 20) (options_there (length octets) octets) i.options (there_within (length octets) octets) i.are

simple_whole : (s : SectionOf) (octets rest : List ℕ) → AreOctets (octets ++ rest) → IsSimple s octets
    → section s (octets ++ rest) ≡ Whole (record { octets = octets; packet = Some Simple; later = Section s })
simple_whole s octets rest are (inl b) =
    begun_block s simple_packet_type (octets ++ rest) are (omega arith) (begun_behind s simple_packet_type octets rest b)
    ∙ whole_block s simple_packet_type octets rest (Some Simple) (Section s) b
simple_whole s octets rest are (inr b) =
    begun_block s old_packet_type (octets ++ rest) are (omega arith) (begun_behind s old_packet_type octets rest b)
    ∙ whole_block s old_packet_type octets rest (Some Simple) (Section s) b

other_whole : (s : SectionOf) (octets rest : List ℕ) → IsOther s octets
    → section s (octets ++ rest) ≡ Whole (record { octets = octets; packet = None; later = Section s })
other_whole s octets rest (kind, none, other, b) =
    section_block s kind (octets ++ rest) begun.head
    (λ begins. other (sym (number32_front Big octets rest 0 (let long = block_long s kind octets b in omega arith)) ∙ begins)) begun.kind_is begun.size
    ∙ go (eqb kind description_type) (eqb kind old_packet_type) (eqb kind simple_packet_type) (eqb kind enhanced_packet_type) none
    ∙ whole_block s kind octets rest None (Section s) b
  where
    begun : IsBegun s.order kind (octets ++ rest)
    begun = begun_behind s kind octets rest b

    go : (d o p e : Bool) → not (d || o || p || e) ≡ true
        → block_by e d (p || o) s (octets ++ rest) ≡ ending (total_of s.order (octets ++ rest)) s.order (octets ++ rest) None (Section s)
    go false false false false is = refl
    go true o p e is = absurd cc
    go false true p e is = absurd cc
    go false false true e is = absurd cc
    go false false false true is = absurd cc

further_whole : (s : SectionOf) (order : ByteOrder) (octets rest : List ℕ) → IsSection order octets
    → section s (octets ++ rest) ≡ Whole (record { octets = octets; packet = None; later = Section (begun order) })
further_whole s order octets rest h =
    section_header s (octets ++ rest) (rw (length-append octets rest) (omega (arith, least)))
    (number32_front Big octets rest 0 (omega (arith, least)) ∙ h.kind_is)
    ∙ section_whole order octets rest h
  where
    least : 12 ≤ length octets
    least = least_any section_type (length octets) h.size

-- ---- any part

pub packet_part : (s : SectionOf) (octets rest : List ℕ) (p : PacketOf) (later : Form) → AreOctets (octets ++ rest) → IsSectionPacket s octets p later
    → section s (octets ++ rest) ≡ Whole (record { octets = octets; packet = Some p; later = later })
packet_part s octets rest p later are (inl is, same) =
    enhanced_whole s octets rest p are is ∙ ap (λ l. Whole (record { octets = octets; packet = Some p; later = l })) (sym same)
packet_part s octets rest p later are (inr (is, simple), same) =
    simple_whole s octets rest are is ∙ (λ i. Whole (record { octets = octets; packet = Some (sym simple i); later = sym same i }))

pub block_part : (s : SectionOf) (octets rest : List ℕ) (later : Form) → AreOctets (octets ++ rest) → IsSectionBlock s octets later
    → section s (octets ++ rest) ≡ Whole (record { octets = octets; packet = None; later = later })
block_part s octets rest later are (inl (order, is, same)) =
    further_whole s order octets rest is ∙ ap (λ l. Whole (record { octets = octets; packet = None; later = l })) (sym same)
block_part s octets rest later are (inr (inl (d, is, same))) =
    description_whole s octets rest d are is ∙ ap (λ l. Whole (record { octets = octets; packet = None; later = l })) (sym same)
block_part s octets rest later are (inr (inr (is, same))) =
    other_whole s octets rest is ∙ ap (λ l. Whole (record { octets = octets; packet = None; later = l })) (sym same)
