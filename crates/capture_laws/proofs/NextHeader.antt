-- What stands next where a section header is due.
use Rattle.std.proofs.Common.{◌≡◌, ◌≢◌, ◌⊎◌, ℕ, ◌+◌, ◌-◌, ◌≤◌, ◌<◌, List, ◌++◌, length, Bool, true, false, ltb, eqb, refl, sym, ap, ◌∙◌, inl, inr, arith, Option, Some, None}
use Rattle.std.proofs.Common.{length-append}
use Rattle.std.specs.Prelude.{nat_le, ◌==◌, ◌%◌}
use Rattle.std.proofs.lemmas.Bool.{and_parts, leb-true, lt-ltb, le-ltb, eq-eqb, ne_eqb, cases_lt}
use Rattle.std.proofs.lemmas.List.{take_at}
use Rattle.capture_file.specs.declared.fault.CaptureFault.{CaptureFault}
use Rattle.capture_file.specs.declared.fault.CaptureFault.TheVariants.{NoCapture, Version, ByteOrderMagic, Length, Interface, CutOff}
use Rattle.capture_file.specs.declared.order.ByteOrder.{ByteOrder}
use Rattle.capture_file.specs.Order.{number32}
use Rattle.capture_file.specs.Packet.{PacketOf}
use Rattle.capture_file.specs.Parts.{Form, Section}
use Rattle.capture_file.specs.Pcapng.{section_type, is_length_of, order_of_magic, is_section_version, IsSection}
use Rattle.capture_file.specs.Section.{begun}
use Rattle.capture_file.specs.Wrong.{total_of, IsSectionFault}
use Rattle.capture_file.proofs.Fronts.{number32_front}
use Rattle.capture_file.proofs.Headers.{magic_front, section_version_front}
use Rattle.capture_laws.proofs.Next.{Whole, Wrong, whole, ending, ending_by, header, header_by, header_in}

-- ---- the end of a block

pub ending_whole : (total : ℕ) (order : ByteOrder) (octets : List ℕ) (packet : Option PacketOf) (later : Form) → total ≤ length octets → number32 order octets (total - 4) ≡ total
    → ending total order octets packet later ≡ whole total octets packet later
ending_whole total order octets packet later within again =
    λ i. ending_by (le-ltb (length octets) total within i) (eq-eqb (number32 order octets (total - 4)) total again i) total octets packet later

pub ending_short : (total : ℕ) (order : ByteOrder) (octets : List ℕ) (packet : Option PacketOf) (later : Form) → length octets < total
    → ending total order octets packet later ≡ Wrong CutOff 0
ending_short total order octets packet later short =
    λ i. ending_by (lt-ltb (length octets) total short i) (eqb (number32 order octets (total - 4)) total) total octets packet later

pub ending_other : (total : ℕ) (order : ByteOrder) (octets : List ℕ) (packet : Option PacketOf) (later : Form) → total ≤ length octets → number32 order octets (total - 4) ≢ total
    → ending total order octets packet later ≡ Wrong Length (total - 4)
ending_other total order octets packet later within other =
    λ i. ending_by (le-ltb (length octets) total within i) (ne_eqb (number32 order octets (total - 4)) total other i) total octets packet later

-- a part that is whole
pub is_whole : (octets rest : List ℕ) (packet : Option PacketOf) (later : Form)
    → whole (length octets) (octets ++ rest) packet later ≡ Whole (record { octets = octets; packet = packet; later = later })
is_whole octets rest packet later = ap (λ o. Whole (record { octets = o; packet = packet; later = later })) (take_at octets rest (length octets) refl)

-- ---- a section header

pub least_header : (total : ℕ) → is_length_of section_type total ≡ true → 28 ≤ total
least_header total size = leb-true 28 total (and_parts (nat_le 28 total) (total % 4 == 0) size).0

header_at : (octets : List ℕ) (order : Option ByteOrder) → 12 ≤ length octets → order_of_magic octets ≡ order → header octets ≡ header_by false order octets
header_at octets order there is = λ i. header_by (le-ltb (length octets) 12 there i) (is i) octets

header_as : (octets : List ℕ) (order : ByteOrder) (size short version : Bool) → is_length_of section_type (total_of order octets) ≡ size → ltb (length octets) 16 ≡ short
    → is_section_version order octets ≡ version → header_by false (Some order) octets ≡ header_in size short version order octets
header_as octets order size short version size_is short_is version_is = λ i. header_in (size_is i) (short_is i) (version_is i) order octets

-- one that is wrong
pub section_fault : (octets : List ℕ) (fault : CaptureFault) (place : ℕ) → IsSectionFault octets fault place → header octets ≡ Wrong fault place
section_fault octets ByteOrderMagic place (there, none, at) = header_at octets None there none ∙ ap (Wrong ByteOrderMagic) (sym at)
section_fault octets Version place (order, there, magic, size, version, at) =
    header_at octets (Some order) (omega (arith, there)) magic
    ∙ header_as octets order true false false size (le-ltb (length octets) 16 there) version
    ∙ ap (Wrong Version) (sym at)
section_fault octets Length place (order, inl (there, magic, wrong, at)) =
    header_at octets (Some order) there magic
    ∙ (λ i. header_in (wrong i) (ltb (length octets) 16) (is_section_version order octets) order octets)
    ∙ ap (Wrong Length) (sym at)
section_fault octets Length place (order, inr (so_far, (within, other, at))) =
    let least = least_header (total_of order octets) so_far.size in
    let there : 16 ≤ length octets = omega (arith, least, within) in
    header_at octets (Some order) so_far.there so_far.magic
    ∙ header_as octets order true false true so_far.size (le-ltb (length octets) 16 there) (so_far.version there)
    ∙ ending_other (total_of order octets) order octets None (Section (begun order)) within other
    ∙ ap (Wrong Length) (omega (arith, at))
section_fault octets CutOff place (at, inl short) =
    (λ i. header_by (lt-ltb (length octets) 12 short i) (order_of_magic octets) octets) ∙ ap (Wrong CutOff) (sym at)
section_fault octets CutOff place (at, inr (order, so_far, short)) =
    header_at octets (Some order) so_far.there so_far.magic ∙ go (cases_lt (length octets) 16) ∙ ap (Wrong CutOff) (sym at)
  where
    go : (length octets < 16) ⊎ (16 ≤ length octets) → header_by false (Some order) octets ≡ Wrong CutOff 0
    go (inl less) = header_as octets order true true (is_section_version order octets) so_far.size (lt-ltb (length octets) 16 less) refl
    go (inr there) =
        header_as octets order true false true so_far.size (le-ltb (length octets) 16 there) (so_far.version there)
        ∙ ending_short (total_of order octets) order octets None (Section (begun order)) short
section_fault octets NoCapture place wrong = absurd wrong
section_fault octets Interface place wrong = absurd wrong

-- one that is there
pub section_whole : (order : ByteOrder) (octets rest : List ℕ) → IsSection order octets
    → header (octets ++ rest) ≡ Whole (record { octets = octets; packet = None; later = Section (begun order) })
section_whole order octets rest s =
    header_at (octets ++ rest) (Some order) (omega (arith, long, least)) (magic_front octets rest (omega (arith, least)) ∙ s.magic)
    ∙ header_as (octets ++ rest) order true false true (ap (is_length_of section_type) total ∙ s.size) (le-ltb (length (octets ++ rest)) 16 (omega (arith, long, least)))
    (section_version_front order octets rest (omega (arith, least)) ∙ s.version)
    ∙ ap (λ t. ending t order (octets ++ rest) None (Section (begun order))) total
    ∙ ending_whole (length octets) order (octets ++ rest) None (Section (begun order)) (omega (arith, long))
    (number32_front order octets rest (length octets - 4) (omega (arith, least)) ∙ s.total_length_again)
    ∙ is_whole octets rest None (Section (begun order))
  where
    least : 28 ≤ length octets
    least = least_header (length octets) s.size

    long : length (octets ++ rest) ≡ length octets + length rest
    long = length-append octets rest

    total : total_of order (octets ++ rest) ≡ length octets
    total = number32_front order octets rest 4 (omega (arith, least)) ∙ s.total_length
