-- The first four octets, read in either order.
use Rattle.std.proofs.Common.{◌≡◌, ◌≢◌, ◌⊎◌, ℕ, ◌<◌, ◌≤◌, List, length, take, Bool, true, false, get_or, eqb, refl, sym, ap, ◌∙◌, inl, inr, arith, Some, None}
use Rattle.std.specs.Prelude.{slice_range}
use Rattle.std.specs.Int.{w32, to_be_bytes, to_le_bytes, from_be_bytes, from_le_bytes}
use Rattle.std.proofs.lemmas.Bool.{eqb-true, cases_lt}
use Rattle.std.proofs.lemmas.List.{get_or-take, get_or_past, length-take-le}
use Rattle.std.proofs.lemmas.Nat.{be_bytes_4, le_bytes_4}
use Rattle.capture_file.specs.declared.order.ByteOrder.{ByteOrder}
use Rattle.capture_file.specs.declared.order.ByteOrder.TheVariants.{Big, Little}
use Rattle.capture_file.specs.declared.pcap.FractionUnit.{FractionUnit}
use Rattle.capture_file.specs.Order.{AreOctets, number32}
use Rattle.capture_file.specs.Pcap.{unit_of}
use Rattle.capture_file.specs.Pcapng.{section_type}

-- each is an octet, and 0 stands behind them
four_octets : (octets : List ℕ) → AreOctets octets → 4 ≤ length octets → (i : ℕ) → get_or (slice_range octets 0 4) i 0 < 256
four_octets octets are there i = go (cases_lt i 4)
  where
    go : (i < 4) ⊎ (4 ≤ i) → get_or (take 4 octets) i 0 < 256
    go (inl within) = rw (get_or-take 4 octets i 0 within) (are i (omega (arith, within, there)))
    go (inr past) = rw (get_or_past (take 4 octets) i 0 (rw (length-take-le 4 octets there) past)) (omega arith)

four_long : (octets : List ℕ) → 4 ≤ length octets → length (slice_range octets 0 4) ≡ 4
four_long octets there = length-take-le 4 octets there

-- what they are, by their number
pub big_octets : (octets : List ℕ) (n : ℕ) → AreOctets octets → 4 ≤ length octets → number32 Big octets 0 ≡ n → slice_range octets 0 4 ≡ to_be_bytes w32 n
big_octets octets n are there is = sym (be_bytes_4 (slice_range octets 0 4) n (four_long octets there) (four_octets octets are there) (sym is))

pub little_octets : (octets : List ℕ) (n : ℕ) → AreOctets octets → 4 ≤ length octets → number32 Little octets 0 ≡ n → slice_range octets 0 4 ≡ to_le_bytes w32 n
little_octets octets n are there is = sym (le_bytes_4 (slice_range octets 0 4) n (four_long octets there) (four_octets octets are there) (sym is))

-- the type of a section header reads alike in both orders
pub either_section : (order : ByteOrder) (octets : List ℕ) → AreOctets octets → 4 ≤ length octets → number32 Big octets 0 ≡ section_type → number32 order octets 0 ≡ section_type
either_section Big octets are there is = is
either_section Little octets are there is = ap (from_le_bytes w32) (big_octets octets section_type are there is)

pub no_section : (order : ByteOrder) (octets : List ℕ) (kind : ℕ) → AreOctets octets → 4 ≤ length octets → number32 order octets 0 ≡ kind → kind ≢ section_type
    → number32 Big octets 0 ≢ section_type
no_section order octets kind are there is other section = other (sym is ∙ either_section order octets are there section)

-- a magic of pcap
unit_cases : (n : ℕ) (unit : FractionUnit) → unit_of n ≡ Some unit → (n ≡ 2712847316) ⊎ (n ≡ 2712812621)
unit_cases n unit is = go (eqb n 2712847316) (eqb n 2712812621) refl refl is
  where
    go : (a b : Bool) → eqb n 2712847316 ≡ a → eqb n 2712812621 ≡ b → unit_of n ≡ Some unit → (n ≡ 2712847316) ⊎ (n ≡ 2712812621)
    go true b first second told = inl (eqb-true n 2712847316 first)
    go false true first second told = inr (eqb-true n 2712812621 second)
    go false false first second told = absurd (cc (rw (first, second) at told))

-- is none of a section header
pub unit_no_section : (n : ℕ) (unit : FractionUnit) → unit_of n ≡ Some unit → n ≢ section_type
unit_no_section n unit is section = absurd (cc (rw section at is))

-- and none in the other order
pub little_no_big : (octets : List ℕ) (unit : FractionUnit) → AreOctets octets → 4 ≤ length octets → unit_of (number32 Little octets 0) ≡ Some unit
    → (unit_of (number32 Big octets 0) ≡ None) × (number32 Big octets 0 ≢ section_type)
little_no_big octets unit are there is = go (unit_cases (number32 Little octets 0) unit is)
  where
    go : (number32 Little octets 0 ≡ 2712847316) ⊎ (number32 Little octets 0 ≡ 2712812621) → (unit_of (number32 Big octets 0) ≡ None) × (number32 Big octets 0 ≢ section_type)
    go (inl magic) =
        let big : number32 Big octets 0 ≡ 3569595041 = ap (from_be_bytes w32) (little_octets octets 2712847316 are there magic) in
        (ap unit_of big, λ section. absurd (omega (arith, big, section)))
    go (inr magic) =
        let big : number32 Big octets 0 ≡ 1295823521 = ap (from_be_bytes w32) (little_octets octets 2712812621 are there magic) in
        (ap unit_of big, λ section. absurd (omega (arith, big, section)))
