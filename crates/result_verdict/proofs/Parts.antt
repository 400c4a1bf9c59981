-- Exact numbers and their parts.
use Rattle.std.proofs.Common.{◌≡◌, ℕ, ◌^◌, ◌<◌, ℤ, pos, negsuc, ap, arith}
use Rattle.result_verdict.specs.Exact.{nanosecond, IsWithin}
use Rattle.result_verdict.specs.Inner.Normal.{with_parts, IsNormal, whole_of, parts_of}

-- what is kept is found again
whole_back : (whole : ℤ) (parts : ℕ) → parts < nanosecond → whole_of (with_parts whole parts) ≡ whole
whole_back (pos n) parts below = ap pos (omega arith)
whole_back (negsuc n) parts below = ap negsuc (omega arith)

parts_back : (whole : ℤ) (parts : ℕ) → parts < nanosecond → parts_of (with_parts whole parts) ≡ parts
parts_back (pos n) parts below = omega arith
parts_back (negsuc n) parts below = omega arith

pub normal : (whole : ℤ) (parts : ℕ) → parts < nanosecond → IsWithin (2 ^ 120) (with_parts whole parts)
    → IsNormal whole parts
normal whole parts below near = record {
  below = below;
  near = near;
  whole_found = whole_back whole parts below;
  parts_found = parts_back whole parts below;
}
