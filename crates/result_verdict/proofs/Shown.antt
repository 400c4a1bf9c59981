-- What is written of an exact number: its sign, whole nanoseconds, a point, and decimals.
use Rattle.std.proofs.Common.{◌≡◌, ◌≢◌, ℕ, suc, ◌+◌, ◌*◌, ◌/◌, ◌%◌, ◌<◌, List, [], ◌++◌, ℤ, pos, negsuc, codes, ◌⊎◌, inl, inr}
use Rattle.std.proofs.Common.{true, false, unsigned_abs, arith}
use Rattle.std.specs.Fmt.{decimal}
use Rattle.std.proofs.lemmas.Int.{ints}
use lib.Signed.{lt_z}
use Rattle.ptp_units.specs.Nanoseconds.{pointed}
use Rattle.result_verdict.specs.Exact.{nanosecond, decimals, size_text, exact_text}
use Rattle.result_verdict.specs.Inner.Normal.{with_parts}
use Rattle.result_verdict.proofs.Division.{decimals-nothing, decimals-step}

-- a point stands before decimals alone
fraction : (parts : ℕ) (point : List ℕ) → ((parts ≡ 0) × (point ≡ [])) ⊎ ((parts ≢ 0) × (point ≡ codes "."))
    → point ++ decimals 17 parts ≡ pointed (decimals 17 parts)
fraction parts point (inl none) = rw (none.0, none.1, decimals-nothing 17)
fraction parts point (inr some) = rw (some.1, decimals-step 16 parts (omega (arith, some.0)))

size_shown : (size whole parts : ℕ) (point : List ℕ) → whole * nanosecond + parts ≡ size → parts < nanosecond
    → ((parts ≡ 0) × (point ≡ [])) ⊎ ((parts ≢ 0) × (point ≡ codes "."))
    → decimal whole ++ (point ++ decimals 17 parts) ≡ size_text size
size_shown size whole parts point is below cases =
    let above : size / nanosecond ≡ whole = omega arith in
    let left : size % nanosecond ≡ parts = omega arith in
    rw (fraction parts point cases, above, left)

module _ (left parts : ℕ) (point : List ℕ) (below : parts < nanosecond)
    (cases : ((parts ≡ 0) × (point ≡ [])) ⊎ ((parts ≢ 0) × (point ≡ codes "."))) where
  signed : (kept whole z : ℤ) (sign : List ℕ) → with_parts kept left ≡ z → with_parts whole parts ≡ pos (unsigned_abs z)
      → ((lt_z kept (pos 0) ≡ true) × (sign ≡ codes "-")) ⊎ ((lt_z kept (pos 0) ≡ false) × (sign ≡ []))
      → sign ++ (decimal (unsigned_abs whole) ++ (point ++ decimals 17 parts)) ≡ exact_text z
  signed kept (negsuc w) z sign is size signs = absurd cc
  signed (pos k) (pos w) (pos n) sign is size (inr plain) =
      rw plain.1 (size_shown n w parts point (cc) below cases)
  signed (negsuc k) (pos w) (negsuc n) sign is size (inl minus) =
      rw (minus.1, size_shown (suc n) w parts point (cc) below cases)
  signed (pos k) (pos w) (negsuc n) sign is size signs = absurd cc
  signed (negsuc k) (pos w) (pos n) sign is size signs = absurd cc
  signed (pos k) (pos w) (pos n) sign is size (inl minus) = absurd (grind (arith, ints, minus.0))
  signed (negsuc k) (pos w) (negsuc n) sign is size (inr plain) = absurd (grind (arith, ints, plain.0))

pub shown : (left parts : ℕ) (point : List ℕ) (kept whole z : ℤ) (size : ℕ) (sign : List ℕ) → parts < nanosecond
    → with_parts kept left ≡ z → with_parts whole parts ≡ pos (unsigned_abs z) → size ≡ unsigned_abs whole
    → ((lt_z kept (pos 0) ≡ true) × (sign ≡ codes "-")) ⊎ ((lt_z kept (pos 0) ≡ false) × (sign ≡ []))
    → ((parts ≡ 0) × (point ≡ [])) ⊎ ((parts ≢ 0) × (point ≡ codes "."))
    → sign ++ (decimal size ++ (point ++ decimals 17 parts)) ≡ exact_text z
shown left parts point kept whole z size sign below is total plain signs cases =
    rw plain (signed left parts point below cases kept whole z sign is total signs)
