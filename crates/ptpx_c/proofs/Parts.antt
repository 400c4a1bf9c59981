-- Seconds and nanoseconds of a number below 0.
use Rattle.std.proofs.Common.{◌≡◌, ℕ, ℤ, pos, negsuc, suc, ◌-◌, ◌*◌, ◌/◌, ◌%◌, ◌^◌, ◌<◌, ◌<ℤ◌, refl, arith}
use Rattle.std.specs.Prelude.{Some, unsigned_abs}
use Rattle.std.proofs.lemmas.Bool.Decides.{nat_tests}
use Rattle.std.proofs.lemmas.Int.{ints}
use Rattle.ptpx_c.specs.Words.{narrow_of}
use Rattle.ptpx_c.specs.Nanoseconds.{parted}

narrow_below : (q : ℕ) → q < 2 ^ 63 → narrow_of (negsuc q) ≡ Some (negsuc q)
narrow_below q fits = grind (arith, ints, nat_tests, fits)

pub parted_below : (z : ℤ) → z <ℤ pos 0 → unsigned_abs z - 1 < 2 ^ 63 * 10 ^ 9
    → parted z ≡ Some (negsuc ((unsigned_abs z - 1) / 1000000000), pos (999999999 - (unsigned_abs z - 1) % 1000000000))
parted_below (pos n) below fits = absurd (grind (arith, ints, below))
parted_below (negsuc n) below fits =
    let one : suc n - 1 ≡ n = omega arith in
    let small : n / 1000000000 < 2 ^ 63 = omega (arith, one, fits) in
    rw (one, narrow_below (n / 1000000000) small) refl
