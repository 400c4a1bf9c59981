-- The intervals that logMessageInterval tells are at most 64 s.
use Rattle.std.proofs.Common.{◌≡◌, ℕ, ◌+◌, ◌*◌, ◌/◌, ◌^◌, ◌≤◌, ℤ, pos, negsuc, Bool, true, false, Some, None, refl, arith}
use Rattle.std.proofs.Common.{if◌then◌else◌}
use Rattle.std.specs.Prelude.{nat_le}
use Rattle.std.proofs.Math.Nat.{div-le_self}
use Rattle.std.proofs.Math.Pow.{pow_mono}
use Rattle.std.proofs.lemmas.Bool.{leb-true}
use Rattle.sync_watch.specs.Life.{second, interval_of}

pub interval_within : (log : ℤ) (interval : ℕ) → interval_of log ≡ Some interval → interval ≤ second * 64
interval_within (pos n) interval is = by (nat_le n 6) refl is
  where
    by : (low : Bool) → nat_le n 6 ≡ low → (if low then Some (second * 2 ^ n) else None) ≡ Some interval
        → interval ≤ second * 64
    by true low is =
        let power : 2 ^ n ≤ 2 ^ 6 = pow_mono (leb-true n 6 low) in
        let one : second * 2 ^ n ≡ interval = cc in
        omega (arith, power, one)
    by false low is = cc
interval_within (negsuc n) interval is = by (nat_le n 6) is
  where
    by : (low : Bool) → (if low then Some (second / 2 ^ (n + 1)) else None) ≡ Some interval → interval ≤ second * 64
    by true is =
        let one : second / 2 ^ (n + 1) ≡ interval = cc in
        let low = div-le_self second (2 ^ (n + 1)) in
        omega (arith, low, one)
    by false is = cc
