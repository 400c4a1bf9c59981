-- The two brackets over true readings and a residence.
use Rattle.std.proofs.Common.{◌≡◌, ◌∙◌, ℕ, ◌+◌, ℤ, pos, ◌+ℤ◌, ◌-ℤ◌, Bool, true, false, int_lt, if◌then◌else◌, refl, ap, arith}
use Rattle.std.proofs.lemmas.Bool.Decides.{nat_tests}
use Rattle.std.proofs.lemmas.Int.{ints}
use Rattle.ptp_units.specs.Moment.{stamp_of, fraction_of, moment}
use Rattle.ptp_units.specs.Interval.{with_residence, less_fraction, too_big}
use Rattle.ptp_units.specs.Exchange.{sync_bracket, delay_bracket}

-- a timestamp and a fraction make the moment
moment-stamp_of : (time : ℕ) → moment (stamp_of time) 0 + fraction_of time ≡ time
moment-stamp_of time = omega arith

-- what isn't too big is the residence
residence_of : (residence : ℕ) → int_lt (with_residence (pos 0) residence) too_big ≡ true → with_residence (pos 0) residence ≡ pos residence
residence_of residence small = grind (arith, nat_tests)

-- reading at the arrival, less reading at the departure, less the residence
pub sync_bracket-exact : (t2 t1 residence : ℕ) → int_lt (with_residence (pos 0) residence) too_big ≡ true
    → sync_bracket t2 (stamp_of t1) (pos (fraction_of t1)) (with_residence (pos 0) residence) ≡ (pos t2 -ℤ pos t1) -ℤ pos residence
sync_bracket-exact t2 t1 residence small = grind (arith, residence_of residence small, moment-stamp_of t1)

fraction_taken_off : (c : ℤ) (fraction : ℕ) → int_lt c too_big ≡ true → less_fraction c fraction ≡ c -ℤ pos fraction
fraction_taken_off c fraction small = ap (λ b. if b then c -ℤ pos fraction else too_big) small

whole_arrival : (whole fraction t4 t3 residence : ℕ) → whole + fraction ≡ t4
    → (pos whole -ℤ (pos residence -ℤ pos fraction)) -ℤ pos t3 ≡ (pos t4 -ℤ pos t3) -ℤ pos residence
whole_arrival whole fraction t4 t3 residence same = omega (arith, ints)

-- the same for the Delay_Req
pub delay_bracket-exact : (t4 t3 residence : ℕ) → int_lt (with_residence (pos 0) residence) too_big ≡ true
    → delay_bracket (stamp_of t4) (less_fraction (with_residence (pos 0) residence) (fraction_of t4)) t3 ≡ (pos t4 -ℤ pos t3) -ℤ pos residence
delay_bracket-exact t4 t3 residence small =
    ap (λ c. delay_bracket (stamp_of t4) c t3) (fraction_taken_off (with_residence (pos 0) residence) (fraction_of t4) small)
    ∙ ap (λ c. delay_bracket (stamp_of t4) (c -ℤ pos (fraction_of t4)) t3) (residence_of residence small)
    ∙ whole_arrival (moment (stamp_of t4) 0) (fraction_of t4) t4 t3 residence (moment-stamp_of t4)

-- a fraction and a residence that aren't too big are their sum
sum_of : (fraction residence : ℕ) → int_lt (with_residence (pos fraction) residence) too_big ≡ true → with_residence (pos fraction) residence ≡ pos (fraction + residence)
sum_of fraction residence small = grind (arith, ints, nat_tests)

-- the same for a one-step Sync
pub one_step_bracket-exact : (t2 t1 residence : ℕ) → int_lt (with_residence (pos (fraction_of t1)) residence) too_big ≡ true
    → sync_bracket t2 (stamp_of t1) (pos 0) (with_residence (pos (fraction_of t1)) residence) ≡ (pos t2 -ℤ pos t1) -ℤ pos residence
one_step_bracket-exact t2 t1 residence small =
    ap (λ c. sync_bracket t2 (stamp_of t1) (pos 0) c) (sum_of (fraction_of t1) residence small)
    ∙ whole_departure (moment (stamp_of t1) 0) (fraction_of t1) t2 t1 residence (moment-stamp_of t1)
  where
    whole_departure : (whole fraction t2 t1 residence : ℕ) → whole + fraction ≡ t1
        → (pos t2 -ℤ (pos whole +ℤ pos 0)) -ℤ pos (fraction + residence) ≡ (pos t2 -ℤ pos t1) -ℤ pos residence
    whole_departure whole fraction t2 t1 residence same = omega (arith, ints)

-- a Delay_Resp isn't too big only where its Delay_Req isn't
pub small_request : (c : ℤ) (fraction : ℕ) → int_lt (less_fraction c fraction) too_big ≡ true → int_lt c too_big ≡ true
small_request c fraction small = by (int_lt c too_big) refl small
  where
    by : (less : Bool) → int_lt c too_big ≡ less → int_lt (if less then c -ℤ pos fraction else too_big) too_big ≡ true → int_lt c too_big ≡ true
    by true e small = e
    by false e small = cc
