-- One more message in a row.
use Rattle.std.proofs.Common.{◌≡◌, ◌∙◌, ℕ, ◌+◌, ◌-◌, ◌^◌, ◌<◌, ◌==◌, ◌||◌, min, length, get_or, set, Bool, true, false, cond, List, ◌∷◌, Option, Some, None, option_map, refl, sym, ap, arith}
use Rattle.std.specs.Prelude.{count_by}
use Rattle.std.specs.Int.{from_bool}
use Rattle.std.specs.Option.{option_or}
use Rattle.std.proofs.lemmas.Bool.Decides.{nat_tests}
use Rattle.std.proofs.lemmas.List.{get_or-set_same, get_or-set_other}
use Rattle.std.proofs.lemmas.List.Sums.{sum_by-cons}
use Rattle.ptp_units.specs.Moment.{Stamp}
use Rattle.statistics.specs.Wide.{at_most}
use Rattle.capture_extract.specs.declared.header.Listed.{Listed}
use Rattle.capture_extract.specs.Row.{time_of}

more_at : (is_so : Bool) (count old : ℕ) → old ≡ at_most count → min (old + cond is_so 1 0) (2 ^ 64 - 1) ≡ at_most (cond is_so 1 0 + count)
more_at true count old h = omega (arith, h)
more_at false count old h = omega (arith, h)

one_if : (is_so : Bool) → from_bool is_so ≡ cond is_so 1 0
one_if true = refl
one_if false = refl

pub more : (p : Listed → Bool) (m : Listed) (ms : List Listed) (old one new : ℕ) → old ≡ at_most (count_by p ms)
    → one ≡ from_bool (p m) → new ≡ min (old + one) (2 ^ 64 - 1) → new ≡ at_most (count_by p (m ∷ ms))
more p m ms old one new h is sum = sum ∙ ap (λ (n : ℕ). min (old + n) (2 ^ 64 - 1)) (is ∙ one_if (p m)) ∙ more_at (p m) (count_by p ms) old h
    ∙ ap at_most (sym (sum_by-cons (λ (x : Listed). cond (p x) 1 0) m ms))

pub first_stays : (first : Option Listed) (m : Listed) (time : Stamp) → option_map time_of first ≡ Some time
    → option_map time_of (option_or first (Some m)) ≡ Some time
first_stays None m time h = absurd (let e : None ≡ Some time = h in cc)
first_stays (Some n) m time h = h

pub met_more : (met : List Bool) (here minor : ℕ) (others : Bool) → here < length met → get_or met minor false ≡ others
    → get_or (set met here true) minor false ≡ (here == minor || others)
met_more met here minor others within h = grind (arith, nat_tests, get_or-set_same, get_or-set_other)
