-- Messages of one life in order: none comes late, and each number is counted once.
use Rattle.std.proofs.Common.{◌≡◌, ◌∙◌, ℕ, ◌+◌, ◌-◌, ◌≤◌, Bool, true, false, List, [], ◌∷◌, length, Some, refl, ap, rules, arith}
use Rattle.std.specs.Prelude.{not, ◌&&◌, cond}
use Rattle.std.proofs.lemmas.Bool.{and_right}
use Rattle.ptp_units.specs.Sequence.{ahead, is_newer}
use Rattle.statistics.specs.declared.flow.Sent.{Sent}
use Rattle.statistics.specs.Flow.{is_late, newest, skipped_by, skipped, late, span, IsInOrder}

-- one that is ahead doesn't come late
on_time : (m n : Sent) → is_newer m.number.0 n.number.0 ≡ true → is_late m (Some n) ≡ false
on_time m n newer = ap (λ (b : Bool). not m.begins && not b) newer ∙ and_right (not m.begins) false refl

module _ (m n : Sent) (earlier : List Sent) (so : IsInOrder (m ∷ n ∷ earlier)) where
  late_never : (newest (n ∷ earlier) ≡ Some n) → is_late m (newest (n ∷ earlier)) ≡ false
  late_never is = ap (is_late m) is ∙ on_time m n so.1

last_newest : (m : Sent) (earlier : List Sent) → IsInOrder (m ∷ earlier) → newest (m ∷ earlier) ≡ Some m
last_newest m [] so = refl
last_newest m (n ∷ earlier) so =
    ap (λ (b : Bool). cond b (newest (n ∷ earlier)) (Some m)) (late_never m n earlier so (last_newest n earlier so.2))

pub none_late : (m : Sent) (earlier : List Sent) → IsInOrder (m ∷ earlier) → late (m ∷ earlier) ≡ 0
none_late m [] so = refl
none_late m (n ∷ earlier) so =
    ap (λ (b : Bool). cond b (late (n ∷ earlier) + 1) (late (n ∷ earlier))) (late_never m n earlier so (last_newest n earlier so.2))
    ∙ none_late n earlier so.2

-- a message that is ahead has so many numbers between it and the one before
passed_over : (m n : Sent) → m.begins ≡ false → is_newer m.number.0 n.number.0 ≡ true
    → skipped_by m (Some n) ≡ ahead m.number.0 n.number.0 - 1
passed_over m n same newer =
    λ i. cond (not (same i) && newer i) (ahead m.number.0 n.number.0 - 1) 0

is_ahead : (number other : ℕ) → is_newer number other ≡ true → 1 ≤ ahead number other
is_ahead number other newer = grind (rules, arith, newer)

pub counted_once : (m : Sent) (earlier : List Sent) → IsInOrder (m ∷ earlier)
    → length (m ∷ earlier) + skipped (m ∷ earlier) ≡ span (m ∷ earlier) + 1
counted_once m [] so = refl
counted_once m (n ∷ earlier) so =
    let by : skipped_by m (newest (n ∷ earlier)) ≡ ahead m.number.0 n.number.0 - 1 =
    ap (skipped_by m) (last_newest n earlier so.2) ∙ passed_over m n so.0 so.1 in
    let before = counted_once n earlier so.2 in
    omega (arith, by, before, is_ahead m.number.0 n.number.0 so.1)
