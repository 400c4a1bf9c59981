-- What the place of a number in the ring says of the table.
use Rattle.std.proofs.Common.{◌≡◌, ◌∙◌, ◌<◌, ◌≤◌, ◌-◌, ℕ, refl, sym, ap, arith, false, nat_eq, List, length, reverse, set, get_or, Option, Some, None, is_some, position}
use Rattle.std.proofs.lemmas.List.{get_or-map}
use Rattle.std.proofs.lemmas.Bool.{false≢true}
use Rattle.ptp_units.specs.declared.sequence.Seq.{Seq}
use Rattle.pairing.specs.Marked.{find, set as set_newest}
use Rattle.pairing.specs.Inner.Listed.{marked_of}
use Rattle.pairing.specs.Inner.Ringed.{place_of, members, numbers_of}
use Rattle.pairing.proofs.Pairs.{last_at, last_held, last_replaced}
use Rattle.pairing.proofs.Rings.{length-members, get_or-members, slot_at-place_of, members-set}

-- where no pair has the number, nothing is found
pub find-absent : {V : Type 0} (number marked : ℕ) (pairs : List (Seq × V)) → None ≡ position (λ p. nat_eq p.0.0 number) (reverse pairs)
    → None ≡ find number (marked_of pairs marked)
find-absent {V} number marked pairs absent = at (find number (marked_of pairs marked)) (last_held number pairs None absent)
  where
    at : (value : Option V) → false ≡ is_some value → None ≡ value
    at None same = refl
    at (Some value) same = absurd (false≢true same)

module _ {V : Type 0} (capacity oldest count : ℕ) (slots : List (Seq × V)) (number slot : ℕ) (filled : length slots ≡ capacity) (begins : oldest < capacity) (fits : count ≤ capacity)
    (within : slot < capacity) (member : place_of capacity oldest slot < count)
    (found : Some (count - 1 - place_of capacity oldest slot) ≡ position (λ p. nat_eq p.0.0 number) (reverse (members oldest count slots))) where
  place_from_front : place_of capacity oldest slot ≡ length (members oldest count slots) - 1 - (count - 1 - place_of capacity oldest slot)
  place_from_front = omega (arith, length-members capacity oldest count slots filled begins fits)

  at_place : (d : Seq × V) → get_or (members oldest count slots) (place_of capacity oldest slot) d ≡ get_or slots slot d
  at_place d =
      get_or-members capacity oldest count slots filled begins fits (place_of capacity oldest slot) d member
      ∙ ap (λ s. get_or slots s d) (slot_at-place_of capacity oldest begins slot within)

  -- what is found is the value in the slot
  pub find-found : (marked : ℕ) (d : Seq × V) → Some (get_or slots slot d).1 ≡ find number (marked_of (members oldest count slots) marked)
  find-found marked d =
      sym (last_at number (members oldest count slots) _ (place_of capacity oldest slot) d (sym found) place_from_front ∙ ap (λ (p : Seq × V). Some p.1) (at_place d))

  -- a value put in the slot replaces the newest of the number
  pub set-found : (marked : ℕ) (pair : Seq × V) → pair.0.0 ≡ number → get_or (numbers_of slots) slot 0 ≡ number
      → marked_of (members oldest count (set slots slot pair)) marked ≡ set_newest number pair.1 (marked_of (members oldest count slots) marked)
  set-found marked pair same held =
      let pairs : List (Seq × V) = members oldest count slots in
      let place : ℕ = place_of capacity oldest slot in
      let number_there : (get_or pairs place pair).0.0 ≡ pair.0.0 =
      ap (λ (p : Seq × V). p.0.0) (at_place pair) ∙ sym (get_or-map (λ (p : Seq × V). p.0.0) slots slot pair 0 (omega (arith, filled, within))) ∙ held ∙ sym same in
      ap (λ (ps : List (Seq × V)). marked_of ps marked) (members-set capacity oldest count slots filled begins fits slot pair within member)
      ∙ ap (λ (n : ℕ). marked_of (set pairs place (record { 0 = n }, pair.1)) marked) (sym number_there)
      ∙ ap (λ es. record { entries = es; marked = marked }) (last_replaced number pair.1 pairs _ place pair (sym found) place_from_front)
