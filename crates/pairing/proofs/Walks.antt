-- What a walk along the links of a bucket has passed, and what it finds.
use Rattle.std.proofs.Common.{◌≡◌, ◌∙◌, ◌<◌, ◌≤◌, ◌-◌, ◌+◌, ◌%◌, ◌≢◌, ℕ, refl, sym, ap, inl, inr, arith, false, cond, nat_eq, nat_lt, List, [], ◌∷◌, length, reverse, get_or, Option, Some, None, position}
use Rattle.std.specs.List.{position_or_len}
use Rattle.std.proofs.lemmas.Bool.{cases_lt, cases_eq, cond_below, cond_above, eq-eqb, ne_eqb}
use Rattle.std.proofs.lemmas.List.{length-reverse, get_or-reverse, get_or-map}
use Rattle.std.proofs.lemmas.List.Sums.{position_or_len_is}
use Rattle.ptp_units.specs.declared.sequence.Seq.{Seq}
use Rattle.pairing.specs.Inner.Ringed.{slot_at, place_of, members, numbers_of, slot_of, place_at, LeadsBack}
use Rattle.pairing.proofs.Pairs.{is_of}
use Rattle.pairing.proofs.Rings.{slot_at-within, place_of-slot_at, slot_at-place_of, length-members, get_or-members}

-- no member from this place on has the number
abbrev pub Passed : (capacity oldest count : ℕ) (numbers : List ℕ) (number newer : ℕ) → Type 0
Passed capacity oldest count numbers number newer = (slot : ℕ) → slot < capacity → newer ≤ place_of capacity oldest slot
    → place_of capacity oldest slot < count → get_or numbers slot 0 ≡ number → ⊥

module _ (capacity oldest count : ℕ) (numbers : List ℕ) (number : ℕ) (begins : oldest < capacity) where
  -- none is between two linked places
  pub passed-between : (slot newer : ℕ) → LeadsBack capacity oldest numbers (Some slot) newer (number % capacity)
      → Passed capacity oldest count numbers number newer → Passed capacity oldest count numbers number (place_of capacity oldest slot + 1)
  passed-between slot newer leads passed other within far member same = elim (cases_lt (place_of capacity oldest other) newer) [
    | inl near ↦ absurd (omega (arith, (leads other within near (ap (λ n. n % capacity) same)).0, far))
    | inr past ↦ passed other within past member same
  ]

  pub passed-here : (slot : ℕ) → slot < capacity → get_or numbers slot 0 ≢ number
      → Passed capacity oldest count numbers number (place_of capacity oldest slot + 1) → Passed capacity oldest count numbers number (place_of capacity oldest slot)
  passed-here slot inside differs passed other within far member same = elim (cases_eq (place_of capacity oldest other) (place_of capacity oldest slot)) [
    | inl one ↦ differs (ap (λ s. get_or numbers s 0) (sym (slot_at-place_of capacity oldest begins slot inside) ∙ ap (slot_at capacity oldest) (sym one)
        ∙ slot_at-place_of capacity oldest begins other within) ∙ same)
    | inr two ↦ passed other within (omega (arith, far, two)) member same
  ]

  -- a link that leads to none of the bucket ends the walk
  pub passed-all : (link : Option ℕ) (newer : ℕ) → LeadsBack capacity oldest numbers link newer (number % capacity)
      → (place_at capacity oldest link < newer → get_or numbers (slot_of link) 0 % capacity ≡ number % capacity → ⊥)
      → Passed capacity oldest count numbers number newer → Passed capacity oldest count numbers number 0
  passed-all link newer leads ends passed other within far member same = elim (cases_lt (place_of capacity oldest other) newer) [
    | inl near ↦ let to = leads other within near (ap (λ n. n % capacity) same) in ends to.1 to.2
    | inr past ↦ passed other within past member same
  ]

module _ {V : Type 0} (capacity oldest count : ℕ) (slots : List (Seq × V)) (number : ℕ) (begins : oldest < capacity) (fits : count ≤ capacity) (filled : length slots ≡ capacity) where
  length-back : length (reverse (members oldest count slots)) ≡ count
  length-back = length-reverse (members oldest count slots) ∙ length-members capacity oldest count slots filled begins fits

  -- the number so far from the newest
  number_back : (k : ℕ) (d : Seq × V) → k < count
      → (get_or (reverse (members oldest count slots)) k d).0.0 ≡ get_or (numbers_of slots) (slot_at capacity oldest (count - 1 - k)) 0
  number_back k d within =
      let long = length-members capacity oldest count slots filled begins fits in
      let inside = slot_at-within capacity oldest begins (count - 1 - k) (omega arith) in
      ap (λ (p : Seq × V). p.0.0) (get_or-reverse (members oldest count slots) k d (omega (arith, long)) ∙ ap (λ n. get_or (members oldest count slots) (n - 1 - k) d) long
      ∙ get_or-members capacity oldest count slots filled begins fits (count - 1 - k) d (omega arith))
      ∙ sym (get_or-map (λ (p : Seq × V). p.0.0) slots (slot_at capacity oldest (count - 1 - k)) d 0 (omega (arith, inside)))

  -- those that are newer than what was passed have other numbers
  none_back : (newer k : ℕ) (d : Seq × V) → Passed capacity oldest count (numbers_of slots) number newer → k < count - newer
      → is_of number (get_or (reverse (members oldest count slots)) k d) ≡ false
  none_back newer k d passed near =
      let at : ℕ = count - 1 - k in
      let place = place_of-slot_at capacity oldest begins at (omega arith) in
      ne_eqb _ number (λ e. passed (slot_at capacity oldest at) (slot_at-within capacity oldest begins at (omega arith)) (omega (arith, place)) (omega (arith, place))
      (sym (number_back k d (omega arith)) ∙ e))

  found_back : (slot : ℕ) (d : Seq × V) → slot < capacity → place_of capacity oldest slot < count → get_or (numbers_of slots) slot 0 ≡ number
      → Passed capacity oldest count (numbers_of slots) number (place_of capacity oldest slot + 1)
      → Some (count - 1 - place_of capacity oldest slot) ≡ position (λ p. nat_eq p.0.0 number) (reverse (members oldest count slots))
  found_back slot d within member same passed =
      let back : List (Seq × V) = reverse (members oldest count slots) in
      let i : ℕ = count - 1 - place_of capacity oldest slot in
      let here : (get_or back i d).0.0 ≡ number =
      number_back i d (omega arith) ∙ ap (λ place. get_or (numbers_of slots) (slot_at capacity oldest place) 0) (let e : count - 1 - i ≡ place_of capacity oldest slot = omega arith in e)
      ∙ ap (λ s. get_or (numbers_of slots) s 0) (slot_at-place_of capacity oldest begins slot within) ∙ same in
      let first : position_or_len (is_of number) back ≡ i =
      position_or_len_is (is_of number) back i d (omega (arith, length-back)) (λ k near. none_back (place_of capacity oldest slot + 1) k d passed (omega arith)) (λ _. eq-eqb _ number here) in
      cond_below i (length back) (Some i) None (omega (arith, length-back)) ∙ ap (λ n. cond (nat_lt n (length back)) (Some n) None) (sym first)

module _ {V : Type 0} (capacity oldest count : ℕ) (begins : oldest < capacity) (fits : count ≤ capacity) (number : ℕ) where
  -- the newest of the number
  pub position-found : (slots : List (Seq × V)) → length slots ≡ capacity → (slot : ℕ) → slot < capacity → place_of capacity oldest slot < count
      → get_or (numbers_of slots) slot 0 ≡ number → Passed capacity oldest count (numbers_of slots) number (place_of capacity oldest slot + 1)
      → Some (count - 1 - place_of capacity oldest slot) ≡ position (λ p. nat_eq p.0.0 number) (reverse (members oldest count slots))
  position-found [] filled slot = absurd (omega (arith, filled))
  position-found (d ∷ others) filled slot = found_back capacity oldest count (d ∷ others) number begins fits filled slot d

  -- no member has the number
  pub position-none : (slots : List (Seq × V)) → length slots ≡ capacity → Passed capacity oldest count (numbers_of slots) number 0
      → None ≡ position (λ p. nat_eq p.0.0 number) (reverse (members oldest count slots))
  position-none [] filled passed = absurd (omega (arith, filled))
  position-none (d ∷ others) filled passed =
      let slots : List (Seq × V) = d ∷ others in
      let back : List (Seq × V) = reverse (members oldest count slots) in
      let long = length-back capacity oldest count slots number begins fits filled in
      let first : position_or_len (is_of number) back ≡ count =
      position_or_len_is (is_of number) back count d (omega (arith, long)) (λ k near. none_back capacity oldest count slots number begins fits filled 0 k d passed (omega arith)) (λ h. absurd (omega (arith, long, h))) in
      cond_above (position_or_len (is_of number) back) (length back) (Some (position_or_len (is_of number) back)) None None (omega (arith, long, first)) refl
