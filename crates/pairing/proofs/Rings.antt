-- Places in a ring of slots, and the list that it stands for.
use Rattle.std.proofs.Common.{◌≡◌, ◌∙◌, ◌<◌, ◌≤◌, ◌-◌, ◌+◌, ℕ, refl, sym, ap, inl, inr, arith, List, [], ◌∷◌, ◌++◌, length, drop, set, get_or}
use Rattle.std.proofs.lemmas.Bool.{cases_lt, cases_eq, cond_below, cond_above}
use Rattle.std.proofs.lemmas.Bool.Decides.{nat_tests}
use Rattle.std.proofs.lemmas.List.{length-take-le, length-append, length-drop, length-set, length_push, get_or-take, get_or-drop, get_or_append_left, get_or-append_right, get_or_push, get_or-set_same, get_or-set_other, same_lists}
use Rattle.pairing.specs.Inner.Ringed.{slot_at, place_of, members}

module _ (capacity oldest : ℕ) (begins : oldest < capacity) where
  slot_at-near : (place : ℕ) → place < capacity - oldest → slot_at capacity oldest place ≡ oldest + place
  slot_at-near place near = sym (cond_below place (capacity - oldest) (oldest + place) (place - (capacity - oldest)) near)

  slot_at-far : (place : ℕ) → capacity - oldest ≤ place → slot_at capacity oldest place ≡ place - (capacity - oldest)
  slot_at-far place far = sym (cond_above place (capacity - oldest) (oldest + place) _ _ far refl)

  -- the slot and the place are within the ring, and each gives the other
  pub slot_at-within : (place : ℕ) → place ≤ capacity → slot_at capacity oldest place < capacity
  slot_at-within place within = grind (arith, nat_tests)

  pub place_of-within : (slot : ℕ) → slot < capacity → place_of capacity oldest slot < capacity
  place_of-within slot within = grind (arith, nat_tests)

  pub place_of-slot_at : (place : ℕ) → place < capacity → place_of capacity oldest (slot_at capacity oldest place) ≡ place
  place_of-slot_at place within = grind (arith, nat_tests)

  pub slot_at-place_of : (slot : ℕ) → slot < capacity → slot_at capacity oldest (place_of capacity oldest slot) ≡ slot
  slot_at-place_of slot within = grind (arith, nat_tests)

  -- once so many of the oldest have gone
  pub slot_at-later : (gone place : ℕ) → gone + place < capacity
      → slot_at capacity (slot_at capacity oldest gone) place ≡ slot_at capacity oldest (gone + place)
  slot_at-later gone place within = grind (arith, nat_tests)

  pub place_of-later : (gone slot : ℕ) → gone ≤ capacity → slot < capacity → gone ≤ place_of capacity oldest slot
      → place_of capacity (slot_at capacity oldest gone) slot ≡ place_of capacity oldest slot - gone
  place_of-later gone slot few within later = grind (arith, nat_tests)

  pub place_of-gone : (gone slot : ℕ) → gone ≤ capacity → slot < capacity → place_of capacity oldest slot < gone
      → place_of capacity (slot_at capacity oldest gone) slot ≡ place_of capacity oldest slot + (capacity - gone)
  place_of-gone gone slot few within earlier = grind (arith, nat_tests)

module _ {X : Type 0} (capacity oldest count : ℕ) (slots : List X) (filled : length slots ≡ capacity) (begins : oldest < capacity) (fits : count ≤ capacity) where
  pub length-members : length (members oldest count slots) ≡ count
  length-members =
      length-take-le count _ (simp (length-append, length-drop) (omega (arith, length-take-le oldest slots (omega arith))))

  pub get_or-members : (place : ℕ) (d : X) → place < count
      → get_or (members oldest count slots) place d ≡ get_or slots (slot_at capacity oldest place) d
  get_or-members place d within =
      let rest : length (drop oldest slots) ≡ capacity - oldest = length-drop oldest slots ∙ ap (λ n. n - oldest) filled in
      get_or-take count _ place d within ∙ elim (cases_lt place (capacity - oldest)) [
        | inl near ↦ get_or_append_left _ _ d place (omega arith) ∙ get_or-drop oldest slots place d
            ∙ ap (λ slot. get_or slots slot d) (sym (slot_at-near capacity oldest begins place near))
        | inr far ↦ get_or-append_right _ _ (capacity - oldest) place d rest far ∙ get_or-take oldest slots _ d (omega arith)
            ∙ ap (λ slot. get_or slots slot d) (sym (slot_at-far capacity oldest begins place far))
      ]

module _ {X : Type 0} (capacity oldest count : ℕ) (slots : List X) (filled : length slots ≡ capacity) (begins : oldest < capacity) (fits : count ≤ capacity) where
  -- without the oldest
  pub members-later : (gone : ℕ) → gone ≤ count
      → members (slot_at capacity oldest gone) (count - gone) slots ≡ drop gone (members oldest count slots)
  members-later gone few =
      let next : slot_at capacity oldest gone < capacity = slot_at-within capacity oldest begins gone (omega arith) in
      let less : count - gone ≤ capacity = omega arith in
      let all = length-members capacity oldest count slots filled begins fits in
      let left = length-members capacity (slot_at capacity oldest gone) (count - gone) slots filled next less in
      same_lists _ _ (left ∙ sym (length-drop gone _ ∙ ap (λ n. n - gone) all)) (λ place d h.
      let here : place < count - gone = omega (arith, left) in
      get_or-members capacity (slot_at capacity oldest gone) (count - gone) slots filled next less place d here
      ∙ ap (λ slot. get_or slots slot d) (slot_at-later capacity oldest begins gone place (omega arith))
      ∙ sym (get_or-drop gone _ place d ∙ get_or-members capacity oldest count slots filled begins fits (gone + place) d (omega arith)))

  -- with another value in the slot of a member
  pub members-set : (slot : ℕ) (x : X) → slot < capacity → place_of capacity oldest slot < count
      → members oldest count (set slots slot x) ≡ set (members oldest count slots) (place_of capacity oldest slot) x
  members-set slot x within member =
      let same : length (set slots slot x) ≡ capacity = length-set slots slot x ∙ filled in
      let at : ℕ = place_of capacity oldest slot in
      let before = length-members capacity oldest count slots filled begins fits in
      let after = length-members capacity oldest count (set slots slot x) same begins fits in
      same_lists _ _ (after ∙ sym (length-set (members oldest count slots) at x ∙ before)) (λ place d h.
      let here : place < count = omega (arith, after) in
      get_or-members capacity oldest count (set slots slot x) same begins fits place d here ∙ elim (cases_eq place at) [
        | inl e ↦ ap (λ s. get_or (set slots slot x) s d) (ap (slot_at capacity oldest) e ∙ slot_at-place_of capacity oldest begins slot within)
            ∙ get_or-set_same slots slot x d (omega arith)
            ∙ sym (ap (λ p. get_or (set (members oldest count slots) at x) p d) e ∙ get_or-set_same (members oldest count slots) at x d (omega (arith, before)))
        | inr ne ↦ get_or-set_other slots slot (slot_at capacity oldest place) x d (λ e. ne (sym (place_of-slot_at capacity oldest begins place (omega arith)) ∙ ap (place_of capacity oldest) e))
            ∙ sym (get_or-set_other (members oldest count slots) at place x d ne ∙ get_or-members capacity oldest count slots filled begins fits place d here)
      ])

module _ {X : Type 0} (capacity oldest count : ℕ) (slots : List X) (filled : length slots ≡ capacity) (begins : oldest < capacity) (room : count < capacity) where
  -- with one more, in the slot after the newest
  pub members-push : (x : X) → members oldest (count + 1) (set slots (slot_at capacity oldest count) x) ≡ members oldest count slots ++ x ∷ []
  members-push x =
      let next : ℕ = slot_at capacity oldest count in
      let same : length (set slots next x) ≡ capacity = length-set slots next x ∙ filled in
      let fits : count ≤ capacity = omega arith in
      let more : count + 1 ≤ capacity = omega arith in
      let within : next < length slots = omega (arith, slot_at-within capacity oldest begins count fits) in
      let before = length-members capacity oldest count slots filled begins fits in
      let after = length-members capacity oldest (count + 1) (set slots next x) same begins more in
      same_lists _ _ (after ∙ sym (length_push (members oldest count slots) x ∙ ap (λ n. n + 1) before)) (λ place d h.
      let here : place < count + 1 = omega (arith, after) in
      get_or-members capacity oldest (count + 1) (set slots next x) same begins more place d here ∙ elim (cases_eq place count) [
        | inl e ↦ ap (λ p. get_or (set slots next x) (slot_at capacity oldest p) d) e ∙ get_or-set_same slots next x d within
            ∙ sym (ap (λ p. get_or (members oldest count slots ++ x ∷ []) p d) e ∙ get_or_push (members oldest count slots) x d count before)
        | inr ne ↦ get_or-set_other slots next (slot_at capacity oldest place) x d (λ e.
            ne (sym (place_of-slot_at capacity oldest begins place (omega arith)) ∙ ap (place_of capacity oldest) e ∙ place_of-slot_at capacity oldest begins count room))
            ∙ sym (get_or_append_left (members oldest count slots) (x ∷ []) d place (omega (arith, before, ne)) ∙ get_or-members capacity oldest count slots filled begins fits place d (omega (arith, ne)))
      ])
