-- That the links of a ring stay true.
use Rattle.std.proofs.Common.{◌≡◌, ◌∙◌, ◌<◌, ◌≤◌, ◌-◌, ◌+◌, ◌%◌, ◌≢◌, ℕ, refl, sym, ap, subst, inl, inr, arith, List, length, set, get_or, Option, Some, None}
use Rattle.std.proofs.lemmas.Bool.{cases_lt, cases_eq}
use Rattle.std.proofs.lemmas.List.{map-set, set-get_or, length-map, get_or-set_same, get_or-set_other}
use Rattle.ptp_units.specs.declared.sequence.Seq.{Seq}
use Rattle.pairing.specs.Inner.Ringed.{numbers_of, slot_at, place_of, slot_of, place_at, LeadsBack, IsLinked}
use Rattle.pairing.proofs.Rings.{slot_at-within, place_of-slot_at, slot_at-place_of, place_of-later, place_of-gone}

module _ (capacity oldest : ℕ) (begins : oldest < capacity) where
  LeadsBack-later : (numbers : List ℕ) (link : Option ℕ) (place bucket gone : ℕ) → place ≤ capacity → gone ≤ capacity → slot_of link < capacity
      → LeadsBack capacity oldest numbers link place bucket
      → LeadsBack capacity (slot_at capacity oldest gone) numbers link (place - gone) bucket
  LeadsBack-later numbers link place bucket gone short few inside leads slot within near same = elim (cases_lt (place_of capacity oldest slot) gone) [
    | inl earlier ↦ absurd (omega (arith, place_of-gone capacity oldest begins gone slot few within earlier))
    | inr later ↦
        let moved = place_of-later capacity oldest begins gone slot few within later in
        let was = leads slot within (omega (arith, moved)) same in
        at link inside moved was.0 was.1 was.2 later
  ]
    where
      at : (link : Option ℕ) → slot_of link < capacity → place_of capacity (slot_at capacity oldest gone) slot ≡ place_of capacity oldest slot - gone
          → place_of capacity oldest slot ≤ place_at capacity oldest link → place_at capacity oldest link < place
          → get_or numbers (slot_of link) 0 % capacity ≡ bucket → gone ≤ place_of capacity oldest slot
          → (place_of capacity (slot_at capacity oldest gone) slot ≤ place_at capacity (slot_at capacity oldest gone) link)
          × (place_at capacity (slot_at capacity oldest gone) link < place - gone) × (get_or numbers (slot_of link) 0 % capacity ≡ bucket)
      at None inside moved newer older alike later = absurd (omega arith)
      at (Some t) inside moved newer older alike later =
          let shift = place_of-later capacity oldest begins gone t few inside (omega arith) in
          (omega (arith, shift, moved), omega (arith, shift), alike)

  -- once so many of the oldest have gone
  pub IsLinked-later : (count : ℕ) (numbers : List ℕ) (older newest : List (Option ℕ)) (gone : ℕ) → count ≤ capacity → gone ≤ count
      → IsLinked capacity oldest count numbers older newest
      → IsLinked capacity (slot_at capacity oldest gone) (count - gone) numbers older newest
  IsLinked-later count numbers older newest gone fits few linked = record {
    newest_in = linked.newest_in;
    older_in = linked.older_in;
    newest_leads = λ bucket. LeadsBack-later numbers _ count bucket gone fits (omega arith) (linked.newest_in bucket) (linked.newest_leads bucket);
    older_leads = λ slot within near. elim (cases_lt (place_of capacity oldest slot) gone) [
      | inl earlier ↦ absurd (omega (arith, place_of-gone capacity oldest begins gone slot (omega arith) within earlier))
      | inr later ↦
          let moved = place_of-later capacity oldest begins gone slot (omega arith) within later in
          let leads = LeadsBack-later numbers (get_or older slot None) (place_of capacity oldest slot) (get_or numbers slot 0 % capacity) gone (omega (arith, moved)) (omega arith) (linked.older_in slot) (linked.older_leads slot within (omega (arith, moved))) in
          subst (λ (place : ℕ). LeadsBack capacity (slot_at capacity oldest gone) numbers (get_or older slot None) place (get_or numbers slot 0 % capacity)) (sym moved) leads
    ];
  }

  -- of slots in their places, one more in the next
  module _ (count : ℕ) (room : count < capacity) (numbers : List ℕ) (number : ℕ) (filled : length numbers ≡ capacity) where
    abbrev next : ℕ
    next = slot_at capacity oldest count

    kept : (slot : ℕ) → slot ≢ next → get_or (set numbers next number) slot 0 ≡ get_or numbers slot 0
    kept slot apart = get_or-set_other numbers next slot number 0 apart

    written : get_or (set numbers next number) next 0 ≡ number
    written = get_or-set_same numbers next number 0 (omega (arith, slot_at-within capacity oldest begins count (omega arith)))

    -- no other slot has that place
    apart_by_place : (slot : ℕ) → place_of capacity oldest slot < count → slot ≢ next
    apart_by_place slot near same =
        omega (arith, near, ap (place_of capacity oldest) same, place_of-slot_at capacity oldest begins count room)

    near_if_apart : (slot : ℕ) → slot < capacity → place_of capacity oldest slot < count + 1 → slot ≢ next → place_of capacity oldest slot < count
    near_if_apart slot within near apart = elim (cases_eq (place_of capacity oldest slot) count) [
      | inl same ↦ absurd (apart (sym (slot_at-place_of capacity oldest begins slot within) ∙ ap (slot_at capacity oldest) same))
      | inr other ↦ omega (arith, near, other)
    ]

    LeadsBack-push : (link : Option ℕ) (place bucket : ℕ) → place ≤ count → LeadsBack capacity oldest numbers link place bucket
        → LeadsBack capacity oldest (set numbers next number) link place bucket
    LeadsBack-push link place bucket below leads slot within near same =
        let was = leads slot within near (sym (ap (λ n. n % capacity) (kept slot (apart_by_place slot (omega (arith, near))))) ∙ same) in
        (was.0, was.1, at link was.1 was.2)
      where
        at : (link : Option ℕ) → place_at capacity oldest link < place → get_or numbers (slot_of link) 0 % capacity ≡ bucket
            → get_or (set numbers next number) (slot_of link) 0 % capacity ≡ bucket
        at None far alike = absurd (omega (arith, far))
        at (Some t) near alike = ap (λ n. n % capacity) (kept t (apart_by_place t (omega (arith, near)))) ∙ alike

    -- the next slot's bucket leads to it, and the others to what they led to
    newest_of_all : (bucket : ℕ) → number % capacity ≡ bucket → LeadsBack capacity oldest (set numbers next number) (Some next) (count + 1) bucket
    newest_of_all bucket same slot within near alike =
        let here = place_of-slot_at capacity oldest begins count room in
        (omega (arith, here, near), omega (arith, here), ap (λ n. n % capacity) written ∙ same)

    newest_of_others : (link : Option ℕ) (bucket : ℕ) → number % capacity ≢ bucket → LeadsBack capacity oldest numbers link count bucket
        → LeadsBack capacity oldest (set numbers next number) link (count + 1) bucket
    newest_of_others link bucket other leads slot within near alike = elim (cases_eq slot next) [
      | inl same ↦ absurd (other (sym (ap (λ n. n % capacity) written) ∙ ap (λ s. get_or (set numbers next number) s 0 % capacity) (sym same) ∙ alike))
      | inr apart ↦
          let was = LeadsBack-push link count bucket (omega arith) leads slot within (near_if_apart slot within near apart) alike in
          (was.0, omega (arith, was.1), was.2)
    ]

  module _ (count : ℕ) (room : count < capacity) (numbers : List ℕ) (older newest : List (Option ℕ)) (number : ℕ)
      (filled : length numbers ≡ capacity) (older_each : length older ≡ capacity) (newest_each : length newest ≡ capacity) (in_buckets : number % capacity < capacity) where
    older_there : (link : Option ℕ) → get_or (set older (slot_at capacity oldest count) link) (slot_at capacity oldest count) None ≡ link
    older_there link = get_or-set_same older _ link None (omega (arith, older_each, slot_at-within capacity oldest begins count (omega arith)))

    older_else : (link : Option ℕ) (slot : ℕ) → slot ≢ slot_at capacity oldest count
        → get_or (set older (slot_at capacity oldest count) link) slot None ≡ get_or older slot None
    older_else link slot other = get_or-set_other older _ slot link None other

    newest_there : (link : Option ℕ) → get_or (set newest (number % capacity) link) (number % capacity) None ≡ link
    newest_there link = get_or-set_same newest _ link None (omega (arith, newest_each, in_buckets))

    newest_else : (link : Option ℕ) (bucket : ℕ) → bucket ≢ number % capacity
        → get_or (set newest (number % capacity) link) bucket None ≡ get_or newest bucket None
    newest_else link bucket other = get_or-set_other newest _ bucket link None other

    -- with one more, in the slot after the newest
    pub IsLinked-push : IsLinked capacity oldest count numbers older newest
        → IsLinked capacity oldest (count + 1) (set numbers (slot_at capacity oldest count) number)
        (set older (slot_at capacity oldest count) (get_or newest (number % capacity) None)) (set newest (number % capacity) (Some (slot_at capacity oldest count)))
    IsLinked-push linked =
        let next : ℕ = slot_at capacity oldest count in
        let bucket : ℕ = number % capacity in
        let before : Option ℕ = get_or newest bucket None in
        record {
          newest_in = λ b. elim (cases_eq b bucket) [
            | inl same ↦ rw same (rw (newest_there (Some next)) (slot_at-within capacity oldest begins count (omega arith)))
            | inr other ↦ rw (newest_else (Some next) b other) (linked.newest_in b)
          ];
          older_in = λ slot. elim (cases_eq slot next) [
            | inl same ↦ rw same (rw (older_there before) (linked.newest_in bucket))
            | inr other ↦ rw (older_else before slot other) (linked.older_in slot)
          ];
          newest_leads = λ b. elim (cases_eq b bucket) [
            | inl same ↦ rw same (rw (newest_there (Some next)) (newest_of_all count room numbers number filled bucket refl))
            | inr other ↦
                rw (newest_else (Some next) b other) (newest_of_others count room numbers number filled (get_or newest b None) b (λ e. other (sym e)) (linked.newest_leads b))
          ];
          older_leads = λ slot within near. elim (cases_eq slot next) [
            | inl same ↦ older_first slot same linked
            | inr other ↦ older_same slot within near other linked
          ];
        }
      where
        older_first : (slot : ℕ) → slot ≡ slot_at capacity oldest count → IsLinked capacity oldest count numbers older newest
            → LeadsBack capacity oldest (set numbers (slot_at capacity oldest count) number)
            (get_or (set older (slot_at capacity oldest count) (get_or newest (number % capacity) None)) slot None)
            (place_of capacity oldest slot) (get_or (set numbers (slot_at capacity oldest count) number) slot 0 % capacity)
        older_first slot same linked =
            let next : ℕ = slot_at capacity oldest count in
            let numbers' : List ℕ = set numbers next number in
            let older' : List (Option ℕ) = set older next (get_or newest (number % capacity) None) in
            let leads = LeadsBack-push count room numbers number filled (get_or newest (number % capacity) None) count (number % capacity) (omega arith) (linked.newest_leads (number % capacity)) in
            subst (λ (s : ℕ). LeadsBack capacity oldest numbers' (get_or older' s None) (place_of capacity oldest s) (get_or numbers' s 0 % capacity)) (sym same)
            (subst (λ (link : Option ℕ). LeadsBack capacity oldest numbers' link (place_of capacity oldest next) (get_or numbers' next 0 % capacity)) (sym (older_there (get_or newest (number % capacity) None)))
            (subst (λ (place : ℕ). LeadsBack capacity oldest numbers' (get_or newest (number % capacity) None) place (get_or numbers' next 0 % capacity)) (sym (place_of-slot_at capacity oldest begins count room))
            (subst (λ (n : ℕ). LeadsBack capacity oldest numbers' (get_or newest (number % capacity) None) count (n % capacity)) (sym (written count room numbers number filled)) leads)))

        older_same : (slot : ℕ) → slot < capacity → place_of capacity oldest slot < count + 1 → slot ≢ slot_at capacity oldest count → IsLinked capacity oldest count numbers older newest
            → LeadsBack capacity oldest (set numbers (slot_at capacity oldest count) number)
            (get_or (set older (slot_at capacity oldest count) (get_or newest (number % capacity) None)) slot None)
            (place_of capacity oldest slot) (get_or (set numbers (slot_at capacity oldest count) number) slot 0 % capacity)
        older_same slot within near other linked =
            let next : ℕ = slot_at capacity oldest count in
            let numbers' : List ℕ = set numbers next number in
            let closer = near_if_apart count room numbers number filled slot within near other in
            let leads = LeadsBack-push count room numbers number filled (get_or older slot None) (place_of capacity oldest slot) (get_or numbers slot 0 % capacity) (omega (arith, closer)) (linked.older_leads slot within closer) in
            subst (λ (link : Option ℕ). LeadsBack capacity oldest numbers' link (place_of capacity oldest slot) (get_or numbers' slot 0 % capacity)) (sym (older_else (get_or newest (number % capacity) None) slot other))
            (subst (λ (n : ℕ). LeadsBack capacity oldest numbers' (get_or older slot None) (place_of capacity oldest slot) (n % capacity)) (sym (kept count room numbers number filled slot other)) leads)

-- the same of slots of pairs
pub IsLinked-add : {V : Type 0} (capacity oldest count : ℕ) (slots : List (Seq × V)) (older newest : List (Option ℕ)) (pair : Seq × V)
    → oldest < capacity → count < capacity → length slots ≡ capacity → length older ≡ capacity → length newest ≡ capacity
    → IsLinked capacity oldest count (numbers_of slots) older newest
    → IsLinked capacity oldest (count + 1) (numbers_of (set slots (slot_at capacity oldest count) pair))
    (set older (slot_at capacity oldest count) (get_or newest (pair.0.0 % capacity) None)) (set newest (pair.0.0 % capacity) (Some (slot_at capacity oldest count)))
IsLinked-add {V} capacity oldest count slots older newest pair begins room filled older_each newest_each linked =
    let next : ℕ = slot_at capacity oldest count in
    let bucket : ℕ = pair.0.0 % capacity in
    let some : 0 < capacity = omega arith in
    let in_buckets : bucket < capacity = omega arith in
    subst (λ (numbers : List ℕ). IsLinked capacity oldest (count + 1) numbers (set older next (get_or newest bucket None)) (set newest bucket (Some next)))
    (sym (map-set (λ (p : Seq × V). p.0.0) slots next pair))
    (IsLinked-push capacity oldest begins count room (numbers_of slots) older newest pair.0.0 (length-map slots (λ p. p.0.0) ∙ filled) older_each newest_each in_buckets linked)

-- with another value under the number of a slot
pub IsLinked-set : {V : Type 0} (capacity oldest count : ℕ) (slots : List (Seq × V)) (older newest : List (Option ℕ)) (slot : ℕ) (pair : Seq × V)
    → get_or (numbers_of slots) slot 0 ≡ pair.0.0 → IsLinked capacity oldest count (numbers_of slots) older newest
    → IsLinked capacity oldest count (numbers_of (set slots slot pair)) older newest
IsLinked-set {V} capacity oldest count slots older newest slot pair same linked =
    subst (λ (numbers : List ℕ). IsLinked capacity oldest count numbers older newest)
    (sym (map-set (λ (p : Seq × V). p.0.0) slots slot pair ∙ ap (set (numbers_of slots) slot) (sym same) ∙ set-get_or (numbers_of slots) slot 0)) linked
