-- The places that are looked at differ, and one that isn't among them has no row while there is room.
use Rattle.std.proofs.Common.{◌≡◌, ◌≢◌, ◌∙◌, ◌⊎◌, inl, inr, ℕ, zero, suc, ◌<◌, ◌≤◌, nat_le, Bool, true, false, true≢false, ◌||◌}
use Rattle.std.proofs.Common.{List, [], ◌∷◌, ◌++◌, length, get_or, Some, None, refl, sym, ap, arith, length-append}
use Rattle.std.specs.Prelude.{Decides, if◌then◌else◌}
use Rattle.std.proofs.lemmas.Bool.{cases_lt, or_parts}
use Rattle.std.proofs.lemmas.Bool.Decides.{not_from_Decides}
use Rattle.std.proofs.lemmas.List.{get_or_push}
use Rattle.std.proofs.lemmas.List.Folds.{list_any-append}
use Rattle.std.proofs.Math.ListN.{get_or-append}
use Rattle.std.proofs.lemmas.Bool.Decides.{Decides-and}
use Rattle.std.proofs.lemmas.Slice.Eq.{bytes_eq-Decides}
use Rattle.recording_measure.specs.Places.{PlaceName, PlacedRow, is_same_place, rows_at, is_among}
use Rattle.recording_measure.specs.Places.{Named, places_in, places_most}
use Rattle.datagram_source.proofs.Streams.{same_stream}

pub same_place : (one other : PlaceName) → Decides (is_same_place one other) (one ≡ other)
same_place None None = (λ e. refl, λ e. refl)
same_place None (Some other) = (λ e. absurd cc, λ e. absurd cc)
same_place (Some one) None = (λ e. absurd cc, λ e. absurd cc)
same_place (Some one) (Some other) =
    let those = Decides-and _ _ (bytes_eq-Decides one.name other.name) (same_stream one.stream other.stream) in (
      λ e. ap Some (alike (those.0 e)),
      λ e. let same : one ≡ other = cc in
          those.1 (ap (λ (n : Named). n.name) same, ap (λ (n : Named). n.stream) same),
    )
  where
    alike : (one.name ≡ other.name) × (one.stream ≡ other.stream) → one ≡ other
    alike (name, stream) = λ i. record { name = name i; stream = stream i }

pub other_way : (one other : PlaceName) → is_same_place one other ≡ false → is_same_place other one ≡ false
other_way one other differ = go (is_same_place other one) refl
  where
    go : (b : Bool) → is_same_place other one ≡ b → b ≡ false
    go false e = refl
    go true e =
        let same : other ≡ one = (same_place other one).0 e in
        absurd (not_from_Decides (is_same_place one other) (same_place one other) differ (sym same))

-- none among these is this one
pub not_among : (place : PlaceName) (known : List PlaceName) (k : ℕ) (d : PlaceName) → is_among place known ≡ false
    → k < length known → is_same_place (get_or known k d) place ≡ false
not_among place [] k d none within = absurd (omega (arith, within))
not_among place (x ∷ known) zero d none within =
    (or_parts (is_same_place x place) (is_among place known) none).0
not_among place (x ∷ known) (suc k) d none within =
    not_among place known k d (or_parts (is_same_place x place) (is_among place known) none).1
    (omega (arith, within))

-- ---- no two are alike
abbrev pub AreDistinct : List PlaceName → Type 0
AreDistinct known = (j k : ℕ) (d : PlaceName) → j ≢ k → j < length known → k < length known
    → is_same_place (get_or known j d) (get_or known k d) ≡ false

distinct_more : (known : List PlaceName) (place : PlaceName) → is_among place known ≡ false → AreDistinct known
    → AreDistinct (known ++ place ∷ [])
distinct_more known place none distinct j k d other within within' =
    go (cases_lt j (length known)) (cases_lt k (length known))
  where
    last : (i : ℕ) → length known ≤ i → i < length (known ++ place ∷ []) → get_or (known ++ place ∷ []) i d ≡ place
    last i past inside =
        get_or_push known place d i (omega (arith, past, inside, length-append known (place ∷ [])))

    first : (i : ℕ) → i < length known → get_or (known ++ place ∷ []) i d ≡ get_or known i d
    first i inside = get_or-append known (place ∷ []) d i inside

    go : (j < length known) ⊎ (length known ≤ j) → (k < length known) ⊎ (length known ≤ k)
        → is_same_place (get_or (known ++ place ∷ []) j d) (get_or (known ++ place ∷ []) k d) ≡ false
    go (inl before) (inl before') = rw (first j before, first k before') (distinct j k d other before before')
    go (inl before) (inr past) =
        rw (first j before, last k past within') (not_among place known j d none before)
    go (inr past) (inl before) = rw (last j past within, first k before)
        (other_way (get_or known k d) place (not_among place known k d none before))
    go (inr past) (inr past') = absurd (other (omega (arith, past, past', within, within', length-append known (place ∷ []))))

distinct_with : (place : PlaceName) (known : List PlaceName) (there full : Bool) → is_among place known ≡ there
    → AreDistinct known
    → AreDistinct (if there || full then known else known ++ place ∷ [])
distinct_with place known true full is distinct = distinct
distinct_with place known false true is distinct = distinct
distinct_with place known false false is distinct = distinct_more known place is distinct

pub distinct_in : (rows : List PlacedRow) → AreDistinct (places_in rows)
distinct_in [] = λ j k d other within within'. absurd (omega (arith, within))
distinct_in (r ∷ earlier) =
    distinct_with r.place (places_in earlier) (is_among r.place (places_in earlier))
    (nat_le places_most (length (places_in earlier))) refl (distinct_in earlier)

-- ---- one that isn't among them has no row, while there is room
among_more : (place other : PlaceName) (known : List PlaceName) (there full : Bool)
    → is_among other known ≡ there → nat_le places_most (length known) ≡ full
    → is_among place (if there || full then known else known ++ other ∷ []) ≡ false
    → nat_le places_most (length (if there || full then known else known ++ other ∷ [])) ≡ false
    → (is_among place known ≡ false) × (nat_le places_most (length known) ≡ false) × (is_same_place place other ≡ false)
among_more place other known true full is room none few =
    (none, few, go (is_same_place place other) refl)
  where
    go : (b : Bool) → is_same_place place other ≡ b → b ≡ false
    go false e = refl
    go true e = absurd (true≢false (sym (ap (λ i. is_among i known) ((same_place place other).0 e) ∙ is) ∙ none))
among_more place other known false true is room none few = absurd (true≢false (sym room ∙ few))
among_more place other known false false is room none few =
    let parts = or_parts (is_among place known) (is_among place (other ∷ []))
    (sym (list_any-append (λ one. is_same_place one place) known (other ∷ [])) ∙ none) in
    (parts.0, room, other_way other place (or_parts (is_same_place other place) false parts.1).0)

pub no_rows : (place : PlaceName) (rows : List PlacedRow) → is_among place (places_in rows) ≡ false
    → nat_le places_most (length (places_in rows)) ≡ false → rows_at place rows ≡ []
no_rows place [] none few = refl
no_rows place (r ∷ earlier) none few =
    let parts = among_more place r.place (places_in earlier) (is_among r.place (places_in earlier))
    (nat_le places_most (length (places_in earlier))) refl refl none few in
    ap (λ b. if b then r.row ∷ rows_at place earlier else rows_at place earlier) parts.2
    ∙ no_rows place earlier parts.0 parts.1
