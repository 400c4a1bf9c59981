-- What the options of an interface description come to, as a function of the octets.
use Rattle.std.proofs.Common.{◌≡◌, ◌≢◌, ◌⊎◌, ℕ, zero, suc, ◌+◌, ◌-◌, ◌*◌, ◌≤◌, ◌<◌, List, [], ◌∷◌, ◌++◌, length, drop, Bool, true, false, ltb, eqb, refl, sym, ap, ◌∙◌, inl, inr, arith, Some, None}
use Rattle.std.proofs.Common.{append-nil}
use Rattle.std.specs.Prelude.{◌||◌, not, slice_range}
use Rattle.std.proofs.lemmas.Bool.{lt-ltb, le-ltb, eq-eqb, ne_eqb}
use Rattle.std.proofs.lemmas.List.{length-take, length-drop}
use Rattle.capture_file.specs.declared.order.ByteOrder.{ByteOrder}
use Rattle.capture_file.specs.Order.{number16}
use Rattle.capture_file.specs.Options.{OptionOf, option_length, is_size_of, IsOption, AreFirst, EndsOptions, AreOptions, IsWrongOption, HasWrongOption}
use Rattle.capture_file.specs.Pcapng.{padded}
use Rattle.capture_file.specs.Section.{options_there}
use Rattle.capture_laws.proofs.Next.{Scan, scan, scan_by, is_last, is_wrong, length_in, option_in}

or_true : (a : Bool) → (a || true) ≡ true
or_true true = refl
or_true false = refl

scan_as : (order : ByteOrder) (steps left : ℕ) (octets : List ℕ) (seen : List OptionOf) (last wrong cut : Bool) → is_last order left octets ≡ last → is_wrong order left octets ≡ wrong
    → ltb (length octets) (length_in order octets) ≡ cut
    → scan order (suc steps) left octets seen ≡ scan_by last wrong cut left seen
    (scan order steps (left - length_in order octets) (drop (length_in order octets) octets) (option_in order octets ∷ seen))
scan_as order steps left octets seen last wrong cut last_is wrong_is cut_is =
    λ i. scan_by (last_is i) (wrong_is i) (cut_is i) left seen
    (scan order steps (left - length_in order octets) (drop (length_in order octets) octets) (option_in order octets ∷ seen))

not_last : (order : ByteOrder) (left : ℕ) (octets : List ℕ) → left ≢ 0 → 4 ≤ length octets → number16 order octets 0 ≢ 0 → is_last order left octets ≡ false
not_last order left octets some there code =
    λ i. ne_eqb left 0 some i || (le-ltb (length octets) 4 there i || ne_eqb (number16 order octets 0) 0 code i)

not_wrong : (order : ByteOrder) (left : ℕ) (octets : List ℕ) → length_in order octets ≤ left → is_size_of (number16 order octets 0) (number16 order octets 2) ≡ true
    → is_wrong order left octets ≡ false
not_wrong order left octets fits size = λ i. le-ltb left (length_in order octets) fits i || not (size i)

-- ---- one option

step_option : (order : ByteOrder) (steps left : ℕ) (option : OptionOf) (octets : List ℕ) (seen : List OptionOf) → IsOption order left option octets
    → scan order (suc steps) left octets seen ≡ scan order steps (left - option_length option) (drop (option_length option) octets) (option ∷ seen)
step_option order steps left option octets seen o =
    scan_as order steps left octets seen false false false
    (not_last order left octets (λ none. absurd (omega (arith, o.fits, none))) o.head (λ code. o.some (sym o.code_is ∙ code)))
    (not_wrong order left octets (omega (arith, long, o.fits)) ((λ i. is_size_of (o.code_is i) (o.size_is i)) ∙ o.size_fits))
    (le-ltb (length octets) (length_in order octets) (omega (arith, long, o.whole)))
    ∙ (λ i. scan order steps (left - long i) (drop (long i) octets) (same i ∷ seen))
  where
    long : length_in order octets ≡ option_length option
    long = ap (λ n. 4 + padded n) o.size_is

    same : option_in order octets ≡ option
    same = λ i. record { code = o.code_is i; value = (ap (λ n. slice_range octets 4 (4 + n)) o.size_is ∙ sym o.value_is) i }

-- ---- those that were looked at

scan_first : (order : ByteOrder) (steps left : ℕ) (octets : List ℕ) (options : List OptionOf) (left' : ℕ) (rest : List ℕ) (seen : List OptionOf)
    → AreFirst order left octets options left' rest → scan order (steps + length options) left octets seen ≡ scan order steps left' rest (options ++ seen)
scan_first order steps left octets [] left' rest seen (same, same_rest) =
    ap (λ n. scan order n left octets seen) (omega arith) ∙ (λ i. scan order steps (sym same i) (sym same_rest i) seen)
scan_first order steps left octets (option ∷ earlier) left' rest seen (before, behind, first, is, count, rest_is) =
    ap (λ n. scan order n left octets seen) (omega arith)
    ∙ scan_first order (suc steps) left octets earlier before behind seen first
    ∙ step_option order steps before option behind (earlier ++ seen) is
    ∙ (λ i. scan order steps (left_is i) (sym rest_is i) (option ∷ (earlier ++ seen)))
  where
    left_is : before - option_length option ≡ left'
    left_is = omega (arith, count)

first_within : (order : ByteOrder) (left : ℕ) (octets : List ℕ) (options : List OptionOf) (left' : ℕ) (rest : List ℕ) → AreFirst order left octets options left' rest
    → length octets ≤ left → (left' + 4 * length options ≤ left) × (length rest ≤ left')
first_within order left octets [] left' rest (same, same_rest) within = (omega (arith, same), rw (same, same_rest) within)
first_within order left octets (option ∷ earlier) left' rest (before, behind, first, is, count, rest_is) within =
    let inner = first_within order left octets earlier before behind first within in
    (omega (arith, inner.0, count), rw (rest_is, length-drop (option_length option) behind) (omega (arith, inner.1, count)))

-- ---- where they end

scan_ends : (order : ByteOrder) (steps left : ℕ) (octets : List ℕ) (seen : List OptionOf) → EndsOptions order left octets
    → scan order steps left octets seen ≡ record { wrong = None; options = seen }
scan_ends order zero left octets seen ends = refl
scan_ends order (suc steps) left octets seen (inl none) =
    scan_as order steps left octets seen true (is_wrong order left octets) (ltb (length octets) (length_in order octets))
    (λ i. eq-eqb left 0 none i || (ltb (length octets) 4 || eqb (number16 order octets 0) 0)) refl refl
scan_ends order (suc steps) left octets seen (inr (inl short)) =
    scan_as order steps left octets seen true (is_wrong order left octets) (ltb (length octets) (length_in order octets))
    ((λ i. eqb left 0 || (lt-ltb (length octets) 4 short i || eqb (number16 order octets 0) 0)) ∙ or_true (eqb left 0)) refl refl
scan_ends order (suc steps) left octets seen (inr (inr (inl (there, code)))) =
    scan_as order steps left octets seen true (is_wrong order left octets) (ltb (length octets) (length_in order octets))
    ((λ i. eqb left 0 || (le-ltb (length octets) 4 there i || eq-eqb (number16 order octets 0) 0 code i)) ∙ or_true (eqb left 0)) refl refl
scan_ends order (suc steps) left octets seen (inr (inr (inr cut))) =
    scan_as order steps left octets seen (is_last order left octets) false true refl (not_wrong order left octets cut.fits cut.size_fits)
    (lt-ltb (length octets) (length_in order octets) cut.cut)
    ∙ go (is_last order left octets) (scan order steps (left - length_in order octets) (drop (length_in order octets) octets) (option_in order octets ∷ seen))
  where
    go : (last : Bool) (more : Scan) → scan_by last false true left seen more ≡ record { wrong = None; options = seen }
    go true more = refl
    go false more = refl

scan_wrong : (order : ByteOrder) (steps left : ℕ) (octets : List ℕ) (seen : List OptionOf) → length octets ≤ left → IsWrongOption order left octets
    → scan order (suc steps) left octets seen ≡ record { wrong = Some left; options = seen }
scan_wrong order steps left octets seen within w =
    scan_as order steps left octets seen false true (ltb (length octets) (length_in order octets))
    (not_last order left octets (λ none. absurd (omega (arith, w.head, within, none))) w.head w.some) (go w.wrong) refl
  where
    go : (left < 4 + padded (number16 order octets 2)) ⊎ (is_size_of (number16 order octets 0) (number16 order octets 2) ≡ false) → is_wrong order left octets ≡ true
    go (inl long) = λ i. lt-ltb left (length_in order octets) long i || not (is_size_of (number16 order octets 0) (number16 order octets 2))
    go (inr size) = (λ i. ltb left (length_in order octets) || not (size i)) ∙ or_true (ltb left (length_in order octets))

-- ---- all of them

pub options_are : (order : ByteOrder) (left : ℕ) (octets : List ℕ) (options : List OptionOf) → length octets ≤ left → AreOptions order left options octets
    → scan order left left octets [] ≡ record { wrong = None; options = options }
options_are order left octets options within (left', rest, first, ends) =
    let count = first_within order left octets options left' rest first within in
    let steps : left ≡ (left - length options) + length options = omega (arith, count.0) in
    ap (λ n. scan order n left octets []) steps
    ∙ scan_first order (left - length options) left octets options left' rest [] first
    ∙ scan_ends order (left - length options) left' rest (options ++ []) ends
    ∙ ap (λ o. record { wrong = None; options = o }) (append-nil options)

pub option_wrong : (order : ByteOrder) (left : ℕ) (octets : List ℕ) (place : ℕ) → length octets ≤ left → HasWrongOption order left octets place
    → (w : ℕ) × ((scan order left left octets []).wrong ≡ Some w) × (place + w ≡ left + 2)
option_wrong order left octets place within (options, left', rest, first, wrong, at) =
    let count = first_within order left octets options left' rest first within in
    let steps : left ≡ suc (left - length options - 1) + length options = omega (arith, count.0, count.1, wrong.head) in (
      left',
      ap (λ (s : Scan). s.wrong) (
          ap (λ n. scan order n left octets []) steps
          ∙ scan_first order (suc (left - length options - 1)) left octets options left' rest [] first
          ∙ scan_wrong order (left - length options - 1) left' rest (options ++ []) count.1 wrong
          ),
      at,
    )

-- no more octets are there than options take
pub there_within : (total : ℕ) (octets : List ℕ) → length (options_there total octets) ≤ total - 20
there_within total octets =
    rw (length-take 65584 (slice_range octets 16 (total - 4)), length-take (total - 4 - 16) (drop 16 octets)) (omega arith)
