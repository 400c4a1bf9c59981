-- What a message does to the counts of open records.
use Rattle.std.proofs.Common.{◌≡◌, ◌∙◌, ◌<◌, ◌+◌, ◌%◌, ◌^◌, ℕ, zero, suc, List, [], ◌∷◌, length, take, sym, ap, refl, arith}
use Rattle.std.proofs.Common.{Bool, true, false, Option, Some, None, if◌then◌else◌, option_map, find, nat_eq, slice_index, unwrap_or, IfSome}
use Rattle.std.proofs.lemmas.Bool.{cases_eq}
use Rattle.std.proofs.lemmas.Bool.Decides.{nat_tests}
use Rattle.std.proofs.lemmas.Grind.{elements}
use Rattle.std.proofs.lemmas.List.{length-set}
use Rattle.pairing.specs.Marked.{Entry, entry, first_value, replace_first}
use Rattle.tap_crossing.specs.declared.sighting.Placed.{Placed}
use Rattle.tap_crossing.specs.declared.places.Record.{Record}
use Rattle.tap_crossing.specs.declared.places.Record.TheVariants as standings
use Rattle.tap_crossing.specs.Records.{unclosed, with, new_record, joined, open_record}
use Rattle.tap_crossing.specs.Open.{bit, number_of, filled, open_number, counts_as, open_count, HoldsOpen}
use Rattle.tap_crossing.specs.Inner.Counted.{one_more, one_less, recounted}

bit-below : (b : Bool) → bit b < 2
bit-below true = omega arith
bit-below false = omega arith

pub open_number-below : (r : Record) → IfSome (open_number r) (λ i. i < 16)
open_number-below (standings.Open met) =
    let f = filled met in
    let below : number_of f < 16 =
    omega (arith, bit-below f.first, bit-below f.second, bit-below f.at_from, bit-below f.at_to) in below
open_number-below _ = search

length-more : (o : Option ℕ) (xs : List ℕ) → length (one_more o xs) ≡ length xs
length-more None xs = refl
length-more (Some i) xs = length-set xs i _

length-less : (o : Option ℕ) (xs : List ℕ) → length (one_less o xs) ≡ length xs
length-less None xs = refl
length-less (Some i) xs = length-set xs i _

module _ (xs : List ℕ) (a k : ℕ) (long : length xs ≡ 16) (within : k < 16) where
  more-at : (o : Option ℕ) → IfSome o (λ i. i < 16) → slice_index xs k ≡ a % 2 ^ 64
      → slice_index (one_more o xs) k ≡ (counts_as k o + a) % 2 ^ 64
  more-at None below held = held ∙ ap (λ (n : ℕ). n % 2 ^ 64) (let same : a ≡ 0 + a = omega arith in same)
  more-at (Some i) below held = grind (arith, elements, nat_tests, long, within, below, held, cases_eq i k)

  less-at : (o : Option ℕ) → IfSome o (λ i. i < 16) → slice_index xs k ≡ (counts_as k o + a) % 2 ^ 64
      → slice_index (one_less o xs) k ≡ a % 2 ^ 64
  less-at None below held = held ∙ ap (λ (n : ℕ). n % 2 ^ 64) (let same : 0 + a ≡ a = omega arith in same)
  less-at (Some i) below held = grind (arith, elements, nat_tests, long, within, below, held, cases_eq i k)

-- a list of records without one of them has so many, and one and another record are counted beside
record Splits (k : ℕ) (r v : Record) (es others : List (Entry Record)) : Type 0 where
  pub rest : ℕ
  pub before : open_count k es ≡ counts_as k (open_number r) + rest
  pub after : open_count k others ≡ counts_as k (open_number v) + rest

splits : (k number : ℕ) (v : Record) (es : List (Entry Record)) (r : Record) → first_value number es ≡ Some r
    → Splits k r v es (replace_first number v es)
splits k number v [] r = λ none. cc
splits k number v (e ∷ es) r = at (splits k number v es r) (nat_eq e.number number)
  where
    at : (first_value number es ≡ Some r → Splits k r v es (replace_first number v es)) → (same : Bool)
        → option_map (λ e. e.value) (if same then Some e else find (λ e. nat_eq e.number number) es) ≡ Some r
        → Splits k r v (e ∷ es) (if same then entry number v ∷ es else e ∷ replace_first number v es)
    at others true found =
        let same : e.value ≡ r = cc in
        record {
          rest = open_count k es;
          before = ap (λ (x : Record). counts_as k (open_number x) + open_count k es) same;
          after = refl;
        }
    at others false found =
        let s = others found in
        record {
          rest = counts_as k (open_number e.value) + s.rest;
          before = omega (arith, s.before);
          after = omega (arith, s.after);
        }

first_value-front : (n number : ℕ) (es : List (Entry Record)) (r : Record) → first_value number (take n es) ≡ Some r
    → first_value number es ≡ Some r
first_value-front zero number es r = λ none. cc
first_value-front (suc n) number [] r = λ none. cc
first_value-front (suc n) number (e ∷ es) r = at (first_value-front n number es r) (nat_eq e.number number)
  where
    at : (first_value number (take n es) ≡ Some r → first_value number es ≡ Some r) → (same : Bool)
        → option_map (λ e. e.value) (if same then Some e else find (λ e. nat_eq e.number number) (take n es)) ≡ Some r
        → option_map (λ e. e.value) (if same then Some e else find (λ e. nat_eq e.number number) es) ≡ Some r
    at others true found = found
    at others false found = others found

unclosed-some : (o : Option Record) (r : Record) → unclosed o ≡ Some r → o ≡ Some r
unclosed-some None r = λ none. cc
unclosed-some (Some (standings.Open met)) r = λ same. same
unclosed-some (Some standings.Spoiled) r = λ same. same
unclosed-some (Some standings.Closed) r = λ none. cc

module _ (capacity : ℕ) (p : Placed) (all : List (Entry Record)) (counts : List ℕ) (holds : HoldsOpen counts all) where
  after-found : (found : Option Record) → open_record capacity p.number.0 all ≡ found
      → HoldsOpen (recounted found (with p (unwrap_or found new_record)) counts) (joined p found all)
  after-found None is =
      let after = with p new_record in
      record {
        length_is = length-more (open_number after) counts ∙ holds.length_is;
        each = λ k within. more-at counts (open_count k all) k holds.length_is within (open_number after)
            (open_number-below after) (holds.each k within);
      }
  after-found (Some r) is =
      let after = with p r in
      let less = one_less (open_number r) counts in
      let long : length less ≡ 16 = length-less (open_number r) counts ∙ holds.length_is in
      let found = first_value-front capacity p.number.0 all r (unclosed-some _ r is) in
      record {
        length_is = length-more (open_number after) less ∙ long;
        each = λ k within.
            let s = splits k p.number.0 after all r found in
            more-at less s.rest k long within (open_number after) (open_number-below after)
            (less-at counts s.rest k holds.length_is within (open_number r) (open_number-below r)
            (holds.each k within ∙ ap (λ (n : ℕ). n % 2 ^ 64) s.before))
            ∙ ap (λ (n : ℕ). n % 2 ^ 64) (sym s.after);
      }

  -- they are the counts of the records after the message, too
  pub holds-recounted : HoldsOpen
      (recounted (open_record capacity p.number.0 all)
      (with p (unwrap_or (open_record capacity p.number.0 all) new_record)) counts)
      (joined p (open_record capacity p.number.0 all) all)
  holds-recounted = after-found (open_record capacity p.number.0 all) refl
