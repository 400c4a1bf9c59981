-- What is kept after one more line.
use Rattle.std.proofs.Common.{◌≡◌, ◌∙◌, ℕ, zero, suc, ◌+◌, ◌<◌, ◌≤◌, Bool, true, false, cond, eqb, List, []}
use Rattle.std.proofs.Common.{◌∷◌, ◌++◌, length, Option, Some, None, refl, sym, ap, subst, arith, length-append}
use Rattle.std.proofs.Math.Path.{transport}
use Rattle.std.specs.Prelude.{slice_get, option_map, option_and_then, is_some, nat_lt}
use Rattle.std.proofs.lemmas.Bool.Decides.{nat_tests}
use Rattle.network_model.specs.Network.{Network}
use Rattle.exchange_check.specs.declared.facts.Fact.{Fact}
use Rattle.exchange_check.specs.declared.kept.Kept.{Kept}
use Rattle.trace_model.specs.declared.line.TraceLine.{TraceLine}
use Rattle.trace_model.specs.declared.verdict.Verdict.{Verdict}
use Rattle.trace_model.specs.declared.verdict.Verdict.TheVariants.{Accepted, Refused}
use Rattle.trace_model.specs.declared.judgement.Judgement.{Judgement}
use Rattle.trace_model.specs.declared.verdict.Why.{Why}
use Rattle.trace_model.specs.Verdict.{one_more}
use Rattle.exchange_check.specs.Inner.Kept.{Facts, fact_in, fact_by}
use Rattle.copy_stays.specs.Leaves.{LastStays, Leaves, with_stay}
use Rattle.copy_stays.specs.Stays.{AreStays, once_in}
use Rattle.copy_stays.proofs.Kept.{once_kept}
use Rattle.exchange_check.specs.Inner.Stays.{stay_below, stay_of, last_stays}
use Rattle.network_model.specs.Kinds.{entered_copy, named_transit}
use Rattle.trace_model.specs.Sound.{where_passes}
use Rattle.std.proofs.lemmas.Bool.{eqb-true, eq-eqb, ltb-true}
use Rattle.exchange_check.specs.Inner.Machine.{accepted_count, Machine, IsKept, facts_of, sites_of, stamps_of, with_fact}
use Rattle.exchange_check.specs.Inner.Machine.{sites_told, leaves_told, firsts_told, stamps_told, line_judgement_by}
use Rattle.exchange_check.specs.Inner.Machine.{firsts_of}
use Rattle.exchange_check.specs.Inner.Machine.{with_judgement, after_line, judgement_after}

same_test : (facts later : Facts) (fact : Option Fact) (k l : ℕ) → facts (suc k) ≡ later k
    → with_fact later l fact k ≡ with_fact facts (suc l) fact (suc k)
same_test facts later fact k l h = grind (arith, nat_tests)

last_alone : (facts : Facts) (fact : Option Fact) (n : ℕ) → facts (suc n) ≡ None
    → None ≡ with_fact facts 0 fact (suc n)
last_alone facts fact n h = grind (arith, nat_tests)

first_stays : (facts : Facts) (fact first : Option Fact) (l : ℕ) → facts 0 ≡ first
    → first ≡ with_fact facts (suc l) fact 0
first_stays facts fact first l h = grind (arith, nat_tests)

-- a fact that comes last has the number of those before it
fact_in-push : (facts : List (Option Fact)) (fact : Option Fact) (n : ℕ)
    → fact_in (facts ++ fact ∷ []) n ≡ with_fact (fact_in facts) (length facts) fact n
fact_in-push [] fact zero = refl
fact_in-push [] fact (suc n) = last_alone (fact_in []) fact n refl
fact_in-push (first ∷ later) fact zero = first_stays (fact_in (first ∷ later)) fact first (length later) refl
fact_in-push (first ∷ later) fact (suc n) =
    fact_in-push later fact n ∙ same_test (fact_in (first ∷ later)) (fact_in later) fact n (length later) refl

one_more-within : (count n limit : ℕ) (r : Option (Option Why)) → count ≤ limit
    → accepted_count (one_more count n r) ≤ limit + 1
one_more-within count n limit None h = omega arith
one_more-within count n limit (Some None) h = omega arith
one_more-within count n limit (Some (Some why)) h = omega arith

with_judgement-within : (answer : Option Judgement) (n limit : ℕ) (v : Verdict)
    → accepted_count v ≤ limit → accepted_count (with_judgement answer n v) ≤ limit + 1
with_judgement-within answer n limit (Accepted count) h =
    one_more-within count n limit (option_map (λ judgement. slice_get judgement.reasons 0) answer) h
with_judgement-within answer n limit (Refused line why) h = omega arith

-- the verdict that is kept is of no more lines than were kept
pub accepted-bound : (network : Network) (kept : Kept) (count : ℕ) (m : Machine) (total : ℕ)
    → IsKept network kept count m → count < total
    → total < 18446744073709551616 → accepted_count kept.verdict < 18446744073709551615
accepted-bound network kept count m total h below bound = omega (arith, h.within, ap accepted_count h.verdict)

-- nothing is kept of lines to come
none_after : (items : List (Option Fact)) (facts : Facts) (count : ℕ) → length items ≡ count → fact_in items ≡ facts
    → (n : ℕ) → count ≤ n → facts n ≡ None
none_after items facts count counted same n past = sym (λ i. same i n) ∙ by items n (omega (arith, counted, past))
  where
    by : (l : List (Option Fact)) (n : ℕ) → length l ≤ n → fact_in l n ≡ None
    by [] n h = refl
    by (x ∷ l) zero h = absurd (omega (arith, h))
    by (x ∷ l) (suc n) h = by l n (omega (arith, h))

-- the last stays of copies with one more line
module _ (facts : Facts) (count : ℕ) (fact : Option Fact) (none : (n : ℕ) → count ≤ n → facts n ≡ None) where
  abbrev now : Facts
  now = with_fact facts count fact

  now_here : now count ≡ fact
  now_here = λ i. cond (eq-eqb count count refl i) fact (facts count)

  now_before : (n : ℕ) → n < count → now n ≡ facts n
  now_before n h = λ i. cond (apart i) fact (facts n)
    where
      apart : eqb count n ≡ false
      apart = grind (arith, nat_tests)

  same_below : (n transit : ℕ) → n < count → stay_below now n transit ≡ stay_below facts n transit
  same_below n transit h =
      ap (λ (o : Option Fact). option_and_then
      (λ entered. option_map (λ copy. (transit, copy))
      (where_passes (λ copy. nat_lt copy n) (entered_copy entered.event))) o) (by (nat_lt transit n) refl)
    where
      by : (b : Bool) → nat_lt transit n ≡ b → cond b (now transit) None ≡ cond b (facts transit) None
      by true e = let low : transit < n = ltb-true transit n e in now_before transit (omega (arith, low, h))
      by false e = refl

  same_stay : (n : ℕ) (x : Fact) → n < count → stay_of now n x ≡ stay_of facts n x
  same_stay n x h = λ i. cond (is_some x.journey)
      (option_and_then (λ transit. same_below n transit h i) (named_transit x.event)) None

  same_stays : (n : ℕ) (o : Option Fact) → n < count
      → option_and_then (stay_of now n) o ≡ option_and_then (stay_of facts n) o
  same_stays n None h = refl
  same_stays n (Some x) h = same_stay n x h

  stays_at : (n : ℕ) (b c : Bool) → eqb count n ≡ b → nat_lt n count ≡ c
      → last_stays now n ≡ cond b (option_and_then (stay_of now count) fact) (last_stays facts n)
  stays_at n true c e g =
      subst (λ (x : ℕ). last_stays now x ≡ option_and_then (stay_of now count) fact) (eqb-true count n e)
      (ap (λ (o : Option Fact). option_and_then (stay_of now count) o) now_here)
  stays_at n false true e g =
      let low : n < count = ltb-true n count g in
      ap (λ (o : Option Fact). option_and_then (stay_of now n) o) (now_before n low) ∙ same_stays n (facts n) low
  stays_at n false false e g =
      let past : count ≤ n = grind (arith, nat_tests) in
      let gone : now n ≡ None = (λ i. cond (e i) fact (facts n)) ∙ none n past in
      ap (λ (o : Option Fact). option_and_then (stay_of now n) o) gone
      ∙ sym (ap (λ (o : Option Fact). option_and_then (stay_of facts n) o) (none n past))

  last_stays-more : last_stays now ≡ with_stay count (option_and_then (stay_of now count) fact) (last_stays facts)
  last_stays-more = λ i n. stays_at n (eqb count n) (nat_lt n count) refl refl i

module _ (network : Network) (line : TraceLine) (count : ℕ) (m : Machine) (kept : Kept) (number : ℕ)
    (fact : Option Fact) (items : List (Option Fact)) (h : IsKept network kept count m)
    (number_is : number ≡ length kept.facts.items)
    (fact_is : fact ≡ fact_by network (facts_of kept) (sites_of network kept) line number)
    (items_is : items ≡ kept.facts.items ++ fact ∷ []) where
  counted : number ≡ count
  counted = number_is ∙ h.count_is

  found : fact ≡ fact_by network m.facts m.sites line count
  found = fact_is ∙ (λ i. fact_by network (h.facts i) (h.sites i) line (counted i))

  pushed : fact_in items ≡ with_fact m.facts count (fact_by network m.facts m.sites line count)
  pushed = ap fact_in items_is ∙ (λ i n. fact_in-push kept.facts.items fact n i)
      ∙ (λ i. with_fact (h.facts i) (h.count_is i) (found i))

  -- what the report of one more line is judged to be
  pub judgement-line : (answer : Option Judgement)
      → answer ≡ line_judgement_by network (fact_in items) (once_in kept.stays) (stamps_of kept) (sites_of network kept) fact
      line.out
      → answer ≡ judgement_after network line count m
  judgement-line answer answer_is = answer_is
      ∙ (λ i. line_judgement_by network (pushed i) (once_kept kept.stays (last_stays m.facts) m.leaves count h.stays i)
      (h.stamps i) (h.sites i) (found i) line.out)

  pub IsKept-line : (after : Kept) (last : ℕ) (answer : Option Judgement)
      → last ≡ length kept.facts.items
      → after.facts.items ≡ items
      → sites_of network after ≡ sites_told fact number (sites_of network kept)
      → ((stays : LastStays) (leaves : Leaves) → AreStays kept.stays stays leaves number
      → AreStays after.stays (with_stay number (option_and_then (stay_of (fact_in items) number) fact) stays)
      (leaves_told fact leaves) (number + 1))
      → firsts_of after ≡ firsts_told fact number (firsts_of kept)
      → stamps_of after ≡ stamps_told fact number (sites_of network kept) (stamps_of kept)
      → answer ≡ line_judgement_by network (fact_in items) (once_in kept.stays) (stamps_of kept) (sites_of network kept) fact
      line.out
      → after.verdict ≡ with_judgement answer last kept.verdict
      → IsKept network after (count + 1) (after_line network line count m)
  IsKept-line after last answer last_is items_after sites_is stays_is firsts_is stamps_is answer_is verdict_is =
      let placed : last ≡ count = last_is ∙ h.count_is in
      let stays = last_stays m.facts in
      let more = last_stays-more m.facts count (fact_by network m.facts m.sites line count)
      (none_after kept.facts.items m.facts count h.count_is h.facts) in
      record {
        count_is = ap length (items_after ∙ items_is) ∙ length-append kept.facts.items (fact ∷ [])
            ∙ ap (λ (n : ℕ). n + 1) h.count_is;
        facts = ap fact_in items_after ∙ pushed;
        sites = sites_is ∙ (λ i. sites_told (found i) (counted i) (h.sites i));
        stays = transport (λ i. AreStays after.stays (sym more i)
            (leaves_told (fact_by network m.facts m.sites line count) m.leaves) (count + 1))
            (transport (λ i. AreStays after.stays
            (with_stay (counted i) (option_and_then (stay_of (pushed i) (counted i)) (found i)) stays)
            (leaves_told (found i) m.leaves) (counted i + 1))
            (stays_is stays m.leaves (transport (λ i. AreStays kept.stays stays m.leaves (sym counted i)) h.stays)));
        firsts = firsts_is ∙ (λ i. firsts_told (found i) (counted i) (h.firsts i));
        stamps = stamps_is ∙ (λ i. stamps_told (found i) (counted i) (h.sites i) (h.stamps i));
        verdict = verdict_is ∙ (λ i. with_judgement (judgement-line answer answer_is i) (placed i) (h.verdict i));
        within = with_judgement-within (judgement_after network line count m) count count m.verdict h.within;
      }
