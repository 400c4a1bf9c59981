-- What is kept of lines is what the lines say, and what is told of them by it.
use Rattle.std.proofs.Common.{◌≡◌, ◌∙◌, ℕ, length, Bool, true, false, ◌&&◌, Option, Some, None, refl, sym, ap, is_some}
use Rattle.std.specs.Prelude.{reverse, option_map, option_and_then}
use Rattle.std.proofs.lemmas.List.{reverse-reverse}
use Rattle.network_model.specs.Network.{Network, NodeName}
use Rattle.network_model.specs.Kinds.{is_set_master, named_master}
use Rattle.trace_model.specs.Line.{Lines}
use Rattle.trace_model.specs.Record.{LinePlace, line_number, event_of, line_at, last_line, first_stamp}
use Rattle.trace_model.specs.Journey.{LineJourney, line_journey_of}
use Rattle.trace_model.specs.Finding.{leave_of}
use Rattle.trace_model.proofs.Lines.{last_is}
use Rattle.exchange_check.specs.declared.kept.Kept.{Kept}
use Rattle.exchange_check.specs.KeptLine.{kept_line, kept_line_at, origin_at, master_told}
use Rattle.exchange_check.specs.Inner.Kept.{kept_journey_at}
use Rattle.exchange_check.specs.Inner.Machine.{IsKept, machine, facts_of, sites_of, firsts_of, stamps_of}
use Rattle.copy_stays.proofs.Kept.{once_kept}
use Rattle.copy_stays.specs.Leaves.{once_of}
use Rattle.exchange_check.specs.Inner.Stays.{last_stays}
use Rattle.copy_stays.specs.Stays.{once_in}
use Rattle.exchange_check.specs.Inner.Noting.{line_of_fact}
use Rattle.exchange_check.proofs.Noted.{site_at, leaves_at, firsts_at, stamps_at, told_master}
use Rattle.exchange_check.proofs.Told.{fact_of, facts_at, kept_journey_of, kept_journey_at-is}
use Rattle.exchange_check.proofs.Standing.{stands}

of_line : (network : Network) (o : Option LinePlace)
    → option_map line_of_fact (option_map (fact_of network) o) ≡ option_map (kept_line network) o
of_line network None = refl
of_line network (Some e) = refl

of_journey : (network : Network) (o : Option LineJourney)
    → option_map (λ journey. journey.origin) (option_map (kept_journey_of network) o)
    ≡ option_map (λ (journey : LineJourney). line_number journey.origin) o
of_journey network None = refl
of_journey network (Some journey) = refl

left_holds : (a b : Bool) → (a && b) ≡ true → a ≡ true
left_holds true b h = refl
left_holds false b h = h

set_number : (master : Option NodeName) (n : ℕ) → is_some master ≡ true
    → option_map (λ (set : NodeName × ℕ). set.1) (option_map (λ (name : NodeName). (name, n)) master) ≡ Some n
set_number None n h = cc
set_number (Some name) n h = refl

of_master : (o : Option LinePlace) → ((k : LinePlace) → o ≡ Some k → is_set_master (event_of k) ≡ true)
    → option_map (λ (set : NodeName × ℕ). set.1) (option_and_then (λ (e : LinePlace). told_master (event_of e) (line_number e)) o)
    ≡ option_map line_number o
of_master None each = refl
of_master (Some k) each = set_number (named_master (event_of k)) (line_number k) (each k refl)

module _ (network : Network) (fed : Lines) (kept : Kept) (h : IsKept network kept (length fed) (machine network fed)) where
  pub facts-kept : facts_of kept ≡ facts_at network fed
  facts-kept = h.facts ∙ (stands network fed).facts

  pub sites-kept : sites_of network kept ≡ site_at network fed
  sites-kept = h.sites ∙ (stands network fed).sites

  pub firsts-kept : firsts_of kept ≡ firsts_at network fed
  firsts-kept = h.firsts ∙ (stands network fed).firsts

  pub stamps-kept : stamps_of kept ≡ stamps_at network fed
  stamps-kept = h.stamps ∙ (stands network fed).stamps

  pub once-kept : once_in kept.stays ≡ once_of (last_stays (facts_at network fed)) (leaves_at network fed)
  once-kept =
      once_kept kept.stays (last_stays (machine network fed).facts) (machine network fed).leaves (length fed) h.stays
      ∙ (λ i. once_of (last_stays ((stands network fed).facts i)) ((stands network fed).leaves i))

  line-kept : (number : ℕ) → option_map line_of_fact (facts_of kept number) ≡ kept_line_at network fed number
  line-kept number = ap (option_map line_of_fact) (λ i. facts-kept i number) ∙ of_line network (line_at network fed number)

  origin-kept : (number : ℕ)
      → option_map (λ journey. journey.origin) (kept_journey_at (facts_of kept) number) ≡ origin_at network fed number
  origin-kept number =
      (λ i. option_map (λ journey. journey.origin) (kept_journey_at (facts-kept i) number))
      ∙ ap (option_map (λ journey. journey.origin)) (kept_journey_at-is network fed number)
      ∙ of_journey network (line_journey_of network fed number)

  master-kept : (slave : NodeName)
      → option_map (λ set. set.1) (sites_of network kept slave).set_master ≡ master_told network fed slave
  master-kept slave =
      (λ i. option_map (λ set. set.1) (sites-kept i slave).set_master)
      ∙ of_master (last_line network is_set_master slave fed)
      (λ k is. left_holds (is_set_master (event_of k)) _ (last_is network is_set_master slave fed k is).1)

-- the same of lines that are told oldest first
module _ (network : Network) (fed : Lines) (kept : Kept) (h : IsKept network kept (length fed) (machine network fed)) where
  pub line-told : (number : ℕ)
      → option_map line_of_fact (facts_of kept number) ≡ kept_line_at network (reverse (reverse fed)) number
  line-told number = line-kept network fed kept h number
      ∙ ap (λ (lines : Lines). kept_line_at network lines number) (sym (reverse-reverse fed))

  pub origin-told : (number : ℕ)
      → option_map (λ journey. journey.origin) (kept_journey_at (facts_of kept) number)
      ≡ origin_at network (reverse (reverse fed)) number
  origin-told number = origin-kept network fed kept h number
      ∙ ap (λ (lines : Lines). origin_at network lines number) (sym (reverse-reverse fed))

  pub master-told : (slave : NodeName)
      → option_map (λ set. set.1) (sites_of network kept slave).set_master
      ≡ master_told network (reverse (reverse fed)) slave
  master-told slave = master-kept network fed kept h slave
      ∙ ap (λ (lines : Lines). master_told network lines slave) (sym (reverse-reverse fed))

  pub leave-told : (transit : ℕ) → firsts_of kept transit ≡ leave_of network transit (reverse (reverse fed))
  leave-told transit = (λ i. firsts-kept network fed kept h i transit)
      ∙ ap (leave_of network transit) (sym (reverse-reverse fed))

  pub stamp-told : (request : ℕ) → stamps_of kept request ≡ first_stamp network request (reverse (reverse fed))
  stamp-told request = (λ i. stamps-kept network fed kept h i request)
      ∙ ap (first_stamp network request) (sym (reverse-reverse fed))
