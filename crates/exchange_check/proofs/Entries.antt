-- Tables with one more entry, and what is noted of one more line.
use Rattle.std.proofs.Common.{◌≡◌, ◌∙◌, ℕ, ◌-◌, Bool, true, false, cond, List, ◌∷◌, length, Option, Some, None}
use Rattle.std.proofs.Common.{Ok, Err, Result, refl, sym, ap, arith}
use Rattle.std.specs.Prelude.{option_map, OnOk}
use Rattle.std.specs.BTreeMap.{get}
use Rattle.std.specs.Ordering.{nat_cmp}
use Rattle.std.proofs.lemmas.Bool.{eq-eqb}
use Rattle.std.proofs.lemmas.Option.{none-some, same_Some}
use Rattle.arrayvec.specs.declared.array_vec.ArrayVec.{ArrayVec}
use Rattle.network_model.specs.Network.{Network}
use Rattle.network_model.specs.Run.{site_of}
use Rattle.trace_model.specs.declared.finding.Finding.TheVariants as findings
use Rattle.trace_model.specs.declared.line.TraceLine.{TraceLine}
use Rattle.trace_model.specs.Line.{Lines, counts}
use Rattle.trace_model.specs.Record.{LinePlace, line_place, line_at, site}
use Rattle.trace_model.specs.Finding.{Stop}
use Rattle.exchange_check.specs.declared.exceptions.Exceptions.{Exceptions}
use Rattle.exchange_check.specs.declared.facts.Fact.{Fact}
use Rattle.exchange_check.specs.declared.facts.Site.{Site}
use Rattle.exchange_check.specs.declared.kept.Kept.{Kept}
use Rattle.exchange_check.specs.declared.kept_line.Uncounted.{Uncounted}
use Rattle.exchange_check.specs.declared.kept_line.WrongReading.{WrongReading}
use Rattle.exchange_check.specs.declared.refusal.CheckFault.{CheckFault}
use Rattle.exchange_check.specs.Evidence.{Table, noted, told_by, octets_told, stops_in, wrong_octets}
use Rattle.exchange_check.specs.Evidence.{wrong_octets_at, wrong_reading, wrong_reading_at, uncounted_at, second_leaves}
use Rattle.exchange_check.specs.Evidence.{made_otherwise, first_otherwise_at, stop_made, stops_at}
use Rattle.exchange_check.specs.Inner.Machine.{IsKept, machine, facts_of, sites_of, firsts_of}
use Rattle.exchange_check.specs.Inner.Noting.{mapped, with_entry, octets_entry, reading_entry, seconds_with}
use Rattle.exchange_check.specs.Inner.Noting.{first_otherwise_by, stop_entry, slim, NotesLine}
use Rattle.exchange_check.proofs.Noted.{site_at}
use Rattle.exchange_check.proofs.Told.{fact_of, journey_from}
use Rattle.exchange_check.proofs.Inside.{facts-kept, sites-kept, firsts-kept}
use Rattle.exchange_check.proofs.NotedTables.{table, table-more, no-entry, uncounted-more, entry-mapped}
use Rattle.exchange_check.proofs.SecondLeaves.{seconds-more, seconds-unchanged}
use Rattle.exchange_check.proofs.WrongReadings.{reading-entry}
use Rattle.exchange_check.proofs.FirstOtherwise.{first-otherwise}
use Rattle.exchange_check.proofs.WayStops.{stop-entry}

-- the octets that are kept
abbrev pub items_of : ArrayVec ℕ 54 (Unit {0}) → List ℕ
items_of octets = octets.items

-- where a result is good
pub on_ok : {A B : Type 0} (r : Result (Unit {0}) CheckFault) → (A → B) → OnOk r A → OnOk r B
on_ok (Ok x) f h = f h
on_ok (Err x) f h = h

pub none-told : {X Y : Type 0} (f : X → Y) (table : Table X) → table ≡ (λ n. None)
    → mapped f table ≡ (λ n. None)
none-told f table h = λ i. mapped f (h i)

module _ (network : Network) (line : TraceLine) (earlier : Lines) where
  abbrev e : LinePlace
  e = line_place line earlier

  abbrev fed : Lines
  fed = line ∷ earlier

  abbrev n : ℕ
  n = length earlier

  last_line_at : line_at network fed n ≡ cond (counts network line) (Some e) None
  last_line_at = λ i. cond (eq-eqb n n refl i) (cond (counts network line) (Some e) None) (line_at network earlier n)

  fact_if : (c : Bool) (fact : Fact) → option_map (fact_of network) (cond c (Some e) None) ≡ Some fact
      → (c ≡ true) × (fact_of network e ≡ fact)
  fact_if true fact h = (refl, same_Some _ _ h)
  fact_if false fact h = absurd (none-some fact h)

  none_if : (c : Bool) → option_map (fact_of network) (cond c (Some e) None) ≡ None → c ≡ false
  none_if true h = absurd (none-some (fact_of network e) (sym h))
  none_if false h = refl

  module _ (kept : Kept) (h : IsKept network kept (length fed) (machine network fed)) (number : ℕ)
      (number_is : number ≡ length kept.facts.items - 1) (old new : Exceptions)
      (before : told_by old ≡ noted network earlier) where
    at_last : facts_of kept number ≡ option_map (fact_of network) (cond (counts network line) (Some e) None)
    at_last =
        let last : number ≡ n = omega (arith, number_is, h.count_is) in
        ap (facts_of kept) last ∙ (λ i. facts-kept network fed kept h i n) ∙ ap (option_map (fact_of network)) last_line_at

    -- of a line that counts
    module _ (site_kept : Site) (fact : Fact) (found : facts_of kept number ≡ Some fact)
        (site_is : site_kept ≡ sites_of network kept (site_of fact.event))
        (notes : NotesLine network kept site_kept fact line old new) where
      is_line : (counts network line ≡ true) × (fact_of network e ≡ fact)
      is_line = fact_if (counts network line) fact (sym at_last ∙ found)

      counted : counts network line ≡ true
      counted = is_line.0

      same : fact ≡ fact_of network e
      same = sym is_line.1

      octets : octets_told new ≡ wrong_octets_at network fed
      octets = notes.octets
          ∙ (λ i. with_entry (same i).line (octets_entry (same i) line.out) (before i).octets)
          ∙ sym (table-more network (wrong_octets network) line earlier true counted)

      site_at_it : site_kept ≡ site_at network fed (site e)
      site_at_it = site_is ∙ (λ i. sites-kept network fed kept h i (site_of (same i).event))

      readings : get nat_cmp new.readings ≡ wrong_reading_at network fed
      readings = notes.readings
          ∙ (λ i. with_entry (same i).line (reading_entry (site_at_it i) (same i) line.reading) (before i).readings)
          ∙ (λ i. with_entry n (reading-entry network line earlier counted i) (wrong_reading_at network earlier))
          ∙ sym (table-more network (wrong_reading network) line earlier true counted)

      uncounted : get nat_cmp new.uncounted ≡ uncounted_at network fed
      uncounted = notes.uncounted ∙ (λ i. (before i).uncounted)
          ∙ sym (uncounted-more network line earlier true counted ∙ no-entry n (uncounted_at network earlier))

      seconds : get nat_cmp new.seconds ≡ second_leaves network fed
      seconds = notes.seconds
          ∙ (λ i. seconds_with (firsts-kept network fed kept h i) (same i) (before i).seconds)
          ∙ sym (seconds-more network line earlier counted)

      abbrev otherwise_raw : Table ℕ
      otherwise_raw = get nat_cmp old.first_otherwise

      first_otherwise : mapped findings.OtherOctets (get nat_cmp new.first_otherwise) ≡ first_otherwise_at network fed
      first_otherwise = (λ i. mapped findings.OtherOctets (notes.first_otherwise i))
          ∙ entry-mapped findings.OtherOctets fact.line
          (first_otherwise_by network (facts_of kept) otherwise_raw fact line.out) otherwise_raw
          ∙ (λ i. with_entry (same i).line (option_map findings.OtherOctets (first_otherwise_by network
          (facts-kept network fed kept h i) otherwise_raw (same i) line.out)) (before i).first_otherwise)
          ∙ (λ i. with_entry n (first-otherwise network line earlier counted otherwise_raw
          (λ copy k. (before k).first_otherwise copy) i) (first_otherwise_at network earlier))
          ∙ sym (table-more network (λ (x : LinePlace). made_otherwise network x (journey_from network x))
          line earlier true counted)

      stops_now : stops_in (get nat_cmp new.stops)
          ≡ stops_at network fed
      stops_now = notes.stops
          ∙ (λ i. with_entry (same i).line (stop_entry (facts-kept network fed kept h i) (before i).stops (same i))
          (before i).stops)
          ∙ (λ i. with_entry n (stop-entry network line earlier i) (stops_at network earlier))
          ∙ sym (table-more network (stop_made network) line earlier true counted)

      pub counted-line : told_by new ≡ noted network fed
      counted-line = λ i. record {
        octets = octets i;
        readings = readings i;
        uncounted = uncounted i;
        seconds = seconds i;
        first_otherwise = first_otherwise i;
        stops = stops_now i;
      }

    -- of one that doesn't
    module _ (none : facts_of kept number ≡ None)
        (notes : get nat_cmp new.uncounted ≡ with_entry number (Some (slim line)) (get nat_cmp old.uncounted))
        (others : new ≡ record old { uncounted = new.uncounted }) where
      passes : counts network line ≡ false
      passes = none_if (counts network line) (sym at_last ∙ none)

      same_table : {X : Type 0} (f : LinePlace → Option X) → table network f earlier ≡ table network f fed
      same_table f = sym (table-more network f line earlier false passes ∙ no-entry n (table network f earlier))

      uncounted_now : get nat_cmp new.uncounted ≡ uncounted_at network fed
      uncounted_now =
          let last : number ≡ n = omega (arith, number_is, h.count_is) in
          notes ∙ (λ i. with_entry (last i) (Some (slim line)) (before i).uncounted)
          ∙ sym (uncounted-more network line earlier false passes)

      kept_so : told_by (record old { uncounted = new.uncounted }) ≡ noted network fed
      kept_so = λ i. record {
        octets = ((λ k. (before k).octets) ∙ same_table (wrong_octets network)) i;
        readings = ((λ k. (before k).readings) ∙ same_table (wrong_reading network)) i;
        uncounted = uncounted_now i;
        seconds = ((λ k. (before k).seconds) ∙ sym (seconds-unchanged network line earlier passes)) i;
        first_otherwise = ((λ k. (before k).first_otherwise)
            ∙ same_table (λ (x : LinePlace). made_otherwise network x (journey_from network x))) i;
        stops = ((λ k. (before k).stops) ∙ same_table (stop_made network)) i;
      }

      pub uncounted-line : told_by new ≡ noted network fed
      uncounted-line = ap told_by others ∙ kept_so

-- what is noted of a line that counts, a table after the other
module _ (network : Network) (kept : Kept) (site_kept : Site) (fact : Fact) (line : TraceLine)
    (s0 s1 s2 s3 s4 s5 : Exceptions)
    (o1 : s1 ≡ record s0 { octets = s1.octets }) (o2 : s2 ≡ record s1 { readings = s2.readings })
    (o3 : s3 ≡ record s2 { seconds = s3.seconds }) (o4 : s4 ≡ record s3 { first_otherwise = s4.first_otherwise })
    (o5 : s5 ≡ record s4 { stops = s5.stops })
    (p1 : octets_told s1 ≡ with_entry fact.line (octets_entry fact line.out) (octets_told s0))
    (p2 : get nat_cmp s2.readings
    ≡ with_entry fact.line (reading_entry site_kept fact line.reading) (get nat_cmp s1.readings))
    (p3 : get nat_cmp s3.seconds ≡ seconds_with (firsts_of kept) fact (get nat_cmp s2.seconds))
    (p4 : get nat_cmp s4.first_otherwise
    ≡ with_entry fact.line (first_otherwise_by network (facts_of kept) (get nat_cmp s3.first_otherwise) fact line.out)
    (get nat_cmp s3.first_otherwise))
    (p5 : stops_in (get nat_cmp s5.stops)
    ≡ with_entry fact.line (stop_entry (facts_of kept) (stops_in (get nat_cmp s4.stops)) fact)
    (stops_in (get nat_cmp s4.stops))) where
  abbrev readings_of : Exceptions → Table WrongReading
  readings_of x = get nat_cmp x.readings

  abbrev uncounted_of : Exceptions → Table Uncounted
  uncounted_of x = get nat_cmp x.uncounted

  abbrev seconds_of : Exceptions → Table ℕ
  seconds_of x = get nat_cmp x.seconds

  abbrev otherwise_in : Exceptions → Table ℕ
  otherwise_in x = get nat_cmp x.first_otherwise

  abbrev stops_of : Exceptions → Table Stop
  stops_of x = stops_in (get nat_cmp x.stops)

  otherwise_stay : otherwise_in s3 ≡ otherwise_in s0
  otherwise_stay = ap otherwise_in o3 ∙ ap otherwise_in o2 ∙ ap otherwise_in o1

  stops_stay : stops_of s4 ≡ stops_of s0
  stops_stay = ap stops_of o4 ∙ ap stops_of o3 ∙ ap stops_of o2 ∙ ap stops_of o1

  pub notes-line : NotesLine network kept site_kept fact line s0 s5
  notes-line = record {
    octets = ap octets_told o5 ∙ ap octets_told o4 ∙ ap octets_told o3 ∙ ap octets_told o2 ∙ p1;
    readings = ap readings_of o5 ∙ ap readings_of o4 ∙ ap readings_of o3 ∙ p2
        ∙ (λ i. with_entry fact.line (reading_entry site_kept fact line.reading) (ap readings_of o1 i));
    uncounted = ap uncounted_of o5 ∙ ap uncounted_of o4 ∙ ap uncounted_of o3 ∙ ap uncounted_of o2 ∙ ap uncounted_of o1;
    seconds = ap seconds_of o5 ∙ ap seconds_of o4 ∙ p3
        ∙ (λ i. seconds_with (firsts_of kept) fact ((ap seconds_of o2 ∙ ap seconds_of o1) i));
    first_otherwise = ap otherwise_in o5 ∙ p4
        ∙ (λ i. with_entry fact.line
        (first_otherwise_by network (facts_of kept) (otherwise_stay i) fact line.out) (otherwise_stay i));
    stops = p5 ∙ (λ i. with_entry fact.line (stop_entry (facts_of kept) (stops_stay i) fact) (stops_stay i));
  }
