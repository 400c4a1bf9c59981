-- A report line is sound exactly where there is no reason against it, and what verdicts say of that.
use Rattle.std.proofs.Common.{◌≡◌, ◌∙◌, ℕ, ◌+◌, Bool, true, false, ◌&&◌, cond, List, [], ◌∷◌, ◌++◌, length}
use Rattle.std.proofs.Common.{Option, Some, None, slice_get, option_map, is_some, refl, sym, ap, subst, arith}
use Rattle.std.proofs.lemmas.Bool.{and_parts}
use Rattle.std.proofs.lemmas.List.Sums.{sum_by-cons}
use Rattle.slave_port.specs.declared.heard.Report.{Report}
use Rattle.network_model.specs.Network.{Network}
use Rattle.network_model.specs.Kinds.{draws_sync, is_request}
use Rattle.trace_model.specs.declared.line.TraceLine.{TraceLine}
use Rattle.trace_model.specs.declared.verdict.Verdict.{Verdict}
use Rattle.trace_model.specs.declared.verdict.Verdict.TheVariants.{Accepted, Refused}
use Rattle.trace_model.specs.declared.verdict.Why.{Why}
use Rattle.trace_model.specs.declared.verdict.Why.TheVariants.{NoSuchLine, OtherNumber, OtherMaster, BrokenJourney}
use Rattle.trace_model.specs.declared.verdict.Why.TheVariants.{WrongReading, WrongValue, TooBig, Bytes}
use Rattle.trace_model.specs.Line.{Lines}
use Rattle.trace_model.specs.Record.{LinePlace, line_place, line_number, site}
use Rattle.trace_model.specs.Sound.{Sound, exchange_of, unbroken, are_paired, is_of_master, are_readings}
use Rattle.trace_model.specs.Sound.{fits, are_results, are_octets, Conditions, needs, failing, reasons, reason}
use Rattle.trace_model.specs.Verdict.{report_in, one_more, with_line, verdict}
use Rattle.trace_model.specs.Soundness.{ReasonsMissNothing, ReportLine, AllSound, report_count}
use Rattle.trace_model.specs.Soundness.{FirstUnsound, TellsSoundness, VerdictsTellSoundness}

-- the first of the reasons whose conditions fail
abbrev first_failing : Conditions → Option Why
first_failing asked = slice_get (failing asked) 0

-- with what was needed, the reason is the one that is found with it
met : {X : Type 0} (why : Why) (o : Option X) (asked : X → Conditions) (x : X) → o ≡ Some x
    → first_failing (asked x) ≡ None → first_failing (needs why o asked) ≡ None
met why o asked x there none = ap (λ o. first_failing (needs why o asked)) there ∙ none

-- without a reason, what was needed is there, and there is no reason with it
all_met : {X : Type 0} (why : Why) (o : Option X) (asked : X → Conditions) → first_failing (needs why o asked) ≡ None
    → (x : X) × (o ≡ Some x) × (first_failing (asked x) ≡ None)
all_met why None asked none = cc
all_met why (Some x) asked none = (x, refl, none)

-- without a reason, all six conditions hold that speak of both journeys
none_fails : (a b c d f g : Bool) → first_failing ((OtherNumber, a) ∷ (OtherMaster, b) ∷ (WrongReading, c)
    ∷ (TooBig, d) ∷ (WrongValue, f) ∷ (Bytes, g) ∷ []) ≡ None
    → (a ≡ true) × (b ≡ true) × (c ≡ true) × (d ≡ true) × (f ≡ true) × (g ≡ true)
none_fails true true true true true true h = (refl, refl, refl, refl, refl, refl)
none_fails true true true true true false h = cc
none_fails true true true true false g h = cc
none_fails true true true false f g h = cc
none_fails true true false d f g h = cc
none_fails true false c d f g h = cc
none_fails false b c d f g h = cc

module _ (network : Network) (e : LinePlace) (report : Report) where
  sound_reason : Sound network e report → reason network e report ≡ None
  sound_reason s =
      let has = s.exchange in
      met NoSuchLine _ _ has.x has.lines (met BrokenJourney _ _ has.sync has.sync_unbroken
      (met BrokenJourney _ _ has.request has.request_unbroken (λ i. first_failing (
      (OtherNumber, has.paired i) ∷ (OtherMaster, has.of_master i) ∷ (WrongReading, has.readings i)
      ∷ (TooBig, has.sync_fits i && has.request_fits i) ∷ (WrongValue, has.results i) ∷ (Bytes, s.octets i) ∷ []))))

  reason_sound : reason network e report ≡ None → Sound network e report
  reason_sound h =
      let lines = all_met NoSuchLine (exchange_of network (site e) e report) _ h in
      let x = lines.0 in
      let sync_way = all_met BrokenJourney (unbroken network e draws_sync x.sync_arrival) _ lines.2 in
      let request_way = all_met BrokenJourney (unbroken network e is_request x.request_arrival) _ sync_way.2 in
      let sync = sync_way.0 in
      let request = request_way.0 in
      let p = none_fails (are_paired network x sync request) (is_of_master network (site e) e report x sync)
      (are_readings network x sync request) (fits sync && fits request) (are_results report x sync request)
      (are_octets network x sync request) request_way.2 in
      let fit = and_parts (fits sync) (fits request) p.3 in
      record {
        exchange = record {
          x = x;
          sync = sync;
          request = request;
          lines = lines.1;
          sync_unbroken = sync_way.1;
          request_unbroken = request_way.1;
          paired = p.0;
          of_master = p.1;
          readings = p.2;
          sync_fits = fit.0;
          request_fits = fit.1;
          results = p.4;
        };
        octets = p.5;
      }

-- without a first one there are none
none_at_all : (whys : List Why) → slice_get whys 0 ≡ None → whys ≡ []
none_at_all [] none = refl
none_at_all (why ∷ whys) none = cc

pub reasons_miss_nothing : ReasonsMissNothing
reasons_miss_nothing network e report = record {
  none = (
    λ h. reason_sound network e report (ap (λ (whys : List Why). slice_get whys 0) h),
    λ sound. none_at_all (reasons network e report) (sound_reason network e report sound),
  );
  no_first = (reason_sound network e report, sound_reason network e report);
}

module _ (network : Network) where
  counted : (line : TraceLine) (earlier : Lines) (o : Option Report) → report_in line.out ≡ o
      → report_count (line ∷ earlier) ≡ cond (is_some o) 1 0 + report_count earlier
  counted line earlier o h =
      sum_by-cons (λ (x : TraceLine). cond (is_some (report_in x.out)) 1 0) line earlier
      ∙ ap (λ (r : Option Report). cond (is_some r) 1 0 + report_count earlier) h

  none_sound : AllSound network []
  none_sound e report there = at there.later there.there
    where
      at : (later : Lines) → [] ≡ later ++ e.line ∷ e.earlier → Sound network e report
      at [] h = cc
      at (line ∷ later) h = cc

  earlier_line : (line : TraceLine) (earlier : Lines) (e : LinePlace) (report : Report) → ReportLine earlier e report
      → ReportLine (line ∷ earlier) e report
  earlier_line line earlier e report there =
      record {
        later = line ∷ there.later;
        there =
            ap (λ (xs : Lines). line ∷ xs) there.there;
        reports = there.reports;
      }

  this_line : (line : TraceLine) (earlier : Lines) (report : Report) → report_in line.out ≡ Some report
      → ReportLine (line ∷ earlier) (line_place line earlier) report
  this_line line earlier report h = record { later = []; there = refl; reports = h }

  -- with one more line that has no report, or a sound one
  one_more_sound : (line : TraceLine) (earlier : Lines) → AllSound network earlier
      → ((report : Report) → report_in line.out ≡ Some report → Sound network (line_place line earlier) report)
      → AllSound network (line ∷ earlier)
  one_more_sound line earlier before here e report there = at there.later there.there
    where
      at : (later : Lines) → line ∷ earlier ≡ later ++ e.line ∷ e.earlier → Sound network e report
      at [] h =
          let first : line ≡ e.line = cc in
          let rest : earlier ≡ e.earlier = cc in
          let one : line_place line earlier ≡ e = λ i. line_place (first i) (rest i) in
          subst (λ (x : LinePlace). Sound network x report) one
          (here report (ap (λ (x : TraceLine). report_in x.out) first ∙ there.reports))
      at (x ∷ later) h =
          let rest : earlier ≡ later ++ e.line ∷ e.earlier = cc in
          before e report (record { later = later; there = rest; reports = there.reports })

  sound_counted : (lines : Lines) → AllSound network lines → verdict network lines ≡ Accepted (report_count lines)
  sound_counted [] all = refl
  sound_counted (line ∷ earlier) all =
      ap (with_line network (line_place line earlier))
      (sound_counted earlier (λ e report there. all e report (earlier_line line earlier e report there)))
      ∙ at (report_in line.out) refl
    where
      at : (o : Option Report) → report_in line.out ≡ o
          → with_line network (line_place line earlier) (Accepted (report_count earlier))
          ≡ Accepted (report_count (line ∷ earlier))
      at None h =
          ap (λ (o : Option Report). one_more (report_count earlier) (length earlier)
          (option_map (reason network (line_place line earlier)) o)) h
          ∙ ap Accepted (sym (counted line earlier None h ∙ omega arith))
      at (Some report) h =
          ap (λ (o : Option Report). one_more (report_count earlier) (length earlier)
          (option_map (reason network (line_place line earlier)) o)) h
          ∙ ap (λ (o : Option Why). one_more (report_count earlier) (length earlier) (Some o))
          (sound_reason network (line_place line earlier) report
          (all (line_place line earlier) report (this_line line earlier report h)))
          ∙ ap Accepted (sym (counted line earlier (Some report) h ∙ omega arith))

  unsound_line : (number count : ℕ) (why : Why) (e : LinePlace) (report : Report) → report_in e.line.out ≡ Some report
      → reason network e report ≡ Some why
      → with_line network e (Accepted count) ≡ Refused (line_number e) why
  unsound_line number count why e report h fails =
      ap (λ (o : Option Report). one_more count (line_number e) (option_map (reason network e) o)) h
      ∙ ap (λ (o : Option Why). one_more count (line_number e) (Some o)) fails

  unsound_refused : (lines : Lines) (number : ℕ) (why : Why) → FirstUnsound network lines number why
      → verdict network lines ≡ Refused number why
  unsound_refused lines number why first =
      ap (verdict network) first.there.there ∙ at first.there.later ∙ ap (λ (n : ℕ). Refused n why) first.number_is
    where
      at : (later : Lines) → verdict network (later ++ first.e.line ∷ first.e.earlier)
          ≡ Refused (line_number first.e) why
      at [] =
          ap (with_line network first.e) (sound_counted first.e.earlier first.before)
          ∙ unsound_line number (report_count first.e.earlier) why first.e first.report first.there.reports first.fails
      at (line ∷ later) = ap (with_line network (line_place line (later ++ first.e.line ∷ first.e.earlier))) (at later)

  -- what a verdict says of lines, each way
  abbrev Says : Lines → Verdict → Type 0
  Says lines (Accepted count) = AllSound network lines
  Says lines (Refused number why) = FirstUnsound network lines number why

  said_here : (line : TraceLine) (earlier : Lines) (count : ℕ) (o : Option Report) → report_in line.out ≡ o
      → AllSound network earlier
      → Says (line ∷ earlier) (one_more count (length earlier)
      (option_map (reason network (line_place line earlier)) o))
  said_here line earlier count None h before =
      one_more_sound line earlier before (λ report some. let no : None ≡ Some report = sym h ∙ some in cc)
  said_here line earlier count (Some report) h before = at (reason network (line_place line earlier) report) refl
    where
      at : (o : Option Why) → reason network (line_place line earlier) report ≡ o
          → Says (line ∷ earlier) (one_more count (length earlier) (Some o))
      at None fails = one_more_sound line earlier before
          (λ other some. let both : Some report ≡ Some other = sym h ∙ some in
          let one : report ≡ other = cc in
          subst (λ (r : Report). Sound network (line_place line earlier) r) one
          (reason_sound network (line_place line earlier) report fails))
      at (Some why) fails = record {
        e = line_place line earlier;
        report = report;
        there = this_line line earlier report h;
        number_is = refl;
        before = before;
        fails = fails;
        unsound = λ sound. let no : Some why ≡ None =
            sym fails ∙ sound_reason network (line_place line earlier) report sound in cc;
      }

  said_more : (line : TraceLine) (earlier : Lines) (v : Verdict) → Says earlier v
      → Says (line ∷ earlier) (with_line network (line_place line earlier) v)
  said_more line earlier (Accepted count) before = said_here line earlier count (report_in line.out) refl before
  said_more line earlier (Refused number why) first = record {
    e = first.e;
    report = first.report;
    there = earlier_line line earlier first.e first.report first.there;
    number_is = first.number_is;
    before = first.before;
    unsound = first.unsound;
    fails = first.fails;
  }

  said : (lines : Lines) → Says lines (verdict network lines)
  said [] = none_sound
  said (line ∷ earlier) = said_more line earlier (verdict network earlier) (said earlier)

  pub tells_soundness : (lines : Lines) → TellsSoundness network lines (verdict network lines)
  tells_soundness lines = record {
    accepted = λ count. (
      λ h. let all : AllSound network lines = subst (Says lines) h (said lines) in
          let both : Accepted count ≡ Accepted (report_count lines) = sym h ∙ sound_counted lines all in
          (all, cc),
      λ p. sound_counted lines p.0 ∙ ap Accepted (sym p.1),
    );
    refused = λ number why. (λ h. subst (Says lines) h (said lines), unsound_refused lines number why);
  }

pub verdicts_tell_soundness : VerdictsTellSoundness
verdicts_tell_soundness = tells_soundness
