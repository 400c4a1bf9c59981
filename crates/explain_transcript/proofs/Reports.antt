-- What is told of a line's report, and what is kept of it.
use Rattle.std.proofs.Common.{◌≡◌, ◌≢◌, ◌∙◌, ◌++◌, ℕ, ◌+◌, Bool, true, false, List, [], ◌∷◌, Option, Some, None, Result, Ok, Err}
use Rattle.std.proofs.Common.{refl, sym, ap, subst}
use Rattle.std.specs.Prelude.{MatchResult, OnOk, option_map}
use Rattle.trace_model.specs.declared.verdict.Verdict.{Verdict}
use Rattle.trace_model.specs.declared.verdict.Why.{Why}
use Rattle.schedule_lines.specs.declared.reading.transcript.TranscriptLine.TheVariants as recorded
use Rattle.schedule_reading.specs.declared.fault.TaskFault.{TaskFault}
use Rattle.schedule_reading.specs.declared.fault.TaskFault.TheVariants.{Memory}
use Rattle.schedule_reading.specs.declared.transcript.Judged.{Judged}
use Rattle.schedule_reading.specs.Transcript.{Recorded}
use Rattle.explain_findings.specs.declared.reported.Reported.{Reported}
use Rattle.explain_story.specs.Counts.{Counts, counts_of, TellsCounts}
use Rattle.explain_story.specs.Report.{TellsReport}
use Rattle.explain_input.specs.declared.input.FoundInput.TheVariants as found
use Rattle.explain_input.specs.declared.input.Input.{Input}
use Rattle.explain_input.specs.declared.input.Input.TheVariants.{Transcript, Schedule}
use Rattle.explain_input.specs.Input.{lines_in, Takes, Faults}
use Rattle.explain_transcript.specs.declared.explaining.Explaining.{Explaining}
use Rattle.explain_transcript.specs.Explained.{Seen, Sees, TellsFound, TellsIf, TellsLine, found_text, with_report}
use Rattle.explain_transcript.specs.Inner.Explaining.{IsExplaining, IsSeenAlike, HasEventFor, fault_kept}

-- where a line has a report, the input is a transcript that has an event
pub has_event : (line : List ℕ) (input later : Input) (judged : Option Judged) → Takes line input later judged
    → HasEventFor later judged
has_event line input later None takes = tt
has_event line (Transcript state) (Transcript later) (Some judged) (recorded.Node node, is, (follows, none)) = absurd cc
has_event line (Transcript state) (Transcript later) (Some judged) (recorded.Event number event, is, ((place, network, follows), some)) =
    let lines : later.lines ≡ event ∷ state.lines = ap (λ (r : Recorded). r.lines) follows in
    λ none. absurd (cc (lines, none))
has_event line (Transcript state) (Schedule later) (Some judged) (event, begins, happens, none) = absurd cc
has_event line (Schedule state) (Schedule later) (Some judged) (takes, none) = absurd cc
has_event line (Schedule state) (Transcript later) (Some judged) takes = absurd takes

-- ---- a report

-- what is told of a report that is told
pub told_if : {E : Type 0} (r : Result (Unit {0}) E) (told : Bool) (reported : Reported) (Counted : Type 0) (old new : List ℕ)
    → told ≡ true → old ≡ [] → Counted
    → OnOk r ((text : List ℕ) × TellsReport reported text × (new ≡ old ++ text))
    → OnOk r (Counted × TellsIf told reported new)
told_if (Ok x) told reported Counted old new so empty counted (text, tells, is) =
    let same : new ≡ text = is ∙ ap (λ (t : List ℕ). t ++ text) empty in
    (counted, rw so (subst (λ (t : List ℕ). TellsReport reported t) (sym same) tells))
told_if (Err e) told reported Counted old new so empty counted tells = tt

-- and of one that isn't
pub told_not : (told : Bool) (reported : Reported) (text : List ℕ) → told ≡ false → text ≡ [] → TellsIf told reported text
told_not told reported text so empty = rw so empty

-- ---- a line

-- a line that was taken, behind which this is kept and told
pub line_taken : (task later : Explaining) (input' : Input) (seen : Seen) (line : List ℕ) (judged : Option Judged) (told : List ℕ)
    → IsExplaining task seen → task.flaws ≡ None → Takes line task.input input' judged
    → IsSeenAlike (record task { input = input' }) later
    → later.story ≡ counts_of (with_report judged seen.reports) → TellsLine task.first input' judged told
    → (x : Seen) × IsExplaining later x × Sees line None seen x told
line_taken task later input' seen line judged told is no_fault takes alike counts tells =
    let reports : List (List Why) = with_report judged seen.reports in
    let input : later.input ≡ input' = alike.input in
    let taken = subst (λ (i : Input). Takes line i later.input judged) (sym is.input)
    (subst (λ (i : Input). Takes line task.input i judged) (sym input) takes) in
    let tells_later = subst (λ (b : Bool). TellsLine b later.input judged told) (sym is.first)
    (subst (λ (i : Input). TellsLine task.first i judged told) (sym input) tells) in (
      record { first = seen.first; input = later.input; reports = reports; fault = None },
      record {
        first = is.first ∙ sym alike.first;
        input = refl;
        counts = counts;
        fault = sym (alike.fault ∙ ap (option_map fault_kept) no_fault);
      },
      (refl, (judged, taken, refl, tells_later)),
    )

-- the first fault, of which anything may be told
pub fault_taken : (r : Result (Unit {0}) TaskFault) (task later : Explaining) (seen : Seen) (line : List ℕ) (input' : Input) (fault : TaskFault) (told : List ℕ)
    → IsExplaining task seen → (input' ≡ task.input) × Faults fault task.input line → fault ≢ Memory
    → MatchResult r (λ _. IsExplaining later (record seen { fault = Some (lines_in seen.input + 1, fault) })) (λ stop. stop ≡ Memory)
    → MatchResult r (λ _. (x : Seen) × IsExplaining later x × Sees line None seen x told) (λ stop. stop ≡ Memory)
fault_taken (Ok x) task later seen line input' fault told is (same, faults) other kept = (
  record seen { fault = Some (lines_in seen.input + 1, fault) },
  kept,
  (refl, (refl, other, subst (λ (i : Input). Faults fault i line) (sym is.input) faults, refl, refl)),
)
fault_taken (Err stop) task later seen line input' fault told is faulted other stopped = stopped

-- a line behind the first fault, of which anything may be told
pub looked_on : (task later : Explaining) (seen : Seen) (line : List ℕ) (at : ℕ × TaskFault) (told : List ℕ)
    → IsExplaining task seen → option_map fault_kept task.flaws ≡ Some at → option_map fault_kept later.flaws ≡ Some at
    → later.first ≡ task.first → later.input ≡ task.input → later.story ≡ task.story
    → (x : Seen) × IsExplaining later x × Sees line seen.fault seen x told
looked_on task later seen line at told is before after first input story =
    let fault : seen.fault ≡ Some at = is.fault ∙ before in (
      seen,
      record {
        first = is.first ∙ sym first;
        input = is.input ∙ sym input;
        counts = story ∙ is.counts;
        fault = fault ∙ sym after;
      },
      subst (λ (o : Option (ℕ × TaskFault)). Sees line o seen seen told) (sym fault) refl,
    )

-- a line before any fault
pub none_yet : (r : Result (Unit {0}) TaskFault) (task later : Explaining) (seen : Seen) (line told : List ℕ)
    → IsExplaining task seen → task.flaws ≡ None
    → MatchResult r (λ _. (x : Seen) × IsExplaining later x × Sees line None seen x told) (λ stop. stop ≡ Memory)
    → MatchResult r (λ _. (x : Seen) × IsExplaining later x × Sees line seen.fault seen x told) (λ stop. stop ≡ Memory)
none_yet r task later seen line told is none sees =
    subst (λ (o : Option (ℕ × TaskFault)).
    MatchResult r (λ _. (x : Seen) × IsExplaining later x × Sees line o seen x told) (λ stop. stop ≡ Memory))
    (sym (is.fault ∙ ap (option_map fault_kept) none)) sees

-- ---- the end

pub found_told : {E : Type 0} (r : Result (Unit {0}) E) (verdict : Verdict) (counts : Counts) (reports : List (List Why)) (old first new told : List ℕ)
    → counts ≡ counts_of reports → old ≡ [] → TellsCounts counts told → first ≡ old ++ told
    → OnOk r (new ≡ first ++ found_text (found.Transcript verdict))
    → OnOk r (TellsFound (found.Transcript verdict) reports new)
found_told (Ok x) verdict counts reports old first new told are empty tells is new_is = (
  told,
  subst (λ (c : Counts). TellsCounts c told) are tells,
  new_is ∙ ap (λ (t : List ℕ). t ++ found_text (found.Transcript verdict)) (is ∙ ap (λ (t : List ℕ). t ++ told) empty),
)
found_told (Err e) verdict counts reports old first new told are empty tells is new_is = tt

pub schedule_told : {E : Type 0} (r : Result (Unit {0}) E) (count : ℕ) (reports : List (List Why)) (old new : List ℕ)
    → old ≡ [] → OnOk r (new ≡ old ++ found_text (found.Schedule count))
    → OnOk r (TellsFound (found.Schedule count) reports new)
schedule_told (Ok x) count reports old new empty is = is ∙ ap (λ (t : List ℕ). t ++ found_text (found.Schedule count)) empty
schedule_told (Err e) count reports old new empty is = tt
