-- Lines are read as a transcript or as a schedule, whatever is told of them.
use Rattle.std.proofs.Common.{◌≡◌, ◌≢◌, ◌∙◌, ◌⊎◌, inl, inr, ℕ, ◌+◌, Bool, true, false, List, [], ◌∷◌, ◌++◌}
use Rattle.std.proofs.Common.{Option, Some, None, Result, Ok, Err, refl, sym, ap}
use Rattle.network_model.specs.Clash.{first_clash}
use Rattle.world_model.specs.State.{State, new_state}
use Rattle.trace_model.specs.declared.line.TraceLine.{TraceLine}
use Rattle.schedule_lines.specs.declared.reading.schedule.Line.{Line}
use Rattle.schedule_lines.specs.declared.reading.schedule.Line.TheVariants as entries
use Rattle.schedule_lines.specs.declared.reading.transcript.TranscriptLine.{TranscriptLine}
use Rattle.schedule_lines.specs.declared.reading.transcript.TranscriptLine.TheVariants as recorded
use Rattle.text_lines.specs.Lines.{lines_limit, without_cr}
use Rattle.text_lines.specs.Task.{Rules, TakesLines}
use Rattle.schedule_reading.specs.declared.fault.TaskFault.{TaskFault}
use Rattle.schedule_reading.specs.declared.transcript.Judged.{Judged}
use Rattle.schedule_reading.specs.Entry.{entry_in, recorded_in}
use Rattle.schedule_reading.specs.Fault.{is_write}
use Rattle.schedule_reading.specs.Schedule.{FaultsIn}
use Rattle.schedule_reading.specs.Transcript.{Recorded, Follows}
use Rattle.schedule_reading.proofs.OneFault.{IsInText, where_begun, record_fault, the_record_fault}
use Rattle.schedule_reading.proofs.OneForm.{one_form, recorded_node, scheduled_node}
use Rattle.explain_input.specs.declared.input.FoundInput.{FoundInput}
use Rattle.explain_input.specs.declared.input.Input.{Input}
use Rattle.explain_input.specs.declared.input.Input.TheVariants.{Transcript, Schedule}
use Rattle.explain_input.specs.Input.{is_schedule_from, is_schedule, Takes, Faults, IsFound, FaultsAtEnd}
use Rattle.explain_input.proofs.OneInput.{FaultsBegun}
use Rattle.explain_input.proofs.Read.{transcript_rules, schedule_rules}

-- how an input is read
abbrev pub input_rules : Rules Input FoundInput TaskFault
input_rules = record {
  lines_limit = lines_limit;
  Takes = λ line input later written. (judged : Option Judged) × Takes line input later judged × (written ≡ []);
  Stops = λ line input fault written. Faults fault input line × (written ≡ []);
  Ends = λ lines input found written. IsFound input found × (written ≡ []);
  StopsAtEnd = λ input fault written. FaultsAtEnd fault input × (written ≡ []);
  is_of_writer = is_write;
}

-- ---- as a transcript

-- lines of which others stand behind were read as a transcript; where they were nodes alone, the others are no schedule
pub record AsTranscript (number : ℕ) (front behind : List (List ℕ)) (s : Recorded) (later : Input) : Type 0 where
  pub state : Recorded
  pub is : later ≡ Transcript state
  pub taken : TakesLines transcript_rules number front s state []
  pub alone : state.lines ≡ [] → is_schedule behind ≡ false

has_begun : (s later : Recorded) (number : ℕ) (line : TraceLine) → Follows (recorded.Event number line) s later → later.lines ≢ []
has_begun s later number line follows none =
    let lines : later.lines ≡ line ∷ s.lines = ap (λ (r : Recorded). r.lines) follows.2 in absurd (cc (lines, none))

begun_on : (entry : TranscriptLine) (s later : Recorded) → s.lines ≢ [] → Follows entry s later → later.lines ≢ []
begun_on (recorded.Node node) s later some follows = absurd (some follows.0)
begun_on (recorded.Event number line) s later some follows = has_begun s later number line follows

-- a transcript that has an event
recorded_on : (number : ℕ) (front behind : List (List ℕ)) (s : Recorded) (later : Input) (text : List ℕ) → s.lines ≢ []
    → TakesLines input_rules number front (Transcript s) later text → AsTranscript number front behind s later
recorded_on number [] behind s later text some (same, nothing) =
    record { state = s; is = same; taken = (refl, refl); alone = λ none. absurd (some none) }
recorded_on number (line ∷ front) behind s later text some (Transcript next, first, others, fine, (judged, (entry, is, (follows, report)), nothing), rest, whole) =
    let on = recorded_on (number + 1) front behind next later others (begun_on entry s next some follows) rest in record {
      state = on.state;
      is = on.is;
      taken = (next, [], [], fine, (entry, is, follows, refl), on.taken, refl);
      alone = on.alone;
    }
recorded_on number (line ∷ front) behind s later text some (Schedule next, first, others, fine, (judged, (event, begins, happens, none), nothing), rest, whole) =
    absurd (some begins.0)

pub as_transcript : (number : ℕ) (front behind : List (List ℕ)) (s : Recorded) (later : Input) (text : List ℕ) → s.lines ≡ []
    → is_schedule (front ++ behind) ≡ false → TakesLines input_rules number front (Transcript s) later text → AsTranscript number front behind s later
as_transcript number [] behind s later text none never (same, nothing) =
    record { state = s; is = same; taken = (refl, refl); alone = λ _. never }
as_transcript number (line ∷ front) behind s later text none never (Transcript next, first, others, fine, (judged, (recorded.Node node, is, (follows, report)), nothing), rest, whole) =
    let entry = scheduled_node (without_cr line) node is in
    let still = sym (ap (λ (e : Result Line TaskFault). is_schedule_from e (is_schedule (front ++ behind))) entry) ∙ never in
    let on = as_transcript (number + 1) front behind next later others (ap (λ (r : Recorded). r.lines) follows.1) still rest in record {
      state = on.state;
      is = on.is;
      taken = (next, [], [], fine, (recorded.Node node, is, follows, refl), on.taken, refl);
      alone = on.alone;
    }
as_transcript number (line ∷ front) behind s later text none never (Transcript next, first, others, fine, (judged, (recorded.Event place event, is, (follows, report)), nothing), rest, whole) =
    let on = recorded_on (number + 1) front behind next later others (has_begun s next place event follows) rest in record {
      state = on.state;
      is = on.is;
      taken = (next, [], [], fine, (recorded.Event place event, is, follows, refl), on.taken, refl);
      alone = on.alone;
    }
as_transcript number (line ∷ front) behind s later text none never (Schedule next, first, others, fine, (judged, (event, begins, happens, none'), nothing), rest, whole) =
    let ever = ap (λ (e : Result Line TaskFault). is_schedule_from e (is_schedule (front ++ behind))) begins.1 in absurd (cc (ever, never))

-- the fault of the next line
pub transcript_faults : (fault : TaskFault) (s : Recorded) (line : List ℕ) (behind : List (List ℕ)) → (s.lines ≡ [] → is_schedule (line ∷ behind) ≡ false)
    → FaultsBegun fault s (without_cr line) → transcript_rules.Stops (without_cr line) s fault []
transcript_faults fault s line behind alone (inl (event, begins, of_event)) =
    let never = alone begins.0 in
    let ever = ap (λ (e : Result Line TaskFault). is_schedule_from e (is_schedule behind)) begins.1 in absurd (cc (ever, never))
transcript_faults fault s line behind alone (inr (none_begins, of_line)) = (of_line, refl)

-- ---- as a schedule

-- lines were read as a schedule: they were nodes alone, and the others begin it, or events happened in a network
pub record AsSchedule (number : ℕ) (front behind : List (List ℕ)) (s : State) (later : Input) : Type 0 where
  pub state : State
  pub taken : TakesLines schedule_rules number front s state []
  pub is : ((t : Recorded) × (later ≡ Transcript t) × (t.lines ≡ []) × (state ≡ new_state t.nodes) × (is_schedule behind ≡ true))
      ⊎ ((later ≡ Schedule state) × (first_clash state.network ≡ None))

-- a schedule that has an event
happened_on : (number : ℕ) (front behind : List (List ℕ)) (s : State) (later : Input) (text : List ℕ) → first_clash s.network ≡ None
    → TakesLines input_rules number front (Schedule s) later text → AsSchedule number front behind s later
happened_on number [] behind s later text network (same, nothing) = record { state = s; taken = (refl, refl); is = inr (same, network) }
happened_on number (line ∷ front) behind s later text network (Schedule next, first, others, fine, (judged, ((event, is, happens), none), nothing), rest, whole) =
    let on = happened_on (number + 1) front behind next later others (ap (λ (u : State). first_clash u.network) happens.2 ∙ network) rest in record {
      state = on.state;
      taken = (next, [], [], fine, (entries.Event event, is, happens, refl), on.taken, refl);
      is = on.is;
    }
happened_on number (line ∷ front) behind s later text network (Transcript next, first, others, fine, (judged, takes, nothing), rest, whole) = absurd takes

-- a recorded event is nothing of a schedule
not_recorded : (line : List ℕ) (number : ℕ) (event : TraceLine) (behind : Bool) → recorded_in line ≡ Ok (recorded.Event number event)
    → is_schedule_from (entry_in line) behind ≡ true → ⊥
not_recorded line number event behind is ever =
    go (entry_in line) refl ever
  where
    go : (entry : Result Line TaskFault) → entry_in line ≡ entry → is_schedule_from entry behind ≡ true → ⊥
    go (Ok (entries.Node node)) there ever = let both = recorded_node line node there in absurd (cc (is, both))
    go (Ok (entries.Event scheduled)) there ever = one_form line scheduled (recorded.Event number event) there is
    go (Err fault) there ever = absurd cc

pub as_schedule : (number : ℕ) (front behind : List (List ℕ)) (s : Recorded) (later : Input) (text : List ℕ) → s.lines ≡ []
    → is_schedule (front ++ behind) ≡ true → TakesLines input_rules number front (Transcript s) later text
    → AsSchedule number front behind (new_state s.nodes) later
as_schedule number [] behind s later text none ever (same, nothing) =
    record { state = new_state s.nodes; taken = (refl, refl); is = inl (s, same, none, refl, ever) }
as_schedule number (line ∷ front) behind s later text none ever (Transcript next, first, others, fine, (judged, (recorded.Node node, is, (follows, report)), nothing), rest, whole) =
    let entry = scheduled_node (without_cr line) node is in
    let still = sym (ap (λ (e : Result Line TaskFault). is_schedule_from e (is_schedule (front ++ behind))) entry) ∙ ever in
    let on = as_schedule (number + 1) front behind next later others (ap (λ (r : Recorded). r.lines) follows.1) still rest in record {
      state = on.state;
      taken = (
        new_state next.nodes,
        [],
        [],
        fine,
        (entries.Node node, entry, (refl, ap (λ (r : Recorded). new_state r.nodes) follows.1), refl),
        on.taken,
        refl,
      );
      is = on.is;
    }
as_schedule number (line ∷ front) behind s later text none ever (Transcript next, first, others, fine, (judged, (recorded.Event place event, is, (follows, report)), nothing), rest, whole) =
    absurd (not_recorded (without_cr line) place event (is_schedule (front ++ behind)) is ever)
as_schedule number (line ∷ front) behind s later text none ever (Schedule next, first, others, fine, (judged, (event, begins, happens, none'), nothing), rest, whole) =
    let on = happened_on (number + 1) front behind next later others (ap (λ (u : State). first_clash u.network) happens.2 ∙ happens.0) rest in record {
      state = on.state;
      taken = (next, [], [], fine, (entries.Event event, begins.1, happens, refl), on.taken, refl);
      is = on.is;
    }

-- the fault of the line behind nodes alone
pub schedule_faults : (fault : TaskFault) (s : Recorded) (line : List ℕ) (behind : List (List ℕ)) → IsInText fault → s.lines ≡ [] → is_schedule (line ∷ behind) ≡ true
    → FaultsBegun fault s (without_cr line) → FaultsIn fault s.nodes [] (without_cr line)
schedule_faults fault s line behind own none ever (inl (event, begins, of_event)) = of_event
schedule_faults fault s line behind own none ever (inr (none_begins, of_line)) =
    go (entry_in (without_cr line)) refl ever
  where
    some : record_fault s (recorded_in (without_cr line)) ≡ Some fault
    some = the_record_fault s (without_cr line) fault own of_line

    go : (entry : Result Line TaskFault) → entry_in (without_cr line) ≡ entry → is_schedule_from entry (is_schedule behind) ≡ true
        → FaultsIn fault s.nodes [] (without_cr line)
    go (Ok (entries.Node node)) there ever =
        let fine = ap (record_fault s) (recorded_node (without_cr line) node there) ∙ ap where_begun none in absurd (cc (fine, some))
    go (Ok (entries.Event event)) there ever = absurd (none_begins event (none, there))
    go (Err error) there ever = absurd cc
