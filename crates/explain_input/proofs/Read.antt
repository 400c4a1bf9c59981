-- What a transcript and a schedule are read as, whatever is told of them.
use Rattle.std.proofs.Common.{◌≡◌, ◌∙◌, ℕ, [], ◌∷◌, ◌++◌, length, None, Ok, sym, ap, subst}
use Rattle.std.specs.Prelude.{option_map}
use Rattle.network_model.specs.Clash.{first_clash}
use Rattle.world_model.specs.State.{State}
use Rattle.trace_model.specs.declared.verdict.Verdict.{Verdict}
use Rattle.trace_model.specs.Verdict.{verdict}
use Rattle.schedule_lines.specs.declared.reading.schedule.Line.{Line}
use Rattle.schedule_lines.specs.declared.reading.schedule.Line.TheVariants as entries
use Rattle.schedule_lines.specs.declared.reading.transcript.TranscriptLine.{TranscriptLine}
use Rattle.text_lines.specs.Lines.{lines_limit}
use Rattle.text_lines.specs.Task.{Rules}
use Rattle.text_lines.proofs.OneAnswer.{HasOneCourse}
use Rattle.schedule_reading.specs.declared.fault.TaskFault.{TaskFault}
use Rattle.schedule_reading.specs.declared.fault.TaskFault.TheVariants.{Write, World, Memory}
use Rattle.schedule_reading.specs.Entry.{entry_in, recorded_in}
use Rattle.schedule_reading.specs.Fault.{is_write}
use Rattle.schedule_reading.specs.Schedule.{FaultsIn, FaultsAtEnd}
use Rattle.schedule_reading.specs.Transcript.{Recorded, Follows, FaultsInTranscript, HasNoChecker}
use Rattle.schedule_reading.proofs.OneFault.{in_text, of_writer, same_fault, where_begun, entry_fault, the_fault, happens_well, clash_at_end}
use Rattle.schedule_reading.proofs.OneFault.{no_clash, record_fault, the_record_fault, no_record_fault, one_recorded, no_checker}
use Rattle.explain_input.specs.Input.{Happens}

-- ---- a transcript

abbrev pub transcript_rules : Rules Recorded Verdict TaskFault
transcript_rules = record {
  lines_limit = lines_limit;
  Takes = λ line state later written. (entry : TranscriptLine) × (recorded_in line ≡ Ok entry) × Follows entry state later × (written ≡ []);
  Stops = λ line state fault written. FaultsInTranscript fault state.nodes state.lines line × (written ≡ []);
  Ends = λ lines state answer written. (first_clash state.nodes ≡ None) × (answer ≡ verdict state.nodes state.lines) × (written ≡ []);
  StopsAtEnd = λ state fault written. HasNoChecker fault state × (written ≡ []);
  is_of_writer = is_write;
}

pub transcript_course : (Device : TaskFault → Type 0) → Device Write → Device Memory → HasOneCourse transcript_rules Device
transcript_course Device write memory = record {
  one_step = λ line s one other text text' (entry, is, follows, none) (entry', is', follows', none').
      let same : entry' ≡ entry = cc (is, is') in
      (one_recorded s one other entry follows (subst (λ (e : TranscriptLine). Follows e s other) same follows'), none' ∙ sym none);
  no_fault = λ line s later text text' fault sure (entry, is, follows, nothing) stops.
      let none = ap (record_fault s) is ∙ no_record_fault s later entry follows in
      let some = the_record_fault s line fault (in_text Device write memory fault sure) stops.0 in
      absurd (cc (none, some));
  one_fault = λ line s text text' one other sure sure' h k. (
    same_fault (record_fault s (recorded_in line)) one other (the_record_fault s line one (in_text Device write memory one sure) h.0)
        (the_record_fault s line other (in_text Device write memory other sure') k.0),
    k.1 ∙ sym h.1,
  );
  one_end = λ lines s text text' one other h k. (k.1 ∙ sym h.1, k.2 ∙ sym h.2);
  no_fault_at_end = λ lines s text text' answer fault sure ends stops.
      no_clash fault s.nodes (no_checker fault s (in_text Device write memory fault sure) stops.0) ends.0;
  one_fault_at_end = λ s text text' one other sure sure' h k. (
    same_fault (option_map World (first_clash s.nodes)) one other (no_checker one s (in_text Device write memory one sure) h.0)
        (no_checker other s (in_text Device write memory other sure') k.0),
    k.1 ∙ sym h.1,
  );
  writer = of_writer Device write;
}

-- ---- a schedule

-- what a node or an event does
abbrev pub Does : Line → (state later : State) → Type 0
Does (entries.Node node) state later = (state.run ≡ []) × (later ≡ record { network = state.network ++ node ∷ []; run = [] })
Does (entries.Event event) state later = Happens event state later

abbrev pub schedule_rules : Rules State ℕ TaskFault
schedule_rules = record {
  lines_limit = lines_limit;
  Takes = λ line state later written. (entry : Line) × (entry_in line ≡ Ok entry) × Does entry state later × (written ≡ []);
  Stops = λ line state fault written. FaultsIn fault state.network state.run line × (written ≡ []);
  Ends = λ lines state events written. (first_clash state.network ≡ None) × (events ≡ length state.run) × (written ≡ []);
  StopsAtEnd = λ state fault written. (state.run ≡ []) × FaultsAtEnd fault state.network × (written ≡ []);
  is_of_writer = is_write;
}

one_done : (s one other : State) (entry : Line) → Does entry s one → Does entry s other → other ≡ one
one_done s one other (entries.Node node) h k = k.1 ∙ sym h.1
one_done s one other (entries.Event event) h k = k.2 ∙ sym h.2

no_fault_done : (s later : State) (entry : Line) → Does entry s later → entry_fault s.network s.run (Ok entry) ≡ None
no_fault_done s later (entries.Node node) (first, is) = ap where_begun first
no_fault_done s later (entries.Event event) (network, accepted, is) = happens_well s.network s.run event network accepted

pub schedule_course : (Device : TaskFault → Type 0) → Device Write → Device Memory → HasOneCourse schedule_rules Device
schedule_course Device write memory = record {
  one_step = λ line s one other text text' (entry, is, does, none) (entry', is', does', none').
      let same : entry' ≡ entry = cc (is, is') in
      (one_done s one other entry does (subst (λ (e : Line). Does e s other) same does'), none' ∙ sym none);
  no_fault = λ line s later text text' fault sure (entry, is, does, nothing) stops.
      let none = ap (entry_fault s.network s.run) is ∙ no_fault_done s later entry does in
      let some = the_fault s.network s.run line fault (in_text Device write memory fault sure) stops.0 in
      absurd (cc (none, some));
  one_fault = λ line s text text' one other sure sure' h k. (
    same_fault (entry_fault s.network s.run (entry_in line)) one other (the_fault s.network s.run line one (in_text Device write memory one sure) h.0)
        (the_fault s.network s.run line other (in_text Device write memory other sure') k.0),
    k.1 ∙ sym h.1,
  );
  one_end = λ lines s text text' one other h k. (k.1 ∙ sym h.1, k.2 ∙ sym h.2);
  no_fault_at_end = λ lines s text text' answer fault sure ends stops.
      no_clash fault s.network (clash_at_end fault s.network (in_text Device write memory fault sure) stops.1) ends.0;
  one_fault_at_end = λ s text text' one other sure sure' h k. (
    same_fault (option_map World (first_clash s.network)) one other (clash_at_end one s.network (in_text Device write memory one sure) h.1)
        (clash_at_end other s.network (in_text Device write memory other sure') k.1),
    k.2 ∙ sym h.2,
  );
  writer = of_writer Device write;
}
