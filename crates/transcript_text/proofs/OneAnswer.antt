-- Octets have one answer of `replay` and of `check_text`, where no device failed and no memory was refused.
use Rattle.std.proofs.Common.{◌≡◌, ◌∙◌, ℕ, List, [], ◌∷◌, ◌++◌, Option, Some, None, Result, Ok, Err, refl, sym, ap, subst}
use Rattle.std.specs.Prelude.{option_map}
use Rattle.network_model.specs.Network.{Network}
use Rattle.network_model.specs.Run.{Run}
use Rattle.network_model.specs.Clash.{first_clash}
use Rattle.world_model.specs.State.{State}
use Rattle.schedule_lines.specs.declared.reading.schedule.Line.{Line}
use Rattle.schedule_lines.specs.declared.reading.schedule.Line.TheVariants as entries
use Rattle.schedule_lines.specs.declared.reading.transcript.TranscriptLine.{TranscriptLine}
use Rattle.text_lines.specs.declared.fault.Cause.{Cause}
use Rattle.text_lines.specs.declared.fault.Cause.TheVariants.{Reading, Task}
use Rattle.text_lines.specs.declared.fault.ReadingFault.TheVariants as reading
use Rattle.text_lines.specs.declared.fault.Stopped.{Stopped}
use Rattle.text_lines.specs.Task.{Rules, Answers}
use Rattle.text_lines.proofs.OneAnswer.{HasOneCourse, IsSure, answers_one}
use Rattle.text_lines.proofs.OneAnswer as courses
use Rattle.schedule_reading.specs.declared.fault.TaskFault.{TaskFault}
use Rattle.schedule_reading.specs.declared.fault.TaskFault.TheVariants.{Write, Json, Field, World, Memory}
use Rattle.schedule_reading.proofs.OneFault.{IsInText, in_text, of_writer, same_fault, where_begun, entry_fault, the_fault, happens_well}
use Rattle.schedule_reading.proofs.OneFault.{clash_at_end, no_clash, record_fault, the_record_fault, no_record_fault, one_recorded}
use Rattle.transcript_text.specs.declared.fault.FaultKind.{FaultKind}
use Rattle.transcript_text.specs.declared.fault.Fault.{Fault}
use Rattle.transcript_text.specs.Fault.{of_task, kind_by, kind_at}
use Rattle.transcript_text.specs.Answer.{Says}
use Rattle.schedule_reading.specs.Entry.{entry_in}
use Rattle.transcript_text.specs.Replay as replays
use Rattle.transcript_text.specs.Replay.{NodesGoOut, GoesOut, replay_rules, Replays}
use Rattle.schedule_reading.specs.Transcript as transcripts
use Rattle.schedule_reading.specs.Transcript.{Recorded}
use Rattle.schedule_reading.specs.Entry.{recorded_in}
use Rattle.transcript_text.specs.CheckText.{FaultsAtTranscriptEnd, check_rules, Checks}
use Rattle.schedule_reading.specs.Verdict.{verdict_text}
use Rattle.transcript_text.specs.Accepted.{IsOfDevice}
use Rattle.transcript_text.specs.OneAnswer.{IsOfInput, HasOneAnswer}
use Rattle.transcript_text.proofs.OneLine.{one_line}

-- ---- from the rules of a task

-- a task's fault of the writer or of memory, by how it is told
abbrev pub IsDevicesBy : {F : Type 0} → (F → FaultKind) → F → Type 0
IsDevicesBy of fault = IsOfDevice (of fault)

pub sure_cause : {F : Type 0} (of : F → FaultKind) (what : Cause F) → (IsOfDevice (kind_by of what) → ⊥) → courses.IsOfDevice (IsDevicesBy of) what → ⊥
sure_cause of (Reading reading.Read) sure device = sure tt
sure_cause of (Reading reading.LineTooLong) sure device = device
sure_cause of (Reading reading.TooManyLines) sure device = device
sure_cause of (Task kind) sure device = sure device

-- an answer whose fault is told by its kind
abbrev pub told_as : {A F : Type 0} → (F → FaultKind) → Result A (Stopped (Cause F)) → Result A Fault
told_as of (Ok answer) = Ok answer
told_as of (Err stop) = Err (record { line = stop.line; what = kind_by of stop.what })

pub record IsTold {S A F : Type 0} (of : F → FaultKind) (rules : Rules S A F) (start : S) (octets : List ℕ) (left before after : Option (List ℕ)) (answer : Result A Fault) : Type 0 where
  pub there : Result A (Stopped (Cause F))
  pub told : told_as of there ≡ answer
  pub says : Answers rules start octets left before after there
  pub sure : IsSure (IsDevicesBy of) there

pub is_told : {S A F : Type 0} (of : F → FaultKind) (rules : Rules S A F) (start : S) (octets : List ℕ) (left before after : Option (List ℕ)) (answer : Result A Fault)
    → Says of rules start octets left before after answer → IsOfInput kind_at answer → IsTold of rules start octets left before after answer
is_told of rules start octets left before after (Ok answer) all sure = record { there = Ok answer; told = refl; says = all; sure = tt }
is_told of rules start octets left before after (Err stop) (what, is, until) sure = record {
  there = Err (record { line = stop.line; what = what });
  told = λ i. Err (record { line = stop.line; what = sym is i });
  says = until;
  sure = sure_cause of what (subst (λ (kind : FaultKind). IsOfDevice kind → ⊥) is sure);
}

pub says_one : {S A F : Type 0} (of : F → FaultKind) (rules : Rules S A F) (start : S) → HasOneCourse rules (IsDevicesBy of) → HasOneAnswer kind_at (Says of rules start)
says_one of rules start sole octets left before after left' before' after' answer answer' says says' sure sure' =
    let one = is_told of rules start octets left before after answer says sure in
    let other = is_told of rules start octets left' before' after' answer' says' sure' in
    let same = answers_one rules start (IsDevicesBy of) sole octets left before after left' before' after' one.there other.there one.says other.says one.sure other.sure in
    (sym other.told ∙ ap (told_as of) same.0 ∙ one.told, same.1, same.2)

-- ---- the faults of a task

abbrev pub IsDevices : TaskFault → Type 0
IsDevices = IsDevicesBy of_task

own : (kind : TaskFault) → (IsDevices kind → ⊥) → IsInText kind
own = in_text IsDevices tt tt

-- ---- `replay`

no_entry_fault : (s later : State) (entry : Line) (written : List ℕ) → replays.Follows entry s later written → entry_fault s.network s.run (Ok entry) ≡ None
no_entry_fault s later (entries.Node node) written (first, is, none) = ap where_begun first
no_entry_fault s later (entries.Event event) written (network, is, line, is_line, all) =
    let happened = is_line.told.answered.outcome in happens_well s.network s.run event network (rw happened refl)

one_follows : (s one other : State) (entry : Line) (text text' : List ℕ) → replays.Follows entry s one text → replays.Follows entry s other text'
    → (other ≡ one) × (text' ≡ text)
one_follows s one other (entries.Node node) text text' (first, is, none) (first', is', none') = (is' ∙ sym is, none' ∙ sym none)
one_follows s one other (entries.Event event) text text' (network, is, line, is_line, all) (network', is', line', is_line', all') =
    (is' ∙ sym is, all' ∙ ap (λ (t : List ℕ). replays.owed s.network s.run ++ t) (one_line s.network s.run event line' line is_line' is_line) ∙ sym all)

one_of_nodes : (kind : TaskFault) (nodes : Network) (a b : List ℕ) → (IsDevices kind → ⊥) → NodesGoOut kind nodes a → NodesGoOut kind nodes b → b ≡ a
one_of_nodes Write nodes a b sure h k = absurd (sure tt)
one_of_nodes Memory nodes a b sure h k = absurd (sure tt)
one_of_nodes Json nodes a b sure h k = k ∙ sym h
one_of_nodes Field nodes a b sure h k = k ∙ sym h
one_of_nodes (World why) nodes a b sure h k = k ∙ sym h

one_out : (kind : TaskFault) (nodes : Network) (run : Run) (a b : List ℕ) → (IsDevices kind → ⊥) → GoesOut kind nodes run a → GoesOut kind nodes run b → b ≡ a
one_out kind nodes [] a b sure h k = one_of_nodes kind nodes a b sure h k
one_out kind nodes (event ∷ earlier) a b sure h k = k ∙ sym h

replay_course : HasOneCourse replay_rules IsDevices
replay_course = record {
  one_step = λ line s one other text text' (entry, is, follows) (entry', is', follows').
      let same : entry' ≡ entry = cc (is, is') in
      one_follows s one other entry text text' follows (subst (λ (e : Line). replays.Follows e s other text') same follows');
  no_fault = λ line s later text text' kind sure (entry, is, follows) stops.
      let none = ap (entry_fault s.network s.run) is ∙ no_entry_fault s later entry text follows in
      let some = the_fault s.network s.run line kind (own kind sure) stops.0 in
      absurd (cc (none, some));
  one_fault = λ line s text text' one other sure sure' h k.
      let same = same_fault (entry_fault s.network s.run (entry_in line)) one other (the_fault s.network s.run line one (own one sure) h.0) (the_fault s.network s.run line other (own other sure') k.0) in
      (same, one_out one s.network s.run text text' sure h.1 (subst (λ (kind : TaskFault). GoesOut kind s.network s.run text') same k.1));
  one_end = λ lines s text text' one other h k. (k.1 ∙ sym h.1, k.2 ∙ sym h.2);
  no_fault_at_end = λ lines s text text' answer kind sure ends stops. no_clash kind s.network (clash_at_end kind s.network (own kind sure) stops.1) ends.0;
  one_fault_at_end = λ s text text' one other sure sure' h k.
      let same = same_fault (option_map World (first_clash s.network)) one other (clash_at_end one s.network (own one sure) h.1) (clash_at_end other s.network (own other sure') k.1) in
      (same, one_of_nodes one s.network text text' sure h.2 (subst (λ (kind : TaskFault). NodesGoOut kind s.network text') same k.2));
  writer = of_writer IsDevices tt;
}

-- ---- `check_text`

clash_at_transcript_end : (kind : TaskFault) (s : Recorded) → (IsDevices kind → ⊥) → FaultsAtTranscriptEnd kind s.nodes s.lines → option_map World (first_clash s.nodes) ≡ Some kind
clash_at_transcript_end (World why) s sure faults = ap (option_map World) faults.1
clash_at_transcript_end Write s sure faults = absurd (sure tt)
clash_at_transcript_end Memory s sure faults = absurd (sure tt)
clash_at_transcript_end Json s sure faults = absurd faults
clash_at_transcript_end Field s sure faults = absurd faults

pub check_course : HasOneCourse check_rules IsDevices
check_course = record {
  one_step = λ line s one other text text' (entry, is, follows, none) (entry', is', follows', none').
      let same : entry' ≡ entry = cc (is, is') in
      (one_recorded s one other entry follows (subst (λ (e : TranscriptLine). transcripts.Follows e s other) same follows'), none' ∙ sym none);
  no_fault = λ line s later text text' kind sure (entry, is, follows, nothing) stops.
      let none = ap (record_fault s) is ∙ no_record_fault s later entry follows in
      let some = the_record_fault s line kind (own kind sure) stops.0 in
      absurd (cc (none, some));
  one_fault = λ line s text text' one other sure sure' h k.
      (same_fault (record_fault s (recorded_in line)) one other (the_record_fault s line one (own one sure) h.0) (the_record_fault s line other (own other sure') k.0), k.1 ∙ sym h.1);
  one_end = λ lines s text text' one other h k.
      let same = k.1 ∙ sym h.1 in (same, k.2 ∙ ap verdict_text same ∙ sym h.2);
  no_fault_at_end = λ lines s text text' answer kind sure ends stops. no_clash kind s.nodes (clash_at_transcript_end kind s sure stops.0) ends.0;
  one_fault_at_end = λ s text text' one other sure sure' h k.
      (same_fault (option_map World (first_clash s.nodes)) one other (clash_at_transcript_end one s sure h.0) (clash_at_transcript_end other s sure' k.0), k.1 ∙ sym h.1);
  writer = of_writer IsDevices tt;
}

pub replays_one : HasOneAnswer kind_at Replays
replays_one = says_one of_task replay_rules replays.nothing replay_course

pub checks_one : HasOneAnswer kind_at Checks
checks_one = says_one of_task check_rules transcripts.nothing check_course
