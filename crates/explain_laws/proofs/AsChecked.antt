-- What `explain` answers, beside what `check_text` and `replay` answer over the same octets.
use Rattle.std.proofs.Common.{◌≡◌, ◌∙◌, inl, inr, ℕ, List, [], Option, None, Result, Ok, Err, refl, sym, ap, subst}
use Rattle.std.specs.Result.{result_map_both}
use Rattle.world_model.specs.State.{State, new_state}
use Rattle.schedule_lines.specs.declared.reading.schedule.Line.{Line}
use Rattle.schedule_lines.specs.declared.reading.schedule.Line.TheVariants as entries
use Rattle.text_lines.specs.declared.fault.Cause.{Cause}
use Rattle.text_lines.specs.declared.fault.Stopped.{Stopped}
use Rattle.text_lines.specs.Task.{Rules}
use Rattle.text_lines.proofs.OneAnswer.{HasOneCourse, IsSure, answers_one}
use Rattle.text_lines.proofs.Unwritten.{IsReadBy, answers_read}
use Rattle.schedule_reading.specs.declared.fault.TaskFault.{TaskFault}
use Rattle.schedule_reading.specs.declared.fault.TaskFault.TheVariants.{Write, Json, Field, World, Memory}
use Rattle.schedule_reading.specs.Transcript as transcripts
use Rattle.schedule_reading.specs.Transcript.{Recorded, HasNoChecker}
use Rattle.schedule_reading.proofs.OneFault.{IsInText, in_text}
use Rattle.transcript_text.specs.declared.fault.Fault.{Fault}
use Rattle.transcript_text.specs.CheckText.{FaultsAtTranscriptEnd, check_rules}
use Rattle.transcript_text.specs.Fault.{of_task, task_kind}
use Rattle.transcript_text.specs.OneAnswer.{IsOfInput}
use Rattle.transcript_text.specs.Replay as replays
use Rattle.transcript_text.specs.Replay.{replay_rules}
use Rattle.transcript_text.proofs.OneAnswer.{IsDevices, sure_cause, told_as, IsTold, is_told}
use Rattle.explain_input.specs.declared.input.FoundInput.{FoundInput}
use Rattle.explain_input.specs.declared.input.FoundInput.TheVariants.{Transcript, Schedule}
use Rattle.explain_input.proofs.Read.{transcript_rules, transcript_course, Does, schedule_rules, schedule_course}
use Rattle.explain_transcript.specs.declared.explaining.Explained.{Explained}
use Rattle.explain_transcript.specs.declared.explaining.Explained.TheVariants.{Whole, Flawed}
use Rattle.explain_transcript.proofs.OneRead.{judges_one}
use Rattle.explain_transcript.proofs.Answered.{judged_read, IsReadAs, transcript_read, schedule_read}
use Rattle.explain_transcript.proofs.Looked.{IsBeside as IsReadBeside, explained}
use Rattle.explain_laws.specs.AsChecked.{JudgementsHaveOneAnswer, fault_told, IsSame, JudgesAsChecked}
use Rattle.explain_laws.specs.AsChecked.{IsBeside, ExplainsAsChecked}

-- ---- `write_judgements`

sure_answer : {A : Type 0} (answer : Result A (Stopped (Cause TaskFault))) → IsOfInput task_kind answer → IsSure IsDevices answer
sure_answer (Ok found) sure = tt
sure_answer (Err stop) sure = sure_cause of_task stop.what sure

pub judgements_one : JudgementsHaveOneAnswer
judgements_one first octets left before after left' before' after' answer answer' says says' sure sure' =
    judges_one IsDevices tt tt first octets left before after left' before' after' answer answer' says says' (sure_answer answer sure) (sure_answer answer' sure')

-- ---- `check_text` and `replay`, whatever is written

own : (fault : TaskFault) → (IsDevices fault → ⊥) → IsInText fault
own = in_text IsDevices tt tt

only : (fault : TaskFault) → IsInText fault → IsDevices fault → ⊥
only Write own device = own
only Json own device = device
only Field own device = device
only (World why) own device = device
only Memory own device = own

ends_so : (fault : TaskFault) (s : Recorded) → IsInText fault → FaultsAtTranscriptEnd fault s.nodes s.lines → HasNoChecker fault s
ends_so Write s own faults = absurd own
ends_so Json s own faults = faults
ends_so Field s own faults = faults
ends_so (World why) s own faults = faults
ends_so Memory s own faults = absurd own

checks_read : IsReadBy check_rules transcript_rules (λ (s : Recorded). s) IsDevices
checks_read = record {
  limit = refl;
  takes = λ line s later text (entry, is, follows, none). (entry, is, follows, refl);
  stops = λ line s fault text sure stops. (stops.0, refl);
  ends = λ lines s answer text (network, is, written). (network, is, refl);
  stops_at_end = λ s fault text sure stops. (ends_so fault s (own fault sure) stops.0, refl);
}

done : (entry : Line) (s later : State) (text : List ℕ) → replays.Follows entry s later text → Does entry s later
done (entries.Node node) s later text (first, is, none) = (first, is)
done (entries.Event event) s later text (network, is, line, is_line, all) =
    let happened = is_line.told.answered.outcome in (network, rw happened refl, is)

replays_read : IsReadBy replay_rules schedule_rules (λ (s : State). s) IsDevices
replays_read = record {
  limit = refl;
  takes = λ line s later text (entry, is, follows). (entry, is, done entry s later text follows, refl);
  stops = λ line s fault text sure stops. (stops.0, refl);
  ends = λ lines s answer text (network, is, written). (network, is, refl);
  stops_at_end = λ s fault text sure (first, faults, out). (first, faults, refl);
}

-- ---- beside each other

-- answers over the same octets by the same rules, told in two ways
beside : {S A : Type 0} (rules reads : Rules S A TaskFault) (start : S) (of : A → FoundInput) → IsReadBy rules reads (λ (s : S). s) IsDevices → HasOneCourse reads IsDevices
    → (octets : List ℕ) (left left' before' after' : Option (List ℕ)) (said : Result FoundInput (Stopped (Cause TaskFault))) (answer : Result A Fault)
    → IsReadAs reads start of IsDevices octets left said → IsTold of_task rules start octets left' before' after' answer → IsSame of said answer × (left' ≡ left)
beside rules reads start of by sole octets left left' before' after' said answer one other =
    let there = answers_read rules reads (λ s. s) IsDevices by start octets left' before' after' other.there other.sure other.says in
    let same = answers_one reads start IsDevices sole octets left None None left' None None one.there other.there one.says there one.sure other.sure in (
      ap (result_map_both (λ (found : FoundInput). found) fault_told) one.same ∙ told of one.there
          ∙ ap (λ r. result_map_both of (λ (fault : Fault). fault) (told_as of_task r)) (sym same.0)
          ∙ ap (result_map_both of (λ (fault : Fault). fault)) other.told,
      same.1,
    )
  where
    told : {A : Type 0} (of : A → FoundInput) (there : Result A (Stopped (Cause TaskFault)))
        → result_map_both (λ (found : FoundInput). found) fault_told (result_map_both of (λ (stop : Stopped (Cause TaskFault)). stop) there)
        ≡ result_map_both of (λ (fault : Fault). fault) (told_as of_task there)
    told of (Ok answer) = refl
    told of (Err stop) = refl

pub judges_as_checked : JudgesAsChecked
judges_as_checked = record {
  transcript = λ first octets left before after left' before' after' said answer never judges says sure sure'.
      beside check_rules transcript_rules transcripts.nothing Transcript checks_read (transcript_course IsDevices tt tt) octets left left' before' after' said answer
      (transcript_read IsDevices tt tt octets left said (sure_answer said sure) never
      (judged_read IsDevices tt tt first octets left before after said (sure_answer said sure) judges))
      (is_told of_task check_rules transcripts.nothing octets left' before' after' answer says sure');
  schedule = λ first octets left before after left' before' after' said answer ever judges says sure sure'.
      beside replay_rules schedule_rules (new_state []) Schedule replays_read (schedule_course IsDevices tt tt) octets left left' before' after' said answer
      (schedule_read IsDevices tt tt octets left said (sure_answer said sure) ever
      (judged_read IsDevices tt tt first octets left before after said (sure_answer said sure) judges))
      (is_told of_task replay_rules replays.nothing octets left' before' after' answer says sure');
}

-- ---- `explain`

-- an answer of `explain`, by how its input is read
looked_beside : {A : Type 0} (of : A → FoundInput) (said : Result Explained (Stopped (Cause TaskFault))) (there : Result FoundInput (Stopped (Cause TaskFault))) (answer : Result A Fault)
    → IsReadBeside said there → IsSame of there answer → IsBeside of said answer
looked_beside of (Ok (Whole found)) there answer is same = subst (λ (r : Result FoundInput (Stopped (Cause TaskFault))). IsSame of r answer) is same
looked_beside of (Ok (Flawed line what)) there answer is same = subst (λ (r : Result FoundInput (Stopped (Cause TaskFault))). IsSame of r answer) is same
looked_beside {A} of (Err stop) there answer (first, is, inl first_is) same =
    inl (subst (λ (r : Result FoundInput (Stopped (Cause TaskFault))). IsSame of r answer) (is ∙ ap Err first_is) same)
looked_beside {A} of (Err stop) there answer (first, is, inr before) same =
    inr (fault_told first, fault_is answer (subst (λ (r : Result FoundInput (Stopped (Cause TaskFault))). IsSame of r answer) is same), before)
  where
    fault_is : (answer : Result A Fault) → IsSame of (Err first) answer → answer ≡ Err (fault_told first)
    fault_is (Ok found) same = absurd cc
    fault_is (Err fault) same = let is : fault_told first ≡ fault = cc same in ap Err (sym is)

pub explains_as_checked : ExplainsAsChecked
explains_as_checked = record {
  transcript = λ first octets left before after left' before' after' failures failures' said answer never explains says sure sure'.
      let looked = explained IsDevices tt tt only first octets left before after failures failures' said (sure_answer said sure) explains in
      let same = beside check_rules transcript_rules transcripts.nothing Transcript checks_read (transcript_course IsDevices tt tt) octets looked.left left' before' after' looked.there answer
      (transcript_read IsDevices tt tt octets looked.left looked.there looked.sure never looked.says)
      (is_told of_task check_rules transcripts.nothing octets left' before' after' answer says sure') in
      looked_beside Transcript said looked.there answer looked.beside same.0;
  schedule = λ first octets left before after left' before' after' failures failures' said answer ever explains says sure sure'.
      let looked = explained IsDevices tt tt only first octets left before after failures failures' said (sure_answer said sure) explains in
      let same = beside replay_rules schedule_rules (new_state []) Schedule replays_read (schedule_course IsDevices tt tt) octets looked.left left' before' after' looked.there answer
      (schedule_read IsDevices tt tt octets looked.left looked.there looked.sure ever looked.says)
      (is_told of_task replay_rules replays.nothing octets left' before' after' answer says sure') in
      looked_beside Schedule said looked.there answer looked.beside same.0;
}
