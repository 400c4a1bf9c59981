-- An answer over octets, as the answer of a transcript's rules or of a schedule's.
use Rattle.std.proofs.Common.{◌≡◌, ◌∙◌, ◌⊎◌, inl, inr, ℕ, zero, suc, Bool, true, false, List, [], ◌∷◌, ◌++◌, length, take, drop}
use Rattle.std.proofs.Common.{Option, Some, None, Result, Ok, Err, refl, sym, ap, subst}
use Rattle.std.specs.Prelude.{slice_get}
use Rattle.std.proofs.Common.{append-nil}
use Rattle.std.specs.Result.{result_map_both}
use Rattle.std.proofs.lemmas.List.{take-append-drop}
use Rattle.std.proofs.Math.Seq.{drop-length}
use Rattle.network_model.specs.Clash.{first_clash}
use Rattle.world_model.specs.State.{State, new_state}
use Rattle.trace_model.specs.Verdict.{verdict}
use Rattle.text_lines.specs.declared.fault.Cause.{Cause}
use Rattle.text_lines.specs.declared.fault.Cause.TheVariants.{Reading, Task}
use Rattle.text_lines.specs.declared.fault.Stopped.{Stopped}
use Rattle.text_lines.specs.Lines.{lines_of, without_cr}
use Rattle.text_lines.specs.Task.{Rules, StopsBefore, is_of_writer, Answers}
use Rattle.text_lines.proofs.OneAnswer.{IsOfDevice, IsSure}
use Rattle.text_lines.proofs.Unwritten.{IsReadBy, answers_read, unknown}
use Rattle.schedule_reading.specs.declared.fault.TaskFault.{TaskFault}
use Rattle.schedule_reading.specs.declared.fault.TaskFault.TheVariants.{Write, Memory}
use Rattle.schedule_reading.specs.Schedule.{FaultsIn}
use Rattle.schedule_reading.specs.Transcript as transcripts
use Rattle.schedule_reading.specs.Transcript.{Recorded}
use Rattle.schedule_reading.proofs.OneFault.{in_text}
use Rattle.explain_input.specs.declared.input.FoundInput.{FoundInput}
use Rattle.explain_input.specs.declared.input.FoundInput.TheVariants as found
use Rattle.explain_input.specs.declared.input.Input.{Input}
use Rattle.explain_input.specs.declared.input.Input.TheVariants.{Transcript, Schedule}
use Rattle.explain_input.specs.Input.{nothing, is_schedule, Faults, IsFound, FaultsAtEnd}
use Rattle.explain_input.proofs.OneInput.{of_transcript, of_schedule}
use Rattle.explain_input.proofs.Read.{transcript_rules, schedule_rules}
use Rattle.explain_input.proofs.AsRead.{input_rules, as_transcript, transcript_faults, AsSchedule, as_schedule, schedule_faults}
use Rattle.explain_transcript.specs.Judgements.{Told, judgement_rules, Judges}
use Rattle.explain_transcript.proofs.OneRead.{of_line}

-- ---- what `write_judgements` answers

judgement_read : (Device : TaskFault → Type 0) → Device Write → Device Memory → IsReadBy judgement_rules input_rules (λ (told : Told). told.input) Device
judgement_read Device write memory = record {
  limit = refl;
  takes = λ line told later text (judged, takes, first, is). (judged, takes, refl);
  stops = λ line told fault text sure stops. (of_line told.first fault told.input line (in_text Device write memory fault sure) stops.0, refl);
  ends = λ lines told answer text ends. (ends.0, refl);
  stops_at_end = λ told fault text sure stops. (stops.0, refl);
}

pub judged_read : (Device : TaskFault → Type 0) → Device Write → Device Memory → (first : Bool) (octets : List ℕ) (left before after : Option (List ℕ))
    (answer : Result FoundInput (Stopped (Cause TaskFault))) → IsSure Device answer → Judges first octets left before after answer
    → Answers input_rules nothing octets left None None answer
judged_read Device write memory first octets left before after answer sure judges =
    answers_read judgement_rules input_rules (λ (told : Told). told.input) Device (judgement_read Device write memory) (record { first = first; input = nothing })
    octets left before after answer sure judges

-- ---- by the rules of a transcript or of a schedule

-- the same answer by these rules, of which what is whole is told so
pub record IsReadAs {S A : Type 0} (rules : Rules S A TaskFault) (start : S) (of : A → FoundInput) (Device : TaskFault → Type 0) (octets : List ℕ) (left : Option (List ℕ))
    (answer : Result FoundInput (Stopped (Cause TaskFault))) : Type 0 where
  pub there : Result A (Stopped (Cause TaskFault))
  pub says : Answers rules start octets left None None there
  pub same : answer ≡ result_map_both of (λ (stop : Stopped (Cause TaskFault)). stop) there
  pub sure : IsSure Device there

-- what stands from a place on begins with what stands there
behind : {A : Type 0} (xs : List A) (k : ℕ) (x : A) → slice_get xs k ≡ Some x → (ys : List A) × (drop k xs ≡ x ∷ ys)
behind [] k x there = absurd cc
behind (y ∷ ys) zero x there = (ys, cc)
behind (y ∷ ys) (suc k) x there = behind ys k x there

cut_there : (octets : List ℕ) (place : ℕ) (b : Bool) → is_schedule (lines_of octets) ≡ b
    → is_schedule (take place (lines_of octets) ++ drop place (lines_of octets)) ≡ b
cut_there octets place b is = ap is_schedule (take-append-drop place (lines_of octets)) ∙ is

cut_at_end : (octets : List ℕ) (b : Bool) → is_schedule (lines_of octets) ≡ b → is_schedule (lines_of octets ++ []) ≡ b
cut_at_end octets b is = ap is_schedule (append-nil (lines_of octets)) ∙ is

-- ---- a transcript

transcript_stops : (Device : TaskFault → Type 0) → Device Write → Device Memory → (octets : List ℕ) (place : ℕ) (input : Input) (s : Recorded)
    (what : Cause TaskFault) (last : List ℕ) (left : Option (List ℕ)) → (IsOfDevice Device what → ⊥) → input ≡ Transcript s
    → (s.lines ≡ [] → is_schedule (drop place (lines_of octets)) ≡ false) → StopsBefore input_rules place input octets what last left
    → StopsBefore transcript_rules place s octets what [] left
transcript_stops Device write memory octets place input s (Reading fault) last left sure is alone (whole, faults, none, unread) = (whole, faults, refl, unread)
transcript_stops Device write memory octets place input s (Task fault) last left sure is alone (inl (line, whole, there, fine, (faults, none), unread)) =
    let own = in_text Device write memory fault sure in
    let (others, cut) = behind (lines_of octets) place line there in
    let here = of_transcript fault s (without_cr line) own (subst (λ (i : Input). Faults fault i (without_cr line)) is faults) in
    inl (line, whole, there, fine, transcript_faults fault s line others (λ empty. ap is_schedule (sym cut) ∙ alone empty) here, unread)
transcript_stops Device write memory octets place input s (Task fault) last left sure is alone (inr (at_end, (faults, none), read)) =
    inr (at_end, ((subst (λ (i : Input). FaultsAtEnd fault i) is faults).1, refl), read)

pub transcript_read : (Device : TaskFault → Type 0) → Device Write → Device Memory → (octets : List ℕ) (left : Option (List ℕ))
    (answer : Result FoundInput (Stopped (Cause TaskFault))) → IsSure Device answer → is_schedule (lines_of octets) ≡ false
    → Answers input_rules nothing octets left None None answer
    → IsReadAs transcript_rules transcripts.nothing found.Transcript Device octets left answer
transcript_read Device write memory octets left (Ok answer) sure never all =
    let on = as_transcript 1 (lines_of octets) [] transcripts.nothing all.state all.text refl (cut_at_end octets false never) all.taken in
    let is = subst (λ (i : Input). IsFound i answer) on.is all.ends.0 in record {
      there = Ok (verdict on.state.nodes on.state.lines);
      says = record {
        state = on.state;
        text = [];
        taken = on.taken;
        last = [];
        ends = (is.0, refl, refl);
        output = tt;
        input = all.input;
      };
      same = ap Ok is.1;
      sure = tt;
    }
transcript_read Device write memory octets left (Err stop) sure never until =
    let on = as_transcript 1 (take until.earlier (lines_of octets)) (drop until.earlier (lines_of octets)) transcripts.nothing until.state until.text refl
    (cut_there octets until.earlier false never) until.taken in record {
      there = Err stop;
      says = record {
        earlier = until.earlier;
        number = until.number;
        state = on.state;
        text = [];
        taken = on.taken;
        last = [];
        stops = transcript_stops Device write memory octets until.earlier until.state on.state stop.what until.last left sure on.is on.alone until.stops;
        output = unknown (is_of_writer transcript_rules stop.what) [];
      };
      same = refl;
      sure = sure;
    }

-- ---- a schedule

schedule_stops : (Device : TaskFault → Type 0) → Device Write → Device Memory → (octets : List ℕ) (place : ℕ) (input : Input) (s : State)
    (what : Cause TaskFault) (last : List ℕ) (left : Option (List ℕ)) → (IsOfDevice Device what → ⊥)
    → ((t : Recorded) × (input ≡ Transcript t) × (t.lines ≡ []) × (s ≡ new_state t.nodes) × (is_schedule (drop place (lines_of octets)) ≡ true)) ⊎ (input ≡ Schedule s)
    → StopsBefore input_rules place input octets what last left → StopsBefore schedule_rules place s octets what [] left
schedule_stops Device write memory octets place input s (Reading fault) last left sure is (whole, faults, none, unread) = (whole, faults, refl, unread)
schedule_stops Device write memory octets place input s (Task fault) last left sure (inl (t, is, empty, state, ever)) (inl (line, whole, there, fine, (faults, none), unread)) =
    let own = in_text Device write memory fault sure in
    let (others, cut) = behind (lines_of octets) place line there in
    let here = of_transcript fault t (without_cr line) own (subst (λ (i : Input). Faults fault i (without_cr line)) is faults) in
    let of_event = schedule_faults fault t line others own empty (ap is_schedule (sym cut) ∙ ever) here in
    inl (line, whole, there, fine, (subst (λ (u : State). FaultsIn fault u.network u.run (without_cr line)) (sym state) of_event, refl), unread)
schedule_stops Device write memory octets place input s (Task fault) last left sure (inr is) (inl (line, whole, there, fine, (faults, none), unread)) =
    let own = in_text Device write memory fault sure in
    let here = of_schedule fault s (without_cr line) own (subst (λ (i : Input). Faults fault i (without_cr line)) is faults) in
    inl (line, whole, there, fine, (here, refl), unread)
schedule_stops Device write memory octets place input s (Task fault) last left sure (inl (t, is, empty, state, ever)) (inr (at_end, (faults, none), read)) =
    let nothing_left = ap (λ (k : ℕ). drop k (lines_of octets)) at_end ∙ drop-length (lines_of octets) in
    let never : is_schedule (drop place (lines_of octets)) ≡ false = ap is_schedule nothing_left in
    absurd (cc (ever, never))
schedule_stops Device write memory octets place input s (Task fault) last left sure (inr is) (inr (at_end, (faults, none), read)) =
    absurd (subst (λ (i : Input). FaultsAtEnd fault i) is faults)

pub schedule_read : (Device : TaskFault → Type 0) → Device Write → Device Memory → (octets : List ℕ) (left : Option (List ℕ))
    (answer : Result FoundInput (Stopped (Cause TaskFault))) → IsSure Device answer → is_schedule (lines_of octets) ≡ true
    → Answers input_rules nothing octets left None None answer
    → IsReadAs schedule_rules (new_state []) found.Schedule Device octets left answer
schedule_read Device write memory octets left (Ok answer) sure ever all =
    go on.is
  where
    on : AsSchedule 1 (lines_of octets) [] (new_state []) all.state
    on = as_schedule 1 (lines_of octets) [] transcripts.nothing all.state all.text refl (cut_at_end octets true ever) all.taken

    go : ((t : Recorded) × (all.state ≡ Transcript t) × (t.lines ≡ []) × (on.state ≡ new_state t.nodes) × (is_schedule [] ≡ true))
        ⊎ ((all.state ≡ Schedule on.state) × (first_clash on.state.network ≡ None))
        → IsReadAs schedule_rules (new_state []) found.Schedule Device octets left (Ok answer)
    go (inl (t, is, empty, state, begun)) = absurd cc
    go (inr (is, network)) =
        let count = subst (λ (i : Input). IsFound i answer) is all.ends.0 in record {
          there = Ok (length on.state.run);
          says = record {
            state = on.state;
            text = [];
            taken = on.taken;
            last = [];
            ends = (network, refl, refl);
            output = tt;
            input = all.input;
          };
          same = ap Ok count;
          sure = tt;
        }
schedule_read Device write memory octets left (Err stop) sure ever until =
    let on = as_schedule 1 (take until.earlier (lines_of octets)) (drop until.earlier (lines_of octets)) transcripts.nothing until.state until.text refl
    (cut_there octets until.earlier true ever) until.taken in record {
      there = Err stop;
      says = record {
        earlier = until.earlier;
        number = until.number;
        state = on.state;
        text = [];
        taken = on.taken;
        last = [];
        stops = schedule_stops Device write memory octets until.earlier until.state on.state stop.what until.last left sure (either on.is) until.stops;
        output = unknown (is_of_writer schedule_rules stop.what) [];
      };
      same = refl;
      sure = sure;
    }
  where
    either : {P Q R : Type 0} → P ⊎ (Q × R) → P ⊎ Q
    either (inl p) = inl p
    either (inr (q, r)) = inr q
