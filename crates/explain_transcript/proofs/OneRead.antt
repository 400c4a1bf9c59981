-- Octets have one answer of `write_judgements`, where no device failed and no memory was refused.
use Rattle.std.proofs.Common.{◌≡◌, ◌∙◌, ℕ, List, Bool, Option, Result, sym}
use Rattle.std.specs.Io.KnownBytes.{Appends}
use Rattle.text_lines.specs.declared.fault.Cause.{Cause}
use Rattle.text_lines.specs.declared.fault.Stopped.{Stopped}
use Rattle.text_lines.proofs.OneAnswer.{HasOneCourse, IsSure, answers_one}
use Rattle.schedule_reading.specs.declared.fault.TaskFault.{TaskFault}
use Rattle.schedule_reading.specs.declared.fault.TaskFault.TheVariants.{Write, Json, Field, World, Memory}
use Rattle.schedule_reading.proofs.OneFault.{IsInText, in_text, of_writer}
use Rattle.explain_input.specs.declared.input.FoundInput.{FoundInput}
use Rattle.explain_input.specs.declared.input.Input.{Input}
use Rattle.explain_input.specs.Input.{nothing, Faults}
use Rattle.explain_input.proofs.OneInput.{one_taken, no_input_fault, one_input_fault, one_found, no_fault_found, one_fault_found}
use Rattle.explain_transcript.specs.Judgements.{Told, told_text, StopsJudging, judgement_rules, Judges}

pub of_line : (first : Bool) (fault : TaskFault) (input : Input) (line : List ℕ) → IsInText fault → StopsJudging first fault input line → Faults fault input line
of_line first Write input line own stops = absurd own
of_line first Json input line own stops = stops
of_line first Field input line own stops = stops
of_line first (World why) input line own stops = stops
of_line first Memory input line own stops = absurd own

told_alike : (one other : Told) → other.first ≡ one.first → other.input ≡ one.input → other ≡ one
told_alike one other first input = λ i. record { first = first i; input = input i }

pub judgement_course : (Device : TaskFault → Type 0) → Device Write → Device Memory → HasOneCourse judgement_rules Device
judgement_course Device write memory = record {
  one_step = λ line told one other text text' (judged, takes, first, is) (judged', takes', first', is').
      let same = one_taken line told.input one.input other.input judged judged' takes takes' in (
        told_alike one other (first' ∙ sym first) same.0,
        is' ∙ (λ i. told_text told.first (same.0 i) (same.1 i)) ∙ sym is,
      );
  no_fault = λ line told later text text' fault sure (judged, takes, first, is) stops.
      let own = in_text Device write memory fault sure in
      no_input_fault line told.input later.input judged fault own takes (of_line told.first fault told.input line own stops.0);
  one_fault = λ line told text text' one other sure sure' h k.
      let own = in_text Device write memory one sure in
      let own' = in_text Device write memory other sure' in
      (one_input_fault line told.input one other own own' (of_line told.first one told.input line own h.0) (of_line told.first other told.input line own' k.0), k.1 ∙ sym h.1);
  one_end = λ lines told text text' one other h k. (one_found told.input one other h.0 k.0, k.1 ∙ sym h.1);
  no_fault_at_end = λ lines told text text' answer fault sure ends stops.
      no_fault_found told.input answer fault (in_text Device write memory fault sure) ends.0 stops.0;
  one_fault_at_end = λ told text text' one other sure sure' h k.
      (one_fault_found told.input one other (in_text Device write memory one sure) (in_text Device write memory other sure') h.0 k.0, k.1 ∙ sym h.1);
  writer = of_writer Device write;
}

-- two answers over the same octets that aren't faults of a device or of memory are the same
pub judges_one : (Device : TaskFault → Type 0) → Device Write → Device Memory → (first : Bool) (octets : List ℕ) (left before after left' before' after' : Option (List ℕ))
    (answer answer' : Result FoundInput (Stopped (Cause TaskFault))) → Judges first octets left before after answer → Judges first octets left' before' after' answer'
    → IsSure Device answer → IsSure Device answer' → (answer' ≡ answer) × (left' ≡ left) × ((text : List ℕ) × Appends before after text × Appends before' after' text)
judges_one Device write memory first =
    answers_one judgement_rules (record { first = first; input = nothing }) Device (judgement_course Device write memory)
