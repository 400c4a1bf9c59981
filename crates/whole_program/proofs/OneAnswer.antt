-- Octets have one answer of `show` and of `measure`, where no device failed and no memory was refused.
use Rattle.std.proofs.Common.{◌≡◌, ℕ, List, ◌++◌, Result, Ok, Err}
use Rattle.std.proofs.KnownBytes.{Appends-trans}
use Rattle.text_lines.specs.declared.fault.Cause.{Cause}
use Rattle.text_lines.specs.declared.fault.Stopped.{Stopped}
use Rattle.text_lines.specs.declared.line_fault.LineFault.{LineFault}
use Rattle.text_lines.proofs.OneAnswer.{IsSure, answers_one}
use Rattle.datagram_text.specs.Show.{show_rules}
use Rattle.datagram_text.specs.Show as lines
use Rattle.datagram_text.proofs.OneCourse.{show_course}
use Rattle.recording_measure.specs.declared.form.Form.{Form}
use Rattle.recording_measure.specs.declared.watch.WantedPorts.{WantedPorts}
use Rattle.datagram_source.specs.Input.{AnswersLines}
use Rattle.datagram_source.specs.Rules.{nothing_read, line_rules}
use Rattle.datagram_source.proofs.OneCourse.{line_course}
use Rattle.recording_measure.specs.Measure.{begun, measure_rules, head_text}
use Rattle.recording_measure.proofs.OneCourse.{measure_sole}
use Rattle.transcript_text.specs.Fault.{of_line, kind_at, line_kind}
use Rattle.transcript_text.specs.OneAnswer.{IsOfInput, HasOneAnswer}
use Rattle.transcript_text.proofs.OneAnswer.{IsDevicesBy, sure_cause, says_one}
use Rattle.whole_program.specs.Show.{Shows}

pub shows_one : HasOneAnswer kind_at Shows
shows_one = says_one of_line show_rules tt (show_course (IsDevicesBy of_line) tt tt)

is_sure : {A : Type 0} (answer : Result A (Stopped (Cause LineFault))) → IsOfInput line_kind answer → IsSure (IsDevicesBy of_line) answer
is_sure (Ok answer) sure = tt
is_sure (Err stop) sure = sure_cause of_line stop.what sure

pub lines_one : HasOneAnswer line_kind lines.Shows
lines_one octets left before after left' before' after' answer answer' says says' sure sure' =
    answers_one show_rules tt (IsDevicesBy of_line) (show_course (IsDevicesBy of_line) tt tt) octets left before after left' before' after' answer answer' says says'
    (is_sure answer sure) (is_sure answer' sure')

pub measures_one : (form : Form) (wanted : WantedPorts) → HasOneAnswer line_kind (AnswersLines measure_rules (head_text form) (begun form wanted))
measures_one form wanted octets left before after left' before' after' answer answer' (headed, head, says) (headed', head', says') sure sure' =
    let course = line_course measure_rules (IsDevicesBy of_line) (measure_sole (IsDevicesBy of_line) tt tt) in
    let same = answers_one (line_rules measure_rules) (nothing_read (begun form wanted)) (IsDevicesBy of_line) course octets left headed after left' headed' after' answer answer' says says'
    (is_sure answer sure) (is_sure answer' sure') in
    let (text, out, out') = same.2 in (
      same.0,
      same.1,
      (head_text form ++ text, Appends-trans before headed after (head_text form) text head out, Appends-trans before' headed' after' (head_text form) text head' out'),
    )
