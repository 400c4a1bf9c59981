use Rattle.std.proofs.Common.{◌∙◌, ap, subst}
use Rattle.std.specs.Prelude.{Bool, ℕ}
use Rattle.std.specs.Option.{ForSome}
use Rattle.text_lines.specs.Counted.{device_of}
use Rattle.datagram_source.specs.Input.{AnswersInput}
use Rattle.datagram_source.specs.Left.{LeavesInput}
use Rattle.recording_measure.specs.declared.form.Form.{Form}
use Rattle.recording_measure.specs.Measure.{begun, head_text, measure_rules}
use Rattle.recording_measure.specs.Told.{IsSummary}
use Rattle.capture_report.specs.Status.{judged, outcome_status}
use Rattle.measure_command.specs.Run.{EndsAs, is_refused, wanted_of}
use Rattle.measure_command.proofs.run_measure.Goals as goal

pub returns : goal.returns
returns g c =
    let outcome = c.measure-outcome.result.0 in
    let summary = c.measure-outcome.result.1 in
    let measured = c.measure-outcome.new.output in
    let ended = c.end_with_sums-status in
    let refused = c.is_refused.ensures in (
      outcome,
      summary,
      refused.0,
      measured,
      ended.result,
      c.judged.ensures ∙ ap (judged ended.result) (refused.1 ∙ ap (is_refused c.args.options refused.0) c.counts.ensures),
      c.measure-outcome.ensures.failures,
      subst (λ (f : Form). AnswersInput measure_rules (head_text f) (begun f (wanted_of c.args.options)) g.R.Read.remaining g.W.Write.contents
          outcome c.args.input.now c.measure-outcome.new.input c.args.output.now measured) c.form_of-form.ensures
          c.measure-outcome.ensures.measured,
      subst (λ (f : Form). ForSome (g.R.Read.remaining (device_of c.args.input.now)) (λ octets.
          LeavesInput measure_rules (begun f (wanted_of c.args.options)) octets outcome (IsSummary summary))) c.form_of-form.ensures
          c.measure-outcome.ensures.summary,
      subst (λ (b : Bool). EndsAs g.W.Write.contents b (outcome_status outcome) ended.result measured ended.new.output)
          c.asks_sums-is_asked.ensures
          (subst (λ (s : ℕ). EndsAs g.W.Write.contents c.asks_sums-is_asked.result s ended.result measured ended.new.output)
          c.finish_input-status.ensures ended.ensures),
    )
