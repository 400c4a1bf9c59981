use Rattle.std.proofs.Common.{◌∙◌, inr, ℕ, Err, refl, sym, ap, subst}
use Rattle.text_lines.specs.Counted.{device_of}
use Rattle.text_lines.specs.declared.fault.Cause.TheVariants.{Task}
use Rattle.text_lines.specs.declared.line_fault.LineFault.{LineFault}
use Rattle.text_lines.specs.declared.line_fault.LineFault.TheVariants.{Field}
use Rattle.datagram_source.specs.declared.input.InputOutcome.{InputOutcome}
use Rattle.datagram_source.specs.declared.input.InputOutcome.TheVariants.{Lines}
use Rattle.audit_command.specs.Input.{IsOutcome}
use Rattle.audit_command.proofs.Failing.{fails_behind}
use Rattle.audit_command.proofs.Inputs.{stopped_front, captured, lined, short}
use Rattle.audit_command.proofs.input.audit.Goals as goal

pub returns-in-Err-take_front-clause-answered : goal.returns-in-Err-take_front-clause-answered
returns-in-Err-take_front-clause-answered g c = λ s at. inr (λ octets known. (
  _,
  c.in_default.ensures.written,
  subst (λ (outcome : InputOutcome LineFault). IsOutcome s octets (g.R.Read.remaining (device_of c.take_front.new.input))
      (g.W.Write.contents (device_of c.write_head.new.output)) (g.W.Write.contents (device_of c.take_front.new.output)) outcome
      c.stopped-in-Err-take_front.result.ending) (sym c.stopped-in-Err-take_front.ensures)
      (stopped_front s octets _ c.stopped-in-Err-take_front.result.ending _ _ c.in-Err-take_front.stop
      (c.in-Err-take_front.ensures.taken s at octets known)),
))

pub returns-then-is_capture-clause-answered : goal.returns-then-is_capture-clause-answered
returns-then-is_capture-clause-answered g c = λ s at. inr (λ octets known.
    let front = c.in-Ok.ensures.taken s at octets known in
    let answered = c.audit_capture.ensures.answered front.state front.at in (
      _,
      c.in_default.ensures.written,
      captured s octets _ c.audit_capture.result.ending c.in-Ok.front.0 c.in-Ok.front.1 c.take_front.new.task _ _ front _ _
          c.audit_capture.result.outcome (c.if-is_capture.ensures.magic.0 refl) (rw c.octets-start.ensures.octets at answered),
    ))

pub returns-then-has_lf-clause-answered : goal.returns-then-has_lf-clause-answered
returns-then-has_lf-clause-answered g c = λ s at. inr (λ octets known.
    let front = c.in-Ok.ensures.taken s at octets known in
    let lf = rw c.octets-start.ensures.octets at (c.if-has_lf.ensures.some refl) in
    let stopped = c.stopped-then-has_lf.ensures
    ∙ ap (λ (n : ℕ). Lines (Err (record { line = n; what = Task Field }))) c.saturating_add-line.ensures in (
      _,
      c.in_default.ensures.written,
      subst (λ (outcome : InputOutcome LineFault). IsOutcome s octets (g.R.Read.remaining (device_of c.take_front.new.input))
          (g.W.Write.contents (device_of c.write_head.new.output)) (g.W.Write.contents (device_of c.take_front.new.output)) outcome
          c.stopped-then-has_lf.result.ending) (sym stopped)
          (short s octets _ c.stopped-then-has_lf.result.ending c.in-Ok.front.0 c.in-Ok.front.1 c.take_front.new.task _ _ front
          (c.if-is_capture.ensures.none.0 refl) lf),
    ))

pub returns-clause-answered : goal.returns-clause-answered
returns-clause-answered g c = λ s at. inr (λ octets known.
    let front = c.in-Ok.ensures.taken s at octets known in
    let answered = c.audit_lines.ensures.answered front.state front.at in (
      _,
      c.in_default.ensures.written,
      lined s octets _ c.audit_lines.result.ending c.in-Ok.front.0 c.in-Ok.front.1 c.take_front.new.task _ _ front _ _
          c.audit_lines.result.outcome (c.if-is_capture.ensures.none.0 refl) (rw c.octets-start.ensures.octets at answered),
    ))

pub returns-then-is_capture-clause-failures : goal.returns-then-is_capture-clause-failures
returns-then-is_capture-clause-failures g c =
    let front = c.in-Ok.ensures.failures in
    fails_behind c.audit_capture.result.outcome c.args.input.now c.take_front.new.input c.audit_capture.new.input
    c.args.output.now c.take_front.new.output c.audit_capture.new.output front.0 (front.1 ∙ c.in_default.ensures.failures)
    c.audit_capture.ensures.failures

pub returns-clause-failures : goal.returns-clause-failures
returns-clause-failures g c =
    let front = c.in-Ok.ensures.failures in
    fails_behind c.audit_lines.result.outcome c.args.input.now c.take_front.new.input c.audit_lines.new.input
    c.args.output.now c.take_front.new.output c.audit_lines.new.output front.0 (front.1 ∙ c.in_default.ensures.failures)
    c.audit_lines.ensures.failures
