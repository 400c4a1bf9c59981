use Rattle.std.proofs.Common.{◌≡◌, ◌∙◌, Bool, ap, sym, subst, if◌then◌else◌}
use Rattle.capture_extract.specs.declared.line.ExtractForm.{ExtractForm}
use Rattle.capture_extract.specs.declared.line.ExtractForm.TheVariants.{Octets, Timed}
use Rattle.capture_extract.specs.Extracted.{ExtractsAnswer}
use Rattle.extract_command.specs.Run.{form_of}
use Rattle.extract_command.proofs.run_lines.Goals as goal
use Rattle.extract_command.proofs.run_lines.Goals.{then-options, else-options}

abbrev by_flag : Bool → ExtractForm
by_flag octets = if octets then Octets else Timed

pub returns : goal.returns
returns g c =
    let form : c.if-options.form ≡ form_of c.args.options = elim c.if-options.branch [
      | then-options w ↦ w.form-is ∙ sym (ap by_flag w.if-options.true)
      | else-options w ↦ w.form-is ∙ sym (ap by_flag w.if-options.false)
    ] in (
      c.extract-answer.result.0,
      c.finish_capture-status.ensures,
      c.extract-answer.ensures.failures,
      subst (λ (f : ExtractForm). ExtractsAnswer (record { form = f; interface = c.args.options.interface }) g.R.Read.remaining g.W.Write.contents c.extract-answer.result.0
          c.args.input.now c.extract-answer.new.input c.args.output.now c.extract-answer.new.output) form
          c.extract-answer.ensures.extracted,
    )
