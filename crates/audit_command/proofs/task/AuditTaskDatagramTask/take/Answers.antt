use Rattle.std.proofs.Common.{◌∙◌, inl, refl, ap}
use Rattle.std.proofs.lemmas.Result.{err_from_is_err_and}
use Rattle.datagram_source.specs.Datagram.{datagram_of}
use Rattle.recording_measure.specs.declared.form.Form.{Form}
use Rattle.recording_measure.specs.Fresh.{hands_on}
use Rattle.recording_measure.proofs.ReadOne.{one_read}
use Rattle.audit_command.specs.Audit.{Audited, StopsReports, TakesReports}
use Rattle.audit_command.proofs.Going.{behind, never_field, no_field_in_reports}
use Rattle.audit_command.proofs.task.AuditTaskDatagramTask.take.Goals as goal

pub returns-in_err-take-clause-taken : goal.returns-in_err-take-clause-taken
returns-in_err-take-clause-taken g c =
    let e = err_from_is_err_and c.from_residual.result c.from_residual.ensures.1 in
    rw (e.1, e.2) (λ s at.
    let (out, stops, went) = c.in_err-take.ensures.taken s.reading at.reading in (out, inl stops, went))

pub returns-clause-taken : goal.returns-clause-taken
returns-clause-taken g c = λ s at.
    let d = datagram_of c.args.datagram.now in
    let (reading, first, there, measured, went) = c.in_ok-take.ensures.taken s.reading at.reading in
    let mid : Audited = record s { reading = reading } in
    behind c.take_reports.result d s mid
    (record c.args.self.now { measure = c.take.new.self }) c.take_reports.new.self _ _ _ first measured refl went
    (record {
      reading = there;
      asked = ap (λ (f : Form). hands_on f) (one_read d s.reading reading measured.0).form ∙ at.asked;
      audit = at.audit;
      form = at.form;
      told = at.told;
      totals = at.totals;
    }) c.take_reports.ensures.taken

pub returns-clause-kept : goal.returns-clause-kept
returns-clause-kept g c = λ what is field s at.
    let (reading, first, there, measured, went) = c.in_ok-take.ensures.taken s.reading at.reading in
    let d = datagram_of c.args.datagram.now in
    absurd (never_field c.take_reports.result what (TakesReports d.number) (StopsReports d.number)
    (record c.args.self.now { measure = c.take.new.self }) c.take_reports.new.self _ _ (record s { reading = reading })
    (record {
      reading = there;
      asked = ap (λ (f : Form). hands_on f) (one_read d s.reading reading measured.0).form ∙ at.asked;
      audit = at.audit;
      form = at.form;
      told = at.told;
      totals = at.totals;
    }) (λ out stops. no_field_in_reports d.number (record s { reading = reading }) out stops) c.take_reports.ensures.taken is field)
