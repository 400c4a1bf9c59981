use Rattle.std.proofs.Common.{ℕ, ◌+◌, refl, ap, subst}
use Rattle.std.proofs.lemmas.Result.{err_from_is_err_and}
use Rattle.datagram_source.specs.Datagram.{datagram_of}
use Rattle.datagram_source.specs.Unread.{IsUnread}
use Rattle.datagram_source.specs.declared.lines.LineForm.{LineForm}
use Rattle.datagram_source.proofs.LineReadings.{number_of}
use Rattle.datagram_source.proofs.LineTakings.{is_next, line_stops, unread}
use Rattle.datagram_source.proofs.lines.LineSourceLineTask.take.Goals as goal

pub returns-in_err-take-in-Ok-clause-taken : goal.returns-in_err-take-in-Ok-clause-taken
returns-in_err-take-in-Ok-clause-taken g c = λ r at.
    let e = err_from_is_err_and c.from_residual.result c.from_residual.ensures.1 in
    let d = datagram_of c.in-Ok.datagram in
    let is = is_next g.T.DatagramTask.rules c.line_form.result c.args.self.now.count c.args.line.now r d c.line_form.ensures at.0 c.in-Ok.ensures.read in
    let (out, stops, went) = c.in_err-take-in-Ok.ensures.taken r.state at.1 in
    rw (e.1, e.2) (out, line_stops g.T.DatagramTask.rules c.in_err-take-in-Ok.field-0.0 c.args.line.now r d out is stops, went)

pub returns-in_ok-take-in-Ok-clause-taken : goal.returns-in_ok-take-in-Ok-clause-taken
returns-in_ok-take-in-Ok-clause-taken g c = λ r at.
    let d = datagram_of c.in-Ok.datagram in
    let is = is_next g.T.DatagramTask.rules c.line_form.result c.args.self.now.count c.args.line.now r d c.line_form.ensures at.0 c.in-Ok.ensures.read in
    let (later, out, stands, takes, went) = c.in_ok-take-in-Ok.ensures.taken r.state at.1 in (
      record { count = c.in-Ok.datagram.number; state = later },
      out,
      (refl {a = c.in-Ok.datagram.number}, stands),
      (d, is, number_of g.T.DatagramTask.rules.line_form (r.count + 1) c.args.line.now d is, takes),
      went,
    )

pub returns-in-Err-clause-taken : goal.returns-in-Err-clause-taken
returns-in-Err-clause-taken g c = λ r at.
    let is = subst (λ (form : LineForm). IsUnread c.in-Err.fault form (c.args.self.now.count + 1) c.args.line.now) c.line_form.ensures
    c.in-Err.ensures.read in
    rw c.fault_of.ensures.value
    (unread g.T.DatagramTask.rules c.in-Err.fault (c.args.self.now.count + 1) c.args.line.now r _ (ap (λ (n : ℕ). n + 1) at.0) is)
