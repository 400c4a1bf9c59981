use Rattle.std.proofs.Common.{◌≡◌, ◌∙◌, ◌+◌, [], ℕ, Bool, true, false, inl, inr, refl, sym, ap, subst}
use Rattle.std.proofs.lemmas.Result.{err_from_is_err_and}
use Rattle.std.proofs.KnownBytes.{Appends-nil}
use Rattle.text_lines.specs.Counted.{device_of}
use Rattle.text_lines.specs.declared.line_fault.LineFault.TheVariants.{Memory}
use Rattle.datagram_source.specs.declared.lines.LineForm.TheVariants.{Timed}
use Rattle.datagram_source.specs.Datagram.{datagram_of, IsDatagramLine}
use Rattle.datagram_source.specs.Unread.{IsUnread}
use Rattle.audit_command.specs.AuditLines.{StopsAs, TakesAs, is_told}
use Rattle.audit_command.proofs.Going.{went_unread}
use Rattle.audit_command.proofs.lines.AuditLinesLineTask.take.Goals as goal

pub returns-then-begins_result-clause-taken : goal.returns-then-begins_result-clause-taken
returns-then-begins_result-clause-taken g c = λ r at.
    let (later, out, there, takes, went) = c.in_ok-take_line.ensures.taken r.state at.1 in
    let number : c.in_ok-number.number ≡ r.count + 1 = c.in_ok-number.ensures ∙ ap (λ (n : ℕ). n + 1) at.0 in
    let tells : true ≡ is_told c.args.line.now = sym (sym c.begins_result.ensures ∙ c.if-begins_result.true) in (
      record { count = c.in_ok-number.number; state = later },
      out,
      (refl {a = c.in_ok-number.number}, there),
      (
        number,
        subst (λ (tells : Bool). TakesAs tells (r.count + 1) c.args.line.now r.state later out) tells
            (subst (λ (n : ℕ). TakesAs true n c.args.line.now r.state later out) number takes),
      ),
      went,
    )

pub returns-in_ok-take-in-Ok-clause-taken : goal.returns-in_ok-take-in-Ok-clause-taken
returns-in_ok-take-in-Ok-clause-taken g c = λ r at.
    let d = datagram_of c.in-Ok.datagram in
    let (later, out, there, takes, went) = c.in_ok-take-in-Ok.ensures.taken r.state at.1 in
    let is : IsDatagramLine Timed (r.count + 1) c.args.line.now d =
    subst (λ (n : ℕ). IsDatagramLine Timed (n + 1) c.args.line.now d) at.0 c.in-Ok.ensures.read in
    let tells : false ≡ is_told c.args.line.now = sym (sym c.begins_result.ensures ∙ c.if-begins_result.false) in (
      record { count = c.in-Ok.datagram.number; state = later },
      out,
      (refl {a = c.in-Ok.datagram.number}, there),
      (
        is.numbered,
        subst (λ (tells : Bool). TakesAs tells (r.count + 1) c.args.line.now r.state later out) tells (d, is, takes),
      ),
      went,
    )

pub returns-in-Err-clause-taken : goal.returns-in-Err-clause-taken
returns-in-Err-clause-taken g c = λ r at.
    let tells : false ≡ is_told c.args.line.now = sym (sym c.begins_result.ensures ∙ c.if-begins_result.false) in
    let unread = subst (λ (n : ℕ). IsUnread c.in-Err.fault Timed (n + 1) c.args.line.now) at.0 c.in-Err.ensures.read in (
      [],
      subst (λ (tells : Bool). StopsAs tells (r.count + 1) c.args.line.now r.state c.in-Err.fault []) tells (inl (unread, refl)),
      went_unread c.in-Err.fault Timed _ c.args.line.now (g.W.Write.contents (device_of c.args.output.now)) unread,
    )

pub returns-in_err-number-clause-taken : goal.returns-in_err-number-clause-taken
returns-in_err-number-clause-taken g c =
    let e = err_from_is_err_and c.from_residual.result c.from_residual.ensures.1 in
    let tells : true ≡ is_told c.args.line.now = sym (sym c.begins_result.ensures ∙ c.if-begins_result.true) in
    rw (e.1, e.2, c.in_err-number.ensures) (λ r at. (
      [],
      subst (λ (tells : Bool). StopsAs tells (r.count + 1) c.args.line.now r.state Memory []) tells (inl (tt, refl)),
      Appends-nil _,
    ))

pub returns-in_err-take_line-clause-taken : goal.returns-in_err-take_line-clause-taken
returns-in_err-take_line-clause-taken g c =
    let e = err_from_is_err_and c.from_residual-in_err-take_line.result c.from_residual-in_err-take_line.ensures.1 in
    let tells : true ≡ is_told c.args.line.now = sym (sym c.begins_result.ensures ∙ c.if-begins_result.true) in
    rw (e.1, e.2) (λ r at.
    let (out, stops, went) = c.in_err-take_line.ensures.taken r.state at.1 in
    let number : c.in_ok-number.number ≡ r.count + 1 = c.in_ok-number.ensures ∙ ap (λ (n : ℕ). n + 1) at.0 in (
      out,
      subst (λ (tells : Bool). StopsAs tells (r.count + 1) c.args.line.now r.state c.in_err-take_line.field-0.0 out) tells
          (subst (λ (n : ℕ). StopsAs true n c.args.line.now r.state c.in_err-take_line.field-0.0 out) number stops),
      went,
    ))

pub returns-in_err-take-in-Ok-clause-taken : goal.returns-in_err-take-in-Ok-clause-taken
returns-in_err-take-in-Ok-clause-taken g c =
    let e = err_from_is_err_and c.from_residual-in_err-take-in-Ok.result c.from_residual-in_err-take-in-Ok.ensures.1 in
    let tells : false ≡ is_told c.args.line.now = sym (sym c.begins_result.ensures ∙ c.if-begins_result.false) in
    rw (e.1, e.2) (λ r at.
    let d = datagram_of c.in-Ok.datagram in
    let (out, stops, went) = c.in_err-take-in-Ok.ensures.taken r.state at.1 in
    let is : IsDatagramLine Timed (r.count + 1) c.args.line.now d =
    subst (λ (n : ℕ). IsDatagramLine Timed (n + 1) c.args.line.now d) at.0 c.in-Ok.ensures.read in (
      out,
      subst (λ (tells : Bool). StopsAs tells (r.count + 1) c.args.line.now r.state c.in_err-take-in-Ok.field-0.0 out) tells (inr (d, is, stops)),
      went,
    ))
