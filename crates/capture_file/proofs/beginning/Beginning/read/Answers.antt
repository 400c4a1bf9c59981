use Rattle.std.proofs.Common.{◌≡◌, ◌∙◌, true, Ok, ap, arith, rules}
use Rattle.std.proofs.lemmas.Result.{err_from_is_err_and}
use Rattle.text_lines.proofs.Bounds.{gives_more}
use Rattle.capture_file.proofs.Beginnings.{seen_before}
use Rattle.capture_file.proofs.beginning.Beginning.read.Goals as goal

pub returns-in_err-filled-2-clause-read : goal.returns-in_err-filled-2-clause-read
returns-in_err-filled-2-clause-read g c =
    let e = err_from_is_err_and c.from_residual-in_err-filled-2.result c.from_residual-in_err-filled-2.ensures.1 in
    let whole : c.fill_behind-size.result.1 ≡ Ok true = c.in_ok-filled.was ∙ ap Ok (search rules) in
    rw e.1 (seen_before _ _ c.in_err-filled-2.field-0.0 _ c.fill_behind-size.new.room c.fill_behind-size-2.new.room c.fill_behind-size-2.result.0 _ _ _
    whole c.fill_behind-size.ensures.filled (c.in_err-filled-2.was) c.fill_behind-size-2.ensures.filled
    (search rules) c.fill_behind-size-2.ensures.within (search rules))

pub returns-in_err-filled-2-clause-given : goal.returns-in_err-filled-2-clause-given
returns-in_err-filled-2-clause-given g c =
    gives_more g.R.Read.remaining 1 3 c.args.input.now c.fill_behind-size.new.input c.fill_behind-size-2.new.input
    (c.fill_behind-size.ensures.given (search arith)) (c.fill_behind-size-2.ensures.given (search arith))

pub returns-clause-given : goal.returns-clause-given
returns-clause-given g c =
    gives_more g.R.Read.remaining 1 3 c.args.input.now c.fill_behind-size.new.input c.fill_behind-size-2.new.input
    (c.fill_behind-size.ensures.given (search arith)) (c.fill_behind-size-2.ensures.given (search arith))
