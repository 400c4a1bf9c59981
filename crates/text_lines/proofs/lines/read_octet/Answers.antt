use Rattle.std.proofs.Common.{rules, arith}
use Rattle.text_lines.proofs.Bounds.{gives_none, gives_less}
use Rattle.text_lines.proofs.lines.read_octet.Goals as goal

pub returns-in-Err-clause-given : goal.returns-in-Err-clause-given
returns-in-Err-clause-given g c =
    gives_less _ 0 1 _ _ (gives_none _ _ _ c.args.input.now.within c.in-Err.ensures.given (search rules)) (omega arith)
