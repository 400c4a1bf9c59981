use Rattle.std.proofs.Common.{◌∙◌, sym, arith}
use Rattle.std.proofs.lemmas.Str.Pattern.{strip_prefix_char}
use Rattle.result_verdict.proofs.Digits.{no_minus}
use Rattle.result_verdict.proofs.spelled.exact_in.Goals as goal

pub returns-in-None-clause-value : goal.returns-in-None-clause-value
returns-in-None-clause-value c =
    let none = rw c.in-None.is at (strip_prefix_char 45 c.args.text.now c.strip_prefix.result c.strip_prefix.ensures.cases (omega arith)) in
    c.size_in-in-None.ensures.value ∙ sym (no_minus c.args.text.now none)
