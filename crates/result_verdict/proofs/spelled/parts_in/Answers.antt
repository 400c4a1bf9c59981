use Rattle.std.proofs.Common.{arith}
use Rattle.result_verdict.proofs.Digits.{below_nanosecond}
use Rattle.result_verdict.proofs.spelled.parts_in.Goals as goal

pub overflow_mul-result : goal.overflow_mul-result
overflow_mul-result c =
    let number = c.in_ok-number in
    let below = below_nanosecond c.args.text.now number.field-0 number.ensures.value number.ensures.within in
    rw c.pow.ensures (omega arith)

pub returns-clause-within : goal.returns-clause-within
returns-clause-within c =
    let number = c.in_ok-number in
    rw c.pow.ensures (below_nanosecond c.args.text.now number.field-0 number.ensures.value number.ensures.within)
