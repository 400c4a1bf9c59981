use Rattle.std.proofs.Common.{arith}
use Rattle.recording_lines.proofs.Times.{below_second}
use Rattle.recording_lines.proofs.timed.nanoseconds_in.Goals as goal

pub overflow_mul-result : goal.overflow_mul-result
overflow_mul-result c =
    let number = c.in_ok-number in
    let below = below_second c.args.text.now number.field-0 number.ensures.value number.ensures.within in
    rw c.pow.ensures (omega arith)

pub returns-clause-within : goal.returns-clause-within
returns-clause-within c =
    let number = c.in_ok-number in
    rw c.pow.ensures (below_second c.args.text.now number.field-0 number.ensures.value number.ensures.within)
