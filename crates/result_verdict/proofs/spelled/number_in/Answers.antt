use Rattle.std.proofs.Common.{sym}
use Rattle.result_verdict.proofs.Digits.{parsed}
use Rattle.result_verdict.proofs.spelled.number_in.Goals as goal

pub returns : goal.returns
returns c =
    let read = parsed c.args.most c.args.text.now c.parse.result c.parse.ensures.value.0
    (sym c.if-not-are_digits.ensures) c.requires in
    rw c.ok.ensures.value (record { value = read.0; within = read.1 })
