use Rattle.std.proofs.Common.{append_assoc, rules, FitsSigned}
use Rattle.std.specs.Int.{w128}
use Rattle.std.proofs.lemmas.Int.{to_z-of_z}
use Rattle.std.proofs.lemmas.Result.{IfOk-equal}
use Rattle.tap_sums.proofs.text.push_members.Goals as goal

pub returns : goal.returns
returns c =
    let least : FitsSigned w128 c.args.spread.now.least = search rules in
    let greatest : FitsSigned w128 c.args.spread.now.greatest = search rules in
    let mean : FitsSigned w128 c.args.spread.now.mean = search rules in
    IfOk-equal c.write.result _ _ _ c.write.ensures.bytes
    (simp (to_z-of_z, append_assoc, c.nanoseconds.ensures, c.nanoseconds-2.ensures, c.nanoseconds-3.ensures))
