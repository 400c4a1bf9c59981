use Rattle.std.proofs.Common.{append_assoc, rules, FitsSigned}
use Rattle.std.specs.Int.{w128}
use Rattle.std.proofs.lemmas.Int.{to_z-of_z}
use Rattle.std.proofs.lemmas.Result.{IfOk-equal}
use Rattle.tap_sums.proofs.crossed.push_back.Goals as goal

pub returns : goal.returns
returns c =
    let corrected : FitsSigned w128 c.args.crossed.now.crossing.corrected = search rules in
    let taken : FitsSigned w128 c.args.crossed.now.crossing.taken = search rules in
    let rest : FitsSigned w128 c.args.crossed.now.crossing.rest = search rules in
    IfOk-equal c.write.result _ _ _ c.write.ensures.bytes
    (simp (to_z-of_z, append_assoc, c.nanoseconds.ensures, c.nanoseconds-2.ensures))
