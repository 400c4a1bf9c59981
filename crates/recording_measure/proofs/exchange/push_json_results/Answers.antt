use Rattle.std.proofs.Common.{append_assoc, rules, FitsSigned}
use Rattle.std.specs.Int.{w128}
use Rattle.std.proofs.lemmas.Int.{to_z-of_z}
use Rattle.std.proofs.lemmas.Result.{IfOk-equal}
use Rattle.recording_measure.proofs.exchange.push_json_results.Goals as goal

pub returns : goal.returns
returns c =
    let offset : FitsSigned w128 c.args.measured.now.report.offset2 = search rules in
    let path : FitsSigned w128 c.args.measured.now.report.path2 = search rules in
    IfOk-equal c.write-2.result _ _ _ c.write-2.ensures.bytes
    (rw (c.in_ok-write.ensures.bytes, c.by.ensures, c.sync_correction.ensures, c.delay_correction.ensures) (simp (to_z-of_z, append_assoc)))
