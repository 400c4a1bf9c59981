use Rattle.std.proofs.Common.{rules, FitsSigned}
use Rattle.std.specs.Int.{w128}
use Rattle.std.proofs.lemmas.Int.{to_z-of_z}
use Rattle.explain_story.proofs.Told.{row_told}
use Rattle.explain_story.proofs.report.push_row.Goals as goal

pub returns : goal.returns
returns c =
    let one : FitsSigned w128 c.args.reported = search rules in
    let other : FitsSigned w128 c.args.by_readings = search rules in
    let row = simp to_z-of_z at c.in_ok-write.ensures.bytes in
    let difference = simp to_z-of_z at c.in_ok-push_difference.ensures in
    let raw = simp to_z-of_z at c.push_raw.ensures in
    row_told c.push_raw.result c.args.name.now c.args.key.now c.args.reported c.args.by_readings _ _ _ _ row difference raw
