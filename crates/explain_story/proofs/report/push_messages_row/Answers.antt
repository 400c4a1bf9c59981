use Rattle.std.proofs.Common.{◌∙◌, ap, rules, FitsSigned}
use Rattle.std.specs.Int.{w128}
use Rattle.std.proofs.lemmas.Int.{to_z-of_z}
use Rattle.explain_story.specs.Report.{as_reported_text}
use Rattle.explain_story.proofs.Told.{messages_row_told}
use Rattle.explain_story.proofs.report.push_messages_row.Goals as goal

pub returns : goal.returns
returns c =
    let one : FitsSigned w128 c.args.report.now.offset2 = search rules in
    let other : FitsSigned w128 c.args.report.now.path2 = search rules in
    let third : FitsSigned w128 c.args.told.offset2 = search rules in
    let fourth : FitsSigned w128 c.args.told.path2 = search rules in
    let same = simp to_z-of_z at c.are_same.ensures in
    let first = simp to_z-of_z at c.in_ok-write.ensures.bytes in
    messages_row_told c.write-2.result c.args.report.now c.args.told c.as_reported-same.result.now _ _ _
    (c.as_reported-same.ensures ∙ ap as_reported_text same) first c.write-2.ensures.bytes
