use Rattle.std.proofs.Common.{rules, FitsSigned}
use Rattle.std.specs.Int.{w128}
use Rattle.std.proofs.lemmas.Int.{to_z-of_z}
use Rattle.explain_story.proofs.Told.{rows_told}
use Rattle.explain_story.proofs.report.push_rows.Goals as goal

pub returns : goal.returns
returns c =
    let one : FitsSigned w128 c.args.reported.now.report.offset2 = search rules in
    let other : FitsSigned w128 c.in-Some.results.offset2 = search rules in
    let third : FitsSigned w128 c.args.reported.now.report.path2 = search rules in
    let fourth : FitsSigned w128 c.in-Some.results.path2 = search rules in
    let offset = simp to_z-of_z at c.in_ok-push_row.ensures in
    let path = simp to_z-of_z at c.push_row-2.ensures in
    rows_told c.push_row-2.result c.args.reported.now.report c.args.reported.now.judgement.by_readings c.in-Some.results _ _ _ c.in-Some.is
    offset path
