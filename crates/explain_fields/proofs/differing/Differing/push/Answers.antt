use Rattle.explain_fields.proofs.Told.{others_told}
use Rattle.explain_fields.proofs.differing.Differing.push.Goals as goal

pub returns : goal.returns
returns c =
    let (fields, read, is) = c.in_ok-push_lines.ensures in
    others_told c.push_lines-2.result c.args.self.now.differ c.args.self.now.messages _ _ _ _ fields read is c.in_ok-push_count.ensures
    c.push_lines-2.ensures
