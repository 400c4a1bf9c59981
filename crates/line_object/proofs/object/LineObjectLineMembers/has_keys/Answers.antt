use Rattle.std.proofs.Common.{◌==◌, sym, ap, ◌∙◌}
use Rattle.line_object.proofs.Members.{as_many}
use Rattle.line_object.proofs.object.LineObjectLineMembers.has_keys.Goals as goal

pub returns : goal.returns
returns c = ap (λ n. n == c.args.count) (c.len.ensures.value ∙ sym (as_many c.args.self.now.members.items c.args.self.now.apart))
