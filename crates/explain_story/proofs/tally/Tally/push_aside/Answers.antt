use Rattle.std.proofs.Common.{◌∙◌, sym}
use Rattle.explain_story.specs.Inner.Tally.{counts_in}
use Rattle.explain_story.proofs.Counted.{aside_told, read_told}
use Rattle.explain_story.proofs.tally.Tally.push_aside.Goals as goal

pub returns : goal.returns
returns c =
    aside_told c.write.result (counts_in c.args.self.now) c.args.messages c.saturating_add.result c.noun.result.now _ _
    (sym c.has_octets.ensures ∙ c.if-not-has_octets.false) c.if-messages-gt0.false c.saturating_add.ensures c.noun.ensures c.write.ensures.bytes

pub returns-then-messages-gt0 : goal.returns-then-messages-gt0
returns-then-messages-gt0 c =
    read_told c.push_read.result (counts_in c.args.self.now) c.args.messages _ _ (sym c.has_octets.ensures ∙ c.if-not-has_octets.false)
    c.if-messages-gt0.true c.push_read.ensures
