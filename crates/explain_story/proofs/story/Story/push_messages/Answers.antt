use Rattle.std.proofs.Common.{◌∙◌, sym, ap}
use Rattle.explain_story.specs.Counts.{has_octets}
use Rattle.explain_story.proofs.Counted.{messages_told, messages_untold}
use Rattle.explain_story.proofs.story.Story.push_messages.Goals as goal

pub returns-then-not-has_octets : goal.returns-then-not-has_octets
returns-then-not-has_octets c =
    messages_untold _ _ (ap has_octets (sym c.self.view_is) ∙ sym c.has_octets.ensures ∙ c.if-not-has_octets.true)

pub returns : goal.returns
returns c =
    messages_told c.push.result _ _ _
    (ap has_octets (sym c.self.view_is) ∙ sym c.has_octets.ensures ∙ c.if-not-has_octets.false) c.push.ensures
