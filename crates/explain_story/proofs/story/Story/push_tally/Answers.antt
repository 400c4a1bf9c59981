use Rattle.std.proofs.Common.{◌≡◌, ◌++◌, ℕ, List, subst, sym}
use Rattle.std.specs.Prelude.{OnOk, string_bytes}
use Rattle.explain_story.specs.Counts.{Counts, TellsCounts, has_octets}
use Rattle.explain_fields.specs.Differing.{TellsMessages}
use Rattle.explain_story.specs.Inner.Tally.{counts_in}
use Rattle.explain_story.proofs.Counted.{counts_told}
use Rattle.explain_story.proofs.story.Story.push_tally.Goals as goal

pub returns : goal.returns
returns c =
    let (messages, tells, is) = c.in_ok-push_messages.ensures in
    subst (λ (counts : Counts). OnOk c.push_others.result ((told : List ℕ) × TellsCounts counts told
    × (string_bytes c.push_others.new.text ≡ string_bytes c.args.text.now ++ told))) c.self.view_is
    (counts_told c.push_others.result (counts_in c.self.inside.tally) c.self.inside.tally.by_messages
    c.read.result c.unreported.result (string_bytes c.args.text.now) _ _ _ _ messages c.in_ok-push.ensures
    (subst (λ (counts : Counts). TellsMessages (has_octets counts) messages) (sym c.self.view_is) tells) is c.in_ok-push_unreported.ensures c.push_others.ensures)
