use Rattle.std.proofs.Common.{◌∙◌, ap}
use Rattle.std.specs.Prelude.{reverse}
use Rattle.exchange_check.specs.Message.{message_at}
use Rattle.exchange_check.specs.Transcript.{Transcript}
use Rattle.exchange_check.proofs.Telling.{message-kept}
use Rattle.exchange_check.proofs.checker.Checker.message_at.Goals as goal

pub returns : goal.returns
returns c =
    let inside = c.self.inside in
    c.message_at.ensures
    ∙ message-kept inside.nodes inside.fed inside.kept c.self.invariant c.args.number
    ∙ ap (λ (t : Transcript). message_at t.network (reverse t.lines) c.args.number) c.self.view_is
