use Rattle.std.proofs.Common.{◌∙◌, ap}
use Rattle.std.specs.Prelude.{reverse}
use Rattle.exchange_check.specs.KeptLine.{kept_line_at}
use Rattle.exchange_check.specs.Transcript.{Transcript}
use Rattle.exchange_check.proofs.Inside.{line-told}
use Rattle.exchange_check.proofs.checker.Checker.line_at.Goals as goal

pub returns : goal.returns
returns c =
    let inside = c.self.inside in
    c.told_at.ensures
    ∙ line-told inside.nodes inside.fed inside.kept c.self.invariant c.args.number
    ∙ ap (λ (t : Transcript). kept_line_at t.network (reverse t.lines) c.args.number) c.self.view_is
