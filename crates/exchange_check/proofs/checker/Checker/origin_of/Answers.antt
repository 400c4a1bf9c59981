use Rattle.std.proofs.Common.{◌∙◌, ap}
use Rattle.std.specs.Prelude.{reverse}
use Rattle.exchange_check.specs.KeptLine.{origin_at}
use Rattle.exchange_check.specs.Transcript.{Transcript}
use Rattle.exchange_check.proofs.Inside.{origin-told}
use Rattle.exchange_check.proofs.checker.Checker.origin_of.Goals as goal

pub returns : goal.returns
returns c =
    let inside = c.self.inside in
    c.origin_at.ensures
    ∙ origin-told inside.nodes inside.fed inside.kept c.self.invariant c.args.number
    ∙ ap (λ (t : Transcript). origin_at t.network (reverse t.lines) c.args.number) c.self.view_is
