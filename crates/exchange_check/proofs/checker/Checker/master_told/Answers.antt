use Rattle.std.proofs.Common.{◌∙◌, ap}
use Rattle.std.specs.Prelude.{reverse}
use Rattle.exchange_check.specs.KeptLine.{master_told}
use Rattle.exchange_check.specs.Transcript.{Transcript}
use Rattle.exchange_check.proofs.Inside.{master-told}
use Rattle.exchange_check.proofs.checker.Checker.master_told.Goals as goal

pub returns : goal.returns
returns c =
    let inside = c.self.inside in
    c.master_told.ensures
    ∙ master-told inside.nodes inside.fed inside.kept c.self.invariant c.args.slave.now
    ∙ ap (λ (t : Transcript). master_told t.network (reverse t.lines) c.args.slave.now) c.self.view_is
