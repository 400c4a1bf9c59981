use Rattle.std.proofs.Common.{◌∙◌, ap}
use Rattle.std.specs.Prelude.{reverse}
use Rattle.trace_model.specs.Finding.{leave_of}
use Rattle.exchange_check.specs.Transcript.{Transcript}
use Rattle.exchange_check.proofs.Inside.{leave-told}
use Rattle.exchange_check.proofs.checker.Checker.first_leave.Goals as goal

pub returns : goal.returns
returns c =
    let inside = c.self.inside in
    c.first.ensures
    ∙ leave-told inside.nodes inside.fed inside.kept c.self.invariant c.args.entered
    ∙ ap (λ (t : Transcript). leave_of t.network c.args.entered (reverse t.lines)) c.self.view_is
