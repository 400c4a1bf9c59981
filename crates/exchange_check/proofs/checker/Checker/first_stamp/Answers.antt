use Rattle.std.proofs.Common.{◌∙◌, ap}
use Rattle.std.specs.Prelude.{reverse}
use Rattle.trace_model.specs.Record.{first_stamp}
use Rattle.exchange_check.specs.Transcript.{Transcript}
use Rattle.exchange_check.proofs.Inside.{stamp-told}
use Rattle.exchange_check.proofs.checker.Checker.first_stamp.Goals as goal

pub returns : goal.returns
returns c =
    let inside = c.self.inside in
    c.first_stamp.ensures
    ∙ stamp-told inside.nodes inside.fed inside.kept c.self.invariant c.args.request
    ∙ ap (λ (t : Transcript). first_stamp t.network c.args.request (reverse t.lines)) c.self.view_is
