use Rattle.std.proofs.Common.{◌∙◌, ap}
use Rattle.std.specs.Prelude.{reverse}
use Rattle.trace_model.specs.Record.{line_place}
use Rattle.trace_model.specs.Verdict.{line_judgement}
use Rattle.exchange_check.specs.Transcript.{Transcript}
use Rattle.exchange_check.proofs.Reversed.{judgement-told}
use Rattle.exchange_check.proofs.checker.Checker.feed_judged.Goals as goal

pub returns-in-Ok-clause-judged : goal.returns-in-Ok-clause-judged
returns-in-Ok-clause-judged c =
    let inside = c.self.inside in
    judgement-told inside.nodes c.args.line.now inside.fed _ (c.in-Ok.ensures.kept _ _ c.self.invariant).1
    ∙ ap (λ (t : Transcript). line_judgement t.network (line_place c.args.line.now (reverse t.lines))) c.self.view_is
