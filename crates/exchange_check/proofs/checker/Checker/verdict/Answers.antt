use Rattle.std.proofs.Common.{◌∙◌, ap, sym}
use Rattle.std.specs.Prelude.{reverse}
use Rattle.std.proofs.lemmas.List.{reverse-reverse}
use Rattle.exchange_check.specs.Transcript.{Transcript}
use Rattle.trace_model.specs.Verdict.{verdict}
use Rattle.exchange_check.proofs.Reversed.{verdict-kept, TellsSoundness-of, AcceptsTruth-of}
use Rattle.exchange_check.proofs.Reversed.{AcceptsTruth-within_one_turn}
use Rattle.exchange_check.proofs.checker.Checker.verdict.Goals as goal

pub returns : goal.returns
returns c =
    let inside = c.self.inside in
    let kept = verdict-kept inside.nodes inside.fed inside.kept _ c.self.invariant
    ∙ ap (verdict inside.nodes) (sym (reverse-reverse inside.fed))
    ∙ ap (λ (t : Transcript). verdict t.network (reverse t.lines)) c.self.view_is in
    record {
      verdict = kept;
      sound = TellsSoundness-of c.args.self.now.network (reverse c.args.self.now.lines) _ kept;
      complete = AcceptsTruth-of c.args.self.now.network (reverse c.args.self.now.lines) _ kept;
      complete_within_one_turn =
          AcceptsTruth-within_one_turn c.args.self.now.network (reverse c.args.self.now.lines) _ kept;
    }
