use Rattle.std.proofs.Common.{◌∙◌, List, ℕ}
use Rattle.explain_findings.specs.declared.misplaced.OtherLine.{OtherLine}
use Rattle.explain_findings.specs.declared.heard.Heard.{Heard}
use Rattle.explain_findings.specs.declared.heard.Met.{Met}
use Rattle.std.specs.Prelude.{Option}
use Rattle.explain_findings.specs.Known.{lines_of}
use Rattle.explain_findings.specs.Misplaced.{tag_met_at}
use Rattle.explain_findings.proofs.reported.Case.other_line.Goals as goal

pub returns : goal.returns
returns c noted =
    (λ i. other c.args.self.now.reported.now.event c.heard-heard.result (c.tag_met.ensures noted i))
    ∙ (λ i. other c.args.self.now.reported.now.event (c.heard-heard.ensures i)
    (tag_met_at (lines_of c.args.self.now.known) c.args.self.now.reported.now.report (c.heard-heard.ensures i)))
  where
    other : ℕ → Option Heard → Option Met → OtherLine
    other event heard tag = record { event = event; heard = heard; tag = tag }
