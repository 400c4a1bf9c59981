use Rattle.std.proofs.Common.{◌∙◌, ap, sym}
use Rattle.std.specs.Prelude.{Some}
use Rattle.explain_findings.specs.Known.{lines_of}
use Rattle.explain_findings.specs.Mispaired.{follows_at}
use Rattle.explain_findings.proofs.known.Known.follows.Goals as goal

pub returns-in-Some : goal.returns-in-Some
returns-in-Some c noted =
    (λ i. Some (c.sent.ensures noted i)) ∙ ap (follows_at (lines_of c.args.self.now)) (sym c.in-Some.is)
