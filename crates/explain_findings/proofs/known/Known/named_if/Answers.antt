use Rattle.std.proofs.Common.{◌∙◌, ap, sym}
use Rattle.std.specs.Prelude.{Some}
use Rattle.explain_findings.specs.Known.{lines_of, named_if_at}
use Rattle.explain_findings.proofs.known.Known.named_if.Goals as goal

pub returns-in-Some : goal.returns-in-Some
returns-in-Some c noted =
    (λ i. Some (c.named.ensures noted i)) ∙ ap (named_if_at (lines_of c.args.self.now)) (sym c.in-Some.is)
