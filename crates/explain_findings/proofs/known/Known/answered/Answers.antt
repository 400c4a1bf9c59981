use Rattle.std.proofs.Common.{◌∙◌, ap, sym}
use Rattle.std.specs.Prelude.{Some}
use Rattle.explain_findings.specs.Known.{lines_of, named_at, port_at}
use Rattle.explain_findings.specs.OtherMaster.{answered_at}
use Rattle.explain_findings.proofs.known.Known.answered.Goals as goal

pub returns-in-Some : goal.returns-in-Some
returns-in-Some c noted =
    (λ i. Some (c.port.ensures i, c.named.ensures noted i))
    ∙ (λ i. Some (port_at (lines_of c.args.self.now) (c.node.ensures i), named_at (lines_of c.args.self.now) c.in-Some.exchange.request.arrived.number))
    ∙ ap (answered_at (lines_of c.args.self.now)) (sym c.in-Some.is)
