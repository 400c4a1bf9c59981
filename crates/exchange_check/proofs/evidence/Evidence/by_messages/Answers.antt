use Rattle.std.proofs.Common.{◌∙◌, subst}
use Rattle.std.specs.Prelude.{reverse}
use Rattle.network_model.specs.Network.{Network}
use Rattle.trace_model.specs.Line.{Lines}
use Rattle.exchange_check.specs.Evidence.{octets_at}
use Rattle.exchange_check.specs.Inner.Messages.{AreMade}
use Rattle.exchange_check.specs.Inner.Noting.{IsMadeAt}
use Rattle.exchange_check.proofs.MessagesTold.{messages-told}
use Rattle.exchange_check.proofs.OctetsAt.{octets-at}
use Rattle.exchange_check.proofs.evidence.Evidence.by_messages.Goals as goal

pub returns : goal.returns
returns c evidence =
    let network : Network = c.args.checker.now.network in
    let fed : Lines = reverse c.args.checker.now.lines in
    let kept = c.inside.result.1.now in
    let made : AreMade c.inside.result.0.now kept c.args.self.now.exceptions (octets_at network fed) = λ n r is.
    octets-at network fed kept c.inside.ensures.kept c.args.self.now.exceptions evidence n r
    (subst (λ (w : Network). IsMadeAt w kept c.args.self.now.exceptions n r) c.inside.ensures.network is) in
    c.report_told.ensures (octets_at network fed) made
    ∙ messages-told network c.args.report.now fed kept c.inside.ensures.kept c.last_number.result c.last_number.ensures
