use Rattle.std.proofs.Common.{subst}
use Rattle.std.specs.Prelude.{reverse, option_map}
use Rattle.network_model.specs.Network.{Network}
use Rattle.exchange_check.specs.Inner.Noting.{IsMadeAt}
use Rattle.exchange_check.proofs.Entries.{items_of}
use Rattle.exchange_check.proofs.OctetsAt.{octets-at}
use Rattle.exchange_check.proofs.evidence.Evidence.octets_at.Goals as goal

pub returns : goal.returns
returns c evidence =
    octets-at c.args.checker.now.network (reverse c.args.checker.now.lines) c.inside.result.1.now c.inside.ensures.kept
    c.args.self.now.exceptions evidence c.args.number
    (option_map items_of c.octets.result)
    (subst (λ (n : Network). IsMadeAt n c.inside.result.1.now c.args.self.now.exceptions c.args.number (option_map items_of c.octets.result))
    c.inside.ensures.network c.octets.ensures)
