use Rattle.std.proofs.Common.{rules}
use Rattle.event_codec.proofs.Corrected.{Packet-corrected}
use Rattle.event_codec.proofs.correction.patch_correction.Goals as goal

pub returns-clause-message : goal.returns-clause-message
returns-clause-message c = Packet-corrected c.args.octets.now _ c.args.correction (search rules) (λ k. search (rules, c.type_inv.octets k)) (search rules)
