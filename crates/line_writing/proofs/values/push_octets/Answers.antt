use Rattle.std.proofs.Common.{arith}
use Rattle.std.proofs.lemmas.Grind.{common_steps}
use Rattle.line_writing.proofs.Plain.{escape_octets}
use Rattle.line_writing.proofs.values.push_octets.Goals as goal

pub returns : goal.returns
returns c = rw (escape_octets c.args.octets.now (λ i. omega (arith, c.type_inv.octets i))) (grind (arith, common_steps))
