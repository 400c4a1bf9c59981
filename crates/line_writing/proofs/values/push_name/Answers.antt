use Rattle.std.proofs.Common.{arith}
use Rattle.std.proofs.lemmas.Grind.{common_steps}
use Rattle.line_writing.proofs.Plain.{escape_name}
use Rattle.line_writing.proofs.values.push_name.Goals as goal

pub returns : goal.returns
returns c =
    let named = rw c.text.ensures.value at c.text.ensures.name in
    rw (escape_name c.args.name.now named) (grind (arith, common_steps))
