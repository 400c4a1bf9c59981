use Rattle.std.proofs.Common.{rules, ◌≡◌, length, take}
use Rattle.text_lines.proofs.Reading.{read_one}
use Rattle.text_lines.proofs.counted.Counted.read_line_part.Goals as goal

pub returns-in-Ok-2-clause-stop : goal.returns-in-Ok-2-clause-stop
returns-in-Ok-2-clause-stop g c =
    let o = c.loop-size in
    let full : length (take o.size o.octets) ≡ c.args.left = search rules in (
      _,
      c.if-octet-eq10.false,
      full,
      read_one _ _ _ (take o.size o.octets) c.ask.new.buf c.in-Ok-2.field-0 o.invariant.read c.in-Ok-2.ensures.bytes.0 (search rules) (search rules) (search rules),
    )
