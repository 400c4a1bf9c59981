use Rattle.std.proofs.Common.{◌+◌, refl, arith}
use Rattle.datagram_source.specs.Said.{reading_of}
use Rattle.datagram_source.proofs.LineReadings.{line_read}
use Rattle.datagram_source.proofs.lines.read_datagram.Goals as goal

pub returns-in-Some-checked_add-clause-read : goal.returns-in-Some-checked_add-clause-read
returns-in-Some-checked_add-clause-read c =
    line_read c.args.form (c.args.earlier + 1) c.in-Some-checked_add.number _ _ c.in-Some.read (reading_of c.message_in-said.result)
    c.in-Some-checked_add.ensures.1 c.in-Some.ensures c.message_in-said.ensures

pub returns-in-None-clause-read : goal.returns-in-None-clause-read
returns-in-None-clause-read c = (
  _,
  line_read c.args.form (c.args.earlier + 1) (c.args.earlier + 1) _ _ c.in-Some.read (reading_of c.message_in-said.result) refl
      c.in-Some.ensures c.message_in-said.ensures,
  omega (arith, c.in-None.ensures),
)
