use Rattle.std.proofs.Common.{append_assoc}
use Rattle.std.proofs.lemmas.Result.{IfOk-equal}
use Rattle.datagram_text.proofs.Printing.{styled_decimal-nine}
use Rattle.tap_follow.proofs.following.write_time.Goals as goal

pub returns : goal.returns
returns c = IfOk-equal c.write.result _ _ _ c.write.ensures.bytes (rw (
  c.clear.ensures.bytes,
  c.laid_out.ensures,
  styled_decimal-nine c.nanos.result,
  c.seconds.ensures.value,
  c.nanos.ensures.value,
) (simp append_assoc))
