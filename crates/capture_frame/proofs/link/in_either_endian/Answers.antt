use Rattle.std.proofs.Common.{◌∙◌, sym}
use Rattle.capture_frame.proofs.Families.{null_big, null_little}
use Rattle.capture_frame.proofs.Only.{only_same}
use Rattle.capture_frame.proofs.link.in_either_endian.Goals as goal

pub returns-then-octet_at-eq0 : goal.returns-then-octet_at-eq0
returns-then-octet_at-eq0 c = only_same _ _ _ (null_big c.args.octets.now (sym c.octet_at.ensures ∙ c.if-octet_at-eq0.true)) c.in_big_endian.ensures

pub returns-else-octet_at-eq0 : goal.returns-else-octet_at-eq0
returns-else-octet_at-eq0 c = only_same _ _ _ (null_little c.args.octets.now (λ e. c.if-octet_at-eq0.false (c.octet_at.ensures ∙ e))) c.in_little_endian.ensures
