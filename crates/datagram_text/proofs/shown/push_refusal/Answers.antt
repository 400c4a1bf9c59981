use Rattle.std.proofs.Common.{◌++◌, codes, append_assoc}
use Rattle.std.specs.Fmt.{decimal}
use Rattle.std.proofs.lemmas.Result.{IfOk-equal}
use Rattle.datagram_text.proofs.shown.push_refusal.Goals as goal

pub returns-in-OtherType : goal.returns-in-OtherType
returns-in-OtherType c = IfOk-equal c.write-in-OtherType.result _ _ _ c.write-in-OtherType.ensures.bytes
    (rw (c.in_ok-write.ensures.bytes, c.code.ensures, c.in-OtherType.is)
    (append_assoc _ (codes "refused " ++ decimal 203) (codes " type " ++ decimal c.in-OtherType.kind)))
