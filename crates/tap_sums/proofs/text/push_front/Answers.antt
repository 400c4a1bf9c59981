use Rattle.std.proofs.Common.{append_assoc}
use Rattle.std.proofs.lemmas.Result.{IfOk-equal}
use Rattle.tap_sums.proofs.text.push_front.Goals as goal

pub returns : goal.returns
returns c =
    IfOk-equal c.write.result _ _ _ c.write.ensures.bytes
    (simp (append_assoc, c.in_ok-push_spread.ensures, c.in_ok-push_str.ensures.bytes))
