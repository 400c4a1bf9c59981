use Rattle.std.proofs.Common.{append_assoc}
use Rattle.std.proofs.lemmas.Result.{IfOk-equal}
use Rattle.result_audit.proofs.lines.push_json_front.Goals as goal

pub returns : goal.returns
returns c =
    IfOk-equal c.write.result _ _ _ c.write.ensures.bytes (rw (c.if_told.ensures, c.path_told.ensures) (simp append_assoc))
