use Rattle.std.proofs.Common.{arith}
use Rattle.std.specs.String.{string_bytes}
use Rattle.capture_extract.proofs.Called.{more_calls}
use Rattle.capture_extract.proofs.calls.push_all.Goals as goal

pub loop-call-preserved : goal.loop-call-preserved
loop-call-preserved c =
    more_calls c.args.calls.now c.loop-call.call-index c.call-item.result (string_bytes c.args.text.now) _ _ (omega arith)
    c.call-item.is c.loop-call.invariant c.in_ok-write.ensures.bytes
