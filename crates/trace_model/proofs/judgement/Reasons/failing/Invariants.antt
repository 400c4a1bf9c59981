use Rattle.std.proofs.Common.{◌≡◌, ◌≤◌, length, take}
use Rattle.trace_model.specs.Sound.{failing}
use Rattle.trace_model.proofs.judgement.Reasons.failing.Given as goal

abbrev pub invariant-loop-why : goal.invariant-loop-why
invariant-loop-why l = (l.reasons ≡ failing (take l.why-index l.conditions)) × (length l.reasons ≤ l.why-index)
