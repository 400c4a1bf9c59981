use Rattle.std.proofs.Common.{◌≡◌, ℕ, ◌<◌, None, length, get_or}
use Rattle.exchange_check.specs.Inner.Machine.{facts_of}
use Rattle.exchange_check.specs.Inner.Telling.{stay_of_copy, copy_before}
use Rattle.exchange_check.proofs.kept.Kept.stays.Given as goal

abbrev pub invariant-loop-place : goal.invariant-loop-place
invariant-loop-place l = record {
  length : length l.place-items ≡ 16;
  before : l.before ≡ copy_before (facts_of l.self) l.place-index l.fn.copy;
  written : (k : ℕ) → k < l.place-index
      → get_or l.place-items k None ≡ stay_of_copy (facts_of l.self) (copy_before (facts_of l.self) k l.fn.copy);
}
