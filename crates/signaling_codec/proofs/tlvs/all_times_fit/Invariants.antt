use Rattle.std.proofs.Common.{◌≡◌, ◌-◌, ◌*◌, ◌≤◌, length}
use Rattle.signaling_codec.specs.Refusal.{all_times_fit}
use Rattle.signaling_codec.proofs.tlvs.all_times_fit.Given as goal

abbrev pub invariant-loop-done : goal.invariant-loop-done
invariant-loop-done l = record {
  same : all_times_fit l.size (l.count - l.done) l.rest ≡ all_times_fit l.size l.count l.records;
  fits : l.size * (l.count - l.done) ≤ length l.rest;
}
