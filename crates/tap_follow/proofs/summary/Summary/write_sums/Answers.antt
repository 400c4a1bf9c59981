use Rattle.std.specs.String.{string_bytes}
use Rattle.tap_follow.specs.SoFar.{crossings_so_far}
use Rattle.tap_follow.proofs.Summing.{wrote_sums}
use Rattle.tap_follow.proofs.summary.Summary.write_sums.Goals as goal

pub returns-clause-written : goal.returns-clause-written
returns-clause-written g c = λ course is.
    wrote_sums c.write_text.result course _ _ (string_bytes c.new-text.result) (string_bytes c.push_sums.new.text) c.as_str.result.now
    c.new-text.ensures.bytes (c.in_ok-push_sums.ensures (crossings_so_far course) (c.sums.ensures course is)) c.as_str.ensures.value
    c.write_text.ensures.written
