use Rattle.std.proofs.Common.{◌≡◌, take, length}
use Rattle.recording_words.specs.Others.{lowest, unnamed}
use Rattle.recording_words.proofs.others.unnamed.Given as goal

-- how many of those so far are named, and how many messages are of the others
abbrev pub invariant-loop-count : goal.invariant-loop-count
invariant-loop-count l = record {
  count : l.named ≡ length (lowest (take l.count-index l.counts));
  rest : l.rest ≡ unnamed (take l.count-index l.counts);
}
