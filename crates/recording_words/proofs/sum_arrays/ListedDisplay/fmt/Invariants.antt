use Rattle.std.proofs.Common.{◌≡◌, take}
use Rattle.std.specs.Fmt.{HasWritten, IsPlainFormatter}
use Rattle.recording_words.specs.SumArrays.{listed_elements, parted}
use Rattle.recording_words.proofs.Parted.{is_none_yet}
use Rattle.recording_words.proofs.sum_arrays.ListedDisplay.fmt.Given as goal

-- those so far were written
abbrev pub invariant-loop-sender : goal.invariant-loop-sender
invariant-loop-sender g l = record {
  first : l.is_first ≡ is_none_yet (listed_elements (take l.sender-index l.self.0.now));
  written : IsPlainFormatter l.initial.f
      → HasWritten g.W.Write.write_str_gives l.initial.f (parted (listed_elements (take l.sender-index l.self.0.now))) l.f;
}
