use Rattle.std.proofs.Common.{◌≡◌, take, length}
use Rattle.std.specs.Fmt.{HasWritten, IsPlainFormatter}
use Rattle.recording_words.specs.Others.{parted, lowest, named_parts}
use Rattle.recording_words.proofs.others.NamedDisplay.fmt.Given as goal

-- those so far were written
abbrev pub invariant-loop-number : goal.invariant-loop-number
invariant-loop-number g l = record {
  count : l.named ≡ length (lowest (take l.number l.self.counts));
  written : IsPlainFormatter l.initial.f → HasWritten g.W.Write.write_str_gives l.initial.f
      (parted (named_parts (take l.number l.self.counts))) l.f;
}
