use Rattle.std.proofs.Common.{◌≡◌, take}
use Rattle.std.specs.Fmt.{HasWritten, IsPlainFormatter}
use Rattle.recording_words.specs.Others.{parted, listed_parts}
use Rattle.recording_words.proofs.Listing.{is_empty}
use Rattle.recording_words.proofs.others.PortsDisplay.fmt.Given as goal

-- those so far were written
abbrev pub invariant-loop-sender : goal.invariant-loop-sender
invariant-loop-sender g l = record {
  first : l.is_first ≡ is_empty (listed_parts (take l.sender-index l.self.listed));
  written : IsPlainFormatter l.initial.f → HasWritten g.W.Write.write_str_gives l.initial.f
      (parted (listed_parts (take l.sender-index l.self.listed))) l.f;
}
