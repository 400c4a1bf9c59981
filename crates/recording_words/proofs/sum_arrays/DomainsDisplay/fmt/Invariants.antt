use Rattle.std.proofs.Common.{◌≡◌, take}
use Rattle.std.specs.List.{enumerate_from}
use Rattle.std.specs.Fmt.{HasWritten, IsPlainFormatter}
use Rattle.recording_words.specs.SumArrays.{domain_elements, parted}
use Rattle.recording_words.proofs.Parted.{is_none_yet}
use Rattle.recording_words.proofs.sum_arrays.DomainsDisplay.fmt.Given as goal

-- those so far were written
abbrev pub invariant-loop-domain : goal.invariant-loop-domain
invariant-loop-domain g l = record {
  first : l.is_first ≡ is_none_yet (domain_elements (take l.domain (enumerate_from 0 l.self.0.now)));
  written : IsPlainFormatter l.initial.f
      → HasWritten g.W.Write.write_str_gives l.initial.f (parted (domain_elements (take l.domain (enumerate_from 0 l.self.0.now)))) l.f;
}
