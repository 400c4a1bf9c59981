use Rattle.std.proofs.Common.{take}
use Rattle.std.specs.Prelude.{flat_map}
use Rattle.std.specs.Fmt.{HasWritten, IsPlainFormatter}
use Rattle.recording_words.specs.Unreported.{line_at, told_reasons}
use Rattle.recording_words.proofs.unreported.KindLinesDisplay.fmt.Given as goal

-- the lines of those so far were written
abbrev pub invariant-loop-why : goal.invariant-loop-why
invariant-loop-why g l = IsPlainFormatter l.initial.f
    → HasWritten g.W.Write.write_str_gives l.initial.f
    (flat_map (line_at l.self.counts.now l.self.kind) (take l.why-index told_reasons)) l.f
