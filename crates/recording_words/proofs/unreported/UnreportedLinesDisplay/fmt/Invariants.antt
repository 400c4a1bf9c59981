use Rattle.std.proofs.Common.{take}
use Rattle.std.specs.Prelude.{flat_map}
use Rattle.std.specs.Fmt.{HasWritten, IsPlainFormatter}
use Rattle.recording_words.specs.Unreported.{kind_lines, told_kinds}
use Rattle.recording_words.proofs.unreported.UnreportedLinesDisplay.fmt.Given as goal

-- the lines of those so far were written
abbrev pub invariant-loop-kind : goal.invariant-loop-kind
invariant-loop-kind g l = IsPlainFormatter l.initial.f
    → HasWritten g.W.Write.write_str_gives l.initial.f
    (flat_map (kind_lines l.self.0.now) (take l.kind-index told_kinds)) l.f
