use Rattle.std.specs.Fmt.{HasWritten, IsPlainFormatter}
use Rattle.capture_extract.specs.Cells.{versions_text}
use Rattle.capture_extract.proofs.row.VersionsDisplay.fmt.Given as goal

abbrev pub invariant-loop-minor : goal.invariant-loop-minor
invariant-loop-minor g l =
    IsPlainFormatter l.initial.f → HasWritten g.W.Write.write_str_gives l.initial.f (versions_text l.minor l.self.met) l.f
