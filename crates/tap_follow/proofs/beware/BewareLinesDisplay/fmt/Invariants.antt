use Rattle.std.proofs.Common.{take}
use Rattle.std.specs.Prelude.{flat_map}
use Rattle.std.specs.Fmt.{HasWritten, IsPlainFormatter}
use Rattle.tap_follow.specs.Words.{beware_line}
use Rattle.tap_follow.proofs.beware.BewareLinesDisplay.fmt.Given as goal

-- the lines of those so far were written
abbrev pub invariant-loop-beware : goal.invariant-loop-beware
invariant-loop-beware g l = IsPlainFormatter l.initial.f
    → HasWritten g.W.Write.write_str_gives l.initial.f
    (flat_map (beware_line l.self.unit l.self.from l.self.to) (take l.beware-index l.self.bewares)) l.f
