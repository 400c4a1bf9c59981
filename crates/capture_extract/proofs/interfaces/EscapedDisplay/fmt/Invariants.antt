use Rattle.std.proofs.Common.{take}
use Rattle.std.specs.Prelude.{flat_map}
use Rattle.std.specs.Fmt.{HasWritten, IsPlainFormatter}
use Rattle.capture_extract.specs.Labels.{escape}
use Rattle.capture_extract.proofs.interfaces.EscapedDisplay.fmt.Given as goal

-- the octets so far were written
abbrev pub invariant-loop-octet : goal.invariant-loop-octet
invariant-loop-octet g l = IsPlainFormatter l.initial.f
    → HasWritten g.W.Write.write_str_gives l.initial.f (flat_map escape (take l.octet-index l.self.0.now)) l.f
