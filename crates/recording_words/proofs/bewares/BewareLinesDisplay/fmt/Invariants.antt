use Rattle.std.proofs.Common.{◌<◌, ◌≤◌, length, take}
use Rattle.std.specs.Prelude.{flat_map}
use Rattle.std.specs.Fmt.{HasWritten, IsPlainFormatter}
use Rattle.recording_words.specs.Bewares.{beware_line}
use Rattle.recording_words.proofs.bewares.BewareLinesDisplay.fmt.Given as goal

-- the lines of those so far were written, and once there is one, how many there are is known
abbrev pub invariant-loop-beware : goal.invariant-loop-beware
invariant-loop-beware g l = record {
  long : 0 < l.beware-index → length l.self.bewares ≤ 23;
  written : IsPlainFormatter l.initial.f → HasWritten g.W.Write.write_str_gives l.initial.f
      (flat_map (beware_line l.self.unit l.self.masters l.self.slaves l.self.domains) (take l.beware-index l.self.bewares)) l.f;
}
