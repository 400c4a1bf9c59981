use Rattle.recording_lines.proofs.Times.{time_octets}
use Rattle.recording_lines.proofs.laws.times_need_no_escapes.Goals as goal

pub returns : goal.returns
returns c = time_octets
