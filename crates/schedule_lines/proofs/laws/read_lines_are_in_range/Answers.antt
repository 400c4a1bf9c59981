use Rattle.schedule_lines.proofs.Ranges.{reads_in_range}
use Rattle.schedule_lines.proofs.laws.read_lines_are_in_range.Goals as goal

pub returns : goal.returns
returns c = reads_in_range
