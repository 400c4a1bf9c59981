use Rattle.schedule_lines.proofs.OwnLines.{lines_have_own_keys, transcript_lines_have_own_keys}
use Rattle.schedule_lines.proofs.laws.read_lines_have_own_keys.Goals as goal

pub returns-clause-schedule : goal.returns-clause-schedule
returns-clause-schedule c = lines_have_own_keys

pub returns-clause-transcript : goal.returns-clause-transcript
returns-clause-transcript c = transcript_lines_have_own_keys
