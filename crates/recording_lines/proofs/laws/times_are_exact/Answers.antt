use Rattle.recording_lines.proofs.SpelledTimes.{told, read}
use Rattle.recording_lines.proofs.laws.times_are_exact.Goals as goal

pub returns-clause-told : goal.returns-clause-told
returns-clause-told c = told

pub returns-clause-read : goal.returns-clause-read
returns-clause-read c = read
