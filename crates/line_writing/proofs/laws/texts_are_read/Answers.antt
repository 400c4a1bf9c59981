use Rattle.line_writing.proofs.Spelled.{lines_back, transcript_lines_back}
use Rattle.line_writing.proofs.laws.texts_are_read.Goals as goal

pub returns-clause-schedule : goal.returns-clause-schedule
returns-clause-schedule c = lines_back

pub returns-clause-transcript : goal.returns-clause-transcript
returns-clause-transcript c = transcript_lines_back
