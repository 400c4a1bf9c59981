use Rattle.transcript_text.proofs.OneAnswer.{replays_one, checks_one}
use Rattle.whole_program.proofs.OneAnswer.{shows_one, lines_one, measures_one}
use Rattle.whole_program.proofs.laws.octets_have_one_answer.Goals as goal

pub returns : goal.returns
returns c = record { show = shows_one; show_lines = lines_one; replay = replays_one; check_text = checks_one; measure = measures_one }
