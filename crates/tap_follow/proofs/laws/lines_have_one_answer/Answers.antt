use Rattle.tap_follow.proofs.OneCourse.{lines_one}
use Rattle.tap_follow.proofs.laws.lines_have_one_answer.Goals as goal

pub returns : goal.returns
returns c = lines_one
