use Rattle.schedule_lines.proofs.OneText.{numbers_have_one_text as one_text}
use Rattle.schedule_lines.proofs.laws.numbers_have_one_text.Goals as goal

pub returns : goal.returns
returns c = one_text
