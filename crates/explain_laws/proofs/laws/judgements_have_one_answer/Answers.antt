use Rattle.explain_laws.proofs.AsChecked.{judgements_one}
use Rattle.explain_laws.proofs.laws.judgements_have_one_answer.Goals as goal

pub returns : goal.returns
returns c = judgements_one
