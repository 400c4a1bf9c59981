use Rattle.explain_laws.proofs.ReadBack.{each_is_json}
use Rattle.explain_laws.proofs.laws.judgements_are_json.Goals as goal

pub returns : goal.returns
returns c = each_is_json
