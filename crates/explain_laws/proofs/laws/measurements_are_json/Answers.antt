use Rattle.explain_laws.proofs.Measurements.{each_is_json}
use Rattle.explain_laws.proofs.laws.measurements_are_json.Goals as goal

pub returns : goal.returns
returns c = each_is_json
