use Rattle.explain_laws.proofs.FullMeasurements.{each_is_json}
use Rattle.explain_laws.proofs.laws.full_measurements_are_json.Goals as goal

pub returns : goal.returns
returns c = each_is_json
