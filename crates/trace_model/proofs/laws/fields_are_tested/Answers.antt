-- Each field, by the part of the relation that it is.
use Rattle.trace_model.proofs.FieldTests.{each_field_is_tested}
use Rattle.trace_model.proofs.laws.fields_are_tested.Goals as goal

pub returns : goal.returns
returns c = each_field_is_tested
