-- Each use and each answer, by the fields that it reads.
use Rattle.trace_model.proofs.ReadAlike.{each_tells_alike}
use Rattle.trace_model.proofs.laws.unread_fields_change_nothing.Goals as goal

pub returns : goal.returns
returns c = each_tells_alike
