-- A listening port begins anew exactly where a recording tells it.
use Rattle.recording_model.proofs.Begins.{each_beginning}
use Rattle.recording_model.proofs.laws.each_beginning_is_told.Goals as goal

pub returns : goal.returns
returns c = each_beginning
