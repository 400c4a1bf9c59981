-- The reading, by what the clock showed in the run.
use Rattle.trace_model.proofs.Recorded.{each_event_is_recorded}
use Rattle.trace_model.proofs.laws.each_reading_is_recorded.Goals as goal

pub returns : goal.returns
returns c = each_event_is_recorded
