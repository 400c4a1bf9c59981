-- Journeys, from the event that sent a message on.
use Rattle.trace_model.proofs.MessagesAfter.{each_journey_is_told as told}
use Rattle.trace_model.proofs.laws.each_journey_is_told.Goals as goal

pub returns : goal.returns
returns c = told
