-- Each bracket, by the messages that tell it.
use Rattle.trace_model.proofs.ByMessages.{each_tells_the_readings, each_sound_tells_the_readings}
use Rattle.trace_model.proofs.laws.messages_tell_the_readings.Goals as goal

pub returns : goal.returns
returns c = record { told = each_tells_the_readings; sound = each_sound_tells_the_readings }
