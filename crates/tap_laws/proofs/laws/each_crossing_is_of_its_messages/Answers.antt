-- Each crossing is made of messages that were met.
use Rattle.tap_laws.proofs.Tracks.{each_made, each_met, these_told}
use Rattle.tap_laws.proofs.laws.each_crossing_is_of_its_messages.Goals as goal

pub returns-clause-made : goal.returns-clause-made
returns-clause-made c = each_made

pub returns-clause-met : goal.returns-clause-met
returns-clause-met c = each_met

pub returns-clause-told : goal.returns-clause-told
returns-clause-told c = these_told
