-- Each message, by the kind of the event that made it, and so each exchange.
use Rattle.trace_model.proofs.Messages.{each_message_is_written as written}
use Rattle.trace_model.proofs.OctetsOfExchanges.{each_exchange_is_written}
use Rattle.trace_model.proofs.laws.each_message_is_written.Goals as goal

pub returns : goal.returns
returns c = record { message = written; exchange = each_exchange_is_written }
