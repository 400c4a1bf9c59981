-- The message of a line, as a checker tells it (IEEE 1588-2019, 10.2 and 13.6 to 13.8).
use Rattle.std.specs.Prelude.{ℕ, Option, option_and_then}
use Rattle.event_codec.specs.Packet.{Contents}
use Rattle.network_model.specs.Network.{Network}
use Rattle.trace_model.specs.Line.{Lines}
use Rattle.trace_model.specs.Record.{event_of, line_at}
use Rattle.trace_model.specs.Octets.{message_made}

-- the message that the line of this number makes, where that counts and makes one: 708 asks for its octets
abbrev pub message_at : Network → Lines → ℕ → Option Contents
message_at network lines number =
    option_and_then (λ e. message_made network (event_of e) e) (line_at network lines number)
