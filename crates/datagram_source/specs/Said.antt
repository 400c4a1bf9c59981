-- What octets say, apart from where they lie in memory.
use Rattle.std.specs.Prelude.{Result, Ok, Err}
use Rattle.event_codec.specs.declared.message.Message.{Message}
use Rattle.event_codec.specs.declared.refusal.DecodeRefusal.{DecodeRefusal}
use Rattle.event_codec.specs.Packet.{contents}
use Rattle.event_codec.specs.Reading.{Reading}

-- what octets say, by the message or the refusal that was read of them
abbrev pub reading_of : Result Message DecodeRefusal → Reading
reading_of (Ok message) = Ok (contents message)
reading_of (Err refusal) = Err refusal
