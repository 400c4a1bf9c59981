-- What octets say: the message that they begin with, or the first refusal that applies.
use Rattle.std.specs.Prelude.{◌≡◌, ℕ, ◌≤◌, List, length, take, Some, Ok, Err, Result}
use Rattle.event_codec.specs.declared.refusal.DecodeRefusal.{DecodeRefusal}
use Rattle.event_codec.specs.declared.message.Message.{Message}
use Rattle.event_codec.specs.Packet.{Contents, Packet, contents}
use Rattle.event_codec.specs.Refusal.{decode_refusal, message_length}

-- what octets say: a message, or why they say none
abbrev pub Reading : Type 0
Reading = Result Contents DecodeRefusal

-- these octets say this; what follows a message is padding
abbrev pub IsReading : List ℕ → Reading → Type 0
IsReading octets (Ok m) = (message_length m ≤ length octets) × Packet m (take (message_length m) octets)
IsReading octets (Err refusal) = decode_refusal octets ≡ Some refusal

-- what a decoder answers is what the octets say
abbrev pub Answers : Result (Message × ℕ) DecodeRefusal → Reading → Type 0
Answers (Ok (m, used)) (Ok said) = (contents m ≡ said) × (used ≡ message_length said)
Answers (Ok (m, used)) (Err refusal) = ⊥
Answers (Err refusal) (Ok said) = ⊥
Answers (Err refusal) (Err first) = refusal ≡ first
