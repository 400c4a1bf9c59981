use Rattle.std.proofs.Common.{◌≡◌, ◌≤◌, ℕ, List, length, take, Some, None, Ok, Err, inl, inr, refl}
use Rattle.std.specs.Prelude.{IfOk, MatchResult, Result}
use Rattle.event_codec.specs.Packet.{Packet, contents}
use Rattle.event_codec.specs.Refusal.{decode_refusal}
use Rattle.event_codec.specs.declared.message.Message.{Message}
use Rattle.event_codec.specs.declared.refusal.DecodeRefusal.{DecodeRefusal}
use Rattle.datagram_text.specs.Shown.{IsShownAs, message_text, refusal_text}
use Rattle.datagram_text.proofs.laws.shown_by_some_text.Goals as goal

some_text : (octets : List ℕ) (r : Result (Message × ℕ) DecodeRefusal) → IfOk r (λ read. (read.1 ≤ length octets) × Packet (contents read.0) (take read.1 octets))
    → MatchResult r (λ _. decode_refusal octets ≡ None) (λ e. decode_refusal octets ≡ Some e) → (text : List ℕ) × IsShownAs octets text
some_text octets (Ok read) packet none =
    (message_text (contents read.0) read.1, inl (record { message = contents read.0; used = read.1; within = packet.0; packet = packet.1; shown = refl }))
some_text octets (Err refusal) packet first = (refusal_text refusal, inr (record { refusal = refusal; first = first; shown = refl }))

pub returns : goal.returns
returns c = some_text c.args.octets.now c.decode.result c.decode.ensures.read c.decode.ensures.refused
