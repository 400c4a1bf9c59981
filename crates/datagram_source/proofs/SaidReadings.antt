-- Octets of which a message was read.
use Rattle.std.proofs.Common.{◌≡◌, ◌∙◌, ◌≤◌, ℕ, List, length, take, Ok, sym, subst}
use Rattle.std.proofs.lemmas.List.{length-take-le}
use Rattle.event_codec.specs.Packet.{Contents, Packet}
use Rattle.event_codec.specs.Reading.{IsReading}
use Rattle.event_codec.specs.Refusal.{message_length}
use Rattle.event_codec.proofs.Lengths.{length-Packet}

-- octets that begin with a message say it
pub IsReading-read : (m : Contents) (used : ℕ) (octets : List ℕ) → used ≤ length octets → Packet m (take used octets)
    → IsReading octets (Ok m)
IsReading-read m used octets within packet =
    let same : used ≡ message_length m =
    sym (length-take-le used octets within) ∙ length-Packet m (take used octets) packet in (
      subst (λ (n : ℕ). n ≤ length octets) same within,
      subst (λ (n : ℕ). Packet m (take n octets)) same packet,
    )
