-- Octets of a copy, as a port reads them.
use Rattle.std.proofs.Common.{◌≡◌, ℕ, List, length, Option, Some, None, Ok, sym, refl, subst, arith}
use Rattle.std.proofs.lemmas.List.{take_all}
use Rattle.event_codec.specs.Packet.{Contents, Packet}
use Rattle.event_codec.specs.Reading.{IsReading}
use Rattle.event_codec.specs.Refusal.{message_length}
use Rattle.event_codec.proofs.Lengths.{length-Packet}
use Rattle.network_model.specs.Truth.{TellsTruth}

-- octets that are a message say it
pub IsReading-packet : (m : Contents) (b : List ℕ) → Packet m b → IsReading b (Ok m)
IsReading-packet m b p = (
  omega (arith, sym (length-Packet m b p)),
  subst (Packet m) (sym (take_all (message_length m) b (omega (arith, sym (length-Packet m b p))))) p,
)

-- octets of a message's length that say it are it
pub packet_read : (m : Contents) (b : List ℕ) → message_length m ≡ length b → IsReading b (Ok m) → Packet m b
packet_read m b same said = subst (Packet m) (take_all (message_length m) b (omega (arith, same))) said.1

-- the message of a copy that is there
pub record Told (copy : Option Contents) (octets : List ℕ) : Type 0 where
  pub m : Contents
  pub is : copy ≡ Some m
  pub packet : Packet m octets

pub told : (copy : Option Contents) (octets : List ℕ) → TellsTruth copy (Some octets) → Told copy octets
told None octets tells = absurd tells
told (Some m) octets tells = record { m = m; is = refl; packet = tells }
