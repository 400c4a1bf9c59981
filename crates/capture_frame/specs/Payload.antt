-- What a packet carries of PTP.
use Rattle.std.specs.Prelude.{ℕ, List}

-- a whole datagram, as far as it was captured, or a part of a datagram that was sent in several packets
pub data Payload : Type 0 where
  Whole : List ℕ → Payload
  Part : Payload
