-- A datagram of a recording at a slave.
use Rattle.std.specs.Prelude.{ℕ}
use Rattle.event_codec.specs.Reading.{Reading}

-- the number of its line, the time at which the slave's port sent or received it, and what its octets say
pub record Recorded : Type 0 where
  pub line : ℕ
  pub time : ℕ
  pub said : Reading
