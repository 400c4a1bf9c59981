-- What is noted of a datagram. Lists have the newest in front.
use Rattle.std.specs.Prelude.{ℕ, Option}
use Rattle.event_codec.specs.declared.refusal.DecodeRefusal.{DecodeRefusal}
use Rattle.slave_port.specs.declared.exchange.LastExchange.{LastExchange}
use Rattle.slave_port.specs.declared.heard.Report.{Report}
use Rattle.recording_lines.specs.declared.measurement.Half.{Half}

-- a report, which half of it its line completed, and the exchange that it was made of, which is there
pub record Reported : Type 0 where
  pub by : Half
  pub report : Report
  pub exchange : Option LastExchange

-- the number and the time of a line, why its datagram is no message of the four, if it isn't, and the report that it completed,
-- if it did
pub record Noted : Type 0 where
  pub line : ℕ
  pub time : ℕ
  pub refusal : Option DecodeRefusal
  pub reported : Option Reported
