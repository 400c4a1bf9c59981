-- What was measured at a line, and what it was made of.
use Rattle.std.specs.Prelude.{ℕ, Bool, List, Option}
use Rattle.slave_port.specs.declared.exchange.LastExchange.{LastExchange}
use Rattle.slave_port.specs.declared.heard.Report.{Report}
use Rattle.recording_lines.specs.declared.measurement.Half.{Half}
use Rattle.recording_lines.specs.Measurement as lines

-- a measurement with the time of its line as it stands there, and the exchange of the port's last report, which is there at a report
pub record Measured : Type 0 where
  pub by : Half
  pub own : Bool
  pub line : ℕ
  pub time : List ℕ
  pub report : Report
  pub exchange : Option LastExchange

-- without what it was made of
abbrev pub plain : Measured → lines.Measured
plain m = record { by = m.by; own = m.own; line = m.line; time = m.time; report = m.report }
