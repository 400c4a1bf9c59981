-- The law: each report has the exchange that it is of. `laws::each_report_is_of_its_exchange` promises it.
use Rattle.std.specs.Prelude.{◌≡◌, List, Some}
use Rattle.slave_port.specs.declared.exchange.LastExchange.{LastExchange}
use Rattle.slave_port.specs.Exchange.{IsReportOf}
use Rattle.recording_model.specs.declared.watched.Watched.{Watched}
use Rattle.recording_measure.specs.Made.{Measured}
use Rattle.recording_measure.specs.Measured.{measured_at}
use Rattle.recording_measure.specs.Row.{Row}

-- whatever is recorded: what is measured at a row has an exchange, and its two results are those of the four times and the corrections
abbrev pub EachReportIsOfItsExchange : Type 0
EachReportIsOfItsExchange = (w : Watched) (earlier : List Row) (row : Row) (m : Measured) → measured_at w earlier row ≡ Some m
    → (x : LastExchange) × (m.exchange ≡ Some x) × IsReportOf x m.report
