-- What was measured, as JSON and as a row of a table.
use Rattle.std.specs.Prelude.{ℕ, Bool, true, false, List, ◌++◌, codes, Option, Some, None}
use Rattle.std.specs.Fmt.{decimal, signed_decimal}
use Rattle.slave_port.specs.declared.heard.Report.{Report}
use Rattle.recording_lines.specs.declared.measurement.Half.{Half}
use Rattle.recording_lines.specs.declared.measurement.Half.TheVariants.{Sync, Response}
use Rattle.recording_lines.specs.declared.measurement.Measurement.{Measurement}
use Rattle.ptp_units.specs.Nanoseconds.{nanoseconds_text}

-- a measurement, with the time of its line as it stands there, of what was captured or of a slave's own readings
pub record Measured : Type 0 where
  pub by : Half
  pub own : Bool
  pub line : ℕ
  pub time : List ℕ
  pub report : Report

abbrev pub measured_of : Measurement → Measured
measured_of m = record { by = m.by; own = m.own; line = m.line; time = m.time.now; report = m.report }

-- which half completed a report, of what was captured or of a slave's own readings
abbrev pub by_text : (own : Bool) → Half → List ℕ
by_text false Sync = codes "sync"
by_text false Response = codes "response"
by_text true Sync = codes "own sync"
by_text true Response = codes "own response"

-- the line of a Follow_Up, or null
abbrev pub follow_text : Option ℕ → List ℕ
follow_text None = codes "null"
follow_text (Some line) = decimal line

-- a measurement as JSON, in one line
abbrev pub json_text : Measured → List ℕ
json_text m =
    codes "{\"by\":\"" ++ by_text m.own m.by
    ++ codes "\",\"line\":" ++ decimal m.line
    ++ codes ",\"offset\":\"" ++ nanoseconds_text m.report.offset2
    ++ codes "\",\"offset2\":\"" ++ signed_decimal m.report.offset2
    ++ codes "\",\"path\":\"" ++ nanoseconds_text m.report.path2
    ++ codes "\",\"path2\":\"" ++ signed_decimal m.report.path2
    ++ codes "\",\"tags\":[" ++ decimal m.report.sync_tag
    ++ codes "," ++ follow_text m.report.follow_tag
    ++ codes "," ++ decimal m.report.request_tag
    ++ codes "," ++ decimal m.report.response_tag
    ++ codes "],\"time\":\"" ++ m.time
    ++ codes "\"}\n"

-- the line above all rows
abbrev pub table_head : List ℕ
table_head = codes "time,offset_ns,path_ns,by,line\n"

-- a measurement as a row of the table
abbrev pub row_text : Measured → List ℕ
row_text m =
    m.time
    ++ codes "," ++ nanoseconds_text m.report.offset2
    ++ codes "," ++ nanoseconds_text m.report.path2
    ++ codes "," ++ by_text m.own m.by
    ++ codes "," ++ decimal m.line
    ++ codes "\n"
