-- What was measured with the exchange that it was made of, as JSON and as a row of a table.
use Rattle.std.specs.Prelude.{◌≡◌, ℕ, ◌*◌, ℤ, pos, ◌+ℤ◌, ◌-ℤ◌, ◌*ℤ◌, List, ◌++◌, codes}
use Rattle.std.specs.Fmt.{decimal, signed_decimal}
use Rattle.ptp_units.specs.Nanoseconds.{nanoseconds_text}
use Rattle.slave_port.specs.declared.exchange.LastExchange.{LastExchange}
use Rattle.slave_port.specs.declared.heard.Report.{Report}
use Rattle.slave_port.specs.Exchange.{age, IsReportOf}
use Rattle.recording_lines.specs.Measurement.{Measured, by_text, follow_text}
use Rattle.recording_measure.specs.Moment.{moment_text}

-- the correction of Sync and Follow_Up together, and that of the Delay_Resp
abbrev pub sync_correction : LastExchange → ℤ
sync_correction x = x.sync_correction +ℤ x.follow_correction

-- the same in halves of 2^-16 ns
abbrev pub sync_correction2 : LastExchange → ℤ
sync_correction2 x = pos 2 *ℤ sync_correction x

-- that of the Delay_Resp in halves of 2^-16 ns
abbrev pub delay_correction2 : LastExchange → ℤ
delay_correction2 x = pos 2 *ℤ x.response_correction

-- the time between t2 and t3, whichever is later, in halves of 2^-16 ns
unfoldable pub between2 : LastExchange → ℤ
between2 x = pos (2 * age x)

-- what begins the JSON of a measurement: its results and numbers
abbrev pub json_results : Measured → LastExchange → List ℕ
json_results m x =
    codes "{\"by\":\"" ++ by_text m.own m.by
    ++ codes "\",\"delay_correction\":\"" ++ nanoseconds_text (delay_correction2 x)
    ++ codes "\",\"line\":" ++ decimal m.line
    ++ codes ",\"offset\":\"" ++ nanoseconds_text m.report.offset2
    ++ codes "\",\"offset2\":\"" ++ signed_decimal m.report.offset2
    ++ codes "\",\"path\":\"" ++ nanoseconds_text m.report.path2
    ++ codes "\",\"path2\":\"" ++ signed_decimal m.report.path2
    ++ codes "\",\"request_number\":" ++ decimal x.request_number.0
    ++ codes ",\"sync_correction\":\"" ++ nanoseconds_text (sync_correction2 x)
    ++ codes "\",\"sync_number\":" ++ decimal x.sync_number.0

-- the four times, each with all its decimals
abbrev pub json_times : LastExchange → List ℕ
json_times x =
    codes ",\"t1\":\"" ++ moment_text x.t1
    ++ codes "\",\"t2\":\"" ++ moment_text x.t2
    ++ codes "\",\"t2_to_t3\":\"" ++ nanoseconds_text (between2 x)
    ++ codes "\",\"t3\":\"" ++ moment_text x.t3
    ++ codes "\",\"t4\":\"" ++ moment_text x.t4
    ++ codes "\""

-- what ends it: the lines of the messages, and the time
abbrev pub json_tags : Measured → List ℕ
json_tags m =
    codes ",\"tags\":[" ++ decimal m.report.sync_tag
    ++ codes "," ++ follow_text m.report.follow_tag
    ++ codes "," ++ decimal m.report.request_tag
    ++ codes "," ++ decimal m.report.response_tag
    ++ codes "],\"time\":\"" ++ m.time
    ++ codes "\"}\n"

-- a measurement with its exchange as JSON, in one line
abbrev pub json_text : Measured → LastExchange → List ℕ
json_text m x = json_results m x ++ (json_times x ++ json_tags m)

-- the line above all rows
abbrev pub table_head : List ℕ
table_head = codes "time,offset_ns,path_ns,by,line,t1_s,t2_s,t3_s,t4_s,sync_correction_ns,delay_correction_ns,sync_number,request_number,t2_to_t3_ns\n"

-- what begins the row of a measurement
abbrev pub row_results : Measured → List ℕ
row_results m =
    m.time
    ++ codes "," ++ nanoseconds_text m.report.offset2
    ++ codes "," ++ nanoseconds_text m.report.path2
    ++ codes "," ++ by_text m.own m.by
    ++ codes "," ++ decimal m.line

-- the four times
abbrev pub row_times : LastExchange → List ℕ
row_times x =
    codes "," ++ moment_text x.t1
    ++ codes "," ++ moment_text x.t2
    ++ codes "," ++ moment_text x.t3
    ++ codes "," ++ moment_text x.t4

-- the corrections and the numbers
abbrev pub row_numbers : LastExchange → List ℕ
row_numbers x =
    codes "," ++ nanoseconds_text (sync_correction2 x)
    ++ codes "," ++ nanoseconds_text (delay_correction2 x)
    ++ codes "," ++ decimal x.sync_number.0
    ++ codes "," ++ decimal x.request_number.0
    ++ codes "," ++ nanoseconds_text (between2 x)
    ++ codes "\n"

-- a measurement with its exchange as a row of the table
abbrev pub row_text : Measured → LastExchange → List ℕ
row_text m x = row_results m ++ (row_times x ++ row_numbers x)

-- ---- the four times give the two results
-- how long the Sync was on its way, by both clocks, and how long the Delay_Req
abbrev pub sync_way : LastExchange → ℤ
sync_way x = (pos x.t2 -ℤ pos x.t1) -ℤ sync_correction x

abbrev pub request_way : LastExchange → ℤ
request_way x = (pos x.t4 -ℤ x.response_correction) -ℤ pos x.t3

-- a report that is of an exchange has the difference and the sum of the two (IEEE 1588-2019, 11.3), by the numbers in
-- its line
abbrev pub EachOffsetIsOfItsTimes : Type 0
EachOffsetIsOfItsTimes =
    (x : LastExchange) (report : Report) → IsReportOf x report
    → (report.offset2 ≡ sync_way x -ℤ request_way x) × (report.path2 ≡ sync_way x +ℤ request_way x)
