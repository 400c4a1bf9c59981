-- What the JSON of a measurement is read as that has its exchange. `laws::full_measurements_are_json` promises it.
use Rattle.std.specs.Prelude.{◌≡◌, ◌<◌, ◌^◌, ℕ, true, List, ◌++◌, codes, Some}
use Rattle.std.specs.Fmt.{signed_decimal}
use Rattle.std.specs.List.{list_all}
use Rattle.serde_json.specs.Data.{Data, string, object, member, no_members}
use Rattle.ptp_units.specs.Moment.{bound}
use Rattle.ptp_units.specs.Nanoseconds.{nanoseconds_text}
use Rattle.schedule_lines.specs.Json.{value_in}
use Rattle.schedule_lines.specs.Written.{whole, tags_data}
use Rattle.slave_port.specs.declared.exchange.LastExchange.{LastExchange}
use Rattle.recording_lines.specs.Measurement.{Measured, by_text}
use Rattle.recording_measure.specs.Moment.{moment_text}
use Rattle.recording_measure.specs.Exchange.{json_text, sync_correction2, delay_correction2, between2}
use Rattle.explain_laws.specs.Measurements.{IsOf128Bits, IsWithinRange, is_printed}

-- the times of an exchange are moments, its numbers have 16 bits, and its corrections 128 when they are doubled
pub record IsExchangeWithinRange (x : LastExchange) : Type 0 where
  pub t1 : x.t1 < bound
  pub t2 : x.t2 < bound
  pub t3 : x.t3 < bound
  pub t4 : x.t4 < bound
  pub sync_number : x.sync_number.0 < 2 ^ 16
  pub request_number : x.request_number.0 < 2 ^ 16
  pub sync_correction : IsOf128Bits (sync_correction2 x)
  pub delay_correction : IsOf128Bits (delay_correction2 x)
  pub between : IsOf128Bits (between2 x)

-- a measurement with its exchange as a value: an object of these members
abbrev pub full_data : Measured → LastExchange → Data
full_data m x = object
    (member (codes "by") (string (by_text m.own m.by))
    (member (codes "delay_correction") (string (nanoseconds_text (delay_correction2 x)))
    (member (codes "line") (whole m.line)
    (member (codes "offset") (string (nanoseconds_text m.report.offset2))
    (member (codes "offset2") (string (signed_decimal m.report.offset2))
    (member (codes "path") (string (nanoseconds_text m.report.path2))
    (member (codes "path2") (string (signed_decimal m.report.path2))
    (member (codes "request_number") (whole x.request_number.0)
    (member (codes "sync_correction") (string (nanoseconds_text (sync_correction2 x)))
    (member (codes "sync_number") (whole x.sync_number.0)
    (member (codes "t1") (string (moment_text x.t1))
    (member (codes "t2") (string (moment_text x.t2))
    (member (codes "t2_to_t3") (string (nanoseconds_text (between2 x)))
    (member (codes "t3") (string (moment_text x.t3))
    (member (codes "t4") (string (moment_text x.t4))
    (member (codes "tags") (tags_data m.report)
    (member (codes "time") (string m.time) no_members)))))))))))))))))

-- the JSON of a measurement with its exchange is one line, which is read as that value
abbrev pub EachFullMeasurementIsJson : Type 0
EachFullMeasurementIsJson =
    (m : Measured) (x : LastExchange) → IsWithinRange m → IsExchangeWithinRange x
    → (line : List ℕ) × (json_text m x ≡ line ++ codes "\n") × (list_all is_printed line ≡ true)
    × (value_in line ≡ Some (full_data m x))
