-- Lines, numbers and measurements, worked by hand.
use Rattle.std.proofs.Common.{◌≡◌, ◌++◌, ◌-◌, ◌*◌, pos, negsuc, true, false, [], codes, Some, None, refl}
use Rattle.std.specs.Fmt.{digits}
use Rattle.slave_port.specs.declared.heard.Report.{Report}
use Rattle.recording_lines.specs.declared.measurement.Half.TheVariants.{Sync, Response}
use Rattle.ptp_units.specs.Nanoseconds.{decimals}
use Rattle.recording_lines.specs.Measurement.{json_text, row_text}
use Rattle.recording_lines.specs.Timed.{line_parts, time_in, timed_in}

-- the first moment, and the last whole nanosecond
first : time_in (codes "0") ≡ Some 0
first = refl

last : time_in (codes "281474976710655.999999999") ≡ Some (18446744073709551616000000000 - 65536)
last = refl

-- half a second, and a nanosecond
half : time_in (codes "1795328934.5") ≡ Some (1795328934500000000 * 65536)
half = refl

nanosecond : time_in (codes "0.000000001") ≡ Some 65536
nanosecond = refl

-- 2^48 seconds, ten decimals, zeros in front, no decimals, no seconds, a sign, and nothing
too_late : time_in (codes "281474976710656") ≡ None
too_late = refl

ten_decimals : time_in (codes "1.0000000001") ≡ None
ten_decimals = refl

zeros_in_front : time_in (codes "05") ≡ None
zeros_in_front = refl

no_decimals : time_in (codes "5.") ≡ None
no_decimals = refl

no_seconds : time_in (codes ".5") ≡ None
no_seconds = refl

signed : time_in (codes "+5") ≡ None
signed = refl

nothing : time_in [] ≡ None
nothing = refl

-- a line with digits, one with none, and one without a blank
digits_after : timed_in (codes "2.25 00aB") ≡ Some (line_parts (codes "2.25") (2250000000 * 65536) (codes "00aB"))
digits_after = refl

empty_datagram : timed_in (codes "1 ") ≡ Some (line_parts (codes "1") (1000000000 * 65536) [])
empty_datagram = refl

no_blank : timed_in (codes "1") ≡ None
no_blank = refl

-- a report that a two-step Sync completed, as JSON
report : Report
report = record {
  offset2 = negsuc 1638399;
  path2 = pos 131072000;
  sync_tag = 12;
  follow_tag = Some 13;
  request_tag = 9;
  response_tag = 11;
}

json : json_text (record { by = Sync; own = false; line = 17; time = codes "1795328934.357259633"; report = report })
    ≡ codes "{\"by\":\"sync\",\"line\":17,\"offset\":\"-12.5\",\"offset2\":\"-1638400\",\"path\":\"1000\""
    ++ codes ",\"path2\":\"131072000\",\"tags\":[12,13,9,11],\"time\":\"1795328934.357259633\"}\n"
unfolding digits decimals report
json = refl

-- the same of a slave's own readings, which that of a Delay_Resp completed, as a row
row : row_text (record { by = Response; own = true; line = 11; time = codes "7"; report = record report { follow_tag = None } })
    ≡ codes "7,-12.5,1000,own response,11\n"
unfolding digits decimals report
row = refl
