-- A worked measurement: its JSON, and that it is within its range.
use Rattle.std.proofs.Common.{◌≡◌, codes, pos, false, None, refl, arith}
use Rattle.std.specs.Fmt.{digits}
use Rattle.ptp_units.specs.Nanoseconds.{decimals}
use Rattle.recording_lines.specs.declared.measurement.Half.TheVariants.{Response}
use Rattle.recording_lines.specs.Measurement.{Measured, json_text}
use Rattle.explain_laws.specs.Measurements.{IsWithinRange}

-- 1,000 ns and 4,000 ns, by a one-step Sync
abbrev measured : Measured
measured = record {
  by = Response;
  own = false;
  line = 5;
  time = codes "8.1";
  report = record {
    offset2 = pos 131072000;
    path2 = pos 524288000;
    sync_tag = 3;
    follow_tag = None;
    request_tag = 4;
    response_tag = 5;
  };
}

text_is : json_text measured
    ≡ codes "{\"by\":\"response\",\"line\":5,\"offset\":\"1000\",\"offset2\":\"131072000\",\"path\":\"4000\",\"path2\":\"524288000\",\"tags\":[3,null,4,5],\"time\":\"8.1\"}\n"
unfolding digits decimals
text_is = refl

is_within : IsWithinRange measured
is_within = record {
  line = omega arith;
  tags = record { sync = omega arith; follow = tt; request = omega arith; response = omega arith };
  offset = omega arith;
  path = omega arith;
  time = refl;
}
