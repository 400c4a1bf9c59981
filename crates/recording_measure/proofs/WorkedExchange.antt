-- A measurement with its exchange, worked by hand: a = 1000 ns - 1.5 ns, b = 1500 ns - 0.25 ns.
use Rattle.std.proofs.Common.{◌≡◌, ◌+◌, ◌*◌, pos, negsuc, codes, false, None, refl}
use Rattle.std.specs.Fmt.{digits}
use Rattle.ptp_units.specs.Nanoseconds.{decimals}
use Rattle.slave_port.specs.declared.exchange.LastExchange.{LastExchange}
use Rattle.slave_port.specs.Exchange.{IsReportOf}
use Rattle.recording_lines.specs.declared.measurement.Half.TheVariants.{Response}
use Rattle.recording_lines.specs.Measurement.{Measured}
use Rattle.recording_measure.specs.Moment.{moment_text}
use Rattle.recording_measure.specs.Exchange.{row_text, between2}

abbrev measured : Measured
measured = record {
  by = Response;
  own = false;
  line = 3;
  time = codes "1.000005000";
  report = record {
    offset2 = negsuc 32849919;
    path2 = pos 163725312;
    sync_tag = 1;
    follow_tag = None;
    request_tag = 2;
    response_tag = 3;
  };
}

abbrev exchange : LastExchange
exchange = record {
  t1 = 1000000000 * 65536;
  t2 = 1000001000 * 65536;
  t3 = 1000002000 * 65536;
  t4 = 1000003500 * 65536;
  sync_correction = pos 98304;
  follow_correction = pos 0;
  response_correction = pos 16384;
  sync_number = record { 0 = 7 };
  request_number = record { 0 = 9 };
}

row_is : row_text measured exchange
    ≡ codes "1.000005000,-250.625,1249.125,response,3,1.000000000,1.000001000,1.000002000,1.000003500,1.5,0.25,7,9,1000\n"
unfolding digits decimals moment_text between2
row_is = refl

is_of_exchange : IsReportOf exchange measured.report
is_of_exchange = record { offset2 = refl; path2 = refl }

-- half a nanosecond past a second, and 2^-16 ns
half : moment_text (1000000000 * 65536 + 32768) ≡ codes "1.0000000005"
unfolding digits decimals moment_text
half = refl

unit : moment_text 1 ≡ codes "0.0000000000000152587890625"
unfolding digits decimals moment_text
unit = refl
