use Rattle.std.specs.String.{string_bytes}
use Rattle.std.proofs.lemmas.Result.{IfOk-equal}
use Rattle.slave_port.specs.declared.exchange.LastExchange.{LastExchange}
use Rattle.recording_lines.specs.Measurement.{Measured, measured_of}
use Rattle.recording_measure.specs.Exchange.{row_results, row_times, row_numbers}
use Rattle.recording_measure.proofs.Ways.{three_parts}
use Rattle.recording_measure.proofs.exchange.push_row.Goals as goal

pub returns : goal.returns
returns c =
    let m : Measured = measured_of c.args.measured.now in
    let x : LastExchange = c.args.exchange.now in
    IfOk-equal c.push_row_numbers.result _ _ _ c.push_row_numbers.ensures
    (three_parts (string_bytes c.args.text.now) (row_results m) (row_times x) (row_numbers x) _ _ c.in_ok-push_row_results.ensures c.in_ok-push_row_times.ensures)
