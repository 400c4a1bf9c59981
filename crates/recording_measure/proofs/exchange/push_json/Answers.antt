use Rattle.std.specs.String.{string_bytes}
use Rattle.std.proofs.lemmas.Result.{IfOk-equal}
use Rattle.slave_port.specs.declared.exchange.LastExchange.{LastExchange}
use Rattle.recording_lines.specs.Measurement.{Measured, measured_of}
use Rattle.recording_measure.specs.Exchange.{json_results, json_times, json_tags}
use Rattle.recording_measure.proofs.Ways.{three_parts}
use Rattle.recording_measure.proofs.exchange.push_json.Goals as goal

pub returns : goal.returns
returns c =
    let m : Measured = measured_of c.args.measured.now in
    let x : LastExchange = c.args.exchange.now in
    IfOk-equal c.push_json_tags.result _ _ _ c.push_json_tags.ensures
    (three_parts (string_bytes c.args.text.now) (json_results m x) (json_times x) (json_tags m) _ _ c.in_ok-push_json_results.ensures c.in_ok-push_json_times.ensures)
