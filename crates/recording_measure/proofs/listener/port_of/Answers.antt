use Rattle.std.proofs.Common.{[]}
use Rattle.recording_model.specs.Listening.{setup_with}
use Rattle.recording_measure.proofs.listener.port_of.Goals as goal

pub returns : goal.returns
returns c = c.set_master.ensures (setup_with c.args.watched.now c.args.first.0) [] c.new-port.ensures
