use Rattle.std.proofs.Common.{[], rules}
use Rattle.recording_model.specs.Listening.{setup_in, setup_with, table_capacity}
use Rattle.recording_measure.proofs.listener.Listener.begin_anew.Goals as goal

pub returns : goal.returns
returns c = λ line w l is.
    let restarted = c.restart.ensures (setup_in w l) l.calls is.port in
    let told = c.set_master.ensures (setup_with w c.args.number.0) [] restarted in
    let forgot = c.forget.ensures table_capacity l.responses is.responses in
    search (rules, told, forgot, is)
