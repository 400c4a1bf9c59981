use Rattle.std.proofs.Common.{rules}
use Rattle.recording_model.specs.Listening.{setup_in, table_capacity}
use Rattle.recording_measure.proofs.listener.Listener.tell_master.Goals as goal

pub returns : goal.returns
returns c = λ line w l is.
    let told = c.set_master.ensures (setup_in w l) l.calls is.port in
    let forgot = c.forget.ensures table_capacity l.responses is.responses in
    search (rules, told, forgot, is)
