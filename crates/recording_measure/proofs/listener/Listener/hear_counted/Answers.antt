use Rattle.std.proofs.Common.{Ok}
use Rattle.event_codec.specs.Packet.{contents}
use Rattle.slave_port.specs.History.{Call, Event}
use Rattle.recording_model.specs.Listening.{told}
use Rattle.recording_measure.proofs.listener.Listener.hear_counted.Goals as goal

pub returns-clause-listens : goal.returns-clause-listens
returns-clause-listens c = λ w l is.
    let call : Call = Event (Ok (contents c.args.message.now)) c.args.time c.args.line in
    c.count_sync.ensures w (told call l) (c.tell_event-reply.ensures.listens w l is)
