use Rattle.std.proofs.Common.{◌∷◌, Ok, refl}
use Rattle.event_codec.specs.Packet.{contents}
use Rattle.slave_port.specs.History.{Call, General}
use Rattle.recording_model.specs.Listening.{setup_in}
use Rattle.recording_measure.proofs.Listeners.{StandsFor-told}
use Rattle.recording_measure.proofs.listener.Listener.tell_general.Goals as goal

pub returns-clause-listens : goal.returns-clause-listens
returns-clause-listens c = λ w l is.
    let call : Call = General (Ok (contents c.args.message.now)) c.args.line in
    let stood = c.general_message-heard.ensures.stands (setup_in w l) l.calls is.port in
    StandsFor-told w c.args.self.now l call c.general_message-heard.new.self refl stood is

pub returns-clause-reply : goal.returns-clause-reply
returns-clause-reply c = λ w l is.
    let call : Call = General (Ok (contents c.args.message.now)) c.args.line in
    let stood = c.general_message-heard.ensures.stands (setup_in w l) l.calls is.port in
    let answer = c.general_message-heard.ensures.answer (setup_in w l) l.calls is.port in
    let exchange = c.last_exchange-exchange.ensures.exchange (setup_in w l) (call ∷ l.calls) stood in
    λ i. record { heard = answer i; exchange = exchange i }
