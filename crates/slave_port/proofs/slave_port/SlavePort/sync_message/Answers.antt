use Rattle.std.proofs.Common.{sym, ap, ◌∙◌}
use Rattle.event_codec.specs.Packet.{contents}
use Rattle.slave_port.proofs.Messages.{IsAnswered-sync, sync_heard-kept}
use Rattle.slave_port.proofs.slave_port.SlavePort.sync_message.Goals as goal

pub returns-clause-answer : goal.returns-clause-answer
returns-clause-answer g c = λ setup history stands.
    (IsAnswered-sync setup history c.args.self.now stands (contents c.args.message.now) c.args.t2 c.args.tag (c.hear_event.new.self, c.hear_event.result) c.hear_event.ensures).answer

pub returns-clause-stands : goal.returns-clause-stands
returns-clause-stands g c = λ setup history stands.
    (IsAnswered-sync setup history c.args.self.now stands (contents c.args.message.now) c.args.t2 c.args.tag (c.hear_event.new.self, c.hear_event.result) c.hear_event.ensures).stands

pub returns-clause-ignored : goal.returns-clause-ignored
returns-clause-ignored g c = λ reason ignored.
    ap (λ outcome. outcome.0) c.hear_event.ensures
    ∙ sync_heard-kept c.args.self.now reason (contents c.args.message.now) c.args.t2 c.args.tag (ap (λ outcome. outcome.1) (sym c.hear_event.ensures) ∙ ignored)
