use Rattle.std.proofs.Common.{sym, ap, ◌∙◌}
use Rattle.event_codec.specs.Packet.{contents}
use Rattle.slave_port.proofs.Messages.{IsAnswered-follow_or_response, general_heard-kept}
use Rattle.slave_port.proofs.slave_port.SlavePort.general_message.Goals as goal

pub returns-clause-answer : goal.returns-clause-answer
returns-clause-answer g c = λ setup history stands.
    (IsAnswered-follow_or_response setup history c.args.self.now stands (contents c.args.message.now) c.args.tag (c.hear_general.new.self, c.hear_general.result) c.hear_general.ensures).answer

pub returns-clause-stands : goal.returns-clause-stands
returns-clause-stands g c = λ setup history stands.
    (IsAnswered-follow_or_response setup history c.args.self.now stands (contents c.args.message.now) c.args.tag (c.hear_general.new.self, c.hear_general.result) c.hear_general.ensures).stands

pub returns-clause-ignored : goal.returns-clause-ignored
returns-clause-ignored g c = λ reason ignored.
    ap (λ outcome. outcome.0) c.hear_general.ensures
    ∙ general_heard-kept c.args.self.now reason (contents c.args.message.now) c.args.tag (ap (λ outcome. outcome.1) (sym c.hear_general.ensures) ∙ ignored)
