use Rattle.std.proofs.Common.{subst}
use Rattle.slave_port.specs.StandsFor.{StandsAfter, IsAnswer}
use Rattle.slave_port.specs.History.{General}
use Rattle.slave_port.proofs.Messages.{said_by}
use Rattle.slave_port.proofs.slave_port.SlavePort.general.Goals as goal

pub returns-in-Ok-clause-answer : goal.returns-in-Ok-clause-answer
returns-in-Ok-clause-answer g c = λ said reading.
    subst (λ said. IsAnswer (General said c.args.tag) c.args.self.now c.general_message.result)
    (said_by c.in-Ok.message c.in-Ok.field-0-1 said (c.in-Ok.ensures.reading said reading)) c.general_message.ensures.answer

pub returns-in-Ok-clause-stands : goal.returns-in-Ok-clause-stands
returns-in-Ok-clause-stands g c = λ said reading.
    subst (λ said. StandsAfter (General said c.args.tag) c.args.self.now c.general_message.new.self)
    (said_by c.in-Ok.message c.in-Ok.field-0-1 said (c.in-Ok.ensures.reading said reading)) c.general_message.ensures.stands
