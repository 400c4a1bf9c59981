use Rattle.std.proofs.Common.{IsTrue}
use Rattle.capture_laws.proofs.OneAnswer.{answers_one}
use Rattle.capture_laws.proofs.laws.octets_have_one_answer.Goals as goal

pub returns : goal.returns
returns g c = λ of_device sole start octets left before after unread earlier later answer other are one two sure sure'.
    answers_one g.T.PacketTask.rules start (λ fault. IsTrue (of_device fault)) sole octets are left before after unread earlier later answer other one two sure sure'
