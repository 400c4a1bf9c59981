use Rattle.master_port.proofs.Reading.{answer_as_read}
use Rattle.master_port.proofs.port.MasterPort.delay_req.Goals as goal

pub returns-in-Ok : goal.returns-in-Ok
returns-in-Ok c = λ said h.
    let same = answer_as_read c.args.self.now.config c.in-Ok.message _ said c.args.t4 (c.in-Ok.ensures.reading said h) in
    rw same c.answer.ensures
