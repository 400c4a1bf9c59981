use Rattle.std.proofs.Common.{rules}
use Rattle.slave_port.proofs.Stands.{StandsFor-request}
use Rattle.slave_port.proofs.slave_port.SlavePort.draw_request.Goals as goal

pub returns-clause-stands : goal.returns-clause-stands
returns-clause-stands g c = λ setup history stands.
    let after = StandsFor-request c.args.tag stands in
    search (rules, after)
