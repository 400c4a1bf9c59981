use Rattle.std.proofs.Common.{rules, ◌≡◌, Some}
use Rattle.pairing.specs.Marked.{find}
use Rattle.slave_port.proofs.Stands.{StandsFor-not_held, StandsFor-departure}
use Rattle.slave_port.proofs.slave_port.SlavePort.request_left.Goals as goal

pub returns-in_default-clause-stands : goal.returns-in_default-clause-stands
returns-in_default-clause-stands g c = λ setup history stands. search (rules, StandsFor-not_held)

pub returns-clause-stands : goal.returns-clause-stands
returns-clause-stands g c = λ setup history stands.
    let found : find c.args.number.0 c.args.self.now.requests ≡ Some c.in-Some.request = search rules in
    let after = StandsFor-departure c.args.number.0 c.args.t3 c.in-Some.request found stands in
    search (rules, after)
