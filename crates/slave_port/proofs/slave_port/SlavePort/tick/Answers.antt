use Rattle.std.proofs.Common.{rules}
use Rattle.slave_port.proofs.Stands.{StandsFor-tick}
use Rattle.slave_port.proofs.slave_port.SlavePort.tick.Goals as goal

pub returns : goal.returns
returns g c = λ setup history stands. search (rules, StandsFor-tick)
