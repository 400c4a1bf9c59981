use Rattle.std.proofs.Common.{rules}
use Rattle.std.proofs.lemmas.Result.{err_from_is_err_and}
use Rattle.network_model.specs.declared.node.NodeKind.TheVariants as kinds
use Rattle.schedule_lines.proofs.Asked.{no_port_node}
use Rattle.schedule_lines.proofs.reading.schedule.node_spec_in.Goals as goal

pub returns-in_err-name-in-master : goal.returns-in_err-name-in-master
returns-in_err-name-in-master g c =
    let e = err_from_is_err_and c.from_residual.result c.from_residual.ensures.1 in
    rw (e.1, e.2) (no_port_node _ c.in-Some-as_str.text.now _ kinds.Master (search rules) (search rules) (search rules) c.in_err-name-in-master.ensures)

pub returns-in_err-name-in-slave : goal.returns-in_err-name-in-slave
returns-in_err-name-in-slave g c =
    let e = err_from_is_err_and c.from_residual-in_err-name-in-slave.result c.from_residual-in_err-name-in-slave.ensures.1 in
    rw (e.1, e.2) (no_port_node _ c.in-Some-as_str.text.now _ kinds.Slave (search rules) (search rules) (search rules) c.in_err-name-in-slave.ensures)
