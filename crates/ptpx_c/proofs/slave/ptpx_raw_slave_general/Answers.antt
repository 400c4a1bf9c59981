use Rattle.slave_port.specs.History.{General}
use Rattle.ptpx_c.specs.Slaves.{slaves}
use Rattle.ptpx_c.proofs.Slaves.{heard_by_handle}
use Rattle.ptpx_c.proofs.slave.ptpx_raw_slave_general.Goals as goal

pub returns : goal.returns
returns c = λ said reads.
    heard_by_handle slaves (General said c.args.tag) c.args.slave.now c.port-ring.result.now (record { port = c.general.new.self }) c.of.result c.general.result
    c.port-ring.ensures.value c.of.ensures (c.general.ensures.answer said reads) (c.general.ensures.stands said reads) c.general.ensures.ignored
