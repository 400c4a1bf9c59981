use Rattle.std.proofs.Common.{sym}
use Rattle.slave_port.specs.History.{Event}
use Rattle.ptpx_c.specs.Slaves.{slaves}
use Rattle.ptpx_c.proofs.Slaves.{heard_by_handle}
use Rattle.ptpx_c.proofs.slave.ptpx_raw_slave_sync.Goals as goal

pub returns-clause-heard : goal.returns-clause-heard
returns-clause-heard c = λ within said reads.
    rw (sym c.in-Ok.ensures.0) (heard_by_handle slaves (Event said c.in-Ok.moment c.args.tag) c.args.slave.now c.port-ring.result.now (record { port = c.sync.new.self }) c.of.result c.sync.result
    c.port-ring.ensures.value c.of.ensures (c.sync.ensures.answer said reads) (c.sync.ensures.stands said reads) c.sync.ensures.ignored)
