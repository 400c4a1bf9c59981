use Rattle.ptpx_c.specs.Slaves.{slaves}
use Rattle.ptpx_c.proofs.Slaves.{same_handle, last_by_handle}
use Rattle.ptpx_c.proofs.slave.ptpx_raw_slave_last.Goals as goal

pub returns-clause-last : goal.returns-clause-last
returns-clause-last c =
    last_by_handle slaves c.args.slave.now c.port-ring.result.now c.last_exchange.result c.put_last.result c.args.exchange.now c.put_last.new.exchange
    c.port-ring.ensures.value c.put_last.ensures c.last_exchange.ensures.exchange

pub returns-clause-kept : goal.returns-clause-kept
returns-clause-kept c = same_handle c.args.slave.now c.port-ring.result.now c.port-ring.ensures.value
