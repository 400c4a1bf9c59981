use Rattle.std.proofs.Common.{rules}
use Rattle.capture_file.proofs.Ends.{closes_behind}
use Rattle.capture_file.proofs.section_reading.close.Goals as goal

pub returns-clause-closed : goal.returns-clause-closed
returns-clause-closed g c =
    let (passed, read, count) = c.in_ok-pass_rest.ensures.passed in
    closes_behind c.args.order c.args.total c.args.seen c.read_last.result _ _ _ passed read (search rules) c.read_last.ensures.closed
