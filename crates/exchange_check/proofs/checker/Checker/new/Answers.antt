use Rattle.std.proofs.Common.{sym, subst, length}
use Rattle.trace_model.specs.Line.{Lines}
use Rattle.exchange_check.specs.Inner.Machine.{IsKept, machine}
use Rattle.exchange_check.proofs.checker.Checker.new.Goals as goal

pub invariant_of-result : goal.invariant_of-result
invariant_of-result c =
    subst (λ (fed : Lines). IsKept c.args.nodes c.new-2.result (length fed) (machine c.args.nodes fed)) (sym c.new.ensures)
    (c.new-2.ensures c.args.nodes)
