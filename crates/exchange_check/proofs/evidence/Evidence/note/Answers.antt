use Rattle.exchange_check.proofs.Entries.{on_ok}
use Rattle.exchange_check.proofs.Evidenced.{noted-on}
use Rattle.exchange_check.proofs.evidence.Evidence.note.Goals as goal

pub returns : goal.returns
returns c = on_ok c.note.result (λ step before more was.
    noted-on c.args.checker.now before c.inside.result.0.now c.inside.result.1.now c.args.line.now
    c.args.self.now.exceptions c.note.new.self c.inside.ensures.network c.inside.ensures.kept more step was)
    c.note.ensures
