use Rattle.std.proofs.Common.{◌∙◌}
use Rattle.copy_stays.proofs.Kept.{once_kept}
use Rattle.copy_stays.proofs.stays.Stays.once.Goals as goal

pub returns-clause-once : goal.returns-clause-once
returns-clause-once c stays leaves number h =
    (λ i. (c.at.ensures i).once) ∙ (λ i. once_kept c.args.self.now stays leaves number h i c.args.copy)
