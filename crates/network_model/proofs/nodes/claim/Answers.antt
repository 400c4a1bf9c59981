use Rattle.network_model.proofs.Networks.{AllDiffer-identities}
use Rattle.network_model.proofs.nodes.claim.Goals as goal

pub returns-else-not-branch-clause-apart : goal.returns-else-not-branch-clause-apart
returns-else-not-branch-clause-apart c = λ _. AllDiffer-identities _ c.in_ok-insert.ensures.unique
