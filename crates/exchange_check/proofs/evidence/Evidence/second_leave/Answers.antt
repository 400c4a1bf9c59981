use Rattle.std.proofs.Common.{◌∙◌}
use Rattle.exchange_check.proofs.evidence.Evidence.second_leave.Goals as goal

pub returns : goal.returns
returns c noted h = c.copied.ensures ∙ c.get.ensures.value ∙ (λ i. (h i).seconds c.args.entered)
