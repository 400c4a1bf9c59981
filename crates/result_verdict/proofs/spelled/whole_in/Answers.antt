use Rattle.result_verdict.proofs.Digits.{below_whole}
use Rattle.result_verdict.proofs.spelled.whole_in.Goals as goal

pub returns-clause-within : goal.returns-clause-within
returns-clause-within c = below_whole c.args.text.now _ c.number_in.ensures.value c.number_in.ensures.within
