use Rattle.std.proofs.Common.{◌∙◌, ap₂}
use Rattle.measure_command.specs.Run.{are_refused}
use Rattle.measure_command.proofs.is_refused.Goals as goal

pub returns : goal.returns
returns c = (
  c.is_doubtful.ensures.0,
  c.are_refused.ensures ∙ ap₂ (are_refused c.args.options.now.strict) c.is_beyond_limit.ensures c.is_doubtful.ensures.1,
)
