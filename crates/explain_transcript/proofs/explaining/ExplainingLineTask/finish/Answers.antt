use Rattle.std.proofs.Common.{rules}
use Rattle.explain_transcript.proofs.explaining.ExplainingLineTask.finish.Goals as goal

pub returns-clause-ended : goal.returns-clause-ended
returns-clause-ended g c = λ state is. (
  _,
  c.in_ok-found.ensures state (record { first = is.first; input = is.input; counts = is.counts; fault = is.fault }) (search rules),
  c.in_ok-write.ensures.written,
)
