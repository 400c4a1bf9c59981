use Rattle.std.proofs.Common.{rules}
use Rattle.explain_transcript.proofs.Seen.{looked_at}
use Rattle.explain_transcript.proofs.explaining.ExplainingLineTask.take.Goals as goal

pub returns-clause-taken : goal.returns-clause-taken
returns-clause-taken g c = λ state is.
    looked_at c.write.result c.tell_line.new.self state c.args.line.now _ _ _
    (c.in_ok-tell_line.ensures state (record { first = is.first; input = is.input; counts = is.counts; fault = is.fault }) (search rules))
    c.write.ensures.written
