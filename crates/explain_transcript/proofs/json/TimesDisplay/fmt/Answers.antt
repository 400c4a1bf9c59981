use Rattle.std.proofs.Output.{has_written_of_eq}
use Rattle.explain_transcript.proofs.Joined.{moments_joined}
use Rattle.explain_transcript.proofs.json.TimesDisplay.fmt.Goals as goal

pub returns-in-Some-clause-writes : goal.returns-in-Some-clause-writes
returns-in-Some-clause-writes g c = λ plain ok.
    has_written_of_eq _ _ _ _ _ (moments_joined c.args.self.now.0 c.in-Some.moments c.in-Some.is) (c.write.ensures.writes plain ok)
