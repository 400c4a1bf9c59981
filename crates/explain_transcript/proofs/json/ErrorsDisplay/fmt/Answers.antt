use Rattle.std.proofs.Common.{append_assoc, rules, FitsSigned}
use Rattle.std.proofs.Output.{has_written_of_eq}
use Rattle.std.proofs.lemmas.Int.{to_z-of_z}
use Rattle.std.specs.Int.{w128}
use Rattle.explain_transcript.proofs.json.ErrorsDisplay.fmt.Goals as goal

pub returns-in-Some-clause-writes : goal.returns-in-Some-clause-writes
returns-in-Some-clause-writes g c = λ plain ok.
    let offset : FitsSigned w128 c.in-Some.errors.offset2 = search rules in
    let path : FitsSigned w128 c.in-Some.errors.path2 = search rules in
    has_written_of_eq _ _ _ _ _ (rw c.in-Some.is (simp (to_z-of_z, append_assoc))) (c.write.ensures.writes plain ok)
