use Rattle.std.proofs.Common.{◌≡◌, ◌∙◌, Some, sym, append_assoc, rules, FitsSigned}
use Rattle.std.proofs.Output.{has_written_of_eq}
use Rattle.std.proofs.lemmas.Int.{to_z-of_z}
use Rattle.std.specs.Int.{w128}
use Rattle.explain_transcript.specs.Judged.{difference, sum}
use Rattle.explain_transcript.proofs.json.BracketsDisplay.fmt.Goals as goal

pub returns-in-Some-difference-clause-writes : goal.returns-in-Some-difference-clause-writes
returns-in-Some-difference-clause-writes g c = λ plain ok.
    let offset2 : FitsSigned w128 c.in-Some.results.offset2 = search rules in
    let path2 : FitsSigned w128 c.in-Some.results.path2 = search rules in
    let first : FitsSigned w128 c.in-Some-sum.a2 = search rules in
    let second : FitsSigned w128 c.in-Some-difference.b2 = search rules in
    let a2 : sum c.in-Some.results.path2 c.in-Some.results.offset2 ≡ Some c.in-Some-sum.a2 =
    sym (simp to_z-of_z at c.sum.ensures) ∙ c.in-Some-sum.is in
    let b2 : difference c.in-Some.results.path2 c.in-Some.results.offset2 ≡ Some c.in-Some-difference.b2 =
    sym (simp to_z-of_z at c.difference.ensures) ∙ c.in-Some-difference.is in
    has_written_of_eq _ _ _ _ _ (rw (c.in-Some.is, a2, b2) (simp (to_z-of_z, append_assoc))) (c.write.ensures.writes plain ok)
