use Rattle.std.proofs.Common.{◌++◌}
use Rattle.std.proofs.Output.{has_written_of_eq}
use Rattle.std.specs.Prelude.{codes}
use Rattle.explain_words.specs.Words.{length_text}
use Rattle.explain_findings.proofs.misread.TooLongDisplay.fmt.Goals as goal

pub returns-clause-writes : goal.returns-clause-writes
returns-clause-writes g c = λ plain ok.
    has_written_of_eq _ _ _ _ _
    (λ i. codes "the " ++ (c.name_of.ensures i ++ (codes " is to have " ++ (length_text c.args.self.now.sum.0
    ++ (codes " in its correctionField, " ++ (c.of_clocks.ensures i ++ (codes "; it can say less than "
    ++ length_text (c.too_big.ensures i))))))))
    (c.write.ensures.writes plain ok)
