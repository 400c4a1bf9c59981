use Rattle.std.proofs.Common.{List, ◌++◌, ℕ, ap, sym}
use Rattle.std.proofs.Output.{has_written_of_eq}
use Rattle.std.specs.Prelude.{Option, codes}
use Rattle.explain_words.specs.Words.{length_text}
use Rattle.explain_findings.specs.declared.known.Place.{Place}
use Rattle.explain_findings.specs.declared.misread.Misread.{Misread}
use Rattle.explain_findings.specs.Known.{named_text}
use Rattle.explain_findings.specs.Misread.{reading_text, setter_text}
use Rattle.explain_findings.proofs.misread.MisreadDisplay.fmt.Goals as goal

-- the text of a reading, by who set the clock
abbrev set_by : Misread → Option Place → List ℕ
set_by misread set =
    named_text misread.named ++ (codes ": " ++ (reading_text misread.reading.read misread.reading.at
    ++ (codes "; wanted is " ++ (length_text misread.wanted.0 ++ setter_text set))))

pub returns-in-Some-clause-writes : goal.returns-in-Some-clause-writes
returns-in-Some-clause-writes g c = λ plain ok.
    has_written_of_eq _ _ _ _ _ (ap (set_by c.args.self.now) (sym c.in-Some.is)) (c.write.ensures.writes plain ok)

pub returns-in-None-clause-writes : goal.returns-in-None-clause-writes
returns-in-None-clause-writes g c = λ plain ok.
    has_written_of_eq _ _ _ _ _ (ap (set_by c.args.self.now) (sym c.in-None.is)) (c.write-in-None.ensures.writes plain ok)
