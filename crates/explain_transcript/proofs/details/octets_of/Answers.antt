use Rattle.std.proofs.Common.{◌∙◌, Option, Some, sym, ap}
use Rattle.trace_model.specs.declared.finding.Finding.{Finding}
use Rattle.explain_transcript.specs.declared.details.Octets.{Octets}
use Rattle.explain_transcript.specs.Details.{octets_of}
use Rattle.explain_transcript.proofs.details.octets_of.Goals as goal

pub returns-in-Some : goal.returns-in-Some
returns-in-Some c evidence =
    ap (λ (o : Octets). Some o) c.fields_of.ensures
    ∙ ap (λ (wrong : Option Finding). octets_of wrong c.args.otherwise) (sym c.in-Some.is ∙ c.finding.ensures evidence)

pub returns-in-None : goal.returns-in-None
returns-in-None c evidence =
    ap (λ (wrong : Option Finding). octets_of wrong c.args.otherwise) (sym c.in-None.is ∙ c.finding.ensures evidence)
