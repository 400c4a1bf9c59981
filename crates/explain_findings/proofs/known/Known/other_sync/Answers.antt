use Rattle.explain_findings.specs.declared.mispaired.Mispaired.TheVariants.{OtherSync}
use Rattle.explain_findings.proofs.known.Known.other_sync.Goals as goal

pub returns : goal.returns
returns c noted = λ i.
    OtherSync (c.sent.ensures noted i) (c.named.ensures noted i) (record { 0 = c.follows.ensures noted i })
