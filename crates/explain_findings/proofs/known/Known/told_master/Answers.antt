use Rattle.std.proofs.Common.{◌∙◌, ap, sym}
use Rattle.explain_findings.specs.Known.{lines_of}
use Rattle.explain_findings.specs.OtherMaster.{master_by, master_in}
use Rattle.explain_findings.proofs.known.Known.told_master.Goals as goal

pub returns-in-Some : goal.returns-in-Some
returns-in-Some c noted =
    c.master_in.ensures ∙ (λ i. master_in (c.event_at.ensures noted i) (c.named.ensures noted i))
    ∙ ap (master_by (lines_of c.args.self.now)) (sym c.in-Some.is ∙ c.master_told.ensures)
