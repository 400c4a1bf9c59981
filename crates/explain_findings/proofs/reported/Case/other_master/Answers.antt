use Rattle.explain_findings.proofs.reported.Case.other_master.Goals as goal

pub returns : goal.returns
returns c noted = λ i. record {
  slave = c.port.ensures i;
  told = record { 0 = c.told_master.ensures noted i };
  answered = record { 0 = c.answered.ensures noted i };
  early = record { 0 = c.early.ensures noted i };
}
