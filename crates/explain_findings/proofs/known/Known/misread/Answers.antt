use Rattle.explain_findings.proofs.known.Known.misread.Goals as goal

pub returns : goal.returns
returns c noted = λ i. record {
  named = c.named.ensures noted i;
  reading = record { read = c.wrong_reading.ensures noted i; at = c.true_moment.ensures noted i };
  wanted = record { 0 = c.difference_set.ensures noted i };
  set = c.setter.ensures i;
}
