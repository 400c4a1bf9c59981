use Rattle.explain_findings.proofs.known.Known.named.Goals as goal

pub returns : goal.returns
returns c noted = λ i. record {
  place = c.place.ensures i;
  event = c.event_at.ensures noted i;
  came = c.came_at.ensures noted i;
}
