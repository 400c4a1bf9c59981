use Rattle.std.proofs.Common.{◌≡◌, ◌∙◌, ℤ, Some, Option, sym, ap}
use Rattle.ptp_units.specs.Moment.{stamp_of}
use Rattle.statistics.specs.Cases.{first_of}
use Rattle.capture_extract.specs.Row.{lesser, greater}
use Rattle.capture_extract.proofs.Counts.{first_stays}
use Rattle.capture_extract.proofs.row.Row.count.Goals as goal

pub returns : goal.returns
returns c = λ ms h.
    let m = c.args.listed.now in
    let old = c.args.self.now in
    let new = c.tally.new.self in
    let last : new.last ≡ stamp_of m.time = c.tally.ensures.last ∙ ap (λ p. p.0) c.split-last.ensures.exact in
    let first : old.first ≡ new.first = sym c.tally.ensures.first in
    let least : new.least.0 ≡ lesser m.header.correction.0 (Some old.least.0) =
    ap (λ x. x.0) c.tally.ensures.least ∙ c.lesser-self.ensures in
    let greatest : new.greatest.0 ≡ greater m.header.correction.0 (Some old.greatest.0) =
    ap (λ x. x.0) c.tally.ensures.greatest ∙ c.greater-self.ensures in record {
      counts = c.tally.ensures.counts ms (record {
        count = h.counts.count;
        one_step = h.counts.one_step;
        two_step = h.counts.two_step;
        versions = h.counts.versions;
        flow = h.counts.flow;
      });
      first = first_stays (first_of ms) m old.first h.first ∙ ap Some first;
      last = ap Some (sym last);
      least = ap (λ (o : Option ℤ). Some (lesser m.header.correction.0 o)) h.least ∙ ap Some (sym least);
      greatest = ap (λ (o : Option ℤ). Some (greater m.header.correction.0 o)) h.greatest ∙ ap Some (sym greatest);
    }
