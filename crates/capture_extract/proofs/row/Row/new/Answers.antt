use Rattle.std.proofs.Common.{◌≡◌, ◌∙◌, [], Some, sym, ap}
use Rattle.std.proofs.Common.{arith}
use Rattle.std.proofs.lemmas.Grind.{common_steps}
use Rattle.ptp_units.specs.Moment.{stamp_of}
use Rattle.capture_extract.proofs.row.Row.new.Goals as goal

pub returns : goal.returns
returns c =
    let m = c.args.listed.now in
    let new = c.tally.new.self in
    let time : c.split-time.result.0 ≡ stamp_of m.time = ap (λ p. p.0) c.split-time.ensures.exact in record {
      counts = c.tally.ensures.counts [] (record {
        count = omega arith;
        one_step = omega arith;
        two_step = omega arith;
        versions = λ minor below. grind (arith, common_steps);
        flow = c.new.ensures;
      });
      first = ap Some (sym (c.tally.ensures.first ∙ time));
      last = ap Some (sym (c.tally.ensures.last ∙ time));
      least = ap Some (sym (ap (λ x. x.0) c.tally.ensures.least));
      greatest = ap Some (sym (ap (λ x. x.0) c.tally.ensures.greatest));
    }
