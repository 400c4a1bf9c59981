use Rattle.std.proofs.Common.{rules, map}
use Rattle.std.specs.Int.{w128}
use Rattle.std.proofs.lemmas.Int.{to_z-of_z}
use mir.Val.{SFits}
use Rattle.tap_sums.specs.declared.spread.Quantity.TheVariants.{Taken, Corrected, Rest}
use Rattle.tap_sums.specs.Sums.{value_of}
use Rattle.tap_sums.proofs.Kept.{had}
use Rattle.tap_sums.proofs.figures.KindFigures.take.Goals as goal

pub returns : goal.returns
returns c = λ earlier at.
    let x = c.args.crossing.now in
    let taken : SFits w128 x.taken = search rules in
    let corrected : SFits w128 x.corrected = search rules in
    let rest : SFits w128 x.rest = search rules in
    record {
      course = c.take.ensures earlier at.course;
      taken = had (value_of Taken) x earlier _ c.take-2.new.self (to_z-of_z w128 x.taken taken)
          (c.in_ok-take.ensures (map (value_of Taken) earlier) at.taken);
      corrected = had (value_of Corrected) x earlier _ c.take-3.new.self (to_z-of_z w128 x.corrected corrected)
          (c.in_ok-take-2.ensures (map (value_of Corrected) earlier) at.corrected);
      rest = had (value_of Rest) x earlier _ c.take-4.new.self (to_z-of_z w128 x.rest rest)
          (c.in_ok-take-3.ensures (map (value_of Rest) earlier) at.rest);
    }
