use Rattle.std.proofs.Common.{refl, sym, rules}
use Rattle.tap_follow.specs.Course.{Course}
use Rattle.tap_follow.specs.SoFar.{crossings_so_far}
use Rattle.tap_follow.proofs.summary.Summary.ending.Goals as goal

pub returns-clause-ending : goal.returns-clause-ending
returns-clause-ending c = λ (course : Course) is.
    let figures = c.in_ok-figures.ensures course is in
    let sums = c.sums.ensures course is in (
      c.in_ok-followed.followed,
      sym (c.in_ok-followed.ensures course is),
      record {
        from = refl;
        to = refl;
        is_slave_known = search rules;
        syncs = c.kind_ending.ensures course is figures;
        requests = c.kind_ending-2.ensures course is figures;
        ways = (
          c.new-ways.result,
          c.new-ways.ensures.ways (crossings_so_far course) sums figures,
          record {
            rate = c.told_rate.ensures;
            asymmetry = c.told_asymmetry.ensures;
            mean_rest = c.told_mean_rest.ensures;
            bewares = c.bewares.ensures;
          },
        );
        changed = figures.changed;
      },
    )
