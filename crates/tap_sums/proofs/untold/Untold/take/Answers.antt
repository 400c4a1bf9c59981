use Rattle.std.proofs.Common.{◌∙◌}
use Rattle.tap_sums.specs.Untold.{is_spoiling, is_closed, too_big, two_step_at_from_alone, other_timestamp}
use Rattle.statistics.proofs.Counts.{count_more}
use Rattle.tap_sums.proofs.untold.Untold.take.Goals as goal

pub returns : goal.returns
returns c = λ earlier at.
    let x = c.args.outcome.now in
    record {
      spoiled = c.count_if-self.ensures ∙ count_more is_spoiling x earlier _ _ c.is_spoiling.ensures at.spoiled;
      too_big = c.count_if-self-2.ensures ∙ count_more (is_closed too_big) x earlier _ _ c.is_too_big.ensures at.too_big;
      two_step_at_from_alone = c.count_if-self-3.ensures
          ∙ count_more (is_closed two_step_at_from_alone) x earlier _ _ c.is_two_step_at_from_alone.ensures at.two_step_at_from_alone;
      other_timestamp = c.count_if-self-4.ensures
          ∙ count_more (is_closed other_timestamp) x earlier _ _ c.is_other_timestamp.ensures at.other_timestamp;
    }
