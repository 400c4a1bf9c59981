-- Of how many records nothing is told, by what messages brought.
use Rattle.std.specs.Prelude.{◌≡◌, Bool, true, false, List, count_by}
use Rattle.statistics.specs.Wide.{at_most}
use Rattle.tap_crossing.specs.declared.crossing.NoCrossing.{NoCrossing}
use Rattle.tap_crossing.specs.declared.crossing.NoCrossing.TheVariants as reasons
use Rattle.tap_crossing.specs.declared.crossing.MessageOutcome.{MessageOutcome}
use Rattle.tap_crossing.specs.declared.crossing.MessageOutcome.TheVariants as outcomes
use Rattle.tap_sums.specs.declared.untold.Untold.{Untold}

-- a message's place was taken, so its record is spoiled from now on
abbrev pub is_spoiling : MessageOutcome → Bool
is_spoiling outcomes.Waits = false
is_spoiling outcomes.Spoils = true
is_spoiling outcomes.IsSpoiled = false
is_spoiling (outcomes.Crossed x) = false
is_spoiling (outcomes.Closed reason) = false

-- a record closed for a reason for which this is so
abbrev pub is_closed : (NoCrossing → Bool) → MessageOutcome → Bool
is_closed is outcomes.Waits = false
is_closed is outcomes.Spoils = false
is_closed is outcomes.IsSpoiled = false
is_closed is (outcomes.Crossed x) = false
is_closed is (outcomes.Closed reason) = is reason

abbrev pub too_big : NoCrossing → Bool
too_big reasons.TooBig = true
too_big reasons.TwoStepAtFromAlone = false
too_big reasons.OtherTimestamp = false

abbrev pub two_step_at_from_alone : NoCrossing → Bool
two_step_at_from_alone reasons.TooBig = false
two_step_at_from_alone reasons.TwoStepAtFromAlone = true
two_step_at_from_alone reasons.OtherTimestamp = false

abbrev pub other_timestamp : NoCrossing → Bool
other_timestamp reasons.TooBig = false
other_timestamp reasons.TwoStepAtFromAlone = false
other_timestamp reasons.OtherTimestamp = true

-- these are the counts of what messages brought
pub record AreUntold (all : List MessageOutcome) (u : Untold) : Type 0 where
  pub spoiled : u.spoiled ≡ at_most (count_by is_spoiling all)
  pub too_big : u.too_big ≡ at_most (count_by (is_closed too_big) all)
  pub two_step_at_from_alone : u.two_step_at_from_alone ≡ at_most (count_by (is_closed two_step_at_from_alone) all)
  pub other_timestamp : u.other_timestamp ≡ at_most (count_by (is_closed other_timestamp) all)
