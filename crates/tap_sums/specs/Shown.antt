-- What can be shown as nanoseconds.
use Rattle.std.specs.Prelude.{◌^◌, ◌<◌, ℤ, pos, negsuc, ◌<ℤ◌, IfSome}
use Rattle.tap_sums.specs.declared.beware.Ways.{Ways}
use Rattle.tap_sums.specs.declared.spread.BothWays.{BothWays}
use Rattle.tap_sums.specs.declared.spread.Spread.{Spread}
use Rattle.tap_sums.specs.declared.spread.Statistics.{Statistics}

-- a number of units
pub record IsShown (units : ℤ) : Type 0 where
  pub above : negsuc (2 ^ 102) <ℤ units
  pub below : units <ℤ pos (2 ^ 102)

pub record AreShown (s : Spread) : Type 0 where
  pub least : IsShown s.least
  pub greatest : IsShown s.greatest
  pub mean : IsShown s.mean

pub record AreToldShown (s : Statistics) : Type 0 where
  pub taken : IfSome s.taken AreShown
  pub corrected : IfSome s.corrected AreShown
  pub rest : IfSome s.rest AreShown
  pub step : IfSome s.step (λ units. units < 2 ^ 98)

pub record AreBothShown (b : BothWays) : Type 0 where
  pub asymmetry : IfSome b.asymmetry IsShown
  pub mean_rest : IfSome b.mean_rest IsShown

pub record AreWaysShown (w : Ways) : Type 0 where
  pub syncs : AreToldShown w.syncs.statistics
  pub requests : AreToldShown w.requests.statistics
  pub both : AreBothShown w.both
