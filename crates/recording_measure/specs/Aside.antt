-- How many datagrams are left aside: of those that were captured, where a slave's own readings are measured; and of messages that tell
-- readings, where these aren't taken.
use Rattle.std.specs.Prelude.{◌≡◌, ℕ}
use Rattle.recording_measure.specs.declared.aside.Aside.{Aside}
use Rattle.recording_measure.specs.declared.readings.By.{By}
use Rattle.recording_measure.specs.declared.readings.By.TheVariants.{Any, Captured, Own}
use Rattle.recording_measure.specs.Counts.{at_most}
use Rattle.recording_measure.specs.Measure.{Recording}

-- of so many of the four messages that were captured
abbrev pub captured_aside : By → (captured : ℕ) → ℕ
captured_aside Any captured = 0
captured_aside Captured captured = 0
captured_aside (Own slave) captured = captured

-- so many were, as far as is counted
pub record IsAside (r : Recording) (aside : Aside) : Type 0 where
  pub captured : aside.captured ≡ at_most (captured_aside r.by r.captured)
  pub untaken : aside.untaken ≡ at_most r.untaken
