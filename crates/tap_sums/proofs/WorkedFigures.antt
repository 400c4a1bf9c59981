-- Worked cases: of four messages what changed; and why nothing is told of records.
use Rattle.std.proofs.Common.{true, List, [], ◌∷◌, refl}
use Rattle.tap_crossing.specs.declared.changes.Changes.{Changes}
use Rattle.tap_crossing.specs.declared.crossing.NoCrossing.TheVariants.{TooBig, TwoStepAtFromAlone, OtherTimestamp}
use Rattle.tap_crossing.specs.declared.crossing.MessageOutcome.{MessageOutcome}
use Rattle.tap_crossing.specs.declared.crossing.MessageOutcome.TheVariants.{Waits, Spoils, IsSpoiled, Closed}
use Rattle.tap_crossing.specs.Changes.{no_changes}
use Rattle.tap_sums.specs.Changed.{AreChanged}
use Rattle.tap_sums.specs.Untold.{AreUntold}

-- a flag of two messages, and the log interval of one of these
abbrev changes : List Changes
changes = no_changes ∷ record no_changes { flags = true; log = true } ∷ record no_changes { flags = true } ∷ no_changes ∷ []

changed : AreChanged changes (record {
  messages = 2;
  sdo = 0;
  minor_version = 0;
  flags = 2;
  specific = 0;
  control = 0;
  log = 1;
  timestamp = 0;
})
changed = record {
  messages = refl;
  sdo = refl;
  minor_version = refl;
  flags = refl;
  specific = refl;
  control = refl;
  log = refl;
  timestamp = refl;
}

-- a record that two messages came to once it was spoiled counts once
abbrev outcomes : List MessageOutcome
outcomes = Closed OtherTimestamp ∷ IsSpoiled ∷ Closed TooBig ∷ IsSpoiled ∷ Spoils ∷ Waits ∷ Closed TwoStepAtFromAlone
    ∷ Closed OtherTimestamp ∷ []

untold : AreUntold outcomes (record { spoiled = 1; too_big = 1; two_step_at_from_alone = 1; other_timestamp = 2 })
untold = record { spoiled = refl; too_big = refl; two_step_at_from_alone = refl; other_timestamp = refl }
