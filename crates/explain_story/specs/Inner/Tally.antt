-- Counts of reports, as they are kept.
use Rattle.std.specs.Prelude.{ℕ, map}
use Rattle.trace_model.specs.declared.verdict.Why.{Why}
use Rattle.trace_model.specs.declared.verdict.Why.TheVariants.{NoSuchLine, OtherNumber, OtherMaster, BrokenJourney}
use Rattle.trace_model.specs.declared.verdict.Why.TheVariants.{WrongReading, WrongValue, TooBig, Bytes}
use Rattle.explain_story.specs.declared.tally.Failing.{Failing}
use Rattle.explain_story.specs.declared.tally.Tally.{Tally}
use Rattle.explain_story.specs.Counts.{Counts, told_reasons}

-- against how many reports this reason stands
abbrev pub failing_in : Failing → Why → ℕ
failing_in failing NoSuchLine = failing.no_such_line
failing_in failing BrokenJourney = failing.broken_journey
failing_in failing OtherNumber = failing.other_number
failing_in failing OtherMaster = failing.other_master
failing_in failing WrongReading = failing.wrong_reading
failing_in failing TooBig = failing.too_big
failing_in failing WrongValue = failing.wrong_value
failing_in failing Bytes = failing.bytes

-- all counts
abbrev pub counts_in : Tally → Counts
counts_in tally = record {
  reports = tally.reports;
  sound = tally.sound;
  octets_alone = tally.octets_alone;
  by_readings = tally.by_readings;
  failing = map (failing_in tally.failing) told_reasons;
}
