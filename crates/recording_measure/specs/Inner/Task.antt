-- What is kept while what was captured, or a slave's own readings, are measured.
use Rattle.std.specs.Prelude.{◌≡◌, ℕ, List, ◌++◌, Option, Result, MatchResult}
use Rattle.std.specs.Io.KnownBytes.{Appends}
use Rattle.text_lines.specs.declared.line_fault.LineFault.{LineFault}
use Rattle.datagram_source.specs.Datagram.{DatagramOf}
use Rattle.recording_measure.specs.Made.{Measured}
use Rattle.recording_measure.specs.Measured.{texts_as}
use Rattle.recording_measure.specs.Counts.{at_most}
use Rattle.recording_measure.specs.declared.aside.Passed.{Passed}
use Rattle.recording_measure.specs.declared.own.OwnMessage.{OwnMessage}
use Rattle.recording_measure.specs.declared.task.MeasureTask.{MeasureTask}
use Rattle.recording_measure.specs.Measure.{Recording, measured_so_far, TakesOwn, TakesSome}
use Rattle.recording_measure.specs.Inner.Hearing.{GoesUntil}
use Rattle.recording_measure.specs.Inner.Measuring.{IsMeasuring}

-- so many were counted, as far as is counted
pub record AreCounted (messages telling : ℕ) (passed : Passed) : Type 0 where
  pub captured : passed.captured ≡ at_most messages
  pub untaken : passed.untaken ≡ at_most telling

-- what is kept is that of these rows
pub record IsTask (task : MeasureTask) (r : Recording) : Type 0 where
  pub measuring : IsMeasuring task.measuring r
  pub by : task.by ≡ r.by
  pub passed : AreCounted r.captured r.untaken task.passed

-- it was read on so, and the reports that this brings went out, or before a fault some of those that a part of it brings
abbrev pub Adds : {T : Type 0} → Result T LineFault → (Whole Part : Recording → Type 0) → Recording → MeasureTask
    → (before after : Option (List ℕ)) → Type 0
Adds result Whole Part r new before after = MatchResult result
    (λ _. (later : Recording) × Whole later × IsTask new later
    × (ms : List Measured) × (measured_so_far later ≡ ms ++ measured_so_far r) × Appends before after (texts_as r.form ms))
    (λ fault. (upto : Recording) × Part upto
    × (ms : List Measured) × (measured_so_far upto ≡ ms ++ measured_so_far r) × GoesUntil r.form fault ms before after)

-- the messages that readings stand for were taken
abbrev pub AddsOwn : {T : Type 0} → Result T LineFault → (told : DatagramOf) → List OwnMessage → Recording → MeasureTask
    → (before after : Option (List ℕ)) → Type 0
AddsOwn result told messages r new before after =
    Adds result (TakesOwn told messages r) (TakesSome told messages r) r new before after
