-- What is kept while an input is measured.
use Rattle.std.specs.Prelude.{◌≡◌, ℕ, ◌+◌, ◌<◌, nat_lt, Bool, min, ◌++◌, List, [], length, get_or, Some, None, Option, Result, OnOk}
use Rattle.text_lines.specs.declared.line_fault.LineFault.{LineFault}
use Rattle.recording_model.specs.declared.watched.Watched.{Watched}
use Rattle.recording_model.specs.Listening.{after_all}
use Rattle.recording_measure.specs.Inner.StandsFor.{StandsFor}
use Rattle.recording_measure.specs.declared.measuring.Measuring.{Measuring}
use Rattle.recording_measure.specs.declared.measuring.Stage.{Stage}
use Rattle.recording_measure.specs.declared.measuring.Stage.TheVariants.{Looking, Hearing}
use Rattle.recording_measure.specs.declared.recording.Recording.{Recording as Known}
use Rattle.recording_measure.specs.declared.watch.WantedPorts.{WantedPorts}
use Rattle.recording_measure.specs.Made.{Measured}
use Rattle.recording_measure.specs.Row.{Row, datagrams, kept_most}
use Rattle.recording_measure.specs.Places.{PlacedRow}
use Rattle.recording_measure.specs.Chosen.{chosen, heard_at, input_watched}
use Rattle.recording_measure.specs.Measure.{Recording, measured_so_far, with_row}
use Rattle.recording_measure.specs.Inner.Handing.{handing_of}
use Rattle.recording_measure.specs.Counts.{IsCounts}
use Rattle.recording_measure.specs.Recents.{AreRecents}
use Rattle.recording_measure.specs.Told.{place_in}
use Rattle.recording_measure.specs.Inner.Counting.{CountsSoFar}
use Rattle.recording_measure.specs.Inner.Stages.{whom_at, input_whom}
use Rattle.recording_measure.specs.Inner.Hearing.{Goes}
use Rattle.recording_measure.specs.Inner.Recordings.{AreRecordings}

-- a port heard these rows of a place
abbrev pub IsHearingAt : Watched → (index : ℕ) → List Row → Stage → Type 0
IsHearingAt watched index rows (Looking count) = ⊥
IsHearingAt watched index rows (Hearing at listener) =
    (at ≡ index) × StandsFor watched listener (after_all watched (datagrams rows))

-- what is done with the next datagram, after these rows, and with what is known of these places
abbrev pub IsStage : WantedPorts → List PlacedRow → List Known → Stage → Type 0
IsStage w rows recordings (Looking count) =
    (chosen w rows ≡ None) × AreRecordings w rows recordings × (count ≡ min (length rows) kept_most)
IsStage w rows recordings (Hearing index listener) =
    (watched : Watched) × (index < length recordings)
    × ((d : Known) → chosen w rows ≡ Some (place_in (get_or recordings index d)))
    × (input_watched w rows ≡ Some watched)
    × StandsFor watched listener (after_all watched (datagrams (heard_at w rows)))

-- what is kept is that of these rows
pub record IsMeasuring (task : Measuring) (r : Recording) : Type 0 where
  pub form : task.reports.reports.form ≡ r.form
  pub wanted : task.wanted ≡ r.wanted
  pub stage : IsStage r.wanted r.rows task.recordings.recordings.items task.stage
  pub whom : whom_at task.stage task.recordings.recordings.items ≡ input_whom r.wanted r.rows
  pub counts : CountsSoFar r.wanted (chosen r.wanted r.rows) r.rows task.reports.reports.tally.counts
  pub recents : AreRecents (measured_so_far r) task.reports.reports.recents
  pub handing : task.reports.reports.recents.fresh.handing ≡ handing_of r

-- A datagram comes by which it isn't known yet whom to watch. It was counted, and is kept where few came before.
pub record IsLooking (task : Measuring) (r : Recording) (is_kept : Bool) : Type 0 where
  pub form : task.reports.reports.form ≡ r.form
  pub wanted : task.wanted ≡ r.wanted
  pub unchosen : chosen r.wanted r.rows ≡ None
  pub recordings : AreRecordings r.wanted r.rows task.recordings.recordings.items
  pub kept : is_kept ≡ nat_lt (length r.rows) kept_most
  pub nothing : IsCounts [] task.reports.reports.tally.counts
  pub recents : AreRecents [] task.reports.reports.recents
  pub handing : task.reports.reports.recents.fresh.handing ≡ handing_of r
  pub counted : (count : ℕ) × (task.stage ≡ Looking count) × (count ≡ min (length r.rows + 1) kept_most)

-- one more row was taken, and the reports that it brings went out, or some of them before a fault
abbrev pub AddsRow : {T : Type 0} → Result T LineFault → Recording → PlacedRow → Measuring → (before after : Option (List ℕ)) → Type 0
AddsRow result r row new before after =
    OnOk result (IsMeasuring new (with_row row r))
    × (ms : List Measured) × (measured_so_far (with_row row r) ≡ ms ++ measured_so_far r)
    × Goes r.form result ms before after
