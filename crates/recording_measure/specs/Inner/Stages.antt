-- Whom an input is of, by what is kept of it.
use Rattle.std.specs.Prelude.{List, Option, None, option_map, slice_get}
use Rattle.recording_summary.specs.declared.whom.Whom.{Whom}
use Rattle.recording_measure.specs.declared.measuring.Stage.{Stage}
use Rattle.recording_measure.specs.declared.measuring.Stage.TheVariants.{Looking, Hearing}
use Rattle.recording_measure.specs.declared.recording.Recording.{Recording}
use Rattle.recording_measure.specs.declared.watch.WantedPorts.{WantedPorts}
use Rattle.recording_measure.specs.Row.{datagrams}
use Rattle.recording_measure.specs.Places.{PlacedRow, rows_at}
use Rattle.recording_measure.specs.Chosen.{chosen}
use Rattle.recording_measure.specs.Summary.{whom_in}
use Rattle.recording_measure.specs.Inner.Watching.{whom_of}

-- what is known at the place that is measured
abbrev pub whom_at : Stage → List Recording → Option Whom
whom_at (Looking count) known = None
whom_at (Hearing index listener) known = option_map (λ r. whom_of r.watch) (slice_get known index)

-- and by its rows
abbrev pub input_whom : WantedPorts → List PlacedRow → Option Whom
input_whom w rows = option_map (λ place. whom_in w (datagrams (rows_at place rows))) (chosen w rows)
