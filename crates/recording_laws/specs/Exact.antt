-- The law of what `measure` writes: each report is exact for the events that its lines tell.
-- `laws::each_measurement_is_exact` promises it.
use Rattle.std.specs.Prelude.{◌≡◌, ℕ, true, List, Some}
use Rattle.std.specs.List.{All}
use Rattle.network_model.specs.Network.{Network, NodeName}
use Rattle.network_model.specs.Run.{Run}
use Rattle.network_model.specs.Premises.{IsAcceptedRun, exact_limits}
use Rattle.text_lines.specs.Task.{TakesLines}
use Rattle.recording_model.specs.declared.watched.Watched.{Watched}
use Rattle.recording_model.specs.Agreement.{Moved}
use Rattle.recording_model.specs.Told.{Tells}
use Rattle.recording_model.specs.Premises.{IsFresh, IsTicked, MissesFew}
use Rattle.recording_model.specs.Exact.{Watches, IsExact}
use Rattle.recording_measure.specs.declared.form.Form.{Form}
use Rattle.recording_measure.specs.declared.watch.WantedPorts.{WantedPorts}
use Rattle.recording_measure.specs.Watch.{watched_in}
use Rattle.recording_measure.specs.Row.{Row, datagrams, heard}
use Rattle.recording_measure.specs.Measured.{texts_as, measurements}
use Rattle.datagram_source.specs.Rules.{LinesRead, nothing_read, line_rules}
use Rattle.recording_measure.specs.Measure.{Recording, begun, is_captured, measure_rules}
use Rattle.recording_laws.specs.Alone.{rows_of}

-- a text is that of what is measured at lines that are heard, whose reports are exact for the events that they tell
pub record WritesExact {network : Network} {slave : NodeName} {run : Run} {moved : Moved} (master : NodeName)
    (w : Watched) (rows : List Row) (tells : Tells network slave w moved run (datagrams rows)) (form : Form)
    (text : List ℕ) : Type 0 where
  pub written : text ≡ texts_as form (measurements w rows)
  pub exact : All (λ m. IsExact master tells m.report) (measurements w rows)

-- Over any accepted run of a network, and lines of which those that are heard tell it at one of its slaves: what is
-- written of the lines is the texts of reports that are exact, where what was captured is measured and no slave's own readings are, no
-- number is too old when it is used, ticks come often enough, and few Delay_Reqs are missing in a row.
abbrev pub EachMeasurementIsExact : Type 0
EachMeasurementIsExact =
    (network : Network) (run : Run) (slave master : NodeName) (w : Watched) (moved : Moved) (form : Form) (wanted : WantedPorts)
    (lines : List (List ℕ)) (read : LinesRead Recording) (text : List ℕ)
    → IsAcceptedRun network run → Watches network slave master w
    → TakesLines (line_rules measure_rules) 1 lines (nothing_read (begun form wanted)) read text
    → is_captured read.state.by ≡ true
    → watched_in wanted (datagrams (rows_of read.state.rows)) ≡ Some w
    → (tells : Tells network slave w moved run (datagrams (heard wanted (rows_of read.state.rows))))
    → IsFresh exact_limits.late tells → IsTicked exact_limits.between_ticks master tells
    → MissesFew exact_limits.late tells
    → WritesExact master w (heard wanted (rows_of read.state.rows)) tells form text
