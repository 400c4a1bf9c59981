-- The law that what was met at one place is measured as a recording is of which that is all.
-- `laws::one_place_is_measured_alone` promises it.
use Rattle.std.specs.Prelude.{◌≡◌, ℕ, List, ◌∷◌, map, Some, None, false}
use Rattle.std.specs.List.{All}
use Rattle.text_lines.specs.Task.{TakesLines}
use Rattle.datagram_source.specs.Rules.{LinesRead, nothing_read, line_rules}
use Rattle.recording_model.specs.declared.watched.Watched.{Watched}
use Rattle.recording_measure.specs.Measure.{Recording, begun, measure_rules}
use Rattle.recording_measure.specs.declared.form.Form.{Form}
use Rattle.recording_measure.specs.declared.watch.WantedPorts.{WantedPorts}
use Rattle.recording_measure.specs.Row.{Row, datagrams}
use Rattle.recording_measure.specs.Measured.{written}
use Rattle.recording_measure.specs.Places.{PlaceName, PlacedRow, is_same_place}
use Rattle.recording_measure.specs.Chosen.{chosen, input_watched, input_written}
use Rattle.recording_measure.specs.Counts.{fates_in, told_fates}
use Rattle.recording_measure.specs.Summary.{whom_in, told_whom}

-- neither a slave nor a master nor a domain is asked for
pub record AsksForNothing (w : WantedPorts) : Type 0 where
  pub slave : w.slave ≡ None
  pub master : w.master ≡ None
  pub domain : w.domain ≡ None

-- the rows without their places
abbrev pub rows_of : List PlacedRow → List Row
rows_of rows = map (λ r. r.row) rows

-- all were met at this place
abbrev pub AreAt : PlaceName → List PlacedRow → Type 0
AreAt place rows = All (λ r. r.place ≡ place) rows

-- Of lines, which are met at no place of a name: what is written, whom they are of, and what comes of each, is by their numbers,
-- times and datagrams alone. Of the packets in one stream of an interface what is written is, where nothing is asked for; and once one
-- stream is measured, a datagram of another one, or of another interface, changes nothing of what is written.
pub record OnePlaceIsMeasuredAlone : Type 0 where
  pub nameless : (form : Form) (w : WantedPorts) (lines : List (List ℕ)) (read : LinesRead Recording) (text : List ℕ)
      → TakesLines (line_rules measure_rules) 1 lines (nothing_read (begun form w)) read text → AreAt None read.state.rows
  pub lines : (form : Form) (w : WantedPorts) (rows : List PlacedRow) → AreAt None rows
      → input_written form w rows ≡ written form w (rows_of rows)
  pub whom : (w : WantedPorts) (rows : List PlacedRow) → AreAt None rows → told_whom w rows ≡ whom_in w (datagrams (rows_of rows))
  pub fates : (w : WantedPorts) (rows : List PlacedRow) → AreAt None rows → told_fates w rows ≡ fates_in w (rows_of rows)
  pub interface : (form : Form) (w : WantedPorts) (place : PlaceName) (rows : List PlacedRow) → AsksForNothing w → AreAt place rows
      → input_written form w rows ≡ written form w (rows_of rows)
  pub others : (form : Form) (w : WantedPorts) (rows : List PlacedRow) (r : PlacedRow) (place : PlaceName) (watched : Watched)
      → chosen w rows ≡ Some place → input_watched w rows ≡ Some watched → is_same_place place r.place ≡ false
      → input_written form w (r ∷ rows) ≡ input_written form w rows
