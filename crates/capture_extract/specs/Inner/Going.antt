-- What went out of a table.
use Rattle.std.specs.Prelude.{◌≢◌, ℕ, List, [], Option, Result, Ok, Err}
use Rattle.std.specs.Io.KnownBytes.{Appends}
use Rattle.text_lines.specs.declared.counted.Counted.{Counted}
use Rattle.text_lines.specs.declared.line_fault.LineFault.{LineFault}
use Rattle.text_lines.specs.declared.line_fault.LineFault.TheVariants.{Field}
use Rattle.text_lines.specs.Counted.{device_of, HasNotFailed, HasFailedIf}
use Rattle.text_lines.specs.Fault.{is_write}
use Rattle.text_lines.specs.Task.{WentOut}

-- such a text went out, or nothing did where memory was refused, or the writer failed
abbrev pub GoesOut : {T W : Type 0} → (W → Option (List ℕ)) → (IsText : List ℕ → Type 0) → Result T LineFault
    → (output output' : Counted W) → Type 0
GoesOut contents IsText (Ok done) output output' =
    ((text : List ℕ) × IsText text × Appends (contents (device_of output)) (contents (device_of output')) text)
    × HasNotFailed output output'
GoesOut contents IsText (Err fault) output output' =
    (fault ≢ Field) × WentOut (is_write fault) (Appends (contents (device_of output)) (contents (device_of output')) [])
    × HasFailedIf (is_write fault) output output'
