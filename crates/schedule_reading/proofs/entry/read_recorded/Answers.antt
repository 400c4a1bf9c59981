use Rattle.std.proofs.Common.{inr, refl, sym}
use Rattle.std.proofs.lemmas.Result.{err_from_is_err_and}
use Rattle.schedule_lines.specs.TranscriptLine.{transcript_line_of}
use Rattle.schedule_reading.proofs.Entries.{unread, was_read}
use Rattle.schedule_reading.proofs.entry.read_recorded.Goals as goal

pub returns-in_err-value : goal.returns-in_err-value
returns-in_err-value c =
    let e = err_from_is_err_and c.from_residual.result c.from_residual.ensures.1 in
    rw (e.1, e.2) (unread transcript_line_of c.args.line.now _ c.in_err-value.ensures)

pub returns-in-Ok : goal.returns-in-Ok
returns-in-Ok c = was_read transcript_line_of c.args.line.now _ _ c.in_ok-value.ensures (sym c.in-Ok.ensures.0)

pub returns : goal.returns
returns c = inr (inr refl, was_read transcript_line_of c.args.line.now _ _ c.in_ok-value.ensures (sym c.in-Err.ensures.0))
