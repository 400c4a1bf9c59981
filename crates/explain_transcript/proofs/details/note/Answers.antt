use Rattle.explain_transcript.proofs.Noting.{note_told}
use Rattle.explain_transcript.proofs.details.note.Goals as goal

pub returns-in_ok-note-in-Some-checker : goal.returns-in_ok-note-in-Some-checker
returns-in_ok-note-in-Some-checker c = λ before enters notes.
    note_told c.args.evidence.now c.note.new.self before c.args.input.now c.in-Transcript.transcript c.args.taken.now.entry
    c.in-Some.entry c.in-Event.number c.in-Event.line c.in-Some-checker.checker.now c.in-Transcript.is
    c.in-Some.is c.in-Event.is enters notes c.in-Some-checker.ensures c.in_ok-note-in-Some-checker.ensures
