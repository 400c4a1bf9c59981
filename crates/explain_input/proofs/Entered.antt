-- A line of a transcript that was taken.
use Rattle.std.proofs.Common.{◌≡◌, List, ℕ, Option, Some, Ok, subst}
use Rattle.schedule_lines.specs.declared.reading.transcript.TranscriptLine.{TranscriptLine}
use Rattle.schedule_reading.specs.declared.transcript.Judged.{Judged}
use Rattle.schedule_reading.specs.Entry.{recorded_in}
use Rattle.schedule_reading.specs.Transcript.{Recorded, Takes, TakesAt}
use Rattle.explain_input.specs.declared.input.Input.TheVariants.{Transcript}
use Rattle.explain_input.specs.Input.{Enters}

-- a line is taken as what it was read as
pub line_entered : (line : List ℕ) (entry : TranscriptLine) (judged : Option Judged) (state before later : Recorded)
    → recorded_in line ≡ Ok entry → before ≡ state → TakesAt entry before later judged
    → Takes line state later judged × Enters (Some entry) (Transcript state) (Transcript later)
line_entered line entry judged state before later read same takes =
    let at : TakesAt entry state later judged = subst (λ (s : Recorded). TakesAt entry s later judged) same takes in
    ((entry, read, at), at.0)
