-- A line that is taken by what it is.
use Rattle.std.proofs.Common.{◌≡◌, ◌∙◌, inr, ap, subst, ℕ, List, Option, Result, Ok, Err}
use Rattle.std.specs.Prelude.{MatchResult}
use Rattle.schedule_lines.specs.declared.reading.transcript.TranscriptLine.{TranscriptLine}
use Rattle.schedule_reading.specs.declared.fault.TaskFault.{TaskFault}
use Rattle.schedule_reading.specs.declared.fault.TaskFault.TheVariants.{Write, Json, Field, World, Memory}
use Rattle.schedule_reading.specs.declared.transcript.Judged.{Judged}
use Rattle.schedule_reading.specs.Entry.{recorded_in}
use Rattle.schedule_reading.specs.Transcript.{Recorded, FaultsInTranscript, StopsAt, Takes, TakesAt}

-- why what a line is isn't taken is the fault of the line
pub stops_line : (fault : TaskFault) (state : Recorded) (entry : TranscriptLine) (line : List ℕ) → recorded_in line ≡ Ok entry
    → StopsAt fault state entry → FaultsInTranscript fault state.nodes state.lines line
stops_line Write state entry line read stops = stops
stops_line Json state entry line read stops = absurd stops
stops_line Field state entry line read stops = inr (entry, read, stops)
stops_line (World why) state entry line read (first, is, none, clash) =
    (first, read ∙ ap (λ (e : TranscriptLine). Ok e) is, none, clash)
stops_line Memory state entry line read stops = tt

pub taken : (r : Result (Option Judged) TaskFault) (line : List ℕ) (entry : TranscriptLine) (state before later : Recorded)
    → recorded_in line ≡ Ok entry → before ≡ state
    → MatchResult r (λ judged. TakesAt entry before later judged) (λ fault. (later ≡ before) × StopsAt fault before entry)
    → MatchResult r (λ judged. Takes line state later judged)
    (λ fault. (later ≡ state) × FaultsInTranscript fault state.nodes state.lines line)
taken (Ok judged) line entry state before later read same takes =
    (entry, read, subst (λ (s : Recorded). TakesAt entry s later judged) same takes)
taken (Err fault) line entry state before later read same (still, stops) =
    (still ∙ same, stops_line fault state entry line read (subst (λ (s : Recorded). StopsAt fault s entry) same stops))
