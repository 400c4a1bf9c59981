-- What is written of a line, by whether its report is told.
use Rattle.std.proofs.Common.{◌≡◌, ◌≢◌, ◌∙◌, ◌++◌, ℕ, Bool, true, false, List, [], Option, Some, Result, Ok, Err}
use Rattle.std.proofs.Common.{refl, ap}
use Rattle.std.specs.Prelude.{MatchResult}
use Rattle.std.specs.Io.KnownBytes.{Appends}
use Rattle.text_lines.specs.Task.{WentOut}
use Rattle.schedule_reading.specs.declared.fault.TaskFault.{TaskFault}
use Rattle.schedule_reading.specs.declared.fault.TaskFault.TheVariants.{Write}
use Rattle.schedule_reading.specs.declared.transcript.Judged.{Judged}
use Rattle.schedule_reading.specs.Fault.{is_write}
use Rattle.explain_input.specs.declared.input.Input.{Input}
use Rattle.explain_input.specs.Input.{Takes}
use Rattle.explain_transcript.specs.declared.details.Details.{Details}
use Rattle.explain_transcript.specs.Details.{details_of}
use Rattle.explain_transcript.specs.Judged.{judged_text}
use Rattle.explain_transcript.specs.Judgements.{Told, StopsJudging, is_told, told_text}

pub untold : (first : Bool) (later : Input) (judged : Judged) → is_told first judged.event later ≡ false
    → [] ≡ told_text first later (Some judged)
untold first later judged is = rw is refl

-- of a report that is told
pub told : (first : Bool) (later : Input) (judged : Judged) (details : Details) (old text : List ℕ)
    → is_told first judged.event later ≡ true → details ≡ details_of later judged.report → old ≡ []
    → text ≡ old ++ judged_text judged details → text ≡ told_text first later (Some judged)
told first later judged details old text is same empty written =
    written ∙ ap (λ (t : List ℕ). t ++ judged_text judged details) empty ∙ ap (judged_text judged) same ∙ rw is refl

-- and it is something
some_text : (first : Bool) (later : Input) (judged : Judged) → is_told first judged.event later ≡ true
    → told_text first later (Some judged) ≢ []
some_text first later judged is = λ none.
    let all : judged_text judged (details_of later judged.report) ≡ [] = rw is at none in absurd (cc all)

-- a line whose report is told went out, or the writer failed at it
pub told_line : (Failed : Type 0) (r : Result (Unit {0}) TaskFault) (state : Told) (later : Input) (line : List ℕ) (judged : Judged)
    (text : List ℕ) (before after : Option (List ℕ)) (Noted : Type 0)
    → is_told state.first judged.event later ≡ true → text ≡ told_text state.first later (Some judged)
    → Takes line state.input later (Some judged) → Noted
    → MatchResult r (λ _. Appends before after text) (λ fault. Failed × (fault ≡ Write))
    → MatchResult r
    (λ _. (next : Told) × (written : List ℕ) × ((next ≡ record { first = state.first; input = later }) × Noted)
    × ((one : Option Judged) × Takes line state.input next.input one × (next.first ≡ state.first)
    × (written ≡ told_text state.first next.input one)) × Appends before after written)
    (λ fault. (written : List ℕ) × (StopsJudging state.first fault state.input line × (written ≡ []))
    × WentOut (is_write fault) (Appends before after written))
told_line Failed (Ok x) state later line judged text before after Noted is written takes noted out = (
  record { first = state.first; input = later },
  text,
  (refl, noted),
  (Some judged, takes, refl, written),
  out,
)
told_line Failed (Err fault) state later line judged text before after Noted is written takes noted out =
    rw out.1 ([], ((later, Some judged, takes, some_text state.first later judged is), refl), tt)
