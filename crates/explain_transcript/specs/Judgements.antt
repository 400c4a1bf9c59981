-- What `write_judgements` answers and writes, by the input that it reads.
use Rattle.std.specs.Prelude.{◌≡◌, ◌≢◌, ℕ, Bool, true, List, [], if◌then◌else◌, Option, Some, None, Result}
use Rattle.std.specs.Option.{ForSome}
use Rattle.text_lines.specs.declared.counted.Counted.{Counted}
use Rattle.text_lines.specs.declared.fault.Cause.{Cause}
use Rattle.text_lines.specs.declared.fault.Stopped.{Stopped}
use Rattle.text_lines.specs.Counted.{device_of}
use Rattle.text_lines.specs.Task.{Rules, Answers}
use Rattle.schedule_reading.specs.declared.fault.TaskFault.{TaskFault}
use Rattle.schedule_reading.specs.declared.fault.TaskFault.TheVariants.{Write}
use Rattle.schedule_reading.specs.declared.transcript.Judged.{Judged}
use Rattle.text_lines.specs.Lines.{lines_limit}
use Rattle.schedule_reading.specs.Fault.{is_write}
use Rattle.explain_input.specs.declared.input.FoundInput.{FoundInput}
use Rattle.explain_input.specs.declared.input.Input.{Input}
use Rattle.explain_input.specs.Input.{nothing, is_first_refused, Takes, Faults, IsFound, FaultsAtEnd}
use Rattle.explain_transcript.specs.Details.{details_of}
use Rattle.explain_transcript.specs.Judged.{judged_text}

-- whether only the first report that is refused is told, and the input so far
pub record Told : Type 0 where
  pub first : Bool
  pub input : Input

-- whether a report is told: each, or the first that is refused
abbrev pub is_told : Bool → ℕ → Input → Bool
is_told first number input = if first then is_first_refused number input else true

-- what is written of a line after which the input is this: what its report is judged to be, where it has one that is told
abbrev pub told_text : Bool → Input → Option Judged → List ℕ
told_text first later None = []
told_text first later (Some judged) =
    if is_told first judged.event later then judged_text judged (details_of later judged.report) else []

-- the fault of a line: that of the line itself, or that what is written of it couldn't go out
abbrev pub StopsJudging : Bool → TaskFault → Input → List ℕ → Type 0
StopsJudging first Write input line = (later : Input) × (judged : Option Judged) × Takes line input later judged
    × (told_text first later judged ≢ [])
StopsJudging first fault input line = Faults fault input line

-- Of each report that is told a line is written; the answer is what the input is.
abbrev pub judgement_rules : Rules Told FoundInput TaskFault
judgement_rules = record {
  lines_limit = lines_limit;
  Takes = λ line told later written. (judged : Option Judged) × Takes line told.input later.input judged
      × (later.first ≡ told.first) × (written ≡ told_text told.first later.input judged);
  Stops = λ line told fault written. StopsJudging told.first fault told.input line × (written ≡ []);
  Ends = λ lines told answer written. IsFound told.input answer × (written ≡ []);
  StopsAtEnd = λ told fault written. FaultsAtEnd fault told.input × (written ≡ []);
  is_of_writer = is_write;
}

-- what an answer over these octets says, of what is left of them and of what was written
abbrev pub Judges : Bool → List ℕ → (left before after : Option (List ℕ)) → Result FoundInput (Stopped (Cause TaskFault))
    → Type 0
Judges first octets left before after answer =
    Answers judgement_rules (record { first = first; input = nothing }) octets left before after answer

-- what an answer says where the reader tells its octets, and where the writer does
abbrev pub JudgesAnswer : {R W : Type 0} → Bool → (R → Option (List ℕ)) → (W → Option (List ℕ))
    → Result FoundInput (Stopped (Cause TaskFault))
    → (input input' : Counted R) (output output' : Counted W) → Type 0
JudgesAnswer first remaining contents answer input input' output output' =
    ForSome (remaining (device_of input)) (λ octets.
    Judges first octets (remaining (device_of input')) (contents (device_of output)) (contents (device_of output'))
    answer)
