-- How far `explain` is.
use Rattle.std.specs.Prelude.{◌≡◌, ◌≢◌, ℕ, [], Option, Some, None, option_map, string_bytes, ⊤}
use Rattle.schedule_reading.specs.declared.fault.TaskFault.{TaskFault}
use Rattle.schedule_reading.specs.declared.transcript.Judged.{Judged}
use Rattle.explain_story.specs.Counts.{counts_of}
use Rattle.explain_input.specs.declared.input.Input.{Input}
use Rattle.explain_input.specs.declared.input.Input.TheVariants.{Transcript, Schedule}
use Rattle.explain_transcript.specs.declared.explaining.Explaining.{Explaining}
use Rattle.explain_transcript.specs.declared.flaws.Flaws.{Flaws}
use Rattle.explain_transcript.specs.Explained.{Seen}

-- the first fault of an input, as it is kept
abbrev pub fault_kept : Flaws → ℕ × TaskFault
fault_kept flaws = (flaws.first.line, flaws.first.what)

-- what is kept of the lines of an input
pub record IsExplaining (task : Explaining) (seen : Seen) : Type 0 where
  pub first : seen.first ≡ task.first
  pub input : seen.input ≡ task.input
  pub counts : task.story ≡ counts_of seen.reports
  pub fault : seen.fault ≡ option_map fault_kept task.flaws

-- nothing changed of what the lines were seen to be
pub record IsSeenAlike (task later : Explaining) : Type 0 where
  pub first : later.first ≡ task.first
  pub input : later.input ≡ task.input
  pub fault : option_map fault_kept later.flaws ≡ option_map fault_kept task.flaws

-- nor of the counts and of what is told
pub record IsKeptAlike (task later : Explaining) : Type 0 where
  pub alike : IsSeenAlike task later
  pub counts : later.story ≡ task.story
  pub told : string_bytes later.text ≡ string_bytes task.text

-- an input is a transcript that has an event
abbrev pub HasEvent : Input → Type 0
HasEvent (Transcript state) = state.lines ≢ []
HasEvent (Schedule state) = ⊥

-- so it is where there is a report
abbrev pub HasEventFor : Input → Option Judged → Type 0
HasEventFor input None = ⊤
HasEventFor input (Some judged) = HasEvent input
