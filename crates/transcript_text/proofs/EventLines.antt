-- The line of an event that happened, and why there is none.
use Rattle.std.proofs.Common.{◌≡◌, ◌∙◌, ap, subst, ℕ, List, Option, Result, Ok, Err}
use Rattle.std.specs.Prelude.{MatchResult, is_ok}
use Rattle.std.specs.Io.KnownBytes.{Appends}
use Rattle.serde_json.specs.Data.{Data}
use Rattle.network_model.specs.declared.event.Event.{Event}
use Rattle.network_model.specs.declared.stepped.Stepped.{Stepped}
use Rattle.network_model.specs.Outcome.{IsStepped}
use Rattle.world_model.specs.State.{State, after}
use Rattle.trace_model.specs.declared.line.TraceLine.{TraceLine}
use Rattle.trace_model.specs.Told.{TellsAnswer}
use Rattle.schedule_lines.specs.Written.{event_data, line_text}
use Rattle.schedule_reading.specs.declared.fault.TaskFault.{TaskFault}
use Rattle.schedule_reading.specs.declared.fault.TaskFault.TheVariants as tasks
use Rattle.transcript_text.specs.Replay.{IsEventLine}
use Rattle.transcript_text.specs.Inner.Replaying.{LeavesUnwritten}
use Rattle.transcript_text.specs.Inner.Replaying.{WritesNone, StopsEvent}

pub told_line : (old new : State) (event : Event) (stepped : Stepped) (recorded : TraceLine) (value : Data)
    → IsStepped old.network old.run event stepped → new ≡ after event old → TellsAnswer new.network new.run event stepped recorded
    → value ≡ event_data stepped.tag recorded → IsEventLine old.network old.run event (line_text value)
told_line old new event stepped recorded value answered new_is told value_is = record {
  recorded = recorded;
  told = record {
    stepped = stepped;
    answered = answered;
    told = subst (λ (w : State). TellsAnswer w.network w.run event stepped recorded) new_is told;
  };
  text = ap line_text value_is ∙ ap (λ (n : ℕ). line_text (event_data n recorded)) answered.tag;
}

-- an event that happened, and whose line wasn't written
pub unwritten_event : (fault : TaskFault) (world : State) (event : Event) (stepped : Stepped) (before after : Option (List ℕ))
    → IsStepped world.network world.run event stepped → LeavesUnwritten fault before after → StopsEvent fault world event × WritesNone fault before after
unwritten_event tasks.Memory world event stepped before after answered kept = (tt, kept)
unwritten_event tasks.Write world event stepped before after answered kept = (ap is_ok answered.outcome, tt)
unwritten_event tasks.Json world event stepped before after answered kept = absurd kept
unwritten_event tasks.Field world event stepped before after answered kept = absurd kept
unwritten_event (tasks.World why) world event stepped before after answered kept = absurd kept

-- what comes of writing the line of an event that happened
pub written_event : {A : Type 0} (r : Result A TaskFault) (old new : State) (event : Event) (stepped : Stepped) (recorded : TraceLine) (value : Data)
    (before later : Option (List ℕ)) → IsStepped old.network old.run event stepped → new ≡ after event old
    → TellsAnswer new.network new.run event stepped recorded → value ≡ event_data stepped.tag recorded
    → MatchResult r (λ _. Appends before later (line_text value)) (λ fault. LeavesUnwritten fault before later)
    → MatchResult r (λ _. (new ≡ after event old) × ((line : List ℕ) × IsEventLine old.network old.run event line × Appends before later line))
    (λ fault. StopsEvent fault old event × WritesNone fault before later)
written_event (Ok x) old new event stepped recorded value before later answered new_is told value_is appended =
    (new_is, (line_text value, told_line old new event stepped recorded value answered new_is told value_is, appended))
written_event (Err fault) old new event stepped recorded value before later answered new_is told value_is kept =
    unwritten_event fault old event stepped before later answered kept
