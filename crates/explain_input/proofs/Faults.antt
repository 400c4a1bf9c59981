-- The fault of a line of an input.
use Rattle.std.proofs.Common.{◌≡◌, inr, refl, ℕ, List, Option, None}
use Rattle.std.specs.Option.{MatchOption}
use Rattle.network_model.specs.declared.event.Event.{Event}
use Rattle.world_model.specs.State.{State}
use Rattle.schedule_reading.specs.declared.fault.TaskFault.{TaskFault}
use Rattle.schedule_reading.specs.declared.fault.TaskFault.TheVariants.{Write, Json, Field, World, Memory}
use Rattle.schedule_reading.specs.Transcript.{Recorded, FaultsInTranscript}
use Rattle.explain_input.specs.declared.input.Input.{Input}
use Rattle.explain_input.specs.declared.input.Input.TheVariants.{Transcript}
use Rattle.explain_input.specs.Input.{BeginsSchedule, Faults}

-- a line of a transcript
pub transcript_fault : (fault : TaskFault) (state : Recorded) (line : List ℕ)
    → ((event : Event) → BeginsSchedule line state event → ⊥)
    → FaultsInTranscript fault state.nodes state.lines line → Faults fault (Transcript state) line
transcript_fault Memory state line no_schedule faults = tt
transcript_fault Write state line no_schedule faults = faults
transcript_fault Json state line no_schedule faults = inr (no_schedule, faults)
transcript_fault Field state line no_schedule faults = inr (no_schedule, faults)
transcript_fault (World why) state line no_schedule faults = inr (no_schedule, faults)

-- a line of a transcript that isn't taken, and doesn't begin a schedule
pub not_taken : (fault : TaskFault) (input : Input) (state later : Recorded) (line : List ℕ)
    (begun : Option State) (Begun : State → Type 0)
    → input ≡ Transcript state → (later ≡ state) × FaultsInTranscript fault state.nodes state.lines line
    → begun ≡ None → MatchOption begun ((event : Event) → BeginsSchedule line later event → ⊥) Begun
    → (Transcript later ≡ input) × Faults fault input line
not_taken fault input state later line begun Begun is (same, faults) none not_begun =
    rw (is, same) (refl, transcript_fault fault state line (rw (none, same) at not_begun) faults)
