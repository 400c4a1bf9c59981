-- A line does one thing to an input, or has one fault, and a whole input is one thing, or has one fault, where no device
-- failed and no memory was refused.
use Rattle.std.proofs.Common.{◌≡◌, ◌∙◌, ◌⊎◌, inl, inr, ℕ, List, [], Option, Ok, sym, ap, subst}
use Rattle.std.specs.Prelude.{option_map}
use Rattle.network_model.specs.declared.event.Event.{Event}
use Rattle.network_model.specs.Clash.{first_clash}
use Rattle.world_model.specs.State.{State, new_state}
use Rattle.schedule_lines.specs.declared.reading.schedule.Line.TheVariants as entries
use Rattle.schedule_lines.specs.declared.reading.transcript.TranscriptLine.{TranscriptLine}
use Rattle.schedule_reading.specs.declared.fault.TaskFault.{TaskFault}
use Rattle.schedule_reading.specs.declared.fault.TaskFault.TheVariants.{Write, Json, Field, World, Memory}
use Rattle.schedule_reading.specs.declared.transcript.Judged.{Judged}
use Rattle.schedule_reading.specs.Entry.{entry_in, recorded_in}
use Rattle.schedule_reading.specs.Schedule.{FaultsIn}
use Rattle.schedule_reading.specs.Transcript.{Recorded, Follows, FaultsInTranscript, judged_in}
use Rattle.schedule_reading.proofs.OneFault.{IsInText, same_fault, entry_fault, the_fault, happens_well}
use Rattle.schedule_reading.proofs.OneFault.{record_fault, the_record_fault, no_record_fault, one_recorded, no_checker, no_clash}
use Rattle.schedule_reading.proofs.OneForm.{one_form}
use Rattle.explain_input.specs.declared.input.FoundInput.{FoundInput}
use Rattle.explain_input.specs.declared.input.Input.{Input}
use Rattle.explain_input.specs.declared.input.Input.TheVariants.{Transcript, Schedule}
use Rattle.explain_input.specs.Input.{Happens, BeginsSchedule, Takes, Faults, IsFound, FaultsAtEnd}

-- ---- a line does one thing

one_happening : (event : Event) (state one other : State) → Happens event state one → Happens event state other → other ≡ one
one_happening event state one other h k = k.2 ∙ sym h.2

one_event : (line : List ℕ) (event other : Event) → entry_in line ≡ Ok (entries.Event event) → entry_in line ≡ Ok (entries.Event other) → other ≡ event
one_event line event other h k = cc (h, k)

pub one_taken : (line : List ℕ) (input one other : Input) (judged judged' : Option Judged) → Takes line input one judged → Takes line input other judged'
    → (other ≡ one) × (judged' ≡ judged)
one_taken line (Transcript state) (Transcript one) (Transcript other) judged judged' (entry, is, (follows, report)) (entry', is', (follows', report')) =
    let same : entry' ≡ entry = cc (is, is') in (
      ap Transcript (one_recorded state one other entry follows (subst (λ (e : TranscriptLine). Follows e state other) same follows')),
      report' ∙ ap (judged_in state) same ∙ sym report,
    )
one_taken line (Transcript state) (Transcript one) (Schedule other) judged judged' (entry, is, (follows, report)) (event, begins, happens, none) =
    absurd (one_form line event entry begins.1 is)
one_taken line (Transcript state) (Schedule one) (Transcript other) judged judged' (event, begins, happens, none) (entry, is, (follows, report)) =
    absurd (one_form line event entry begins.1 is)
one_taken line (Transcript state) (Schedule one) (Schedule other) judged judged' (event, begins, happens, none) (event', begins', happens', none') =
    let same = one_event line event event' begins.1 begins'.1 in (
      ap Schedule (one_happening event (new_state state.nodes) one other happens
          (subst (λ (e : Event). Happens e (new_state state.nodes) other) same happens')),
      none' ∙ sym none,
    )
one_taken line (Schedule state) (Schedule one) (Schedule other) judged judged' ((event, is, happens), none) ((event', is', happens'), none') =
    let same = one_event line event event' is is' in (
      ap Schedule (one_happening event state one other happens (subst (λ (e : Event). Happens e state other) same happens')),
      none' ∙ sym none,
    )
one_taken line (Schedule state) (Transcript one) other judged judged' takes takes' = absurd takes
one_taken line (Schedule state) (Schedule one) (Transcript other) judged judged' takes takes' = absurd takes'

-- ---- or has one fault

-- the fault of a line of what is a transcript so far
abbrev pub FaultsBegun : TaskFault → Recorded → List ℕ → Type 0
FaultsBegun fault state line =
    ((event : Event) × BeginsSchedule line state event × FaultsIn fault state.nodes [] line)
    ⊎ (((event : Event) → BeginsSchedule line state event → ⊥) × FaultsInTranscript fault state.nodes state.lines line)

pub of_transcript : (fault : TaskFault) (state : Recorded) (line : List ℕ) → IsInText fault → Faults fault (Transcript state) line → FaultsBegun fault state line
of_transcript Write state line own faults = absurd own
of_transcript Json state line own faults = faults
of_transcript Field state line own faults = faults
of_transcript (World why) state line own faults = faults
of_transcript Memory state line own faults = absurd own

pub of_schedule : (fault : TaskFault) (state : State) (line : List ℕ) → IsInText fault → Faults fault (Schedule state) line → FaultsIn fault state.network state.run line
of_schedule Write state line own faults = absurd own
of_schedule Json state line own faults = faults
of_schedule Field state line own faults = faults
of_schedule (World why) state line own faults = faults
of_schedule Memory state line own faults = absurd own

-- an event that happens has no fault
no_event_fault : (line : List ℕ) (event : Event) (state later : State) (fault : TaskFault) → entry_in line ≡ Ok (entries.Event event) → Happens event state later
    → IsInText fault → FaultsIn fault state.network state.run line → ⊥
no_event_fault line event state later fault is happens own faults =
    let none = ap (entry_fault state.network state.run) is ∙ happens_well state.network state.run event happens.0 happens.1 in
    let some = the_fault state.network state.run line fault own faults in
    absurd (cc (none, some))

pub no_input_fault : (line : List ℕ) (input later : Input) (judged : Option Judged) (fault : TaskFault) → IsInText fault → Takes line input later judged
    → Faults fault input line → ⊥
no_input_fault line (Transcript state) (Transcript later) judged fault own (entry, is, (follows, report)) faults =
    go (of_transcript fault state line own faults)
  where
    go : FaultsBegun fault state line → ⊥
    go (inl (event, begins, of_event)) = one_form line event entry begins.1 is
    go (inr (none_begins, of_line)) =
        let none = ap (record_fault state) is ∙ no_record_fault state later entry follows in
        let some = the_record_fault state line fault own of_line in
        absurd (cc (none, some))
no_input_fault line (Transcript state) (Schedule later) judged fault own (event, begins, happens, none) faults =
    go (of_transcript fault state line own faults)
  where
    go : FaultsBegun fault state line → ⊥
    go (inl (event', begins', of_event)) = no_event_fault line event (new_state state.nodes) later fault begins.1 happens own of_event
    go (inr (none_begins, of_line)) = none_begins event begins
no_input_fault line (Schedule state) (Schedule later) judged fault own ((event, is, happens), none) faults =
    no_event_fault line event state later fault is happens own (of_schedule fault state line own faults)
no_input_fault line (Schedule state) (Transcript later) judged fault own takes faults = absurd takes

pub one_input_fault : (line : List ℕ) (input : Input) (one other : TaskFault) → IsInText one → IsInText other → Faults one input line → Faults other input line → other ≡ one
one_input_fault line (Transcript state) one other own own' faults faults' =
    go (of_transcript one state line own faults) (of_transcript other state line own' faults')
  where
    go : FaultsBegun one state line → FaultsBegun other state line → other ≡ one
    go (inl (event, begins, of_event)) (inl (event', begins', of_event')) =
        same_fault (entry_fault state.nodes [] (entry_in line)) one other (the_fault state.nodes [] line one own of_event) (the_fault state.nodes [] line other own' of_event')
    go (inl (event, begins, of_event)) (inr (none_begins, of_line)) = absurd (none_begins event begins)
    go (inr (none_begins, of_line)) (inl (event, begins, of_event)) = absurd (none_begins event begins)
    go (inr (none_begins, of_line)) (inr (none_begins', of_line')) =
        same_fault (record_fault state (recorded_in line)) one other (the_record_fault state line one own of_line) (the_record_fault state line other own' of_line')
one_input_fault line (Schedule state) one other own own' faults faults' =
    same_fault (entry_fault state.network state.run (entry_in line)) one other
    (the_fault state.network state.run line one own (of_schedule one state line own faults))
    (the_fault state.network state.run line other own' (of_schedule other state line own' faults'))

-- ---- the end

pub one_found : (input : Input) (one other : FoundInput) → IsFound input one → IsFound input other → other ≡ one
one_found (Transcript state) one other h k = k.1 ∙ sym h.1
one_found (Schedule state) one other h k = k ∙ sym h

pub no_fault_found : (input : Input) (found : FoundInput) (fault : TaskFault) → IsInText fault → IsFound input found → FaultsAtEnd fault input → ⊥
no_fault_found (Transcript state) found fault own is faults = no_clash fault state.nodes (no_checker fault state own faults.1) is.0
no_fault_found (Schedule state) found fault own is faults = faults

pub one_fault_found : (input : Input) (one other : TaskFault) → IsInText one → IsInText other → FaultsAtEnd one input → FaultsAtEnd other input → other ≡ one
one_fault_found (Transcript state) one other own own' faults faults' =
    same_fault (option_map World (first_clash state.nodes)) one other (no_checker one state own faults.1) (no_checker other state own' faults'.1)
one_fault_found (Schedule state) one other own own' faults faults' = absurd faults
