-- What is asked of a run whose reports are exact: no number is too old when it is heard, and slaves tick often enough.
use Rattle.std.specs.Prelude.{◌≡◌, ℕ, ◌+◌, ◌<◌, ◌≤◌, Bool, ◌||◌, true, false, [], ◌∷◌, count_by, if◌then◌else◌, IsTrue}
use Rattle.std.specs.Prelude.{Ok, Err, Result, IfSome}
use Rattle.std.specs.Option.{option_map_or}
use Rattle.slave_port.specs.declared.heard.Heard.{Heard}
use Rattle.slave_port.specs.declared.heard.Heard.TheVariants as answers
use Rattle.network_model.specs.declared.event.Event.{Event}
use Rattle.network_model.specs.declared.refusal.WorldRefusal.{WorldRefusal}
use Rattle.network_model.specs.declared.stepped.Outcome.{Outcome}
use Rattle.network_model.specs.declared.stepped.Outcome.TheVariants as outcomes
use Rattle.network_model.specs.Network.{Network, NodeName, IsNetwork}
use Rattle.network_model.specs.Run.{Run, place, site_of}
use Rattle.network_model.specs.Kinds.{is_at, draws_sync, is_request, is_tick, is_set_master}
use Rattle.network_model.specs.Numbering.{drawn_later}
use Rattle.network_model.specs.Truth.{origin_heard}
use Rattle.network_model.specs.Outcome.{outcome_of, IsRun}
use Rattle.network_model.specs.Present.{present_master}

-- what is asked of a network and of a run of it
abbrev pub Premise : Type 1
Premise = Network → Run → Type 0

-- what is asked of these for the sake of one slave
abbrev pub SlavePremise : Type 1
SlavePremise = Network → NodeName → Run → Type 0

-- a premise that doesn't ask which slave it is for
abbrev pub whichever : Premise → SlavePremise
whichever premise network slave run = premise network run

-- a message that a slave hears isn't ignored
abbrev pub is_of_use : Heard → Bool
is_of_use answers.Held = true
is_of_use answers.Completed = true
is_of_use (answers.Report report) = true
is_of_use (answers.Ignored reason) = false

-- a slave heard a message and used it
abbrev pub is_used : Result Outcome WorldRefusal → Bool
is_used (Ok outcomes.Done) = false
is_used (Ok outcomes.Made) = false
is_used (Ok outcomes.Entered) = false
is_used (Ok (outcomes.Heard heard)) = is_of_use heard
is_used (Ok (outcomes.Refused code)) = false
is_used (Err refusal) = false

-- How old a message may be and how many Syncs may pass without a tick: a message that is used has fewer than `late`
-- later numbers in its sequence, and between ticks a present master draws at most `between_ticks` Syncs.
pub record Limits : Type 0 where
  pub late : ℕ
  pub between_ticks : ℕ

-- these limits
abbrev pub limits : ℕ → ℕ → Limits
limits late between_ticks = record { late = late; between_ticks = between_ticks }

-- where each report is exact
abbrev pub exact_limits : Limits
exact_limits = limits 32768 16384

-- where reports don't go back
abbrev pub ordered_limits : Limits
ordered_limits = limits 16384 8192

-- where a slave uses a message, fewer numbers than this are later than its own in its sequence
abbrev pub IsFreshAt : ℕ → Network → Run → Event → Type 0
IsFreshAt late network earlier event =
    IsTrue (is_used (outcome_of network earlier event))
    → IfSome (origin_heard (place event earlier)) (λ origin. drawn_later origin earlier < late)

-- so it is at every event of the run
abbrev pub IsFresh : ℕ → Network → Run → Type 0
IsFresh late network [] = Unit {0}
IsFresh late network (event ∷ earlier) = IsFreshAt late network earlier event × IsFresh late network earlier

-- so it is at every event of one slave
abbrev pub IsFreshFor : ℕ → Network → NodeName → Run → Type 0
IsFreshFor late network slave [] = Unit {0}
IsFreshFor late network slave (event ∷ earlier) =
    (site_of event ≡ slave → IsFreshAt late network earlier event) × IsFreshFor late network slave earlier

-- whether an event draws a Sync of a slave's present master
abbrev pub draws_present : NodeName → Run → Event → Bool
draws_present slave earlier event =
    option_map_or (λ master. is_at draws_sync master event) (present_master slave earlier) false

-- how many Syncs a slave's present master drew since the slave's last Tick or SetMaster
abbrev pub syncs_since_tick : NodeName → Run → ℕ
syncs_since_tick slave [] = 0
syncs_since_tick slave (event ∷ earlier) =
    if is_at is_tick slave event || is_at is_set_master slave event then 0
    else if draws_present slave earlier event then syncs_since_tick slave earlier + 1
    else syncs_since_tick slave earlier

-- at no point of the run did a slave's present master draw more Syncs than this since the slave's last Tick or
-- SetMaster
abbrev pub IsTickedAt : ℕ → NodeName → Run → Type 0
IsTickedAt between_ticks slave [] = Unit {0}
IsTickedAt between_ticks slave (event ∷ earlier) =
    (syncs_since_tick slave (event ∷ earlier) ≤ between_ticks) × IsTickedAt between_ticks slave earlier

-- the same for each slave
abbrev pub IsTicked : ℕ → Run → Type 0
IsTicked between_ticks run = (slave : NodeName) → IsTickedAt between_ticks slave run

-- no node drew more than 65,536 numbers for Syncs or more than 65,536 for requests
pub record IsWithinOneTurn (run : Run) : Type 0 where
  pub syncs : (node : NodeName) → count_by (is_at draws_sync node) run ≤ 65536
  pub requests : (node : NodeName) → count_by (is_at is_request node) run ≤ 65536

-- a network in which no two ports share an identity, and events that it accepts
pub record IsAcceptedRun (network : Network) (run : Run) : Type 0 where
  pub apart : IsNetwork network
  pub accepted : IsRun network run

-- What exact reports rest on: beside that, no number too old where it is heard, and slaves that tick often enough.
pub record IsFreshAndTicked (limits : Limits) (network : Network) (run : Run) : Type 0 where
  pub apart : IsNetwork network
  pub accepted : IsRun network run
  pub fresh : IsFresh limits.late network run
  pub ticked : IsTicked limits.between_ticks run

-- The same for one slave: what others hear may be old, and they need never tick.
pub record IsFreshAndTickedFor (limits : Limits) (network : Network) (slave : NodeName) (run : Run) : Type 0 where
  pub apart : IsNetwork network
  pub accepted : IsRun network run
  pub fresh : IsFreshFor limits.late network slave run
  pub ticked : IsTickedAt limits.between_ticks slave run

-- What stands in their place for short runs: the numbers of no port have come round.
pub record IsWithinTurn (network : Network) (run : Run) : Type 0 where
  pub apart : IsNetwork network
  pub accepted : IsRun network run
  pub one_turn : IsWithinOneTurn run
