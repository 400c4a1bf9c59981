-- What a slave port keeps, and the histories that this stands for.
use Rattle.std.specs.Prelude.{◌≡◌, ℕ, Bool, true, false, List, [], ◌∷◌, Option, Some, None}
use Rattle.event_codec.specs.declared.port.PortConfig.{PortConfig}
use Rattle.event_codec.specs.declared.port.PortIdentity.{PortIdentity}
use Rattle.pairing.specs.Marked.{Entry, Marked, newest_first}
use Rattle.pairing.specs.Latest.{HoldsLatest}
use Rattle.slave_port.specs.declared.heard.Heard.{Heard}
use Rattle.slave_port.specs.History.{Capacities, Setup, Call, present_master, next_number}
use Rattle.slave_port.specs.Window.{Window}
use Rattle.slave_port.specs.Values.{SyncValue, FollowValue, RequestValue}
use Rattle.slave_port.specs.Requests.{held_requests}
use Rattle.slave_port.specs.Completion.{SyncCompletion, DelayCompletion}
use Rattle.slave_port.specs.Kept.{kept, delay_completions}
use Rattle.slave_port.specs.Answer.{answer}

-- the last completion of a kind, and whether a tick came since
pub record Last (C : Type 0) : Type 0 where
  pub completion : C
  pub ticked : Bool

-- what a slave port keeps: its configuration, the capacities of its three tables, its next number, its master, the
-- tables, and its last completions
pub record Port : Type 0 where
  pub config : PortConfig
  pub capacities : Capacities
  pub next : ℕ
  pub master : Option PortIdentity
  pub syncs : Marked SyncValue
  pub follows : Marked FollowValue
  pub requests : Marked RequestValue
  pub last_sync : Option (Last SyncCompletion)
  pub last_delay : Option (Last DelayCompletion)

-- of completions since the last tick and of those before it, each newest first, the last one
abbrev pub last_of : {C : Type 0} → (since before : List C) → Option (Last C)
last_of [] [] = None
last_of [] (completion ∷ older) = Some (record { completion = completion; ticked = true })
last_of (completion ∷ older) before = Some (record { completion = completion; ticked = false })

-- a table holds the latest entries of the window, as many as it takes, and those from before the last tick are marked
abbrev pub HoldsWindow : {V : Type 0} → (capacity : ℕ) → Window (Entry V) → Marked V → Type 0
HoldsWindow capacity window table = HoldsLatest capacity window.since window.before table

-- a port that keeps this stands for a history
pub record StandsFor (setup : Setup) (port : Port) (history : List Call) : Type 0 where
  pub config : port.config ≡ setup.config
  pub capacities : port.capacities ≡ setup.capacities
  pub next : port.next ≡ next_number setup history
  pub master : port.master ≡ present_master history
  pub syncs : HoldsWindow setup.capacities.syncs (kept setup history).syncs port.syncs
  pub follows : HoldsWindow setup.capacities.follows (kept setup history).follows port.follows
  pub requests : newest_first port.requests ≡ held_requests setup history
  pub last_sync : port.last_sync
      ≡ last_of (kept setup history).completions.since (kept setup history).completions.before
  pub last_delay : port.last_delay
      ≡ last_of (delay_completions setup history).since (delay_completions setup history).before

-- whatever history a port stood for before a call, it stands for the longer one after it
abbrev pub StandsAfter : Call → (old new : Port) → Type 0
StandsAfter call old new =
    (setup : Setup) (history : List Call) → StandsFor setup old history → StandsFor setup new (call ∷ history)

-- whatever history a port stood for before a call, this is the answer
abbrev pub IsAnswer : Call → Port → Heard → Type 0
IsAnswer call port heard =
    (setup : Setup) (history : List Call) → StandsFor setup port history → heard ≡ answer setup history call
