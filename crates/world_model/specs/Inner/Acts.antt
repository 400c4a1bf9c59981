-- What an event does at its node. The world's own functions cite these.
use Rattle.std.specs.Prelude.{◌≡◌, ◌⊎◌, ℕ, ℤ, pos, ◌+ℤ◌, ok_or, List, ◌∷◌, length, if◌then◌else◌, Option, Some, None, option_map}
use Rattle.std.specs.Prelude.{option_and_then, Ok, Err, Result, IsOk, MatchResult}
use Rattle.std.specs.Result.{result_ok}
use Rattle.ptp_units.specs.Moment.{moment_of}
use Rattle.event_codec.specs.Packet.{Contents, Packet}
use Rattle.transparent_clock.specs.declared.refusal.ClockRefusal.{ClockRefusal}
use Rattle.transparent_clock.specs.Forwarding.{forwarded}
use Rattle.network_model.specs.declared.event.Event.{Event}
use Rattle.network_model.specs.declared.event.Event.TheVariants.{Leave}
use Rattle.network_model.specs.declared.node.NodeKind.{NodeKind}
use Rattle.network_model.specs.declared.stepped.Outcome.{Outcome}
use Rattle.network_model.specs.declared.refusal.WorldRefusal.{WorldRefusal}
use Rattle.network_model.specs.declared.refusal.WorldRefusal.TheVariants.{ReadingOutOfRange, Memory}
use Rattle.network_model.specs.Network.{Network, NodeName, PortSetup, kind_of, is_named}
use Rattle.network_model.specs.Run.{Run, place, site_of}
use Rattle.network_model.specs.Kinds.{entered_copy}
use Rattle.network_model.specs.Clock.{reading, reading_of}
use Rattle.network_model.specs.Truth.{master_at, slave_at}
use Rattle.network_model.specs.Truth.{TellsTruth, copy_of, copy_made}
use Rattle.network_model.specs.Outcome.{outcome_of, reads, left_outcome}
use Rattle.world_model.specs.Inner.Stands.{Entry}
use Rattle.world_model.specs.declared.entry.Happened.{Happened}
use Rattle.world_model.specs.declared.station.Master.{Master}
use Rattle.world_model.specs.declared.station.Slave.{Slave}
use Rattle.world_model.specs.declared.station.Station.{Station}
use Rattle.world_model.specs.Inner.Stands.{octets_in, stay_in, entering, event_at, stay_at, left_stay, Keeps}
use Rattle.world_model.specs.Inner.Stands.{MasterStands}
use Rattle.world_model.specs.Inner.Stands.{SlaveStands, Stands}

-- what a clock that is so far ahead shows at this true moment, or why it shows nothing
abbrev pub shown_at : ℕ → ℤ → Result ℕ WorldRefusal
shown_at at ahead = ok_or (moment_of (pos at +ℤ ahead)) ReadingOutOfRange

-- What an accepted event brings about: its outcome and reading, a copy or a stay for later events, and what its node
-- then stands for.
pub record Brings (network : Network) (run : Run) (event : Event) (After : Type 0) (happened : Happened) : Type 0 where
  pub outcome : outcome_of network run event ≡ Ok happened.outcome
  pub read : happened.reading ≡ reading_of (place event run)
  pub stands : After
  pub copy : TellsTruth (copy_made network event run (copy_of network run)) (octets_in happened.left)
  pub stay : stay_in happened.left ≡ option_map reading (entering (place event run))

-- why an event isn't accepted: the first refusal that applies, or there is no room for one that would be accepted
abbrev pub Refuses : Network → Run → Event → (HasRoom : Type 0) → WorldRefusal → Type 0
Refuses network run event HasRoom why =
    (outcome_of network run event ≡ Err why)
    ⊎ ((why ≡ Memory) × (¬ HasRoom) × IsOk (outcome_of network run event))

-- an event is accepted, for which there is room, or it is refused and its node is as it was
abbrev pub Answers : Network → Run → Event → (HasRoom After Same : Type 0) → Result Happened WorldRefusal → Type 0
Answers network run event HasRoom After Same result =
    MatchResult result (λ happened. HasRoom × Brings network run event After happened)
    (λ why. Same × Refuses network run event HasRoom why)

-- an event at a node whose station was old and is new, in one network, for every run that this station and these
-- entries keep
abbrev pub ActsIn : Network → Event → List Entry → (old new : Station) → (HasRoom : Type 0) → Result Happened WorldRefusal → Type 0
ActsIn network event entries old new HasRoom result =
    (run : Run) (kind : NodeKind)
    → kind_of network (site_of event) ≡ Some kind → Stands network run (site_of event) kind old
    → Keeps network run entries
    → Answers network run event HasRoom (Stands network (event ∷ run) (site_of event) kind new) (new ≡ old) result

-- the same in every network
abbrev pub Acts : Event → List Entry → (old new : Station) → (HasRoom : Type 0) → Result Happened WorldRefusal → Type 0
Acts event entries old new HasRoom result = (network : Network) → ActsIn network event entries old new HasRoom result

-- the same of a master, where this is given
abbrev pub MasterActs : Event → (Given : Network → Run → Type 0) → (old new : Master) → (HasRoom : Type 0)
    → Result Happened WorldRefusal → Type 0
MasterActs event Given old new HasRoom result =
    (network : Network) (run : Run) (setup : PortSetup)
    → master_at network (site_of event) ≡ Some setup → MasterStands run (site_of event) setup old → Given network run
    → Answers network run event HasRoom (MasterStands (event ∷ run) (site_of event) setup new) (new ≡ old) result

-- the same of a slave
abbrev pub SlaveActs : Event → (Given : Network → Run → Type 0) → (old new : Slave) → (HasRoom : Type 0)
    → Result Happened WorldRefusal → Type 0
SlaveActs event Given old new HasRoom result =
    (network : Network) (run : Run) (setup : PortSetup)
    → slave_at network (site_of event) ≡ Some setup → SlaveStands network run (site_of event) setup old
    → Given network run
    → Answers network run event HasRoom (SlaveStands network (event ∷ run) (site_of event) setup new) (new ≡ old) result

-- nothing is given
abbrev pub Nothing : Network → Run → Type 0
Nothing network run = Unit {0}

-- the reading at an event, or why there is none
abbrev pub Reads : Event → Result ℕ WorldRefusal → Network → Run → Type 0
Reads event shown network run = shown ≡ reads event run

-- the octets of the copy of this tag, or none
abbrev pub IsCopy : ℕ → Option (List ℕ) → Network → Run → Type 0
IsCopy copy octets network run = TellsTruth (copy_of network run copy) octets

-- what the node of this name is
abbrev pub IsKind : NodeName → NodeKind → Network → Run → Type 0
IsKind name kind network run = kind_of network name ≡ Some kind

-- the tag of the next event
abbrev pub IsNext : ℕ → Network → Run → Type 0
IsNext tag network run = length run ≡ tag

-- what an event gives that leaves no stay: a reading, an outcome, and a copy of a message where there is one
pub record Gives (reading : Option ℕ) (outcome : Outcome) (copy : Option Contents) (happened : Happened) : Type 0 where
  pub read : happened.reading ≡ reading
  pub answered : happened.outcome ≡ outcome
  pub made : TellsTruth copy (octets_in happened.left)
  pub stay : stay_in happened.left ≡ None

-- what a clock answers of a message that is sent on in these octets, or refused
abbrev pub IsSent : Result Contents ClockRefusal → List ℕ → Result (Unit {0}) ClockRefusal → Type 0
IsSent message octets sent = MatchResult sent
    (λ ok. (m : Contents) × (message ≡ Ok m) × Packet m octets)
    (λ refusal. message ≡ Err refusal)

-- a message that entered a clock at one reading leaves at this one, for which there is room, or it doesn't
abbrev pub Departs : Contents → ℕ → Result ℕ WorldRefusal → (HasRoom : Type 0) → Result Happened WorldRefusal → Type 0
Departs m entered shown HasRoom result = MatchResult result
    (λ happened. HasRoom × ((now : ℕ) × (shown ≡ Ok now)
    × Gives (Some now) (left_outcome (forwarded (Ok m) entered now))
    (result_ok (forwarded (Ok m) entered now)) happened))
    (λ why. (shown ≡ Err why) ⊎ ((why ≡ Memory) × (¬ HasRoom) × IsOk shown))

-- the copy that an entry's event took into this clock
abbrev pub copy_taken : NodeName → Event → Option ℕ
copy_taken clock event = if is_named (site_of event) clock then entered_copy event else None

-- the copy that entered this clock by the event of this tag and is still inside
abbrev pub copy_inside : List Entry → NodeName → ℕ → Option ℕ
copy_inside entries clock tag =
    option_and_then (λ reading. option_and_then (copy_taken clock) (event_at entries tag)) (stay_at entries tag)

-- the entries after an event, before its own comes: a Leave event ends a stay
abbrev pub entries_after : Event → List Entry → List Entry
entries_after (Leave node transit at) entries = left_stay transit entries
entries_after _ entries = entries
