-- Lines that tell what passed two taps: which of them belong together, and what is asked so that none is taken for another's.
use Rattle.std.specs.Prelude.{◌≡◌, ℕ, ℤ, pos, ◌+ℤ◌, ◌-ℤ◌, ⊤, Bool, ◌&&◌, ◌==◌, nat_eq, List, [], ◌∷◌, ◌++◌, take}
use Rattle.std.specs.Prelude.{Option, Some, None, IfSome, option_map, option_to_list, if◌then◌else◌}
use Rattle.event_codec.specs.Packet.{Contents}
use Rattle.network_model.specs.Network.{Network, NodeName}
use Rattle.network_model.specs.Run.{Run, IsIn}
use Rattle.network_model.specs.Clock.{reading}
use Rattle.network_model.specs.Outcome.{IsRun}
use Rattle.network_model.specs.Level.{moment_at, time_on, IsSteady}
use Rattle.tap_crossing.specs.declared.sighting.Kind.{Kind}
use Rattle.tap_crossing.specs.declared.sighting.Kind.TheVariants as kinds
use Rattle.tap_crossing.specs.declared.sighting.Place.{Place as RecordPlace}
use Rattle.tap_crossing.specs.declared.sighting.Place.TheVariants as places
use Rattle.tap_crossing.specs.declared.sighting.Placed.{Placed}
use Rattle.tap_crossing.specs.declared.sighting.Tap.{Tap}
use Rattle.tap_crossing.specs.declared.sighting.Tap.TheVariants as taps
use Rattle.tap_crossing.specs.declared.watched.Watched.{Watched}
use Rattle.tap_crossing.specs.declared.places.Record.{Record}
use Rattle.tap_crossing.specs.Placed.{placed}
use Rattle.tap_crossing.specs.Records.{unclosed, with, new_record, is_same_kind}
use Rattle.tap_crossing.specs.Told.{told}
use Rattle.tap_laws.specs.Told.{Passage, IsEven, Tells, Rests}
use Rattle.tap_laws.specs.Way.{IsStay, Leg, IsWay, cables}

-- what was met: its tap, its line, the time there, what its octets say, and by its number the passage that it tells
pub record Met : Type 0 where
  pub tap : Tap
  pub line : ℕ
  pub time : ℕ
  pub said : Contents
  pub passage : ℕ

-- the record and the place of a line, where its message is followed
abbrev pub placed_of : Watched → Met → Option Placed
placed_of w d = placed w d.tap d.line d.time d.said

-- the messages that are followed, newest first
abbrev pub followed : Watched → List Met → List Placed
followed w [] = []
followed w (d ∷ earlier) = option_to_list (placed_of w d) ++ followed w earlier

-- the record of a passage
pub record Own : Type 0 where
  pub passage : ℕ
  pub number : ℕ
  pub stands : Record

-- whether a record is that of a passage, under its number
abbrev pub is_own : (passage number : ℕ) → Own → Bool
is_own passage number g = nat_eq g.number number && g.passage == passage

-- the record of a passage, where it has one
abbrev pub own : (passage number : ℕ) → List Own → Option Record
own passage number [] = None
own passage number (g ∷ gs) = if is_own passage number g then Some g.stands else own passage number gs

-- the same with another record of the passage
abbrev pub with_own : (passage number : ℕ) → Record → List Own → List Own
with_own passage number r [] = []
with_own passage number r (g ∷ gs) =
    if is_own passage number g then record { passage = passage; number = number; stands = r } ∷ gs
    else g ∷ with_own passage number r gs

-- a message comes to the record of its passage, or opens one
abbrev pub joins_own : (passage : ℕ) → Placed → Option Record → List Own → List Own
joins_own passage p None gs = record { passage = passage; number = p.number.0; stands = with p new_record } ∷ gs
joins_own passage p (Some r) gs = with_own passage p.number.0 (with p r) gs

-- the same for the message of a line, where it is followed and of this kind
abbrev pub joins_kind : Kind → (passage : ℕ) → Option Placed → List Own → List Own
joins_kind kind passage None gs = gs
joins_kind kind passage (Some p) gs =
    if is_same_kind kind p.kind then joins_own passage p (own passage p.number.0 gs) gs else gs

-- the records of a kind as they would be by passages, those that were opened last in front
abbrev pub by_passages : Watched → Kind → List Met → List Own
by_passages w kind [] = []
by_passages w kind (d ∷ earlier) = joins_kind kind d.passage (placed_of w d) (by_passages w kind earlier)

-- the newest of a number
abbrev pub newest_of : ℕ → List Own → Option Own
newest_of number [] = None
newest_of number (g ∷ gs) = if nat_eq g.number number then Some g else newest_of number gs

-- whose record it is, unless that is closed
abbrev pub waiting : Option Own → Option ℕ
waiting None = None
waiting (Some g) = option_map (λ r. g.passage) (unclosed (Some g.stands))

-- A message finds its own record: of its number the newest among the last 256 is that of its passage and not closed, and where
-- its passage has none yet, the newest there is closed, or there is none. So no two of a number are open at once, and none
-- is opened 256 records before its last message.
abbrev pub FindsItsOwn : (passage number : ℕ) → List Own → Type 0
FindsItsOwn passage number gs =
    waiting (newest_of number (take 256 gs)) ≡ option_map (λ r. passage) (own passage number gs)

-- each message does
abbrev pub AreApart : Watched → List Met → Type 0
AreApart w [] = ⊤
AreApart w (d ∷ earlier) =
    IfSome (placed_of w d) (λ p. FindsItsOwn d.passage p.number.0 (by_passages w p.kind earlier)) × AreApart w earlier

-- this holds of each line whose message is followed, and of its passage
abbrev pub EachIs : (ℕ → Placed → Type 0) → Watched → List Met → Type 0
EachIs P w [] = ⊤
EachIs P w (d ∷ earlier) = IfSome (placed_of w d) (P d.passage) × EachIs P w earlier

-- so much rests of each crossing that is told of these lines, by its kind and its passage
abbrev pub EachRests : (Kind → ℕ → ℤ) → Watched → List Met → Type 0
EachRests rest w [] = ⊤
EachRests rest w (d ∷ earlier) =
    IfSome (placed_of w d) (λ p. Rests (rest p.kind d.passage) (told 256 p (followed w earlier))) × EachRests rest w earlier

-- an event was met by the reading of its node
abbrev pub IsReadAt : Passage → RecordPlace → (time : ℕ) → Type 0
IsReadAt p places.First time = time ≡ reading p.first
IsReadAt p places.Second time = time ≡ reading p.second
IsReadAt p places.AtFrom time = ⊤
IsReadAt p places.AtTo time = ⊤

-- a message tells this passage of a clock, by the clock's readings
pub record IsOfClock (network : Network) (run : Run) (clock : NodeName) (p : Passage) (message : Placed) : Type 0 where
  pub there : IsIn run p.second
  pub stay : IsStay clock (record { entered = p.first; left = p.second })
  pub even : IsEven network p
  pub tells : Tells network run p message.place message.sighting
  pub read : IsReadAt p message.place message.sighting.time

-- A clock tells what it did: in each accepted run, of lines that tell what entered it and what left it, and Follow_Ups and
-- Delay_Resps of which one copy is met at both taps, nothing rests of any crossing.
abbrev pub AClockTellsWhatItDid : Type 0
AClockTellsWhatItDid =
    (network : Network) (run : Run) (clock : NodeName) (passages : ℕ → Passage) (w : Watched) (ds : List Met)
    → IsRun network run → EachIs (λ n. IsOfClock network run clock (passages n)) w ds → AreApart w ds
    → EachRests (λ kind n. pos 0) w ds

-- the tap at which the event message of a kind is met first, and the other
abbrev pub first_tap : Kind → Tap
first_tap kinds.Sync = taps.From
first_tap kinds.DelayReq = taps.To

abbrev pub second_tap : Kind → Tap
second_tap kinds.Sync = taps.To
second_tap kinds.DelayReq = taps.From

-- an event was met by a stamp of its tap that is ahead of true time by so much
abbrev pub IsTappedAt : (ahead : Tap → ℤ) → Kind → Passage → RecordPlace → (time : ℕ) → Type 0
IsTappedAt ahead kind p places.First time = pos time ≡ moment_at p.first +ℤ ahead (first_tap kind)
IsTappedAt ahead kind p places.Second time = pos time ≡ moment_at p.second +ℤ ahead (second_tap kind)
IsTappedAt ahead kind p places.AtFrom time = ⊤
IsTappedAt ahead kind p places.AtTo time = ⊤

-- a message tells this passage along a way, by stamps of the taps that are ahead by so much
pub record IsOfWay (network : Network) (run : Run) (ahead : Tap → ℤ) (legs : List Leg) (p : Passage) (message : Placed) : Type 0 where
  pub there : IsIn run p.second
  pub way : IsWay p.first p.second legs
  pub even : IsEven network p
  pub tells : Tells network run p message.place message.sighting
  pub tapped : IsTappedAt ahead message.kind p message.place message.sighting.time

-- What rests is cables and clocks: in each accepted run with steady clocks, of lines that tell messages at two events of their
-- ways, the true times of the cables in between rest, and what the stamp at the second tap is more ahead than that at the first:
-- what its clock is, and what the stamp is wrong.
abbrev pub WhatRestsIsCablesAndClocks : Type 0
WhatRestsIsCablesAndClocks =
    (network : Network) (run : Run) (ahead : (passage : ℕ) → Tap → ℤ) (ways : ℕ → List Leg) (passages : ℕ → Passage) (w : Watched) (ds : List Met)
    → IsRun network run → IsSteady run → EachIs (λ n. IsOfWay network run (ahead n) (ways n) (passages n)) w ds → AreApart w ds
    → EachRests (λ kind n. time_on (cables (ways n)) +ℤ (ahead n (second_tap kind) -ℤ ahead n (first_tap kind))) w ds
