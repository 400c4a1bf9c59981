-- Each message that a listening port holds names its event by its line: the Sync that arrived or the Follow_Up that was
-- heard, of which Sync of the master it is, and how many of its Syncs the master drew since.
use Rattle.std.proofs.Common.{◌≡◌, ℕ, ◌+◌, ◌+ℤ◌, ◌<◌, ◌≤◌, true, Some, arith, int_lt}
use Rattle.std.specs.Prelude.{count_by}
use Rattle.ptp_units.specs.Interval.{too_big}
use Rattle.ptp_units.specs.Moment.{Stamp}
use Rattle.ptp_units.specs.Sequence.{of_count}
use Rattle.event_codec.specs.declared.message.Body.TheVariants as bodies
use Rattle.event_codec.specs.Packet.{Contents}
use Rattle.pairing.specs.Marked.{Entry}
use Rattle.slave_port.specs.Values.{SyncValue, FollowValue}
use Rattle.network_model.specs.declared.event.Event.TheVariants.{Arrive, Hear}
use Rattle.network_model.specs.Network.{Network, NodeName, PortSetup}
use Rattle.network_model.specs.Run.{Place, tag_of}
use Rattle.network_model.specs.Kinds.{is_at, is_sync, draws_sync}
use Rattle.network_model.specs.Clock.{reading}
use Rattle.network_model.specs.Numbering.{number_of}
use Rattle.network_model.proofs.Copies.{IsTwoStep, IsFollowUp}
use Rattle.recording_model.specs.Agreement.{Moved}
use Rattle.recording_model.proofs.Lines.{Lines, Extends}

module _ (network : Network) (slave master : NodeName) (moved : Moved) (other : PortSetup) where
  -- fewer than `bound` of the master's first `syncs` Syncs come after this one
  abbrev pub IsNear : (syncs bound : ℕ) → Place → Type 0
  IsNear syncs bound origin = syncs < count_by (is_at draws_sync master) origin.earlier + 1 + bound

  -- a two-step Sync that is held
  pub record IsHeldSync (lines : Lines) (syncs bound : ℕ) (e : Entry SyncValue) : Type 0 where
    pub arrival : Place
    pub m : Contents
    pub copy : ℕ
    pub moment : ℕ
    pub told : lines e.value.tag ≡ Some arrival
    pub event : arrival.event ≡ Arrive slave copy moment
    pub drawn : IsTwoStep network arrival.earlier copy m
    pub small : int_lt m.header.correction.0 too_big ≡ true
    pub t2 : e.value.t2 ≡ reading arrival
    pub correction : m.header.correction.0 ≡ e.value.correction +ℤ moved (tag_of drawn.journey.origin)
    pub of_master : is_at is_sync master drawn.journey.origin.event ≡ true
    pub number : e.number ≡ of_count (number_of other drawn.journey.origin)
    pub near : IsNear syncs bound drawn.journey.origin

  -- a Follow_Up that is held
  pub record IsHeldFollow (lines : Lines) (syncs bound : ℕ) (e : Entry FollowValue) : Type 0 where
    pub hearing : Place
    pub m : Contents
    pub copy : ℕ
    pub precise : Stamp
    pub told : lines e.value.tag ≡ Some hearing
    pub event : hearing.event ≡ Hear slave copy
    pub made : IsFollowUp network hearing.earlier copy m
    pub body : m.body ≡ bodies.FollowUp precise
    pub precise_is : e.value.precise ≡ precise
    pub correction : e.value.correction ≡ m.header.correction.0 +ℤ moved (tag_of made.origin)
    pub of_master : made.node ≡ master
    pub number : e.number ≡ of_count (number_of other made.origin)
    pub near : IsNear syncs bound made.origin

  -- both are so later, where more lines are told and the bound grows with the master's Syncs
  pub held_sync-later : (lines more : Lines) (syncs count b c : ℕ) (e : Entry SyncValue) → Extends lines more
      → count + b ≤ syncs + c
      → IsHeldSync lines syncs b e → IsHeldSync more count c e
  held_sync-later lines more syncs count b c e extends grown held = record {
    arrival = held.arrival;
    m = held.m;
    copy = held.copy;
    moment = held.moment;
    told = extends e.value.tag held.arrival held.told;
    event = held.event;
    drawn = held.drawn;
    small = held.small;
    t2 = held.t2;
    correction = held.correction;
    of_master = held.of_master;
    number = held.number;
    near = let near = held.near in omega arith;
  }

  pub held_follow-later : (lines more : Lines) (syncs count b c : ℕ) (e : Entry FollowValue) → Extends lines more
      → count + b ≤ syncs + c
      → IsHeldFollow lines syncs b e → IsHeldFollow more count c e
  held_follow-later lines more syncs count b c e extends grown held = record {
    hearing = held.hearing;
    m = held.m;
    copy = held.copy;
    precise = held.precise;
    told = extends e.value.tag held.hearing held.told;
    event = held.event;
    made = held.made;
    body = held.body;
    precise_is = held.precise_is;
    correction = held.correction;
    of_master = held.of_master;
    number = held.number;
    near = let near = held.near in omega arith;
  }

  -- a greater bound
  pub held_sync-wider : (lines : Lines) (syncs b c : ℕ) (e : Entry SyncValue) → b ≤ c → IsHeldSync lines syncs b e
      → IsHeldSync lines syncs c e
  held_sync-wider lines syncs b c e wide = held_sync-later lines lines syncs syncs b c e (λ line p is. is) (omega arith)

  pub held_follow-wider : (lines : Lines) (syncs b c : ℕ) (e : Entry FollowValue) → b ≤ c
      → IsHeldFollow lines syncs b e → IsHeldFollow lines syncs c e
  held_follow-wider lines syncs b c e wide = held_follow-later lines lines syncs syncs b c e (λ line p is. is)
      (omega arith)
