-- Whose messages are followed, and between which taps. Lists of messages have the newest in front.
use Rattle.std.specs.Prelude.{ℕ, ◌==◌, List, [], ◌∷◌, Option, Some, None, if◌then◌else◌}
use Rattle.std.specs.Option.{option_or}
use Rattle.event_codec.specs.declared.message.Body.{Body}
use Rattle.event_codec.specs.declared.message.Body.TheVariants as bodies
use Rattle.event_codec.specs.declared.message.Header.{Header}
use Rattle.event_codec.specs.declared.port.PortIdentity.{PortIdentity}
use Rattle.event_codec.specs.Packet.{Contents}
use Rattle.tap_choice.specs.declared.met.Met.{Met}
use Rattle.tap_choice.specs.declared.met.Side.{Side}
use Rattle.tap_choice.specs.declared.met.Side.TheVariants as sides
use Rattle.tap_crossing.specs.declared.sighting.Tap.{Tap}
use Rattle.tap_crossing.specs.declared.sighting.Tap.TheVariants as taps
use Rattle.tap_crossing.specs.declared.watched.Watched.{Watched}
use Rattle.tap_follow.specs.declared.followed.Followed.{Followed}

-- which of the two a tap is, where a Sync meets this one first
abbrev pub tap_at : (from side : Side) → Tap
tap_at sides.First sides.First = taps.From
tap_at sides.First sides.Second = taps.To
tap_at sides.Second sides.First = taps.To
tap_at sides.Second sides.Second = taps.From

-- the source of a Delay_Req of the domain
abbrev pub requester_in : (domain : ℕ) → Header → Body → Option PortIdentity
requester_in domain header (bodies.Sync origin) = None
requester_in domain header (bodies.DelayReq origin) = if header.domain == domain then Some header.source else None
requester_in domain header (bodies.FollowUp precise) = None
requester_in domain header (bodies.DelayResp receive requesting) = None

-- the same of one that was met at this tap: at `to` alone
abbrev pub requester_at : Tap → (domain : ℕ) → Met → Option PortIdentity
requester_at taps.From domain m = None
requester_at taps.To domain m = requester_in domain m.header m.body

abbrev pub requester : (domain : ℕ) → (from : Side) → Met → Option PortIdentity
requester domain from m = requester_at (tap_at from m.side) domain m

-- the slave: this one, or else the source of the first Delay_Req of the domain at `to`
abbrev pub slave_in : Option PortIdentity → (domain : ℕ) → (from : Side) → List Met → Option PortIdentity
slave_in known domain from [] = known
slave_in known domain from (m ∷ earlier) = option_or (slave_in known domain from earlier) (requester domain from m)

-- whose messages are followed once these were met
abbrev pub watched_in : Followed → List Met → Watched
watched_in f met = record f.watched { slave = slave_in f.watched.slave f.watched.domain f.from met }

-- a message as it was met: what stands behind its fields doesn't count
abbrev pub contents_of : Met → Contents
contents_of m = record { header = m.header; body = m.body; suffix = [] }
