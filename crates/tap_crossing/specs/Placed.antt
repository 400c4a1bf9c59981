-- Which messages are followed, and their places.
use Rattle.std.specs.Prelude.{ℕ, Bool, true, false, ◌&&◌, ◌==◌, Option, Some, None, if◌then◌else◌}
use Rattle.event_codec.specs.declared.message.Header.{Header}
use Rattle.event_codec.specs.declared.message.Body.{Body}
use Rattle.event_codec.specs.declared.message.Body.TheVariants as bodies
use Rattle.event_codec.specs.declared.port.PortIdentity.{PortIdentity}
use Rattle.event_codec.specs.Layout.{stamp_in}
use Rattle.event_codec.specs.Packet.{Contents}
use Rattle.event_codec.specs.Port.{is_same_port}
use Rattle.slave_port.specs.Usable.{is_two_step}
use Rattle.tap_crossing.specs.declared.sighting.Fields.{Fields}
use Rattle.tap_crossing.specs.declared.sighting.Kind.{Kind}
use Rattle.tap_crossing.specs.declared.sighting.Kind.TheVariants as kinds
use Rattle.tap_crossing.specs.declared.sighting.Place.{Place}
use Rattle.tap_crossing.specs.declared.sighting.Place.TheVariants as places
use Rattle.tap_crossing.specs.declared.sighting.Placed.{Placed}
use Rattle.tap_crossing.specs.declared.sighting.Tap.{Tap}
use Rattle.tap_crossing.specs.declared.sighting.Tap.TheVariants as taps
use Rattle.tap_crossing.specs.declared.watched.Watched.{Watched}

-- it is known who the slave is, and this is it
abbrev pub is_slave : Option PortIdentity → PortIdentity → Bool
is_slave None identity = false
is_slave (Some slave) identity = is_same_port identity slave

-- a message of this source is followed: a Sync or a Follow_Up of the master, a Delay_Req of the slave, a Delay_Resp of the
-- master to the slave
abbrev pub belongs : Watched → (source : PortIdentity) → Body → Bool
belongs watched source (bodies.Sync origin) = is_same_port source watched.master
belongs watched source (bodies.DelayReq origin) = is_slave watched.slave source
belongs watched source (bodies.FollowUp precise) = is_same_port source watched.master
belongs watched source (bodies.DelayResp receive requesting) =
    is_same_port source watched.master && is_slave watched.slave requesting

-- of which kind its record is
abbrev pub kind_of : Body → Kind
kind_of (bodies.Sync origin) = kinds.Sync
kind_of (bodies.DelayReq origin) = kinds.DelayReq
kind_of (bodies.FollowUp precise) = kinds.Sync
kind_of (bodies.DelayResp receive requesting) = kinds.DelayReq

-- its place there: a Sync goes from `from` to `to`, and a Delay_Req from `to` to `from`
abbrev pub place_of : Tap → Body → Place
place_of taps.From (bodies.Sync origin) = places.First
place_of taps.To (bodies.Sync origin) = places.Second
place_of taps.From (bodies.DelayReq origin) = places.Second
place_of taps.To (bodies.DelayReq origin) = places.First
place_of taps.From (bodies.FollowUp precise) = places.AtFrom
place_of taps.To (bodies.FollowUp precise) = places.AtTo
place_of taps.From (bodies.DelayResp receive requesting) = places.AtFrom
place_of taps.To (bodies.DelayResp receive requesting) = places.AtTo

-- another message tells its timestamp: of a two-step Sync its Follow_Up (IEEE 1588-2019, 13.3.2.8), of a Delay_Req its
-- Delay_Resp
abbrev pub needs_other : Header → Body → Bool
needs_other header (bodies.Sync origin) = is_two_step header
needs_other header (bodies.DelayReq origin) = true
needs_other header (bodies.FollowUp precise) = false
needs_other header (bodies.DelayResp receive requesting) = false

-- the fields that are compared
abbrev pub fields_of : Header → Fields
fields_of header = record {
  major_sdo = header.major_sdo;
  minor_sdo = header.minor_sdo;
  minor_version = header.minor_version;
  flags = header.flags;
  specific = header.specific;
  control = header.control;
  log = header.log;
}

-- the record and the place of a message that was met at this tap, where it is followed
abbrev pub placed : Watched → Tap → (line time : ℕ) → Contents → Option Placed
placed watched tap line time m =
    if m.header.domain == watched.domain && belongs watched m.header.source m.body
    then Some (record {
      kind = kind_of m.body;
      number = m.header.sequence;
      place = place_of tap m.body;
      sighting = record {
        line = line;
        time = time;
        correction = m.header.correction;
        timestamp = stamp_in m.body;
        needs_other = needs_other m.header m.body;
        fields = fields_of m.header;
      };
    })
    else None
