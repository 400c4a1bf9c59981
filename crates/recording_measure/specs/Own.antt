-- A slave's own readings (IEEE 1588-2019, 16.11), by the messages that they stand for: one of a Sync is a Sync with its t1 and its
-- correction, which was met at t2; one of an exchange is a Delay_Req that was met at t3, and a Delay_Resp with its t4 and its correction.
use Rattle.std.specs.Prelude.{◌≡◌, ℕ, ◌≤◌, pos, List, [], ◌∷◌, length, take, true, Ok}
use Rattle.std.specs.List.{flat_map}
use Rattle.ptp_units.specs.Moment.{Stamp, moment}
use Rattle.ptp_units.specs.declared.interval.Interval.{Interval}
use Rattle.ptp_units.specs.declared.sequence.Seq.{Seq}
use Rattle.event_codec.specs.declared.message.Header.{Header}
use Rattle.event_codec.specs.declared.message.Body.{Body}
use Rattle.event_codec.specs.declared.message.Body.TheVariants as bodies
use Rattle.event_codec.specs.declared.port.PortIdentity.{PortIdentity}
use Rattle.event_codec.specs.Layout.{number}
use Rattle.event_codec.specs.Packet.{Packet}
use Rattle.event_codec.specs.Profile.{contents_of}
use Rattle.datagram_text.specs.Shown.{stamp_text}
use Rattle.datagram_source.specs.Datagram.{DatagramOf}
use Rattle.signaling_codec.specs.declared.reading.Reading.{Reading}
use Rattle.signaling_codec.specs.declared.reading.Reading.TheVariants.{Sync, Delay}
use Rattle.signaling_codec.specs.declared.signaling.Signaling.{Signaling}
use Rattle.signaling_codec.specs.Packet.{IsSignaling}
use Rattle.signaling_codec.specs.Tlv.{readings_of}
use Rattle.recording_measure.specs.declared.own.OwnMessage.{OwnMessage}

-- The header of such a message, by that of the Signaling that tells the reading: it has no flags, and logMessageInterval isn't told.
abbrev pub own_header : Header → (source : PortIdentity) → Interval → Seq → (control : ℕ) → Header
own_header header source correction sequence control = record header {
  flags = 0 ∷ 0 ∷ [];
  correction = correction;
  source = source;
  sequence = sequence;
  control = control;
  log = pos 127;
}

-- such a message, which the slave's clock met at this time
abbrev pub own_message : Stamp → Header → Body → OwnMessage
own_message time header body = record { time = time; message = record { header = header; body = body } }

-- the messages of a reading of this slave, in order
abbrev pub messages_of : Header → (slave master : PortIdentity) → Reading → List OwnMessage
messages_of header slave master (Sync r) =
    own_message r.ingress (own_header header master r.correction r.sequence 0) (bodies.Sync r.origin) ∷ []
messages_of header slave master (Delay r) =
    own_message r.departure (own_header header slave (record { 0 = pos 0 }) r.sequence 1) (bodies.DelayReq r.departure)
    ∷ own_message r.departure (own_header header master r.correction r.sequence 3) (bodies.DelayResp r.receipt slave) ∷ []

-- those of all readings that a Signaling message tells, in order
abbrev pub messages_in : (slave : PortIdentity) → Signaling → List OwnMessage
messages_in slave m = flat_map (λ it. messages_of m.header slave it.master it.reading) (readings_of m.tlvs)

-- octets begin with a Signaling message
abbrev pub Begins : Signaling → List ℕ → Type 0
Begins m octets = (number octets 2 2 ≤ length octets) × IsSignaling m (take (number octets 2 2) octets)

-- such a message as a datagram, with the number of the one that tells it, and with the time at which the slave's clock met it
pub record IsOwn (told : DatagramOf) (m : OwnMessage) (d : DatagramOf) : Type 0 where
  pub numbered : d.number ≡ told.number
  pub moment_is : d.time ≡ moment m.time 0
  pub written : d.written ≡ stamp_text m.time
  pub packet : Packet (contents_of m.message) d.octets
  pub said : d.said ≡ Ok (contents_of m.message)
  pub own : d.own ≡ true
