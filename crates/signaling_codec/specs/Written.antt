-- A Signaling message that is to be written.
use Rattle.std.specs.Prelude.{List, map}
use Rattle.event_codec.specs.declared.message.Header.{Header}
use Rattle.event_codec.specs.declared.port.PortIdentity.{PortIdentity}
use Rattle.signaling_codec.specs.declared.encoding.Tlv.{Tlv}
use Rattle.signaling_codec.specs.declared.encoding.Tlv.TheVariants as written
use Rattle.signaling_codec.specs.declared.signaling.Signaling.{Signaling}
use Rattle.signaling_codec.specs.Tlv.{TlvOf, SyncTiming, DelayTiming}

-- a TLV, wherever its readings lie in memory
abbrev pub tlv_written : Tlv → TlvOf
tlv_written (written.SyncTiming master readings) = SyncTiming master readings.now
tlv_written (written.DelayTiming master readings) = DelayTiming master readings.now

-- the message of these
abbrev pub message_of : Header → (target : PortIdentity) → List Tlv → Signaling
message_of header target tlvs = record { header = header; target = target; tlvs = map tlv_written tlvs }
