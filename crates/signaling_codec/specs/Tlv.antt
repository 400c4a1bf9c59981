-- TLVs: a type, a length, and a value (IEEE 1588-2019, 14.1).
use Rattle.std.specs.Prelude.{◌≡◌, ℕ, ◌+◌, ◌≤◌, ◌==◌, List, [], ◌∷◌, length, drop, map, slice_range, find, Option, None}
use Rattle.std.specs.List.{flat_map}
use Rattle.event_codec.specs.declared.port.PortIdentity.{PortIdentity}
use Rattle.event_codec.specs.Layout.{number}
use Rattle.event_codec.specs.Packet.{IsIdentityAt}
use Rattle.signaling_codec.specs.declared.reading.SyncReading.{SyncReading}
use Rattle.signaling_codec.specs.declared.reading.DelayReading.{DelayReading}
use Rattle.signaling_codec.specs.declared.reading.Reading.TheVariants.{Sync, Delay}
use Rattle.signaling_codec.specs.declared.reading.OwnReading.{OwnReading}
use Rattle.signaling_codec.specs.declared.tlv_type.TlvType.{TlvType}
use Rattle.signaling_codec.specs.declared.tlv_type.TlvType.TheVariants as types
use Rattle.signaling_codec.specs.Layout.{type_number, record_length}
use Rattle.signaling_codec.specs.Record.{IsSyncReading, IsDelayReading, AreRecords}

-- a TLV: a slave's readings of what came from a master, of one of two types, or a TLV of another type with its value
pub data TlvOf : Type 0 where
  SyncTiming : (master : PortIdentity) → (readings : List SyncReading) → TlvOf
  DelayTiming : (master : PortIdentity) → (readings : List DelayReading) → TlvOf
  Other : (kind : ℕ) → (value : List ℕ) → TlvOf

-- the one of the two types that has this number
abbrev pub type_numbered : ℕ → Option TlvType
type_numbered number = find (λ kind. type_number kind == number) (types.SyncTiming ∷ types.DelayTiming ∷ [])

-- tlvType
abbrev pub tlv_type : TlvOf → ℕ
tlv_type (SyncTiming master readings) = type_number types.SyncTiming
tlv_type (DelayTiming master readings) = type_number types.DelayTiming
tlv_type (Other kind value) = kind

-- how many octets the TLV at the front takes: tlvType, lengthField, and as many as lengthField says
abbrev pub tlv_length : List ℕ → ℕ
tlv_length b = 4 + number b 2 2

-- the octets are the value of this TLV: sourcePortIdentity of the master, and records
abbrev pub IsValue : TlvOf → List ℕ → Type 0
IsValue (SyncTiming master readings) value =
    (10 ≤ length value) × IsIdentityAt master value 0
    × AreRecords (record_length types.SyncTiming) IsSyncReading readings (drop 10 value)
IsValue (DelayTiming master readings) value =
    (10 ≤ length value) × IsIdentityAt master value 0
    × AreRecords (record_length types.DelayTiming) IsDelayReading readings (drop 10 value)
IsValue (Other kind octets) value = (type_numbered kind ≡ None) × (octets ≡ value)

-- b begins with this TLV
pub record IsTlv (tlv : TlvOf) (b : List ℕ) : Type 0 where
  pub head : 4 ≤ length b
  pub whole : tlv_length b ≤ length b
  pub kind : number b 0 2 ≡ tlv_type tlv
  pub value : IsValue tlv (slice_range b 4 (tlv_length b))

-- b is these TLVs, one behind the other
abbrev pub AreTlvs : List TlvOf → List ℕ → Type 0
AreTlvs [] b = b ≡ []
AreTlvs (tlv ∷ tlvs) b = IsTlv tlv b × AreTlvs tlvs (drop (tlv_length b) b)

-- a slave's readings in a TLV, each with the master of the TLV
abbrev pub readings_in : TlvOf → List OwnReading
readings_in (SyncTiming master readings) = map (λ reading. record { master = master; reading = Sync reading }) readings
readings_in (DelayTiming master readings) = map (λ reading. record { master = master; reading = Delay reading }) readings
readings_in (Other kind value) = []

-- a slave's readings in all TLVs, in order
abbrev pub readings_of : List TlvOf → List OwnReading
readings_of tlvs = flat_map readings_in tlvs
