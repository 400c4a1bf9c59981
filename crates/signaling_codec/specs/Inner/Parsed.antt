-- What octets are that are whole TLVs, computed.
use Rattle.std.specs.Prelude.{ℕ, zero, suc, ◌+◌, ◌-◌, ◌/◌, List, [], ◌∷◌, length, drop, slice_range, Option, Some, None}
use Rattle.std.specs.Int.{w32, w64, cast_signed}
use Rattle.ptp_units.specs.Moment.{Stamp}
use Rattle.event_codec.specs.declared.port.PortIdentity.{PortIdentity}
use Rattle.event_codec.specs.Layout.{number}
use Rattle.signaling_codec.specs.declared.reading.SyncReading.{SyncReading}
use Rattle.signaling_codec.specs.declared.reading.DelayReading.{DelayReading}
use Rattle.signaling_codec.specs.declared.tlv_type.TlvType.{TlvType}
use Rattle.signaling_codec.specs.declared.tlv_type.TlvType.TheVariants as types
use Rattle.signaling_codec.specs.Tlv.{TlvOf, SyncTiming, DelayTiming, Other, type_numbered, tlv_length}

-- the identity in octets i to i + 9
abbrev pub identity_at : List ℕ → ℕ → PortIdentity
identity_at b i = record { clock = slice_range b i (i + 8); port = number b (i + 8) 2 }

-- the timestamp in octets i to i + 9
abbrev pub timestamp_at : List ℕ → ℕ → Stamp
timestamp_at b i = record { seconds = number b i 6; nanos = number b (i + 6) 4 }

-- the record of SLAVE_RX_SYNC_TIMING_DATA at the front
unfoldable pub sync_reading : List ℕ → SyncReading
sync_reading b = record {
  sequence = record { 0 = number b 0 2 };
  origin = timestamp_at b 2;
  correction = record { 0 = cast_signed w64 (number b 12 8) };
  rate = cast_signed w32 (number b 20 4);
  ingress = timestamp_at b 24;
}

-- the record of SLAVE_DELAY_TIMING_DATA_NP at the front
unfoldable pub delay_reading : List ℕ → DelayReading
delay_reading b = record {
  sequence = record { 0 = number b 0 2 };
  departure = timestamp_at b 2;
  correction = record { 0 = cast_signed w64 (number b 12 8) };
  receipt = timestamp_at b 20;
}

-- so many records, of this size each
abbrev pub records_in : {R : Type 0} → (at : List ℕ → R) → (size count : ℕ) → List ℕ → List R
records_in at size zero b = []
records_in at size (suc count) b = at b ∷ records_in at size count (drop size b)

-- the TLV of one of the two types, of this master and these records
unfoldable pub tlv_of : TlvType → PortIdentity → List ℕ → TlvOf
tlv_of types.SyncTiming master b = SyncTiming master (records_in sync_reading 34 (length b / 34) b)
tlv_of types.DelayTiming master b = DelayTiming master (records_in delay_reading 30 (length b / 30) b)

-- the TLV of this value
unfoldable pub tlv_with : Option TlvType → ℕ → List ℕ → TlvOf
tlv_with None kind value = Other kind value
tlv_with (Some its_type) kind value = tlv_of its_type (identity_at value 0) (drop 10 value)

-- the TLV at the front
unfoldable pub tlv_at : List ℕ → TlvOf
tlv_at b = tlv_with (type_numbered (number b 0 2)) (number b 0 2) (slice_range b 4 (tlv_length b))

-- the TLVs, behind so many octets that are left of one
unfoldable pub tlvs_in : (left : ℕ) → List ℕ → List TlvOf
tlvs_in left [] = []
tlvs_in (suc left) (octet ∷ b) = tlvs_in left b
tlvs_in zero (octet ∷ b) = tlv_at (octet ∷ b) ∷ tlvs_in (tlv_length (octet ∷ b) - 1) b
