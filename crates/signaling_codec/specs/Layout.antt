-- What the layout of Signaling and of the TLVs that are read fixes (IEEE 1588-2019, 13.12 and 16.11.4).
use Rattle.std.specs.Prelude.{ℕ}
use Rattle.signaling_codec.specs.declared.tlv_type.TlvType.{TlvType}
use Rattle.signaling_codec.specs.declared.tlv_type.TlvType.TheVariants.{SyncTiming, DelayTiming}

-- messageType of Signaling (table 36)
abbrev pub signaling_type : ℕ
signaling_type = 12

-- how many octets the fields of Signaling take; its TLVs begin after them
abbrev pub fields_length : ℕ
fields_length = 44

-- tlvType of SLAVE_RX_SYNC_TIMING_DATA, and of SLAVE_DELAY_TIMING_DATA_NP
abbrev pub type_number : TlvType → ℕ
type_number SyncTiming = 0x8004
type_number DelayTiming = 0x7f00

-- how many octets a record takes
abbrev pub record_length : TlvType → ℕ
record_length SyncTiming = 34
record_length DelayTiming = 30
