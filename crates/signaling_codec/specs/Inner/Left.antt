-- The readings that are left, of a TLV and of those behind it.
use Rattle.std.specs.Prelude.{◌≡◌, List, ◌++◌, None}
use Rattle.signaling_codec.specs.declared.reading.OwnReading.{OwnReading}
use Rattle.signaling_codec.specs.declared.readings.Left.{Left}
use Rattle.signaling_codec.specs.Layout.{record_length}
use Rattle.signaling_codec.specs.Tlv.{readings_in, readings_of}
use Rattle.signaling_codec.specs.Refusal.{records_refusal, tlvs_refusal}
use Rattle.signaling_codec.specs.Inner.Parsed.{tlv_of, tlvs_in}

-- those of the records, and those of the TLVs
abbrev pub left_readings : Left → List OwnReading
left_readings left = readings_in (tlv_of left.kind left.master left.records.now) ++ readings_of (tlvs_in 0 left.tlvs.now)

-- no refusal applies to either
pub record IsSound (left : Left) : Type 0 where
  pub records : records_refusal (record_length left.kind) left.records.now ≡ None
  pub tlvs : tlvs_refusal 0 left.tlvs.now ≡ None
