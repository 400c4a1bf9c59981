-- Another correctionField in octets and in a message (IEEE 1588-2019, 13.3.2.9).
use Rattle.std.specs.Prelude.{ℕ, ℤ, List, ◌++◌, take, drop}
use Rattle.std.specs.Int.{w64, cast_unsigned, to_be_bytes}
use Rattle.ptp_units.specs.declared.interval.Interval.{Interval}
use Rattle.event_codec.specs.Packet.{Contents}

-- octets 8 to 15 are the correction's 64 bits, and all others are as they were
abbrev pub corrected : List ℕ → ℤ → List ℕ
corrected b correction = take 8 b ++ to_be_bytes w64 (cast_unsigned w64 correction) ++ drop 16 b

-- the message with this correctionField
abbrev pub with_correction : Contents → Interval → Contents
with_correction m correction = record m { header = record m.header { correction = correction } }
