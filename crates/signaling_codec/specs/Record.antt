-- A slave's own readings, as they stand in records (IEEE 1588-2019, 16.11.4).
use Rattle.std.specs.Prelude.{◌≡◌, ℕ, ◌≤◌, List, [], ◌∷◌, length, drop}
use Rattle.std.specs.Int.{w32, w64, cast_signed}
use Rattle.event_codec.specs.Layout.{number}
use Rattle.event_codec.specs.Packet.{IsTimestampAt}
use Rattle.signaling_codec.specs.declared.reading.SyncReading.{SyncReading}
use Rattle.signaling_codec.specs.declared.reading.DelayReading.{DelayReading}

-- b begins with this record of SLAVE_RX_SYNC_TIMING_DATA
pub record IsSyncReading (reading : SyncReading) (b : List ℕ) : Type 0 where
  pub sequence : reading.sequence.0 ≡ number b 0 2
  pub origin : IsTimestampAt reading.origin b 2
  pub correction : reading.correction.0 ≡ cast_signed w64 (number b 12 8)
  pub rate : reading.rate ≡ cast_signed w32 (number b 20 4)
  pub ingress : IsTimestampAt reading.ingress b 24

-- b begins with this record of SLAVE_DELAY_TIMING_DATA_NP
pub record IsDelayReading (reading : DelayReading) (b : List ℕ) : Type 0 where
  pub sequence : reading.sequence.0 ≡ number b 0 2
  pub departure : IsTimestampAt reading.departure b 2
  pub correction : reading.correction.0 ≡ cast_signed w64 (number b 12 8)
  pub receipt : IsTimestampAt reading.receipt b 20

-- b is these records, one behind the other, each of so many octets
abbrev pub AreRecords : {R : Type 0} → (size : ℕ) → (IsRecord : R → List ℕ → Type 0) → List R → List ℕ → Type 0
AreRecords size IsRecord [] b = b ≡ []
AreRecords size IsRecord (reading ∷ readings) b =
    (size ≤ length b) × IsRecord reading b × AreRecords size IsRecord readings (drop size b)
