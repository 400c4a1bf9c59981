use Rattle.std.proofs.Common.{◌≡◌, ◌*◌, ℕ, List, length, take}
use Rattle.signaling_codec.specs.Record.{IsSyncReading, AreRecords}
use Rattle.signaling_codec.specs.Inner.Puts.{Puts}
use Rattle.signaling_codec.proofs.encoding.put_sync_readings.Given as goal

abbrev pub invariant-loop-reading : goal.invariant-loop-reading
invariant-loop-reading l =
    (b : List ℕ) × Puts l.initial.buffer l.buffer l.at l.end b × AreRecords 34 IsSyncReading (take l.reading-index l.readings) b
    × (length b ≡ 34 * l.reading-index)
