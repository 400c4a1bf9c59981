use Rattle.std.proofs.Common.{◌≡◌, ◌*◌, ℕ, List, length, take}
use Rattle.signaling_codec.specs.Record.{IsDelayReading, AreRecords}
use Rattle.signaling_codec.specs.Inner.Puts.{Puts}
use Rattle.signaling_codec.proofs.encoding.put_delay_readings.Given as goal

abbrev pub invariant-loop-reading : goal.invariant-loop-reading
invariant-loop-reading l =
    (b : List ℕ) × Puts l.initial.buffer l.buffer l.at l.end b × AreRecords 30 IsDelayReading (take l.reading-index l.readings) b
    × (length b ≡ 30 * l.reading-index)
