-- What a message does to the table of its kind. What callers are told is said by the messages alone.
use Rattle.std.specs.Prelude.{ℕ, Option, Some, None, unwrap_or}
use Rattle.pairing.specs.Marked.{Marked, entry, push, set}
use Rattle.tap_crossing.specs.declared.sighting.Placed.{Placed}
use Rattle.tap_crossing.specs.declared.places.Record.{Record}
use Rattle.tap_crossing.specs.declared.crossing.MessageOutcome.{MessageOutcome}
use Rattle.tap_crossing.specs.Records.{with, new_record}
use Rattle.tap_crossing.specs.Told.{comes_to}

-- the table, after a message that comes to this record of its number, or else opens one
abbrev pub kept : (capacity : ℕ) → Placed → Option Record → Marked Record → Marked Record
kept capacity p None table = push capacity (entry p.number.0 (with p new_record)) table
kept capacity p (Some r) table = set p.number.0 (with p r) table

-- what is told of it
abbrev pub told_in : Placed → Option Record → MessageOutcome
told_in p found = comes_to p (unwrap_or found new_record)
