-- What a line is, from what reading its JSON value answered, and which lines a schedule has.
use Rattle.std.proofs.Common.{◌≡◌, List, ◌++◌, ℕ, map, Some}
use Rattle.std.specs.Prelude.{reverse}
use Rattle.std.specs.Str.{IsUtf8}
use Rattle.std.proofs.lemmas.Str.{is_utf8-from_IsUtf8}
use Rattle.serde_json.specs.Data.{Data}
use Rattle.serde_json.specs.Read.{read}
use Rattle.network_model.specs.Network.{Network}
use Rattle.network_model.specs.Run.{Run}
use Rattle.schedule_lines.specs.declared.reading.schedule.Line.{Line}
use Rattle.schedule_lines.specs.declared.reading.schedule.Line.TheVariants as entries
use Rattle.schedule_lines.specs.Json.{value_in}
use Rattle.text_lines.specs.Lines.{lines_limit, AreRead}
use Rattle.schedule_reading.specs.Entry.{entry_in}

-- the value of a line that was read
pub value_read : (line : List ℕ) (value : Data) → IsUtf8 line → read line ≡ Some value → value_in line ≡ Some value
value_read line value text is = rw (is_utf8-from_IsUtf8 line text) is

-- lines, of which the first has this number, are these nodes and events in turn
abbrev pub AreEntries : ℕ → List (List ℕ) → List Line → Type 0
AreEntries = AreRead entry_in lines_limit

-- a schedule: its nodes, and then its events, the oldest first
abbrev pub schedule_of : Network → Run → List Line
schedule_of nodes run = map entries.Node nodes ++ map entries.Event (reverse run)
