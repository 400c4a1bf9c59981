-- The records of the messages that were met, which are told newest first.
use Rattle.std.specs.Prelude.{ℕ, Bool, true, false, List, [], ◌∷◌, take, Option, Some, None, if◌then◌else◌}
use Rattle.pairing.specs.Marked.{Entry, entry, first_value as newest, replace_first}
use Rattle.tap_crossing.specs.declared.sighting.Kind.{Kind}
use Rattle.tap_crossing.specs.declared.sighting.Kind.TheVariants as kinds
use Rattle.tap_crossing.specs.declared.sighting.Placed.{Placed}
use Rattle.tap_crossing.specs.declared.places.Record.{Record}
use Rattle.tap_crossing.specs.declared.places.Record.TheVariants as standings
use Rattle.tap_crossing.specs.Record.{no_places, after}

-- a record that may take a message: one that isn't closed
abbrev pub unclosed : Option Record → Option Record
unclosed None = None
unclosed (Some (standings.Open met)) = Some (standings.Open met)
unclosed (Some standings.Spoiled) = Some standings.Spoiled
unclosed (Some standings.Closed) = None

-- what a record becomes by a message
abbrev pub with : Placed → Record → Record
with p r = after p.place p.sighting r

-- a record in which nothing was met
abbrev pub new_record : Record
new_record = standings.Open no_places

-- the records, after a message that comes to this record of its number, or else opens one
abbrev pub joined : Placed → Option Record → List (Entry Record) → List (Entry Record)
joined p None records = entry p.number.0 (with p new_record) ∷ records
joined p (Some r) records = replace_first p.number.0 (with p r) records

-- the record that a message of this number comes to: the newest of the number among the last that were opened, unless that
-- is closed
abbrev pub open_record : (capacity number : ℕ) → List (Entry Record) → Option Record
open_record capacity number records = unclosed (newest number (take capacity records))

-- both are of Syncs, or both of Delay_Reqs
abbrev pub is_same_kind : Kind → Kind → Bool
is_same_kind kinds.Sync kinds.Sync = true
is_same_kind kinds.Sync kinds.DelayReq = false
is_same_kind kinds.DelayReq kinds.Sync = false
is_same_kind kinds.DelayReq kinds.DelayReq = true

-- the records of a kind under their numbers, those that were opened last in front, as they stand
abbrev pub records : (capacity : ℕ) → Kind → List Placed → List (Entry Record)
records capacity kind [] = []
records capacity kind (p ∷ earlier) =
    if is_same_kind kind p.kind
    then joined p (open_record capacity p.number.0 (records capacity kind earlier)) (records capacity kind earlier)
    else records capacity kind earlier
