-- The keys that a line needs: by its `ev` or else its `kind`, and in a transcript by its `out`, too.
use Rattle.std.specs.Prelude.{ℕ, List, [], ◌∷◌, ◌++◌, codes, if◌then◌else◌, Option, Some, None, is_some}
use Rattle.std.specs.Prelude.{option_and_then, unwrap_or}
use Rattle.std.specs.Str.{bytes_eq}
use Rattle.serde_json.specs.Data.{Data}
use Rattle.serde_json.specs.Find.{get, as_str}
use Rattle.schedule_lines.specs.Json.{field}
use Rattle.schedule_lines.specs.EventKind.{kind_of}
use Rattle.schedule_lines.specs.declared.event_kind.EventKind.{EventKind}
use Rattle.schedule_lines.specs.declared.event_kind.EventKind.TheVariants.{Sync, SyncOne, Follow, Enter, Leave}
use Rattle.schedule_lines.specs.declared.event_kind.EventKind.TheVariants.{Arrive, Hear, Request, Stamped, Tick}
use Rattle.schedule_lines.specs.declared.event_kind.EventKind.TheVariants.{SetMaster, StepClock}
use Rattle.line_object.specs.declared.key.Key.{Key}
use Rattle.line_object.specs.declared.key.Key.TheVariants as keys

-- the keys of a node that has a port
abbrev pub port_keys : List Key
port_keys = keys.Kind ∷ keys.Node ∷ keys.Id ∷ keys.Port ∷ keys.Domain ∷ keys.Log ∷ keys.First ∷ []

-- the keys of a clock
abbrev pub clock_keys : List Key
clock_keys = keys.Kind ∷ keys.Node ∷ []

-- the keys of a node, by the text of `kind`
abbrev pub node_keys : List ℕ → Option (List Key)
node_keys text =
    if bytes_eq text (codes "master") then Some port_keys
    else if bytes_eq text (codes "slave") then Some port_keys
    else if bytes_eq text (codes "clock") then Some clock_keys
    else None

-- the keys of a kind of event in a schedule, beside `ev` and `node`
abbrev pub own_keys : EventKind → List Key
own_keys Sync = keys.At ∷ []
own_keys SyncOne = keys.At ∷ []
own_keys Follow = []
own_keys Enter = keys.CopyTag ∷ keys.At ∷ []
own_keys Leave = keys.TransitTag ∷ keys.At ∷ []
own_keys Arrive = keys.CopyTag ∷ keys.At ∷ []
own_keys Hear = keys.CopyTag ∷ []
own_keys Request = keys.At ∷ []
own_keys Stamped = []
own_keys Tick = []
own_keys SetMaster = keys.Master ∷ []
own_keys StepClock = keys.Diff ∷ []

-- the reading of an event that has a true moment
abbrev pub reading_keys : EventKind → List Key
reading_keys Sync = keys.Reading ∷ []
reading_keys SyncOne = keys.Reading ∷ []
reading_keys Enter = keys.Reading ∷ []
reading_keys Leave = keys.Reading ∷ []
reading_keys Arrive = keys.Reading ∷ []
reading_keys Request = keys.Reading ∷ []
reading_keys _ = []

-- the keys that tell what came of an event, beside `out`, by its text
abbrev pub outcome_keys : List ℕ → Option (List Key)
outcome_keys text =
    if bytes_eq text (codes "done") then Some []
    else if bytes_eq text (codes "made") then Some (keys.Hex ∷ [])
    else if bytes_eq text (codes "entered") then Some []
    else if bytes_eq text (codes "held") then Some []
    else if bytes_eq text (codes "completed") then Some []
    else if bytes_eq text (codes "report") then Some (keys.Offset2 ∷ keys.Path2 ∷ keys.Tags ∷ [])
    else if bytes_eq text (codes "ignored") then Some (keys.Code ∷ [])
    else if bytes_eq text (codes "refused") then Some (keys.Code ∷ [])
    else None

-- the keys that tell what came of an event; none where `out` names nothing
abbrev pub outcome_keys_in : Data → List Key
outcome_keys_in d = unwrap_or (option_and_then outcome_keys (field as_str (codes "out") d)) []

-- the keys of an event, where `ev` names one
abbrev pub keys_of_event : Option EventKind → List Key
keys_of_event None = keys.Ev ∷ []
keys_of_event (Some kind) = keys.Ev ∷ keys.Node ∷ own_keys kind

-- the keys that say what was recorded of an event, where `ev` names one
abbrev pub recorded_keys : Option EventKind → Data → List Key
recorded_keys None d = []
recorded_keys (Some kind) d = reading_keys kind ++ (keys.Out ∷ (outcome_keys_in d ++ (keys.Number ∷ [])))

-- the kind that `ev` names
abbrev pub kind_in : Data → Option EventKind
kind_in d = option_and_then kind_of (field as_str (codes "ev") d)

-- the keys that a node needs, or `kind` alone where that names none
abbrev pub needed_of_node : Data → List Key
needed_of_node d = unwrap_or (option_and_then node_keys (field as_str (codes "kind") d)) (keys.Kind ∷ [])

-- the keys that a line of a schedule needs
abbrev pub scheduled_keys : Data → List Key
scheduled_keys d = if is_some (get (codes "ev") d) then keys_of_event (kind_in d) else needed_of_node d

-- the keys that a line of a transcript needs
abbrev pub told_keys : Data → List Key
told_keys d =
    if is_some (get (codes "ev") d) then keys_of_event (kind_in d) ++ recorded_keys (kind_in d) d else needed_of_node d
