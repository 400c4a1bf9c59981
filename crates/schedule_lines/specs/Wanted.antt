-- What is wanted of a key's value, and of the parts of an array.
use Rattle.std.specs.Prelude.{◌≡◌, ℕ, pos, Bool, true, false, Option, Some, is_some, option_map, option_and_then, unwrap_or}
use Rattle.serde_json.specs.Data.{Data}
use Rattle.serde_json.specs.Find.{get, at, as_str}
use Rattle.schedule_lines.specs.Json.{has_items, whole_in, whole_below, signed_octet_in, name_in, clock_in}
use Rattle.schedule_lines.specs.Json.{octets_in, moment_in, difference_in}
use Rattle.schedule_lines.specs.EventKind.{kind_of}
use Rattle.schedule_lines.specs.TranscriptLine.{follow_in, report_of}
use Rattle.schedule_lines.specs.Needed.{node_keys, outcome_keys}
use Rattle.line_object.specs.Key.{key_text}
use Rattle.line_object.specs.declared.key.Key.{Key}
use Rattle.line_object.specs.declared.key.Key.TheVariants as keys
use Rattle.schedule_lines.specs.declared.wanted.Part.{Part}
use Rattle.schedule_lines.specs.declared.wanted.Part.TheVariants as parts
use Rattle.schedule_lines.specs.declared.wanted.Wanted.{Wanted}
use Rattle.schedule_lines.specs.declared.wanted.Wanted.TheVariants as wanteds

-- what is wanted of a key's value
abbrev pub wanted_of : Key → Wanted
wanted_of keys.Ev = wanteds.EventKind
wanted_of keys.Kind = wanteds.NodeKind
wanted_of keys.Node = wanteds.Name
wanted_of keys.Id = wanteds.Identity
wanted_of keys.Port = wanteds.Whole 65536
wanted_of keys.Domain = wanteds.Whole 256
wanted_of keys.First = wanteds.Whole 65536
wanted_of keys.Log = wanteds.SignedOctet
wanted_of keys.At = wanteds.Moment
wanted_of keys.CopyTag = wanteds.Tag
wanted_of keys.TransitTag = wanteds.Tag
wanted_of keys.Master = wanteds.Name
wanted_of keys.Diff = wanteds.Difference
wanted_of keys.Number = wanteds.Tag
wanted_of keys.Reading = wanteds.Moment
wanted_of keys.Out = wanteds.Outcome
wanted_of keys.Hex = wanteds.Octets
wanted_of keys.Code = wanteds.Whole 65536
wanted_of keys.Offset2 = wanteds.Difference
wanted_of keys.Path2 = wanteds.Difference
wanted_of keys.Tags = wanteds.Tags

-- whether a value is what is wanted: by `ev`, `kind` and `out` something is named, and any other is read
abbrev pub is_wanted : Wanted → Data → Bool
is_wanted wanteds.NodeKind d = is_some (option_and_then node_keys (as_str d))
is_wanted wanteds.EventKind d = is_some (option_and_then kind_of (as_str d))
is_wanted wanteds.Outcome d = is_some (option_and_then outcome_keys (as_str d))
is_wanted wanteds.Name d = is_some (name_in d)
is_wanted wanteds.Identity d = is_some (clock_in d)
is_wanted (wanteds.Whole bound) d = is_some (whole_below bound d)
is_wanted wanteds.Tag d = is_some (whole_in d)
is_wanted wanteds.SignedOctet d = is_some (signed_octet_in d)
is_wanted wanteds.Moment d = is_some (moment_in d)
is_wanted wanteds.Difference d = is_some (difference_in d)
is_wanted wanteds.Octets d = is_some (octets_in d)
is_wanted wanteds.Tags d = is_some (report_of (pos 0) (pos 0) d)
is_wanted wanteds.TagOrNull d = is_some (follow_in d)

-- whether the value of a key is one that is wanted; None where the key isn't there
abbrev pub wanted_at : Key → Data → Option Bool
wanted_at key d = option_map (is_wanted (wanted_of key)) (get (key_text key) d)

-- a key is there, with a value that is wanted
abbrev pub HasWanted : Data → Key → Type 0
HasWanted d key = wanted_at key d ≡ Some true

-- what is wanted of a part
abbrev pub part_wanted : Part → Wanted
part_wanted parts.Seconds = wanteds.Whole 281474976710656
part_wanted parts.Nanoseconds = wanteds.Whole 1000000000
part_wanted parts.Fraction = wanteds.Whole 65536
part_wanted parts.SyncTag = wanteds.Tag
part_wanted parts.FollowTag = wanteds.TagOrNull
part_wanted parts.RequestTag = wanteds.Tag
part_wanted parts.ResponseTag = wanteds.Tag

-- the array that has a part: a moment, or tags
abbrev pub array_of : Part → Wanted
array_of parts.Seconds = wanteds.Moment
array_of parts.Nanoseconds = wanteds.Moment
array_of parts.Fraction = wanteds.Moment
array_of parts.SyncTag = wanteds.Tags
array_of parts.FollowTag = wanteds.Tags
array_of parts.RequestTag = wanteds.Tags
array_of parts.ResponseTag = wanteds.Tags

-- how many parts such an array has; none where none is wanted
abbrev pub part_count : Wanted → ℕ
part_count wanteds.Moment = 3
part_count wanteds.Tags = 4
part_count _ = 0

-- the place of a part in its array
abbrev pub place_of : Part → ℕ
place_of parts.Seconds = 0
place_of parts.Nanoseconds = 1
place_of parts.Fraction = 2
place_of parts.SyncTag = 0
place_of parts.FollowTag = 1
place_of parts.RequestTag = 2
place_of parts.ResponseTag = 3

-- whether an array has at the place of a part what is wanted there
abbrev pub is_wanted_part : Part → Data → Bool
is_wanted_part part d = unwrap_or (option_map (is_wanted (part_wanted part)) (at (place_of part) d)) false

-- an array has as many items as it has parts, and at the place of this part isn't what is wanted there
abbrev pub HasWrong : Part → Data → Type 0
HasWrong part d = (has_items (part_count (array_of part)) d ≡ true) × (is_wanted_part part d ≡ false)
