-- The keys of a line, as a list.
use Rattle.std.proofs.Common.{ℕ, List, [], ◌∷◌, codes, Option, Some, option_map}
use Rattle.serde_json.specs.Data.{Data, string, Members, no_members}
use Rattle.network_model.specs.Run.{site_of, true_moment}
use Rattle.network_model.specs.Kinds.{named_master, named_difference, named_transit, named_copy}
use Rattle.network_model.specs.declared.event.Event.{Event}
use Rattle.trace_model.specs.declared.line.TraceLine.{TraceLine}
use Rattle.schedule_lines.specs.Written.{whole, moment_data, difference_data, octets_data, tags_data, with_some}
use Rattle.schedule_lines.specs.Written.{event_text, made_octets, out_text, out_code, out_report}

-- a key, and its value where there is one
abbrev pub Field : Type 0
Field = List ℕ × Option Data

-- the members with these keys
abbrev pub members_of : List Field → Members
members_of [] = no_members
members_of (f ∷ fs) = with_some f.0 f.1 (members_of fs)

-- an event's own keys, in front of others
abbrev pub event_fields : Event → List Field → List Field
event_fields event rest =
    (codes "at", option_map moment_data (true_moment event))
    ∷ (codes "copy", option_map whole (named_copy event))
    ∷ (codes "diff", option_map difference_data (named_difference event))
    ∷ (codes "ev", Some (string (event_text event)))
    ∷ (codes "master", option_map string (named_master event))
    ∷ (codes "node", Some (string (site_of event)))
    ∷ (codes "transit", option_map whole (named_transit event))
    ∷ rest

-- the keys beside them in a transcript
abbrev pub answer_fields : ℕ → TraceLine → List Field
answer_fields n line =
    (codes "code", option_map whole (out_code line.out))
    ∷ (codes "hex", option_map octets_data (made_octets line.out))
    ∷ (codes "n", Some (whole n))
    ∷ (codes "out", Some (string (out_text line.out)))
    ∷ (codes "reading", option_map moment_data line.reading)
    ∷ (codes "offset2", option_map (λ r. difference_data r.offset2) (out_report line.out))
    ∷ (codes "path2", option_map (λ r. difference_data r.path2) (out_report line.out))
    ∷ (codes "tags", option_map tags_data (out_report line.out))
    ∷ []

-- the keys of an event's line
abbrev pub line_fields : ℕ → TraceLine → List Field
line_fields n line = event_fields line.event (answer_fields n line)
