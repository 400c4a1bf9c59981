-- The pieces of which a line's text is made.
use Rattle.std.specs.Prelude.{ℕ, List, [], ◌++◌, codes, Option, Some, None, option_map}
use Rattle.serde_json.specs.Data.{Data}
use Rattle.serde_json.specs.Written.{compact_text}
use Rattle.network_model.specs.Run.{true_moment}
use Rattle.network_model.specs.Kinds.{named_copy, named_difference, named_transit}
use Rattle.network_model.specs.declared.event.Event.{Event}
use Rattle.trace_model.specs.declared.line.TraceOut.{TraceOut}
use Rattle.schedule_lines.specs.Written.{whole, moment_data, difference_data, octets_data, tags_data, event_text}
use Rattle.schedule_lines.specs.Written.{out_text, made_octets, out_report}

-- the text of a value between two texts, where there is one
abbrev pub piece : List ℕ → List ℕ → Option Data → List ℕ
piece front back None = []
piece front back (Some d) = front ++ (compact_text d ++ back)

-- the members up to `ev`, the code of an answer among them
abbrev pub front_text : Event → Option ℕ → List ℕ
front_text event code =
    piece (codes "\"at\":") (codes ",") (option_map moment_data (true_moment event))
    ++ (piece (codes "\"code\":") (codes ",") (option_map whole code)
    ++ (piece (codes "\"copy\":") (codes ",") (option_map whole (named_copy event))
    ++ (piece (codes "\"diff\":") (codes ",") (option_map difference_data (named_difference event))
    ++ (codes "\"ev\":\"" ++ (event_text event ++ codes "\"")))))

-- the octets of a message that was made
abbrev pub made_text : TraceOut → List ℕ
made_text out = piece (codes ",\"hex\":") [] (option_map octets_data (made_octets out))

-- twice the offset of a report, and twice its path delay
abbrev pub offset_text : TraceOut → List ℕ
offset_text out = piece (codes ",\"offset2\":") [] (option_map (λ r. difference_data r.offset2) (out_report out))

abbrev pub path_text : TraceOut → List ℕ
path_text out = piece (codes ",\"path2\":") [] (option_map (λ r. difference_data r.path2) (out_report out))

-- what an event brought about, between the two results of a report
abbrev pub answer_text : TraceOut → List ℕ
answer_text out = offset_text out ++ (codes ",\"out\":\"" ++ (out_text out ++ (codes "\"" ++ path_text out)))

-- the tags of a report
abbrev pub report_text : TraceOut → List ℕ
report_text out = piece (codes ",\"tags\":") [] (option_map tags_data (out_report out))

-- the last member, and the end of the object
abbrev pub end_text : Event → List ℕ
end_text event = piece (codes ",\"transit\":") [] (option_map whole (named_transit event)) ++ codes "}"

-- the domain of a port, and the number that it draws first
abbrev pub drawn_text : ℕ → ℕ → List ℕ
drawn_text domain first =
    codes "{\"domain\":" ++ (compact_text (whole domain) ++ (codes ",\"first\":" ++ compact_text (whole first)))

-- the clockIdentity of a port
abbrev pub clock_text : List ℕ → List ℕ
clock_text clock = codes ",\"id\":" ++ compact_text (octets_data clock)
