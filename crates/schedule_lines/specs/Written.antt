-- The values and the texts of the lines that are written.
use Rattle.std.specs.Prelude.{ℕ, ℤ, List, [], ◌∷◌, ◌++◌, codes, Option, Some, None, option_map}
use Rattle.std.specs.Fmt.{signed_decimal}
use Rattle.hex.specs.Hex.{encode_lower}
use Rattle.serde_json.specs.Data.{Data, null, number, unsigned, string, array, object, item, no_items, Members}
use Rattle.serde_json.specs.Data.{member, no_members, put}
use Rattle.serde_json.specs.Find.{of_integer}
use Rattle.serde_json.specs.Written.{compact_text}
use Rattle.event_codec.specs.declared.port.PortConfig.{PortConfig}
use Rattle.ptp_units.specs.declared.sequence.Seq.{Seq}
use Rattle.ptp_units.specs.Moment.{stamp_of, fraction_of}
use Rattle.slave_port.specs.declared.heard.Report.{Report}
use Rattle.network_model.specs.declared.event.Event.{Event}
use Rattle.network_model.specs.declared.node.NodeKind.{NodeKind}
use Rattle.network_model.specs.declared.node.NodeSpec.{NodeSpec}
use Rattle.network_model.specs.Run.{site_of, true_moment}
use Rattle.network_model.specs.Kinds.{named_copy, named_master, named_difference, named_transit}
use Rattle.trace_model.specs.declared.line.TraceLine.{TraceLine}
use Rattle.trace_model.specs.declared.line.TraceOut.{TraceOut}
use Rattle.schedule_lines.specs.EventKind.{event_word, kind_of_event}
use Rattle.network_model.specs.declared.node.NodeKind.TheVariants as kinds
use Rattle.trace_model.specs.declared.line.TraceOut.TheVariants as outs

-- a whole number
abbrev pub whole : ℕ → Data
whole n = number (unsigned n)

-- a moment `[s,n,f]`: seconds, nanoseconds, and 2^-16 ns
abbrev pub moment_data : ℕ → Data
moment_data time =
    array (item (whole (stamp_of time).seconds) (item (whole (stamp_of time).nanos)
    (item (whole (fraction_of time)) no_items)))

-- a signed number, as its text
abbrev pub difference_data : ℤ → Data
difference_data z = string (signed_decimal z)

-- octets in hexadecimal, of lower case
abbrev pub octets_data : List ℕ → Data
octets_data octets = string (encode_lower octets)

-- an object's members, with a value at a key where there is one; they stay in the byte order of their keys
abbrev pub with_some : List ℕ → Option Data → Members → Members
with_some key None members = members
with_some key (Some value) members = put key value members

-- a node with a port
abbrev pub port_data : List ℕ → List ℕ → PortConfig → Seq → Data
port_data name kind config first = object
    (member (codes "domain") (whole config.domain) (member (codes "first") (whole first.0)
    (member (codes "id") (octets_data config.identity.clock) (member (codes "kind") (string kind)
    (member (codes "log") (number (of_integer config.log)) (member (codes "node") (string name)
    (member (codes "port") (whole config.identity.port) no_members)))))))

-- a node
abbrev pub kind_data : List ℕ → NodeKind → Data
kind_data name (kinds.Master config first) = port_data name (codes "master") config first
kind_data name (kinds.Slave config first) = port_data name (codes "slave") config first
kind_data name kinds.Clock =
    object (member (codes "kind") (string (codes "clock")) (member (codes "node") (string name) no_members))

abbrev pub node_data : NodeSpec → Data
node_data node = kind_data node.name node.kind

-- the text of `ev`
abbrev pub event_text : Event → List ℕ
event_text event = event_word (kind_of_event event)

-- the keys that an event has in a schedule
abbrev pub with_event : Event → Members → Members
with_event event members =
    with_some (codes "at") (option_map moment_data (true_moment event))
    (with_some (codes "copy") (option_map whole (named_copy event))
    (with_some (codes "diff") (option_map difference_data (named_difference event))
    (with_some (codes "ev") (Some (string (event_text event)))
    (with_some (codes "master") (option_map string (named_master event))
    (with_some (codes "node") (Some (string (site_of event)))
    (with_some (codes "transit") (option_map whole (named_transit event)) members))))))

-- the value of an event's line in a schedule
abbrev pub scheduled_data : Event → Data
scheduled_data event = object (with_event event no_members)

-- the text of `out`
abbrev pub out_text : TraceOut → List ℕ
out_text outs.Done = codes "done"
out_text (outs.Made octets) = codes "made"
out_text outs.Entered = codes "entered"
out_text outs.Held = codes "held"
out_text outs.Completed = codes "completed"
out_text (outs.Report report) = codes "report"
out_text (outs.Ignored code) = codes "ignored"
out_text (outs.Refused code) = codes "refused"

-- the octets of the message that was made
abbrev pub made_octets : TraceOut → Option (List ℕ)
made_octets (outs.Made octets) = Some octets.items
made_octets _ = None

-- the number of a reason or a refusal
abbrev pub out_code : TraceOut → Option ℕ
out_code (outs.Ignored code) = Some code
out_code (outs.Refused code) = Some code
out_code _ = None

-- the report that a slave gave
abbrev pub out_report : TraceOut → Option Report
out_report (outs.Report report) = Some report
out_report _ = None

-- the tag of a Follow_Up, or null after a one-step Sync
abbrev pub follow_data : Option ℕ → Data
follow_data None = null
follow_data (Some tag) = whole tag

-- the tags of a report: sync, follow, request, response
abbrev pub tags_data : Report → Data
tags_data report =
    array (item (whole report.sync_tag) (item (follow_data report.follow_tag)
    (item (whole report.request_tag) (item (whole report.response_tag) no_items))))

-- the keys that a report has
abbrev pub with_report : Option Report → Members → Members
with_report report members =
    with_some (codes "offset2") (option_map (λ r. difference_data r.offset2) report)
    (with_some (codes "path2") (option_map (λ r. difference_data r.path2) report)
    (with_some (codes "tags") (option_map tags_data report) members))

-- the keys that a line has beside those of its event
abbrev pub with_answer : ℕ → TraceLine → Members → Members
with_answer n line members =
    with_some (codes "code") (option_map whole (out_code line.out))
    (with_some (codes "hex") (option_map octets_data (made_octets line.out))
    (with_some (codes "n") (Some (whole n))
    (with_some (codes "out") (Some (string (out_text line.out)))
    (with_some (codes "reading") (option_map moment_data line.reading)
    (with_report (out_report line.out) members)))))

-- the line of this number of a transcript's events
abbrev pub event_data : ℕ → TraceLine → Data
event_data n line = object (with_event line.event (with_answer n line no_members))

-- the text of a line: the compact text of its value, and LF
abbrev pub line_text : Data → List ℕ
line_text d = compact_text d ++ 10 ∷ []
