-- The line of a node, read again.
use Rattle.std.proofs.Common.{◌≡◌, ◌≤◌, ◌<◌, ◌≤ℤ◌, ℕ, ℤ, pos, negsuc, nat_lt, nat_le, List, length, codes, true, Some, None, ◌^◌, refl, arith}
use Rattle.std.proofs.lemmas.Bool.Decides.{nat_tests}
use Rattle.std.proofs.lemmas.Int.{ints}
use Rattle.hex.specs.Hex.{IsBytes}
use Rattle.hex.proofs.HexLemmas.{decode_sized-encode_lower}
use Rattle.serde_json.specs.Data.{Data, number}
use Rattle.serde_json.specs.Find.{get, of_integer}
use Rattle.event_codec.specs.declared.port.PortConfig.{PortConfig}
use Rattle.ptp_units.specs.declared.sequence.Seq.{Seq}
use Rattle.network_model.specs.declared.node.NodeKind.{NodeKind}
use Rattle.network_model.specs.declared.node.NodeKind.TheVariants as kinds
use Rattle.network_model.specs.declared.node.NodeSpec.{NodeSpec}
use Rattle.network_model.specs.Name.{IsName}
use Rattle.schedule_lines.specs.Json.{signed_octet_in, clock_in}
use Rattle.schedule_lines.specs.Line.{config_in, first_in, node_spec_in, line_of}
use Rattle.schedule_lines.specs.TranscriptLine.{transcript_line_of}
use Rattle.schedule_lines.specs.declared.reading.schedule.Line.TheVariants as schedules
use Rattle.schedule_lines.specs.declared.reading.transcript.TranscriptLine.TheVariants as lines
use Rattle.schedule_lines.specs.Written.{octets_data, port_data, kind_data}
use Rattle.schedule_lines.specs.Ranges.{IsConfig, IsKind, NodesReadBack}
use Rattle.schedule_lines.proofs.Texts.{name_back, below_back}

clock_back : (clock : List ℕ) → length clock ≡ 8 → IsBytes clock → clock_in (octets_data clock) ≡ Some clock
clock_back clock eight bytes = rw (decode_sized-encode_lower clock 8 eight bytes)

octet_back : (z : ℤ) → negsuc 127 ≤ℤ z → z ≤ℤ pos 127 → signed_octet_in (number (of_integer z)) ≡ Some z
octet_back (pos n) least most =
    let fits : n ≤ 127 = omega (arith, ints) in
    let kept : nat_lt n (2 ^ 63) ≡ true = grind (arith, nat_tests) in
    let test : nat_le n 127 ≡ true = grind (arith, nat_tests) in
    rw (kept, test)
octet_back (negsuc n) least most =
    let fits : n ≤ 127 = omega (arith, ints) in
    let test : nat_le n 127 ≡ true = grind (arith, nat_tests) in
    rw test

config_back : (name kind : List ℕ) (config : PortConfig) (first : Seq) → IsConfig config → config_in (port_data name kind config first) ≡ Some config
config_back name kind config first h =
    rw (clock_back config.identity.clock h.clock.0 h.clock.1, below_back 65536 config.identity.port h.port, below_back 256 config.domain h.domain, octet_back config.log h.log.0 h.log.1)

first_back : (name kind : List ℕ) (config : PortConfig) (first : Seq) → first.0 < 65536 → first_in (port_data name kind config first) ≡ Some first
first_back name kind config first h = rw (below_back 65536 first.0 h)

spec_back : (name : List ℕ) (kind : NodeKind) → IsName name → IsKind kind → node_spec_in (kind_data name kind) ≡ Some (record { name = name; kind = kind })
spec_back name (kinds.Master config first) named h =
    rw (name_back name named, config_back name (codes "master") config first h.0, first_back name (codes "master") config first h.1)
spec_back name (kinds.Slave config first) named h =
    rw (name_back name named, config_back name (codes "slave") config first h.0, first_back name (codes "slave") config first h.1)
spec_back name kinds.Clock named h = rw (name_back name named)

is_no_event : (name : List ℕ) (kind : NodeKind) → get (codes "ev") (kind_data name kind) ≡ None
is_no_event name (kinds.Master config first) = refl
is_no_event name _ = refl

in_schedule : (node : NodeSpec) (d : Data) → get (codes "ev") d ≡ None → node_spec_in d ≡ Some node → line_of d ≡ Some (schedules.Node node)
in_schedule node d ev spec = rw (spec, ev)

in_transcript : (node : NodeSpec) (d : Data) → get (codes "ev") d ≡ None → node_spec_in d ≡ Some node → transcript_line_of d ≡ Some (lines.Node node)
in_transcript node d ev spec = rw (spec, ev)

-- a node within its ranges is read as it was written
pub nodes_back : NodesReadBack
nodes_back node h =
    let d = kind_data node.name node.kind in
    let ev = is_no_event node.name node.kind in
    let spec = spec_back node.name node.kind h.0 h.1 in
    (in_schedule node d ev spec, in_transcript node d ev spec)
