-- The texts of lines, read as their values.
use Rattle.std.proofs.Common.{◌≡◌, ◌<◌, ◌≤ℤ◌, ◌^◌, ◌/◌, ◌%◌, ◌-◌, ℕ, ℤ, pos, negsuc, List, [], ◌∷◌, codes, Option}
use Rattle.std.proofs.Common.{Some, None, IfSome, option_map, ap, arith}
use Rattle.std.proofs.lemmas.Int.{ints}
use Rattle.json.proofs.Printed.Decimals.{IsNumber-decimal, IsNumber-signed_decimal}
use Rattle.serde_json.specs.Data.{string, number}
use Rattle.serde_json.specs.Find.{of_integer}
use Rattle.serde_json.specs.Read.{read}
use Rattle.serde_json.specs.Written.{compact_text}
use Rattle.serde_json.proofs.Numbers.{number_of-decimal, number_of-negative}
use Rattle.event_codec.specs.declared.port.PortConfig.{PortConfig}
use Rattle.ptp_units.specs.declared.sequence.Seq.{Seq}
use Rattle.ptp_units.specs.Moment.{bound}
use Rattle.slave_port.specs.declared.heard.Report.{Report}
use Rattle.network_model.specs.declared.node.NodeKind.{NodeKind}
use Rattle.network_model.specs.Run.{true_moment}
use Rattle.network_model.specs.Kinds.{named_master, named_difference, named_transit, named_copy}
use Rattle.trace_model.specs.declared.line.TraceLine.{TraceLine}
use Rattle.schedule_lines.proofs.Keys.{Field, members_of, line_fields}
use Rattle.schedule_lines.proofs.Compact.{IsReadable, AreReadableFields, read_object, text_readable, whole_readable}
use Rattle.schedule_lines.proofs.Compact.{field_readable, members_readable, members_ascending}
use Rattle.schedule_lines.specs.Written.{whole, moment_data, difference_data, octets_data, tags_data}
use Rattle.schedule_lines.specs.Written.{port_data, kind_data, made_octets, out_code, out_report}
use Rattle.schedule_lines.specs.Ranges.{IsConfig, IsKind, IsTag, HasTags, IsTagged, IsRecorded, NodeTextsReadBack}
use Rattle.schedule_lines.specs.Ranges.{EventTextsReadBack}
use Rattle.schedule_lines.proofs.ReadBack.{always, code_out}
use Rattle.network_model.specs.declared.node.NodeKind.TheVariants as kinds

pub moment_readable : (time : ℕ) → time < bound → IsReadable (moment_data time)
moment_readable time h =
    let seconds : time / 65536 / 1000000000 < 2 ^ 64 = omega arith in
    let nanos : time / 65536 % 1000000000 < 2 ^ 64 = omega arith in
    let fraction : time % 65536 < 2 ^ 64 = omega arith in
    record {
      same = rw (number_of-decimal _ seconds, number_of-decimal _ nanos, number_of-decimal _ fraction);
      numbers = (IsNumber-decimal _ seconds, (IsNumber-decimal _ nanos, (IsNumber-decimal _ fraction, tt)));
      shallow = omega arith;
    }

tags_at : (sync request response : ℕ) (follow : Option ℕ) → IsTag sync → IfSome follow IsTag → IsTag request → IsTag response
    → (offset2 path2 : ℤ) → IsReadable (tags_data (record { offset2 = offset2; path2 = path2; sync_tag = sync; follow_tag = follow; request_tag = request; response_tag = response }))
tags_at sync request response None s f q r offset2 path2 = record {
  same = rw (number_of-decimal sync s, number_of-decimal request q, number_of-decimal response r);
  numbers = (IsNumber-decimal sync s, (tt, (IsNumber-decimal request q, (IsNumber-decimal response r, tt))));
  shallow = omega arith;
}
tags_at sync request response (Some tag) s f q r offset2 path2 = record {
  same = rw (number_of-decimal sync s, number_of-decimal tag f, number_of-decimal request q, number_of-decimal response r);
  numbers = (IsNumber-decimal sync s, (IsNumber-decimal tag f, (IsNumber-decimal request q, (IsNumber-decimal response r, tt))));
  shallow = omega arith;
}

tags_readable : (report : Report) → HasTags report → IsReadable (tags_data report)
tags_readable report h = tags_at report.sync_tag report.request_tag report.response_tag report.follow_tag h.sync h.follow h.request h.response report.offset2 report.path2

integer_readable : (z : ℤ) → negsuc 127 ≤ℤ z → z ≤ℤ pos 127 → IsReadable (number (of_integer z))
integer_readable (pos n) least most = whole_readable n (omega (arith, ints))
integer_readable (negsuc n) least most =
    let small : n < 2 ^ 63 - 1 = omega (arith, ints) in
    record { same = ap (option_map number) (number_of-negative n (omega arith)); numbers = IsNumber-signed_decimal (negsuc n) (omega arith); shallow = omega arith }

small_readable : (n : ℕ) → n < 65536 → IsReadable (whole n)
small_readable n h = whole_readable n (omega arith)

fields_readable : (n : ℕ) (line : TraceLine) → IsRecorded line → IsTagged n line → AreReadableFields (line_fields n line)
fields_readable n line h tagged =
    let e = line.event in (
      field_readable moment_data (true_moment e) (λ time. time < bound) moment_readable h.event.moment,
      (
        field_readable whole (named_copy e) IsTag whole_readable tagged.copy,
        (
          field_readable difference_data (named_difference e) (λ _. Unit {0}) (λ z _. text_readable _) (always (named_difference e)),
          (
            text_readable _,
            (
              field_readable string (named_master e) (λ _. Unit {0}) (λ text _. text_readable text) (always (named_master e)),
              (
                text_readable _,
                (
                  field_readable whole (named_transit e) IsTag whole_readable tagged.transit,
                  (
                    field_readable whole (out_code line.out) (λ code. code < 65536) small_readable (code_out line.out h.out),
                    (
                      field_readable octets_data (made_octets line.out) (λ _. Unit {0}) (λ octets _. text_readable _) (always (made_octets line.out)),
                      (
                        whole_readable n tagged.number,
                        (
                          text_readable _,
                          (
                            field_readable moment_data line.reading (λ time. time < bound) moment_readable h.reading,
                            (
                              field_readable (λ r. difference_data r.offset2) (out_report line.out) HasTags (λ r _. text_readable _) tagged.report,
                              (
                                field_readable (λ r. difference_data r.path2) (out_report line.out) HasTags (λ r _. text_readable _) tagged.report,
                                (field_readable tags_data (out_report line.out) HasTags tags_readable tagged.report, tt),
                              ),
                            ),
                          ),
                        ),
                      ),
                    ),
                  ),
                ),
              ),
            ),
          ),
        ),
      ),
    )

-- the text of an event's line is read as its value
pub event_texts_back : EventTextsReadBack
event_texts_back n line h tagged =
    let fs = line_fields n line in
    read_object (members_of fs) (members_readable fs (fields_readable n line h tagged)) (members_ascending fs)

-- the keys of a node with a port
abbrev pub port_fields : List ℕ → List ℕ → PortConfig → Seq → List Field
port_fields name kind config first =
    (codes "domain", Some (whole config.domain))
    ∷ (codes "first", Some (whole first.0))
    ∷ (codes "id", Some (octets_data config.identity.clock))
    ∷ (codes "kind", Some (string kind))
    ∷ (codes "log", Some (number (of_integer config.log)))
    ∷ (codes "node", Some (string name))
    ∷ (codes "port", Some (whole config.identity.port))
    ∷ []

port_text_back : (name kind : List ℕ) (config : PortConfig) (first : Seq) → IsConfig config → first.0 < 65536
    → read (compact_text (port_data name kind config first)) ≡ Some (port_data name kind config first)
port_text_back name kind config first h fits =
    let fs = port_fields name kind config first in
    let readable : AreReadableFields fs = (
      small_readable config.domain (omega (arith, h.domain)),
      (
        small_readable first.0 fits,
        (
          text_readable _,
          (
            text_readable kind,
            (
              integer_readable config.log h.log.0 h.log.1,
              (
                text_readable name,
                (small_readable config.identity.port h.port, tt),
              ),
            ),
          ),
        ),
      ),
    )
    in
    read_object (members_of fs) (members_readable fs readable) (members_ascending fs)

-- the keys of a clock
abbrev pub clock_fields : List ℕ → List Field
clock_fields name = (codes "kind", Some (string (codes "clock"))) ∷ (codes "node", Some (string name)) ∷ []

clock_text_back : (name : List ℕ) → read (compact_text (kind_data name kinds.Clock)) ≡ Some (kind_data name kinds.Clock)
clock_text_back name =
    let fs = clock_fields name in
    read_object (members_of fs) (members_readable fs (text_readable _, (text_readable name, tt))) (members_ascending fs)

kind_text_back : (name : List ℕ) (kind : NodeKind) → IsKind kind → read (compact_text (kind_data name kind)) ≡ Some (kind_data name kind)
kind_text_back name (kinds.Master config first) h = port_text_back name (codes "master") config first h.0 h.1
kind_text_back name (kinds.Slave config first) h = port_text_back name (codes "slave") config first h.0 h.1
kind_text_back name kinds.Clock h = clock_text_back name

-- the text of a node's line is read as its value
pub node_texts_back : NodeTextsReadBack
node_texts_back node h = kind_text_back node.name node.kind h.1
