-- The text of each line is shown and has 4,096 octets at the most.
use Rattle.std.proofs.Common.{◌≡◌, ℕ, suc, ℤ, pos, negsuc, ◌^◌, ◌<◌, ◌≤◌, ◌≤ℤ◌, true, ◌&&◌, nat_lt, List, [], ◌∷◌}
use Rattle.std.proofs.Common.{length, codes, Option, Some, None, IfSome, refl, arith}
use Rattle.std.specs.List.{list_all}
use Rattle.std.proofs.lemmas.Bool.{and_parts}
use Rattle.std.proofs.lemmas.Bool.Decides.{nat_tests}
use Rattle.std.proofs.lemmas.Int.{ints}
use Rattle.std.proofs.lemmas.List.Sums.{list_all-from_AllPass}
use Rattle.hex.specs.Hex.{IsBytes}
use Rattle.serde_json.specs.Data.{number, string}
use Rattle.serde_json.specs.Find.{of_integer}
use Rattle.serde_json.specs.Written.{compact_text}
use Rattle.event_codec.specs.declared.port.PortConfig.{PortConfig}
use Rattle.ptp_units.specs.declared.sequence.Seq.{Seq}
use Rattle.ptp_units.specs.Moment.{bound, stamp_of, fraction_of}
use Rattle.slave_port.specs.declared.heard.Report.{Report}
use Rattle.network_model.specs.Name.{IsName, is_name_octet}
use Rattle.network_model.specs.Run.{true_moment}
use Rattle.network_model.specs.Kinds.{named_master, named_difference, named_transit, named_copy}
use Rattle.network_model.specs.declared.event.Event.{Event}
use Rattle.network_model.specs.declared.event.Event.TheVariants.{StepClock}
use Rattle.network_model.specs.declared.node.NodeKind.{NodeKind}
use Rattle.network_model.specs.declared.node.NodeSpec.{NodeSpec}
use Rattle.trace_model.specs.declared.line.TraceLine.{TraceLine}
use Rattle.trace_model.specs.declared.line.TraceOut.{TraceOut}
use Rattle.schedule_lines.proofs.Keys.{Field, members_of, line_fields}
use Rattle.schedule_lines.proofs.Lookup.{count_fields, members_len-members_of}
use Rattle.schedule_lines.specs.Written.{whole, moment_data, difference_data, octets_data, port_data, kind_data}
use Rattle.schedule_lines.specs.Written.{node_data, event_text, out_text, made_octets, out_code}
use Rattle.schedule_lines.specs.Written.{out_report, follow_data, tags_data, event_data}
use Rattle.schedule_lines.specs.Ranges.{IsShort, IsOut, IsConfig, IsKind, IsNode, IsTag, HasTags, IsTagged}
use Rattle.schedule_lines.specs.Ranges.{IsRecorded}
use Rattle.schedule_lines.proofs.ReadBack.{code_out}
use Rattle.schedule_lines.proofs.ShownTexts.{is_shown, Fits, fits_more, fits_quoted, fits_whole, fits_signed}
use Rattle.schedule_lines.proofs.ShownTexts.{fits_hex, fits_three, fits_four, fits_object, IsShownValue}
use Rattle.schedule_lines.proofs.ShownTexts.{AreShownFields, field_shown, members_shown}
use Rattle.network_model.specs.declared.node.NodeKind.TheVariants as kinds
use Rattle.trace_model.specs.declared.line.TraceOut.TheVariants as outs

-- ---- values

pub shown_string : {n : ℕ} (text : List ℕ) → Fits n text → n ≤ 108 → IsShownValue (string text)
shown_string text h few = fits_more 220 (omega (arith, few)) (fits_quoted text h)

pub shown_whole : (n : ℕ) → IsTag n → IsShownValue (whole n)
shown_whole n small = fits_more 220 (omega arith) (fits_whole n small)

shown_code : (n : ℕ) → n < 65536 → IsShownValue (whole n)
shown_code n small = shown_whole n (omega (arith, small))

pub shown_moment : (time : ℕ) → time < bound → IsShownValue (moment_data time)
shown_moment time h =
    fits_more 220 (omega arith) (fits_three (whole (stamp_of time).seconds) (whole (stamp_of time).nanos) (whole (fraction_of time))
    (fits_whole _ (omega (arith, h))) (fits_whole _ (omega (arith, h))) (fits_whole _ (omega (arith, h))))

pub shown_difference : (z : ℤ) → IsShort z → IsShownValue (difference_data z)
shown_difference z h = shown_string _ (fits_signed z h) (omega arith)

shown_octets : (octets : List ℕ) → length octets ≤ 54 → IsBytes octets → IsShownValue (octets_data octets)
shown_octets octets few bytes = shown_string _ (fits_hex octets bytes) (omega (arith, few))

shown_name_octet : (x : ℕ) → is_name_octet x ≡ true → is_shown x ≡ true
shown_name_octet x name =
    let low : nat_lt 31 x ≡ true = grind (arith, nat_tests, name) in
    let high : nat_lt x 127 ≡ true = grind (arith, nat_tests, name) in
    λ i. low i && high i

shown_octets_of_name : (text : List ℕ) → list_all is_name_octet text ≡ true → list_all is_shown text ≡ true
shown_octets_of_name [] h = refl
shown_octets_of_name (x ∷ xs) h =
    let parts : (is_name_octet x ≡ true) × (list_all is_name_octet xs ≡ true) = and_parts (is_name_octet x) (list_all is_name_octet xs) h in
    let first = shown_name_octet x parts.0 in
    let others = shown_octets_of_name xs parts.1 in
    λ i. first i && others i

fits_name : (text : List ℕ) → IsName text → Fits 16 text
fits_name text h = record { short = h.fits; shown = shown_octets_of_name text (list_all-from_AllPass is_name_octet text h.octets) }

pub shown_name : (text : List ℕ) → IsName text → IsShownValue (string text)
shown_name text h = shown_string text (fits_name text h) (omega arith)

fits_follow : (tag : Option ℕ) → IfSome tag IsTag → Fits 20 (compact_text (follow_data tag))
fits_follow None h = record { short = omega arith; shown = refl }
fits_follow (Some tag) h = fits_whole tag h

shown_tags : (report : Report) → HasTags report → IsShownValue (tags_data report)
shown_tags report h =
    fits_more 220 (omega arith) (fits_four (whole report.sync_tag) (follow_data report.follow_tag) (whole report.request_tag) (whole report.response_tag)
    (fits_whole _ h.sync) (fits_follow report.follow_tag h.follow) (fits_whole _ h.request) (fits_whole _ h.response))

-- a word of at most 12 octets
fits_word : (text : List ℕ) → nat_lt (length text) 13 ≡ true → list_all is_shown text ≡ true → Fits 12 text
fits_word text few shown = record { short = grind (arith, nat_tests, few); shown = shown }

pub fits_event : (event : Event) → Fits 12 (event_text event)
fits_event (StepClock node diff) = fits_word _ refl refl
fits_event _ = fits_word _ refl refl

fits_out : (out : TraceOut) → Fits 12 (out_text out)
fits_out outs.Done = fits_word _ refl refl
fits_out _ = fits_word _ refl refl

-- ---- an event's line

abbrev AreOctets : List ℕ → Type 0
AreOctets octets = (length octets ≤ 54) × IsBytes octets

octets_out : (out : TraceOut) → IsOut out → IfSome (made_octets out) AreOctets
octets_out (outs.Made octets) h = h
octets_out _ h = tt

abbrev IsShortReport : Report → Type 0
IsShortReport report = IsShort report.offset2 × IsShort report.path2

report_out : (out : TraceOut) → IsOut out → IfSome (out_report out) IsShortReport
report_out (outs.Report answer) h = h
report_out _ h = tt

-- a field's value in front of others
pair : {A B : Type 0} → A → B → A × B
pair a b = (a, b)

fields_shown : (n : ℕ) (line : TraceLine) → IsRecorded line → IsTagged n line → AreShownFields (line_fields n line)
fields_shown n line h tagged =
    let e = line.event in
    let short = report_out line.out h.out in
    pair (field_shown moment_data (true_moment e) (λ time. time < bound) shown_moment h.event.moment)
    (pair (field_shown whole (named_copy e) IsTag shown_whole tagged.copy)
    (pair (field_shown difference_data (named_difference e) IsShort shown_difference h.event.step)
    (pair (shown_string _ (fits_event e) (omega arith))
    (pair (field_shown string (named_master e) IsName shown_name h.event.master)
    (pair (shown_name _ h.event.node)
    (pair (field_shown whole (named_transit e) IsTag shown_whole tagged.transit)
    (pair (field_shown whole (out_code line.out) (λ code. code < 65536) shown_code (code_out line.out h.out))
    (pair (field_shown octets_data (made_octets line.out) AreOctets (λ octets are. shown_octets octets are.0 are.1) (octets_out line.out h.out))
    (pair (shown_whole n tagged.number)
    (pair (shown_string _ (fits_out line.out) (omega arith))
    (pair (field_shown moment_data line.reading (λ time. time < bound) shown_moment h.reading)
    (pair (field_shown (λ r. difference_data r.offset2) (out_report line.out) IsShortReport (λ r short. shown_difference r.offset2 short.0) short)
    (pair (field_shown (λ r. difference_data r.path2) (out_report line.out) IsShortReport (λ r short. shown_difference r.path2 short.1) short)
    (pair (field_shown tags_data (out_report line.out) HasTags shown_tags tagged.report) tt))))))))))))))

-- the text of an event's line
pub event_fits : (n : ℕ) (line : TraceLine) → IsRecorded line → IsTagged n line → Fits 4096 (compact_text (event_data n line))
event_fits n line h tagged =
    let fs = line_fields n line in
    let few : length fs ≤ 15 = omega arith in
    fits_object (members_of fs) (members_shown fs refl (fields_shown n line h tagged))
    (omega (arith, members_len-members_of fs refl, count_fields fs, few))

-- ---- a node's line

shown_integer : (z : ℤ) → negsuc 127 ≤ℤ z → z ≤ℤ pos 127 → IsShownValue (number (of_integer z))
shown_integer (pos n) least most = shown_whole n (omega (arith, ints))
shown_integer (negsuc n) least most =
    let small : suc n < 10 ^ 31 = omega (arith, ints) in
    fits_more 220 (omega arith) (fits_signed (negsuc n) (omega (arith, small)))

abbrev port_fields : List ℕ → List ℕ → PortConfig → Seq → List Field
port_fields name kind config first =
    (codes "domain", Some (whole config.domain))
    ∷ (codes "first", Some (whole first.0))
    ∷ (codes "id", Some (octets_data config.identity.clock))
    ∷ (codes "kind", Some (string kind))
    ∷ (codes "log", Some (number (of_integer config.log)))
    ∷ (codes "node", Some (string name))
    ∷ (codes "port", Some (whole config.identity.port))
    ∷ []

port_fits : (name kind : List ℕ) (config : PortConfig) (first : Seq) → IsName name → Fits 12 kind → IsConfig config → first.0 < 65536
    → Fits 4096 (compact_text (port_data name kind config first))
port_fits name kind config first is_name is_kind h fits =
    let fs = port_fields name kind config first in
    let shown : AreShownFields fs =
    pair (shown_code config.domain (omega (arith, h.domain)))
    (pair (shown_code first.0 fits)
    (pair (shown_octets config.identity.clock (omega (arith, h.clock.0)) h.clock.1)
    (pair (shown_string kind is_kind (omega arith))
    (pair (shown_integer config.log h.log.0 h.log.1)
    (pair (shown_name name is_name)
    (pair (shown_code config.identity.port h.port) tt)))))) in
    fits_object (members_of fs) (members_shown fs refl shown) (omega arith)

clock_fits : (name : List ℕ) → IsName name → Fits 4096 (compact_text (kind_data name kinds.Clock))
clock_fits name is_name =
    let fs : List Field = (codes "kind", Some (string (codes "clock"))) ∷ (codes "node", Some (string name)) ∷ [] in
    fits_object (members_of fs) (members_shown fs refl (shown_string _ (fits_word (codes "clock") refl refl) (omega arith), (shown_name name is_name, tt))) (omega arith)

kind_fits : (name : List ℕ) (kind : NodeKind) → IsName name → IsKind kind → Fits 4096 (compact_text (kind_data name kind))
kind_fits name (kinds.Master config first) is_name h = port_fits name (codes "master") config first is_name (fits_word _ refl refl) h.0 h.1
kind_fits name (kinds.Slave config first) is_name h = port_fits name (codes "slave") config first is_name (fits_word _ refl refl) h.0 h.1
kind_fits name kinds.Clock is_name h = clock_fits name is_name

-- the text of a node's line
pub node_fits : (node : NodeSpec) → IsNode node → Fits 4096 (compact_text (node_data node))
node_fits node h = kind_fits node.name node.kind h.0 h.1
