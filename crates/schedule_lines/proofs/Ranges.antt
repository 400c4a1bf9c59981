-- What is read is within its ranges.
use Rattle.std.proofs.Common.{◌≡◌, ◌==◌, ◌^◌, ◌<◌, ◌≤◌, ◌≤ℤ◌, ◌&&◌, ℕ, zero, suc, ℤ, pos, negsuc, neg_ℤ, nat_lt}
use Rattle.std.proofs.Common.{int_le, List, length, drop, slice_index, codes, Bool, true, false, is_some, Option}
use Rattle.std.proofs.Common.{Some, None, IfSome, option_map, option_and_then, if◌then◌else◌, bytes_eq, Result, Ok}
use Rattle.std.proofs.Common.{Err, refl, sym, ◌∙◌, arith}
use Rattle.std.specs.Result.{result_ok}
use Rattle.std.specs.Str.{all_ascii_digits}
use Rattle.std.specs.Str.Parse.{digits_value}
use Rattle.std.proofs.lemmas.Bool.Decides.{nat_tests}
use Rattle.std.proofs.lemmas.List.{length-drop}
use Rattle.std.proofs.lemmas.Str.Parse.{digits_value_short}
use Rattle.hex.specs.Hex.{IsBytes, decode_of, decode_sized}
use Rattle.hex.specs.declared.error.FromHexError.{FromHexError}
use Rattle.hex.proofs.HexLemmas.{decode_of-ok, decode_sized-ok, decode_sized-twice}
use Rattle.serde_json.specs.Data.{Data}
use Rattle.serde_json.specs.Find.{get, at, as_str, as_number, as_i64}
use Rattle.ptp_units.specs.Moment.{bound, stamp, moment}
use Rattle.slave_port.specs.declared.heard.Report.{Report}
use Rattle.network_model.specs.Name.{IsName}
use Rattle.network_model.specs.Run.{true_moment}
use Rattle.network_model.specs.declared.event.Event.{Event}
use Rattle.network_model.specs.declared.node.NodeKind.{NodeKind}
use Rattle.event_codec.specs.declared.port.PortConfig.{PortConfig}
use Rattle.ptp_units.specs.declared.sequence.Seq.{Seq}
use Rattle.std.proofs.lemmas.Int.{ints}
use Rattle.schedule_lines.specs.EventKind.{kind_of}
use Rattle.schedule_lines.specs.Json.{signed_octet_in, has_keys, below, whole_in, whole_below, item_at, field}
use Rattle.schedule_lines.specs.Json.{has_items, is_name, name_in, octets_in, clock_in, moment_in, positive_of}
use Rattle.schedule_lines.specs.Json.{difference_of, difference_in}
use Rattle.schedule_lines.specs.Line.{event_at, event_in, event_keys, scheduled_in, node_in, at_in, copy_in}
use Rattle.schedule_lines.specs.Line.{config_in, first_in, port_in, node_kind, node_spec_in, line_of}
use Rattle.schedule_lines.specs.TranscriptLine.{trace_line_in}
use Rattle.schedule_lines.proofs.Digits.{own}
use Rattle.schedule_lines.proofs.Names.{IsName-from_test}
use Rattle.schedule_lines.specs.declared.event_kind.EventKind.{EventKind}
use Rattle.schedule_lines.specs.declared.event_kind.EventKind.TheVariants.{Sync, SyncOne, Enter, Leave}
use Rattle.schedule_lines.specs.declared.event_kind.EventKind.TheVariants.{Arrive, Hear, Request}
use Rattle.schedule_lines.specs.declared.event_kind.EventKind.TheVariants.{SetMaster, StepClock}
use Rattle.schedule_lines.specs.TranscriptLine.{follow_in, report_of, report_in, code_in, out_of, reading_in}
use Rattle.schedule_lines.specs.TranscriptLine.{trace_line_in, line_keys, traced_in, transcript_line_of}
use Rattle.schedule_lines.specs.Ranges.{IsShort, IsEvent, IsOut, IsRecorded, IsConfig, IsKind, IsNode, IsLine}
use Rattle.schedule_lines.specs.Ranges.{IsTranscriptLine, ReadsInRange}
use Rattle.network_model.proofs.Options.{and_then, mapped, weaker, then_also, either}
use Rattle.trace_model.specs.declared.line.TraceOut.TheVariants as outs
use Rattle.network_model.specs.declared.node.NodeKind.TheVariants as kinds
use Rattle.network_model.specs.declared.event.Event.TheVariants as events
use Rattle.schedule_lines.specs.declared.reading.schedule.Line.TheVariants as schedules
use Rattle.schedule_lines.specs.declared.reading.transcript.TranscriptLine.TheVariants as lines

-- ---- options

nothing : {A : Type 0} (o : Option A) → IfSome o (λ _. Unit {0})
nothing None = tt
nothing (Some a) = tt

-- ---- fields

name_read : (d : Data) → IfSome (name_in d) IsName
name_read d = and_then IsName (λ text. if is_name text then Some text else None) (as_str d)
    (λ text. either IsName (is_name text) (Some text) None (IsName-from_test text) (λ _. tt))

below_read : (m : ℕ) (d : Data) → IfSome (whole_below m d) (λ n. n < m)
below_read m d = and_then (λ n. n < m) (below m) (whole_in d)
    (λ n. either (λ k. k < m) (nat_lt n m) (Some n) None (λ test. grind (arith, nat_tests)) (λ _. tt))

part_read : (m i : ℕ) (d : Data) → IfSome (item_at (whole_below m) i d) (λ n. n < m)
part_read m i d = and_then (λ n. n < m) (whole_below m) (at i d) (below_read m)

within_bound : (s n f : ℕ) → s < 281474976710656 → n < 1000000000 → f < 65536 → moment (stamp s n) f < bound
within_bound s n f x y z = omega arith

moment_read : (d : Data) → IfSome (moment_in d) (λ time. time < bound)
moment_read d = either (λ time. time < bound) (has_items 3 d) _ None (λ _.
    then_also (λ s. s < 281474976710656) (λ time. time < bound) _ (item_at (whole_below 281474976710656) 0 d) (part_read _ 0 d) (λ s x.
    then_also (λ n. n < 1000000000) (λ time. time < bound) _ (item_at (whole_below 1000000000) 1 d) (part_read _ 1 d) (λ n y.
    mapped (λ time. time < bound) (moment (stamp s n)) (item_at (whole_below 65536) 2 d)
    (weaker (λ f. f < 65536) (λ f. moment (stamp s n) f < bound) (item_at (whole_below 65536) 2 d) (part_read _ 2 d) (λ f z. within_bound s n f x y z))))) (λ _. tt)

both_parts : (a b : Bool) → (a && b) ≡ true → b ≡ true
both_parts true b h = h
both_parts false b h = absurd (cc)

positive_read : (k : ℕ) (ds : List ℕ) → length ds ≤ k → IfSome (positive_of ds) (λ n. n < 10 ^ k)
positive_read k ds short = either (λ n. n < 10 ^ k) (nat_lt 48 (slice_index ds 0) && all_ascii_digits ds) (Some (digits_value 10 ds)) None
    (λ test. digits_value_short own ds k (both_parts _ _ test) short) (λ _. tt)

short_negative : (n : ℕ) → n < 10 ^ 31 → IsShort (neg_ℤ (pos n))
short_negative zero h = omega arith
short_negative (suc n) h = omega arith

difference_short : (text : List ℕ) → IfSome (difference_of text) IsShort
difference_short text = either IsShort (bytes_eq text (codes "0")) (Some (pos 0)) _ (λ _. omega arith) (λ _.
    either IsShort (nat_lt 32 (length text)) None _ (λ _. tt) (λ long.
    let short : length text ≤ 32 = grind (arith, nat_tests) in
    either IsShort (slice_index text 0 == 45) (option_map (λ n. neg_ℤ (pos n)) (positive_of (drop 1 text))) (option_map pos (positive_of text))
    (λ _. mapped IsShort (λ n. neg_ℤ (pos n)) (positive_of (drop 1 text))
    (weaker (λ n. n < 10 ^ 31) (λ n. IsShort (neg_ℤ (pos n))) (positive_of (drop 1 text)) (positive_read 31 (drop 1 text) (omega (arith, length-drop 1 text))) short_negative))
    (λ _. mapped IsShort pos (positive_of text) (positive_read 32 text short))))

difference_read : (d : Data) → IfSome (difference_in d) IsShort
difference_read d = and_then IsShort difference_of (as_str d) difference_short

-- ---- events

with_moment : (event : ℕ → Event) (d : Data) → ((time : ℕ) → time < bound → IsEvent (event time)) → IfSome (option_map event (at_in d)) IsEvent
with_moment event d each = mapped IsEvent event (at_in d)
    (weaker (λ time. time < bound) (λ time. IsEvent (event time)) (at_in d) (and_then (λ time. time < bound) moment_in (get (codes "at") d) moment_read) each)

event_at_read : (kind : EventKind) (node : List ℕ) (d : Data) → IsName node → IfSome (event_at kind node d) IsEvent
event_at_read Sync node d h = with_moment (events.Sync node) d (λ time x. record { node = h; master = tt; moment = x; step = tt })
event_at_read SyncOne node d h = with_moment (events.SyncOne node) d (λ time x. record { node = h; master = tt; moment = x; step = tt })
event_at_read Enter node d h = and_then IsEvent (λ copy. option_map (events.Enter node copy) (at_in d)) (copy_in d)
    (λ copy. with_moment (events.Enter node copy) d (λ time x. record { node = h; master = tt; moment = x; step = tt }))
event_at_read Leave node d h = and_then IsEvent (λ transit. option_map (events.Leave node transit) (at_in d)) (field whole_in (codes "transit") d)
    (λ transit. with_moment (events.Leave node transit) d (λ time x. record { node = h; master = tt; moment = x; step = tt }))
event_at_read Arrive node d h = and_then IsEvent (λ copy. option_map (events.Arrive node copy) (at_in d)) (copy_in d)
    (λ copy. with_moment (events.Arrive node copy) d (λ time x. record { node = h; master = tt; moment = x; step = tt }))
event_at_read Hear node d h = mapped IsEvent (events.Hear node) (copy_in d)
    (weaker (λ _. Unit {0}) (λ copy. IsEvent (events.Hear node copy)) (copy_in d) (nothing (copy_in d)) (λ copy _. record { node = h; master = tt; moment = tt; step = tt }))
event_at_read Request node d h = with_moment (events.Request node) d (λ time x. record { node = h; master = tt; moment = x; step = tt })
event_at_read SetMaster node d h =
    let told = field name_in (codes "master") d in
    mapped IsEvent (events.SetMaster node) told
    (weaker IsName (λ master. IsEvent (events.SetMaster node master)) told (and_then IsName name_in (get (codes "master") d) name_read)
    (λ master x. record { node = h; master = x; moment = tt; step = tt }))
event_at_read StepClock node d h =
    let told = field difference_in (codes "diff") d in
    mapped IsEvent (events.StepClock node) told
    (weaker IsShort (λ diff. IsEvent (events.StepClock node diff)) told (and_then IsShort difference_in (get (codes "diff") d) difference_read)
    (λ diff x. record { node = h; master = tt; moment = tt; step = x }))
event_at_read _ node d h = record { node = h; master = tt; moment = tt; step = tt }

event_read : (d : Data) → IfSome (event_in d) IsEvent
event_read d = and_then IsEvent (λ kind. option_and_then (λ node. event_at kind node d) (node_in d)) (option_and_then kind_of (field as_str (codes "ev") d))
    (λ kind. then_also IsName IsEvent (λ node. event_at kind node d) (node_in d) (and_then IsName name_in (get (codes "node") d) name_read)
    (λ node h. event_at_read kind node d h))

-- ---- what was recorded

decoded : (text : List ℕ) (r : Result (List ℕ) FromHexError) → decode_of text ≡ r → length text ≤ 108 → IfSome (result_ok r) (λ o. (length o ≤ 54) × IsBytes o)
decoded text (Ok octets) e short = let ok = decode_of-ok text octets e in (omega (arith, ok.2), ok.3)
decoded text (Err error) e short = tt

octets_read : (d : Data) → IfSome (octets_in d) (λ o. (length o ≤ 54) × IsBytes o)
octets_read d = and_then _ (λ text. if nat_lt 108 (length text) then None else result_ok (decode_of text)) (as_str d)
    (λ text. either (λ o. (length o ≤ 54) × IsBytes o) (nat_lt 108 (length text)) None (result_ok (decode_of text)) (λ _. tt)
    (λ long. decoded text (decode_of text) refl (grind (arith, nat_tests))))

report_of_read : (offset2 path2 : ℤ) (tags : Data) → IsShort offset2 → IsShort path2 → IfSome (report_of offset2 path2 tags) (λ r. IsShort r.offset2 × IsShort r.path2)
report_of_read offset2 path2 tags x y =
    let P : Report → Type 0 = λ r. IsShort r.offset2 × IsShort r.path2 in
    either P (has_items 4 tags) _ None (λ _.
    and_then P _ (item_at whole_in 0 tags) (λ sync.
    and_then P _ (item_at follow_in 1 tags) (λ follow.
    and_then P _ (item_at whole_in 2 tags) (λ request.
    and_then P _ (item_at whole_in 3 tags) (λ response. (x, y)))))) (λ _. tt)

report_read : (d : Data) → IfSome (report_in d) (λ r. IsShort r.offset2 × IsShort r.path2)
report_read d =
    let P : Report → Type 0 = λ r. IsShort r.offset2 × IsShort r.path2 in
    then_also IsShort P _ (field difference_in (codes "offset2") d) (and_then IsShort difference_in (get (codes "offset2") d) difference_read) (λ offset2 x.
    then_also IsShort P _ (field difference_in (codes "path2") d) (and_then IsShort difference_in (get (codes "path2") d) difference_read) (λ path2 y.
    and_then P (report_of offset2 path2) (get (codes "tags") d) (λ tags. report_of_read offset2 path2 tags x y)))

code_read : (d : Data) → IfSome (code_in d) (λ code. code < 65536)
code_read d = and_then (λ code. code < 65536) (whole_below 65536) (get (codes "code") d) (below_read 65536)

out_read : (text : List ℕ) (d : Data) → IfSome (out_of text d) IsOut
out_read text d =
    either IsOut (bytes_eq text (codes "done")) _ _ (λ _. tt) (λ _.
    either IsOut (bytes_eq text (codes "made")) _ _ (λ _. mapped IsOut (λ octets. outs.Made (record { items = octets })) (field octets_in (codes "hex") d)
    (and_then _ octets_in (get (codes "hex") d) octets_read)) (λ _.
    either IsOut (bytes_eq text (codes "entered")) _ _ (λ _. tt) (λ _.
    either IsOut (bytes_eq text (codes "held")) _ _ (λ _. tt) (λ _.
    either IsOut (bytes_eq text (codes "completed")) _ _ (λ _. tt) (λ _.
    either IsOut (bytes_eq text (codes "report")) _ _ (λ _. mapped IsOut outs.Report (report_in d) (report_read d)) (λ _.
    either IsOut (bytes_eq text (codes "ignored")) _ _ (λ _. mapped IsOut outs.Ignored (code_in d) (code_read d)) (λ _.
    either IsOut (bytes_eq text (codes "refused")) _ _ (λ _. mapped IsOut outs.Refused (code_in d) (code_read d)) (λ _. tt))))))))

-- a reading within its range where there is a moment, and nowhere else
abbrev IsReading : Option ℕ → Option ℕ → Type 0
IsReading at reading = (is_some reading ≡ is_some at) × IfSome reading (λ time. time < bound)

reading_read : (at : Option ℕ) (d : Data) → IfSome (reading_in at d) (IsReading at)
reading_read None d = (refl, tt)
reading_read (Some at) d =
    let shown = field moment_in (codes "reading") d in
    mapped (IsReading (Some at)) Some shown
    (weaker (λ time. time < bound) (λ time. IsReading (Some at) (Some time)) shown (and_then (λ time. time < bound) moment_in (get (codes "reading") d) moment_read) (λ time x. (refl, x)))

pub recorded_read : (d : Data) → IfSome (trace_line_in d) IsRecorded
recorded_read d =
    then_also IsEvent IsRecorded _ (event_in d) (event_read d) (λ event x.
    then_also (IsReading (true_moment event)) IsRecorded _ (reading_in (true_moment event) d) (reading_read (true_moment event) d) (λ reading y.
    and_then IsRecorded _ (field as_str (codes "out") d) (λ text.
    then_also IsOut IsRecorded _ (out_of text d) (out_read text d) (λ out z.
    record { event = x; timed = y.0; reading = y.1; out = z }))))

-- ---- nodes

sized : (text : List ℕ) (r : Result (List ℕ) FromHexError) → decode_sized text 8 ≡ r → IfSome (result_ok r) (λ o. (length o ≡ 8) × IsBytes o)
sized text (Ok octets) e =
    let digits = decode_sized-ok text 8 octets e in
    let ok = decode_of-ok text octets (sym (decode_sized-twice text 8 digits) ∙ e) in
    (omega (arith, ok.2), ok.3)
sized text (Err error) e = tt

clock_read : (d : Data) → IfSome (clock_in d) (λ o. (length o ≡ 8) × IsBytes o)
clock_read d = and_then _ (λ text. result_ok (decode_sized text 8)) (as_str d) (λ text. sized text (decode_sized text 8) refl)

octet_test : (z : ℤ) → (int_le (negsuc 127) z && int_le z (pos 127)) ≡ true → (negsuc 127 ≤ℤ z) × (z ≤ℤ pos 127)
octet_test (pos n) test = let fits : n ≤ 127 = grind (arith, nat_tests) in (omega (arith, ints), omega (arith, ints))
octet_test (negsuc n) test = let fits : n ≤ 127 = grind (arith, nat_tests) in (omega (arith, ints), omega (arith, ints))

octet_read : (d : Data) → IfSome (signed_octet_in d) (λ z. (negsuc 127 ≤ℤ z) × (z ≤ℤ pos 127))
octet_read d = and_then _ (λ z. if int_le (negsuc 127) z && int_le z (pos 127) then Some z else None) (option_and_then as_i64 (as_number d))
    (λ z. either (λ w. (negsuc 127 ≤ℤ w) × (w ≤ℤ pos 127)) (int_le (negsuc 127) z && int_le z (pos 127)) (Some z) None (octet_test z) (λ _. tt))

config_read : (d : Data) → IfSome (config_in d) IsConfig
config_read d =
    then_also (λ o. (length o ≡ 8) × IsBytes o) IsConfig _ (field clock_in (codes "id") d) (and_then _ clock_in (get (codes "id") d) clock_read) (λ clock x.
    then_also (λ n. n < 65536) IsConfig _ (field (whole_below 65536) (codes "port") d) (and_then _ (whole_below 65536) (get (codes "port") d) (below_read 65536)) (λ port y.
    then_also (λ n. n < 256) IsConfig _ (field (whole_below 256) (codes "domain") d) (and_then _ (whole_below 256) (get (codes "domain") d) (below_read 256)) (λ domain z.
    let told = field signed_octet_in (codes "log") d in
    mapped IsConfig _ told
    (weaker (λ w. (negsuc 127 ≤ℤ w) × (w ≤ℤ pos 127)) _ told (and_then _ signed_octet_in (get (codes "log") d) octet_read)
    (λ log w. record { clock = x; port = y; domain = z; log = w })))))

first_read : (d : Data) → IfSome (first_in d) (λ first. first.0 < 65536)
first_read d = mapped (λ first. first.0 < 65536) _ (field (whole_below 65536) (codes "first") d) (and_then _ (whole_below 65536) (get (codes "first") d) (below_read 65536))

port_read : (kind : PortConfig → Seq → NodeKind) (d : Data) → ((config : PortConfig) (first : Seq) → IsConfig config → first.0 < 65536 → IsKind (kind config first))
    → IfSome (port_in kind d) IsKind
port_read kind d each = either IsKind (has_keys 7 d) _ None (λ _.
    then_also IsConfig IsKind _ (config_in d) (config_read d) (λ config x.
    mapped IsKind (kind config) (first_in d) (weaker (λ first. first.0 < 65536) (λ first. IsKind (kind config first)) (first_in d) (first_read d) (λ first y. each config first x y)))) (λ _. tt)

kind_read : (text : List ℕ) (d : Data) → IfSome (node_kind text d) IsKind
kind_read text d =
    either IsKind (bytes_eq text (codes "master")) _ _ (λ _. port_read kinds.Master d (λ config first x y. (x, y))) (λ _.
    either IsKind (bytes_eq text (codes "slave")) _ _ (λ _. port_read kinds.Slave d (λ config first x y. (x, y))) (λ _.
    either IsKind (bytes_eq text (codes "clock")) _ None (λ _. either IsKind (has_keys 2 d) (Some kinds.Clock) None (λ _. tt) (λ _. tt)) (λ _. tt)))

node_read : (d : Data) → IfSome (node_spec_in d) IsNode
node_read d =
    and_then IsNode _ (field as_str (codes "kind") d) (λ text.
    then_also IsName IsNode _ (node_in d) (and_then IsName name_in (get (codes "node") d) name_read) (λ name x.
    mapped IsNode _ (node_kind text d) (weaker IsKind _ (node_kind text d) (kind_read text d) (λ kind y. (x, y)))))

-- ---- lines

scheduled_read : (d : Data) → IfSome (scheduled_in d) IsEvent
scheduled_read d = then_also IsEvent IsEvent _ (event_in d) (event_read d) (λ event x. either IsEvent (has_keys (event_keys event) d) (Some event) None (λ _. x) (λ _. tt))

line_read : (d : Data) → IfSome (line_of d) IsLine
line_read d = either IsLine (is_some (get (codes "ev") d)) _ _
    (λ _. mapped IsLine schedules.Event (scheduled_in d) (scheduled_read d)) (λ _. mapped IsLine schedules.Node (node_spec_in d) (node_read d))

traced_read : (d : Data) → IfSome (traced_in d) IsTranscriptLine
traced_read d =
    then_also IsRecorded IsTranscriptLine _ (trace_line_in d) (recorded_read d) (λ line x.
    and_then IsTranscriptLine _ (field whole_in (codes "n") d) (λ n.
    either IsTranscriptLine (has_keys (line_keys line) d) (Some (lines.Event n line)) None (λ _. x) (λ _. tt)))

transcript_line_read : (d : Data) → IfSome (transcript_line_of d) IsTranscriptLine
transcript_line_read d = either IsTranscriptLine (is_some (get (codes "ev") d)) _ _
    (λ _. traced_read d) (λ _. mapped IsTranscriptLine lines.Node (node_spec_in d) (node_read d))

-- whatever is read is within its ranges
pub reads_in_range : ReadsInRange
reads_in_range d = (line_read d, transcript_line_read d)
