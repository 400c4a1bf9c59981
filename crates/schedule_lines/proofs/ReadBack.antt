-- A written line, read again.
use Rattle.std.proofs.Common.{◌≡◌, ◌==◌, ℕ, ℤ, ◌+◌, ◌<◌, List, [], length, codes, Option, Some, None, true, is_some, IfSome}
use Rattle.std.proofs.Common.{option_map, option_and_then, refl, ap, ◌∙◌, arith}
use Rattle.std.specs.Option.{option_or}
use Rattle.std.proofs.lemmas.Bool.Decides.{nat_tests}
use Rattle.serde_json.specs.Data.{Data, string, object}
use Rattle.serde_json.specs.Find.{get, as_str}
use Rattle.ptp_units.specs.Moment.{bound}
use Rattle.slave_port.specs.declared.heard.Report.{Report}
use Rattle.network_model.specs.declared.event.Event.{Event}
use Rattle.network_model.specs.declared.event.Event.TheVariants.{Follow, Enter, Leave, Arrive, Hear}
use Rattle.network_model.specs.declared.event.Event.TheVariants.{Stamped, Tick, SetMaster, StepClock}
use Rattle.network_model.specs.Name.{IsName}
use Rattle.network_model.specs.Run.{site_of, true_moment}
use Rattle.network_model.specs.Kinds.{named_master, named_difference, named_transit, named_copy}
use Rattle.trace_model.specs.declared.line.TraceLine.{TraceLine}
use Rattle.trace_model.specs.declared.line.TraceOut.{TraceOut}
use Rattle.schedule_lines.specs.Json.{field, has_keys, moment_in, name_in, whole_in, whole_below, octets_in}
use Rattle.schedule_lines.specs.Json.{difference_in}
use Rattle.schedule_lines.specs.Line.{event_in, event_keys, node_in, at_in, copy_in, line_of}
use Rattle.line_object.specs.declared.key.Key.{Key}
use Rattle.schedule_lines.specs.EventKind.{kind_of_event}
use Rattle.schedule_lines.specs.Inner.Asked.{reading_key}
use Rattle.schedule_lines.specs.Needed.{reading_keys}
use Rattle.schedule_lines.proofs.Asked.{timed}
use Rattle.schedule_lines.proofs.Keys.{Field, members_of, event_fields, answer_fields, line_fields}
use Rattle.schedule_lines.proofs.Lookup.{find, get_member-members_of, option_or-none, one_if, count, members_len-members_of}
use Rattle.schedule_lines.proofs.Texts.{name_back, below_back, octets_back, moment_back, difference_back, report_back}
use Rattle.schedule_lines.specs.TranscriptLine.{transcript_line_of, trace_line_in, reading_in, out_of}
use Rattle.schedule_lines.specs.TranscriptLine.{out_keys, line_keys, code_in, report_in}
use Rattle.schedule_lines.specs.Written.{whole, moment_data, difference_data, octets_data, tags_data}
use Rattle.schedule_lines.specs.Written.{event_text, made_octets, out_text, out_code, out_report, scheduled_data}
use Rattle.schedule_lines.specs.Written.{event_data}
use Rattle.schedule_lines.specs.Ranges.{IsShort, IsEvent, IsOut, IsRecorded, ScheduledReadBack, EventsReadBack}
use Rattle.trace_model.specs.declared.line.TraceOut.TheVariants as outs
use Rattle.schedule_lines.specs.declared.reading.transcript.TranscriptLine.TheVariants as lines
use Rattle.schedule_lines.specs.declared.reading.schedule.Line.TheVariants as schedules

-- ---- an event, from its keys

event_back : (event : Event) (d : Data) → field as_str (codes "ev") d ≡ Some (event_text event) → node_in d ≡ Some (site_of event)
    → at_in d ≡ true_moment event → copy_in d ≡ named_copy event → field whole_in (codes "transit") d ≡ named_transit event
    → field name_in (codes "master") d ≡ named_master event → field difference_in (codes "diff") d ≡ named_difference event → event_in d ≡ Some event
event_back (Follow node) d ev site moment copy transit master diff = rw (ev, site)
event_back (Enter node tag at) d ev site moment copy transit master diff = rw (ev, site, copy, moment)
event_back (Leave node tag at) d ev site moment copy transit master diff = rw (ev, site, transit, moment)
event_back (Arrive node tag at) d ev site moment copy transit master diff = rw (ev, site, copy, moment)
event_back (Hear node tag) d ev site moment copy transit master diff = rw (ev, site, copy)
event_back (Stamped node) d ev site moment copy transit master diff = rw (ev, site)
event_back (Tick node) d ev site moment copy transit master diff = rw (ev, site)
event_back (SetMaster node told) d ev site moment copy transit master diff = rw (ev, site, master)
event_back (StepClock node size) d ev site moment copy transit master diff = rw (ev, site, diff)
event_back _ d ev site moment copy transit master diff = rw (ev, site, moment)

-- ---- what it brought about

report_in_back : (report : Option Report) (d : Data) → field difference_in (codes "offset2") d ≡ option_map (λ r. r.offset2) report
    → field difference_in (codes "path2") d ≡ option_map (λ r. r.path2) report → get (codes "tags") d ≡ option_map tags_data report → report_in d ≡ report
report_in_back None d offset2 path2 tags = rw offset2
report_in_back (Some report) d offset2 path2 tags = rw (offset2, path2, tags) (report_back report)

out_back : (out : TraceOut) (d : Data) → field octets_in (codes "hex") d ≡ made_octets out → code_in d ≡ out_code out → report_in d ≡ out_report out
    → out_of (out_text out) d ≡ Some out
out_back (outs.Made octets) d hex code report = rw hex
out_back (outs.Report answer) d hex code report = rw report
out_back (outs.Ignored reason) d hex code report = rw code
out_back (outs.Refused reason) d hex code report = rw code
out_back _ d hex code report = refl

reading_back : (at reading : Option ℕ) (d : Data) → is_some reading ≡ is_some at → field moment_in (codes "reading") d ≡ reading → reading_in at d ≡ Some reading
reading_back None None d timed read = refl
reading_back None (Some time) d timed read = absurd (cc)
reading_back (Some at) None d timed read = absurd (cc)
reading_back (Some at) (Some time) d timed read = rw read

-- ---- a line

recorded_back : (line : TraceLine) (d : Data) → event_in d ≡ Some line.event → reading_in (true_moment line.event) d ≡ Some line.reading
    → field as_str (codes "out") d ≡ Some (out_text line.out) → out_of (out_text line.out) d ≡ Some line.out → trace_line_in d ≡ Some line
recorded_back line d event reading text out = rw (event, reading, text, out)

line_back : (n : ℕ) (line : TraceLine) (d : Data) → get (codes "ev") d ≡ Some (string (event_text line.event)) → trace_line_in d ≡ Some line
    → field whole_in (codes "n") d ≡ Some n → has_keys (line_keys line) d ≡ true → transcript_line_of d ≡ Some (lines.Event n line)
line_back n line d ev recorded number keys = rw (recorded, number, keys, ev)

-- ---- the number of its keys

event_counted : (event : Event)
    → one_if (option_map moment_data (true_moment event)) + one_if (option_map whole (named_copy event)) + one_if (option_map difference_data (named_difference event))
    + one_if (option_map string (named_master event)) + one_if (option_map whole (named_transit event)) + 2 ≡ event_keys event
event_counted (StepClock node size) = refl
event_counted _ = refl

out_counted : (out : TraceOut)
    → one_if (option_map whole (out_code out)) + one_if (option_map octets_data (made_octets out)) + one_if (option_map (λ r. difference_data r.offset2) (out_report out))
    + one_if (option_map (λ r. difference_data r.path2) (out_report out)) + one_if (option_map tags_data (out_report out)) ≡ out_keys out
out_counted (outs.Refused reason) = refl
out_counted _ = refl

reading_counted : (event : Event) (reading : Option ℕ) → is_some reading ≡ is_some (true_moment event)
    → one_if (option_map moment_data reading) ≡ length (reading_keys (kind_of_event event))
reading_counted event reading h = one (true_moment event) reading h ∙ ap (λ (ks : List Key). length ks) (timed event)
  where
    one : (at reading : Option ℕ) → is_some reading ≡ is_some at → one_if (option_map moment_data reading) ≡ length (reading_key at)
    one None None e = refl
    one None (Some time) e = absurd (cc)
    one (Some at) None e = absurd (cc)
    one (Some at) (Some time) e = refl

pub event_count : (event : Event) → count (event_fields event []) ≡ event_keys event
event_count event = omega (arith, event_counted event)

pub line_count : (n : ℕ) (line : TraceLine) → IsRecorded line → count (line_fields n line) ≡ line_keys line
line_count n line h = omega (arith, event_counted line.event, out_counted line.out, reading_counted line.event line.reading h.timed)

same_count : (m k : ℕ) → m ≡ k → (m == k) ≡ true
same_count m k e = grind (arith, nat_tests)

keys_back : (n : ℕ) (line : TraceLine) → IsRecorded line → has_keys (line_keys line) (event_data n line) ≡ true
keys_back n line h = same_count _ _ (members_len-members_of (line_fields n line) refl ∙ line_count n line h)

-- ---- what stands at its keys

back : {X : Type 0} (reads : Data → Option X) (f : X → Data) (o : Option X) (P : X → Type 0) → ((x : X) → P x → reads (f x) ≡ Some x)
    → IfSome o P → option_and_then reads (option_map f o) ≡ o
back reads f None P each h = refl
back reads f (Some x) P each h = each x h

stands : (fs : List Field) (key : List ℕ) (o : Option Data) → find key fs ≡ option_or o None → get key (object (members_of fs)) ≡ o
stands fs key o e = get_member-members_of key fs ∙ e ∙ option_or-none o

told : {X : Type 0} (fs : List Field) (key : List ℕ) (reads : Data → Option X) (f : X → Data) (o : Option X) (P : X → Type 0)
    → find key fs ≡ option_or (option_map f o) None → ((x : X) → P x → reads (f x) ≡ Some x) → IfSome o P
    → field reads key (object (members_of fs)) ≡ o
told fs key reads f o P e each h = ap (option_and_then reads) (stands fs key (option_map f o) e) ∙ back reads f o P each h

pub always : {X : Type 0} (o : Option X) → IfSome o (λ _. Unit {0})
always None = tt
always (Some x) = tt

octets_out : (out : TraceOut) → IsOut out → IfSome (made_octets out) (λ octets. IsOut (outs.Made (record { items = octets })))
octets_out (outs.Made octets) h = h
octets_out _ h = tt

pub code_out : (out : TraceOut) → IsOut out → IfSome (out_code out) (λ code. code < 65536)
code_out (outs.Ignored reason) h = h
code_out (outs.Refused reason) h = h
code_out _ h = tt

report_out : (out : TraceOut) → IsOut out → IfSome (out_report out) (λ report. IsShort report.offset2 × IsShort report.path2)
report_out (outs.Report answer) h = h
report_out _ h = tt

twice_mapped : {X Y Z : Type 0} (f : Y → Z) (g : X → Y) (o : Option X) → option_map (λ x. f (g x)) o ≡ option_map f (option_map g o)
twice_mapped f g None = refl
twice_mapped f g (Some x) = refl

short_of : (g : Report → ℤ) (o : Option Report) → IfSome o (λ report. IsShort (g report)) → IfSome (option_map g o) IsShort
short_of g None h = tt
short_of g (Some report) h = h

both_short : (o : Option Report) → IfSome o (λ report. IsShort report.offset2 × IsShort report.path2)
    → IfSome o (λ report. IsShort report.offset2) × IfSome o (λ report. IsShort report.path2)
both_short None h = (tt, tt)
both_short (Some report) h = (h.0, h.1)

-- none of an event's keys is among these
record AreOthers (fs : List Field) : Type 0 where
  at : find (codes "at") fs ≡ None
  copy : find (codes "copy") fs ≡ None
  diff : find (codes "diff") fs ≡ None
  master : find (codes "master") fs ≡ None
  transit : find (codes "transit") fs ≡ None

read_event : (event : Event) (rest : List Field) → IsEvent event → AreOthers rest → event_in (object (members_of (event_fields event rest))) ≡ Some event
read_event event rest h others =
    let fs = event_fields event rest in
    event_back event (object (members_of fs))
    (told fs (codes "ev") as_str string (Some (event_text event)) (λ _. Unit {0}) refl (λ _ _. refl) tt)
    (told fs (codes "node") name_in string (Some (site_of event)) IsName refl name_back h.node)
    (told fs (codes "at") moment_in moment_data (true_moment event) (λ time. time < bound) (ap (option_or (option_map moment_data (true_moment event))) others.at) moment_back h.moment)
    (told fs (codes "copy") whole_in whole (named_copy event) (λ _. Unit {0}) (ap (option_or (option_map whole (named_copy event))) others.copy) (λ _ _. refl) (always (named_copy event)))
    (told fs (codes "transit") whole_in whole (named_transit event) (λ _. Unit {0}) (ap (option_or (option_map whole (named_transit event))) others.transit) (λ _ _. refl) (always (named_transit event)))
    (told fs (codes "master") name_in string (named_master event) IsName (ap (option_or (option_map string (named_master event))) others.master) name_back h.master)
    (told fs (codes "diff") difference_in difference_data (named_difference event) IsShort (ap (option_or (option_map difference_data (named_difference event))) others.diff) difference_back h.step)

read_report : (n : ℕ) (line : TraceLine) → IsRecorded line → report_in (event_data n line) ≡ out_report line.out
read_report n line h =
    let report = out_report line.out in
    let short = both_short report (report_out line.out h.out) in
    report_in_back report (event_data n line)
    (told (line_fields n line) (codes "offset2") difference_in difference_data (option_map (λ r. r.offset2) report) IsShort
    (ap (λ o. option_or o None) (twice_mapped difference_data (λ r. r.offset2) report)) difference_back (short_of (λ r. r.offset2) report short.0))
    (told (line_fields n line) (codes "path2") difference_in difference_data (option_map (λ r. r.path2) report) IsShort
    (ap (λ o. option_or o None) (twice_mapped difference_data (λ r. r.path2) report)) difference_back (short_of (λ r. r.path2) report short.1))
    (stands (line_fields n line) (codes "tags") (option_map tags_data report) refl)

read_out : (n : ℕ) (line : TraceLine) → IsRecorded line → out_of (out_text line.out) (event_data n line) ≡ Some line.out
read_out n line h =
    out_back line.out (event_data n line)
    (told (line_fields n line) (codes "hex") octets_in octets_data (made_octets line.out) _ refl (λ octets fits. octets_back octets fits.0 fits.1) (octets_out line.out h.out))
    (told (line_fields n line) (codes "code") (whole_below 65536) whole (out_code line.out) (λ code. code < 65536) refl (below_back 65536) (code_out line.out h.out))
    (read_report n line h)

scheduled_keys : (event : Event) → has_keys (event_keys event) (scheduled_data event) ≡ true
scheduled_keys event = same_count _ _ (members_len-members_of (event_fields event []) refl ∙ event_count event)

scheduled_back : (event : Event) (d : Data) → get (codes "ev") d ≡ Some (string (event_text event)) → event_in d ≡ Some event → has_keys (event_keys event) d ≡ true
    → line_of d ≡ Some (schedules.Event event)
scheduled_back event d ev is keys = rw (is, keys, ev)

-- an event's own keys are read as the event
pub scheduled_reads_back : ScheduledReadBack
scheduled_reads_back event h =
    scheduled_back event (scheduled_data event)
    (stands (event_fields event []) (codes "ev") (Some (string (event_text event))) refl)
    (read_event event [] h (record { at = refl; copy = refl; diff = refl; master = refl; transit = refl }))
    (scheduled_keys event)

-- a line that tells what may be recorded is read as it was written
pub reads_back : EventsReadBack
reads_back n line h =
    line_back n line (event_data n line)
    (stands (line_fields n line) (codes "ev") (Some (string (event_text line.event))) refl)
    (recorded_back line (event_data n line) (read_event line.event (answer_fields n line) h.event (record { at = refl; copy = refl; diff = refl; master = refl; transit = refl }))
    (reading_back (true_moment line.event) line.reading (event_data n line) h.timed
    (told (line_fields n line) (codes "reading") moment_in moment_data line.reading (λ time. time < bound) refl moment_back h.reading))
    (told (line_fields n line) (codes "out") as_str string (Some (out_text line.out)) (λ _. Unit {0}) refl (λ _ _. refl) tt)
    (read_out n line h))
    (told (line_fields n line) (codes "n") whole_in whole (Some n) (λ _. Unit {0}) refl (λ _ _. refl) tt)
    (keys_back n line h)
