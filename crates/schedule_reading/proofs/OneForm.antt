-- What a line is in a schedule, and what in a transcript: a node is one in both, and an event is one in one of them alone.
use Rattle.std.proofs.Common.{◌≡◌, ◌∙◌, ℕ, ◌==◌, List, codes, Bool, true, false, if◌then◌else◌, Option, Some, None}
use Rattle.std.proofs.Common.{Ok, refl, sym, ap, arith}
use Rattle.std.specs.Prelude.{ok_or, is_some, option_map, option_and_then, unwrap_or}
use Rattle.std.proofs.lemmas.Bool.{eqb-true}
use Rattle.serde_json.specs.Data.{Data}
use Rattle.serde_json.specs.Events.{members_len}
use Rattle.serde_json.specs.Find.{get, as_object, as_str}
use Rattle.network_model.specs.declared.event.Event.{Event}
use Rattle.network_model.specs.declared.node.NodeSpec.{NodeSpec}
use Rattle.network_model.specs.Run.{true_moment}
use Rattle.trace_model.specs.declared.line.TraceLine.{TraceLine}
use Rattle.trace_model.specs.declared.line.TraceOut.{TraceOut}
use Rattle.schedule_lines.specs.Json.{value_in, field, has_keys, whole_in}
use Rattle.schedule_lines.specs.Line.{event_in, event_keys, scheduled_in, node_spec_in, line_of}
use Rattle.schedule_lines.specs.TranscriptLine.{reading_in, out_of, trace_line_in, traced_in, line_keys, transcript_line_of}
use Rattle.schedule_lines.specs.declared.reading.schedule.Line.{Line}
use Rattle.schedule_lines.specs.declared.reading.schedule.Line.TheVariants as entries
use Rattle.schedule_lines.specs.declared.reading.transcript.TranscriptLine.{TranscriptLine}
use Rattle.schedule_lines.specs.declared.reading.transcript.TranscriptLine.TheVariants as recorded
use Rattle.schedule_reading.specs.declared.fault.TaskFault.{TaskFault}
use Rattle.schedule_reading.specs.declared.fault.TaskFault.TheVariants.{Field}
use Rattle.schedule_reading.specs.Entry.{read_by, entry_in, recorded_in}

then_some : {A B : Type 0} (f : A → Option B) (o : Option A) (y : B) → option_and_then f o ≡ Some y → (x : A) × (o ≡ Some x) × (f x ≡ Some y)
then_some f None y is = absurd cc
then_some f (Some x) y is = (x, refl, is)

if_kept : {A : Type 0} (b : Bool) (x y : A) → (if b then Some x else None) ≡ Some y → (b ≡ true) × (x ≡ y)
if_kept true x y is = (refl, cc)
if_kept false x y is = absurd cc

-- ---- an event of a schedule

one_count : {X : Type 0} (size : X → ℕ) (o : Option X) (a b : ℕ) → unwrap_or (option_map (λ x. size x == a) o) false ≡ true
    → unwrap_or (option_map (λ x. size x == b) o) false ≡ true → a ≡ b
one_count size None a b h k = absurd cc
one_count size (Some x) a b h k = sym (eqb-true (size x) a h) ∙ eqb-true (size x) b k

-- an object has one number of keys
one_size : (d : Data) (a b : ℕ) → has_keys a d ≡ true → has_keys b d ≡ true → a ≡ b
one_size d a b h k = one_count members_len (as_object d) a b h k

scheduled_has : (d : Data) (event : Event) → scheduled_in d ≡ Some event → (event_in d ≡ Some event) × (has_keys (event_keys event) d ≡ true)
scheduled_has d event is =
    let (x, there, kept) = then_some (λ (e : Event). if has_keys (event_keys e) d then Some e else None) (event_in d) event is in
    let (keys, same) = if_kept (has_keys (event_keys x) d) x event kept in
    (there ∙ ap Some same, ap (λ (e : Event). has_keys (event_keys e) d) (sym same) ∙ keys)

-- ---- and of a transcript

abbrev of_outcome : Event → Option ℕ → TraceOut → Option TraceLine
of_outcome event reading out = Some (record { event = event; reading = reading; out = out })

abbrev of_text : Data → Event → Option ℕ → List ℕ → Option TraceLine
of_text d event reading text = option_and_then (of_outcome event reading) (out_of text d)

abbrev of_reading : Data → Event → Option ℕ → Option TraceLine
of_reading d event reading = option_and_then (of_text d event reading) (field as_str (codes "out") d)

abbrev of_event : Data → Event → Option TraceLine
of_event d event = option_and_then (of_reading d event) (reading_in (true_moment event) d)

trace_has : (d : Data) (line : TraceLine) → trace_line_in d ≡ Some line → event_in d ≡ Some line.event
trace_has d line is =
    let (event, there, more) = then_some (of_event d) (event_in d) line is in
    let (reading, at, more') = then_some (of_reading d event) (reading_in (true_moment event) d) line more in
    let (text, told, more'') = then_some (of_text d event reading) (field as_str (codes "out") d) line more' in
    let (out, made, last) = then_some (of_outcome event reading) (out_of text d) line more'' in
    let same : record { event = event; reading = reading; out = out } ≡ line = cc last in
    there ∙ ap Some (ap (λ (l : TraceLine). l.event) same)

traced_has : (d : Data) (entry : TranscriptLine) → traced_in d ≡ Some entry
    → (number : ℕ) × (line : TraceLine) × (entry ≡ recorded.Event number line) × (event_in d ≡ Some line.event) × (has_keys (line_keys line) d ≡ true)
traced_has d entry is =
    let (line, there, rest) = then_some _ (trace_line_in d) entry is in
    let (number, n, last) = then_some _ (field whole_in (codes "n") d) entry rest in
    let (keys, same) = if_kept (has_keys (line_keys line) d) (recorded.Event number line) entry last in
    (number, line, sym same, trace_has d line there, keys)

-- no value is an event of both
no_event_of_both : (d : Data) (event : Event) (entry : TranscriptLine) → scheduled_in d ≡ Some event → traced_in d ≡ Some entry → ⊥
no_event_of_both d event entry scheduled traced =
    let (is, keys) = scheduled_has d event scheduled in
    let (number, line, same, is', keys') = traced_has d entry traced in
    let event_is : line.event ≡ event = cc (is, is') in
    let size = one_size d (event_keys event) (line_keys line) keys keys' in
    let longer : event_keys event ≡ event_keys line.event = ap event_keys (sym event_is) in
    omega (arith, size, longer)

-- ---- both readings, by whether there is a key `ev`

abbrev as_line : Bool → Option Event → Option NodeSpec → Option Line
as_line ev event node = if ev then option_map entries.Event event else option_map entries.Node node

abbrev as_recorded : Bool → Option TranscriptLine → Option NodeSpec → Option TranscriptLine
as_recorded ev traced node = if ev then traced else option_map recorded.Node node

event_is : (ev : Bool) (scheduled : Option Event) (node : Option NodeSpec) (event : Event) → as_line ev scheduled node ≡ Some (entries.Event event)
    → (ev ≡ true) × (scheduled ≡ Some event)
event_is true None node event is = absurd cc
event_is true (Some x) node event is = (refl, cc)
event_is false scheduled None event is = absurd cc
event_is false scheduled (Some x) event is = absurd cc

node_is : (ev : Bool) (scheduled : Option Event) (node : Option NodeSpec) (x : NodeSpec) → as_line ev scheduled node ≡ Some (entries.Node x)
    → (ev ≡ false) × (node ≡ Some x)
node_is true None node x is = absurd cc
node_is true (Some event) node x is = absurd cc
node_is false scheduled None x is = absurd cc
node_is false scheduled (Some y) x is = (refl, cc)

recorded_node_is : (ev : Bool) (traced : Option TranscriptLine) (node : Option NodeSpec) (x : NodeSpec)
    → ((y : NodeSpec) → traced ≡ Some (recorded.Node y) → ⊥) → as_recorded ev traced node ≡ Some (recorded.Node x) → (ev ≡ false) × (node ≡ Some x)
recorded_node_is true traced node x never is = absurd (never x is)
recorded_node_is false traced None x never is = absurd cc
recorded_node_is false traced (Some y) x never is = (refl, cc)

recorded_event_is : (ev : Bool) (traced : Option TranscriptLine) (node : Option NodeSpec) (number : ℕ) (line : TraceLine)
    → as_recorded ev traced node ≡ Some (recorded.Event number line) → ev ≡ true
recorded_event_is true traced node number line is = refl
recorded_event_is false traced None number line is = absurd cc
recorded_event_is false traced (Some y) number line is = absurd cc

not_a_node : (d : Data) (x : NodeSpec) → traced_in d ≡ Some (recorded.Node x) → ⊥
not_a_node d x is = let (number, line, same, event, keys) = traced_has d (recorded.Node x) is in absurd cc

-- ---- lines

was_read : {E : Type 0} (reading : Data → Option E) (value : Option Data) (x : E) → read_by reading value ≡ Ok x
    → (d : Data) × (value ≡ Some d) × (reading d ≡ Some x)
was_read reading None x is = absurd cc
was_read {E} reading (Some d) x is = (d, refl, some_of (reading d) is)
  where
    some_of : (o : Option E) → ok_or {E = TaskFault} o Field ≡ Ok x → o ≡ Some x
    some_of None is = absurd cc
    some_of (Some y) is = cc

reads : {E : Type 0} (reading : Data → Option E) (value : Option Data) (d : Data) (x : E) → value ≡ Some d → reading d ≡ Some x → read_by reading value ≡ Ok x
reads {E} reading value d x is entry = ap (read_by reading) is ∙ ap (λ (o : Option E). ok_or {E = TaskFault} o Field) entry

-- no line is an event of a schedule, and a line of a transcript, too
pub one_form : (line : List ℕ) (event : Event) (entry : TranscriptLine) → entry_in line ≡ Ok (entries.Event event) → recorded_in line ≡ Ok entry → ⊥
one_form line event entry scheduled traced =
    let (d, there, is) = was_read line_of (value_in line) (entries.Event event) scheduled in
    let (d', there', is') = was_read transcript_line_of (value_in line) entry traced in
    let one : d' ≡ d = cc (there, there') in
    let (ev, event_there) = event_is (is_some (get (codes "ev") d)) (scheduled_in d) (node_spec_in d) event is in
    let again : as_recorded (is_some (get (codes "ev") d)) (traced_in d) (node_spec_in d) ≡ Some entry = ap transcript_line_of (sym one) ∙ is' in
    no_event_of_both d event entry event_there (ap (λ (b : Bool). as_recorded b (traced_in d) (node_spec_in d)) (sym ev) ∙ again)

-- a node is one in both
pub recorded_node : (line : List ℕ) (node : NodeSpec) → entry_in line ≡ Ok (entries.Node node) → recorded_in line ≡ Ok (recorded.Node node)
recorded_node line node scheduled =
    let (d, there, is) = was_read line_of (value_in line) (entries.Node node) scheduled in
    let (ev, node_there) = node_is (is_some (get (codes "ev") d)) (scheduled_in d) (node_spec_in d) node is in
    reads transcript_line_of (value_in line) d (recorded.Node node) there
    (ap (λ (b : Bool). as_recorded b (traced_in d) (node_spec_in d)) ev ∙ ap (option_map recorded.Node) node_there)

pub scheduled_node : (line : List ℕ) (node : NodeSpec) → recorded_in line ≡ Ok (recorded.Node node) → entry_in line ≡ Ok (entries.Node node)
scheduled_node line node traced =
    let (d, there, is) = was_read transcript_line_of (value_in line) (recorded.Node node) traced in
    let (ev, node_there) = recorded_node_is (is_some (get (codes "ev") d)) (traced_in d) (node_spec_in d) node (not_a_node d) is in
    reads line_of (value_in line) d (entries.Node node) there
    (ap (λ (b : Bool). as_line b (scheduled_in d) (node_spec_in d)) ev ∙ ap (option_map entries.Node) node_there)
