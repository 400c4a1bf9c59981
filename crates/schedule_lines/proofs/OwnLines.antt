-- Each line that is read has just the keys of what is written of it.
use Rattle.std.proofs.Common.{◌≡◌, ◌∙◌, ℕ, true, false, List, [], codes, Option, Some, None, IfSome, is_some}
use Rattle.std.proofs.Common.{option_map, option_and_then, bytes_eq, refl, sym, subst, ap}
use Rattle.serde_json.specs.Data.{Data}
use Rattle.serde_json.specs.Find.{get, as_str}
use Rattle.slave_port.specs.declared.heard.Report.{Report}
use Rattle.event_codec.specs.declared.port.PortConfig.{PortConfig}
use Rattle.ptp_units.specs.declared.sequence.Seq.{Seq}
use Rattle.network_model.specs.Run.{true_moment}
use Rattle.network_model.specs.Kinds.{named_master, named_difference, named_transit, named_copy}
use Rattle.network_model.specs.declared.event.Event.{Event}
use Rattle.network_model.specs.declared.node.NodeKind.{NodeKind}
use Rattle.network_model.specs.declared.node.NodeSpec.{NodeSpec}
use Rattle.trace_model.specs.declared.line.TraceLine.{TraceLine}
use Rattle.trace_model.specs.declared.line.TraceOut.{TraceOut}
use Rattle.schedule_lines.specs.EventKind.{kind_of}
use Rattle.schedule_lines.specs.Json.{has_keys, field, whole_in, whole_below, moment_in, name_in, clock_in}
use Rattle.schedule_lines.specs.Json.{signed_octet_in, octets_in, difference_in}
use Rattle.schedule_lines.specs.Line.{event_at, event_in, event_keys, scheduled_in, at_in, config_in}
use Rattle.schedule_lines.specs.Line.{first_in, port_in, node_kind, node_spec_in}
use Rattle.schedule_lines.specs.TranscriptLine.{trace_line_in}
use Rattle.schedule_lines.specs.Keys.{HaveSameKeys, line_data, transcript_line_data, LinesHaveOwnKeys}
use Rattle.schedule_lines.specs.Keys.{TranscriptLinesHaveOwnKeys}
use Rattle.schedule_lines.proofs.Keys.{Field, event_fields, answer_fields, line_fields}
use Rattle.schedule_lines.proofs.OwnKeys.{HasFields, have_same_keys}
use Rattle.schedule_lines.proofs.Printed.{port_fields, clock_fields}
use Rattle.schedule_lines.specs.declared.event_kind.EventKind.{EventKind}
use Rattle.schedule_lines.specs.declared.event_kind.EventKind.TheVariants.{Sync, SyncOne, Enter, Leave}
use Rattle.schedule_lines.specs.declared.event_kind.EventKind.TheVariants.{Arrive, Hear, Request}
use Rattle.schedule_lines.specs.declared.event_kind.EventKind.TheVariants.{SetMaster, StepClock}
use Rattle.schedule_lines.specs.declared.reading.transcript.TranscriptLine.{TranscriptLine}
use Rattle.schedule_lines.specs.TranscriptLine.{report_of, report_in, out_of, reading_in, trace_line_in, line_keys}
use Rattle.schedule_lines.specs.Written.{node_data, kind_data, port_data, scheduled_data, made_octets}
use Rattle.schedule_lines.specs.Written.{out_code, out_report}
use Rattle.schedule_lines.specs.Ranges.{IsRecorded}
use Rattle.schedule_lines.proofs.Ranges.{recorded_read}
use Rattle.network_model.proofs.Options.{if_some, mapped, weaker, then_also, either}
use Rattle.schedule_lines.proofs.ReadBack.{event_count, line_count}
use Rattle.network_model.specs.declared.event.Event.TheVariants as events
use Rattle.network_model.specs.declared.node.NodeKind.TheVariants as kinds
use Rattle.trace_model.specs.declared.line.TraceOut.TheVariants as outs
use Rattle.schedule_lines.specs.declared.reading.schedule.Line.TheVariants as schedules
use Rattle.schedule_lines.specs.declared.reading.transcript.TranscriptLine.TheVariants as lines

-- ---- keys

-- a value has a key
abbrev Has : List ℕ → Data → Type 0
Has key d = is_some (get key d) ≡ true

-- a value has a key where there is something for it
abbrev HasFor : {X : Type 0} → Option X → List ℕ → Data → Type 0
HasFor o key d = is_some o ≡ true → Has key d

no : {P : Type 0} → false ≡ true → P
no h = absurd (cc)

each : {X : Type 0} (o : Option X) → IfSome o (λ _. true ≡ true)
each None = tt
each (Some x) = refl

found : {X : Type 0} (reads : Data → Option X) (o : Option Data) → IfSome (option_and_then reads o) (λ _. is_some o ≡ true)
found reads None = tt
found reads (Some d) = each (reads d)

-- what is read of a key stands there
has : {X : Type 0} (reads : Data → Option X) (key : List ℕ) (d : Data) → IfSome (field reads key d) (λ _. Has key d)
has reads key d = found reads (get key d)

-- what is made of a field has its key
with_field : {X Y : Type 0} (P : Y → Type 0) (f : X → Y) (reads : Data → Option X) (key : List ℕ) (d : Data) → ((x : X) → Has key d → P (f x))
    → IfSome (option_map f (field reads key d)) P
with_field P f reads key d each_one = mapped P f (field reads key d) (weaker (λ _. Has key d) (λ x. P (f x)) (field reads key d) (has reads key d) each_one)

then_field : {X Y : Type 0} (P : Y → Type 0) (f : X → Option Y) (reads : Data → Option X) (key : List ℕ) (d : Data) → ((x : X) → Has key d → IfSome (f x) P)
    → IfSome (option_and_then f (field reads key d)) P
then_field P f reads key d each_one = then_also (λ _. Has key d) P f (field reads key d) (has reads key d) each_one

-- ---- events

-- an event's own keys
record HasEvent (d : Data) (event : Event) : Type 0 where
  at : HasFor (true_moment event) (codes "at") d
  copy : HasFor (named_copy event) (codes "copy") d
  diff : HasFor (named_difference event) (codes "diff") d
  ev : Has (codes "ev") d
  master : HasFor (named_master event) (codes "master") d
  node : Has (codes "node") d
  transit : HasFor (named_transit event) (codes "transit") d

has_event_at : (kind : EventKind) (node : List ℕ) (d : Data) → Has (codes "ev") d → Has (codes "node") d → IfSome (event_at kind node d) (HasEvent d)
has_event_at Sync node d e n = with_field (HasEvent d) (events.Sync node) moment_in (codes "at") d
    (λ at h. record { at = λ _. h; copy = no; diff = no; ev = e; master = no; node = n; transit = no })
has_event_at SyncOne node d e n = with_field (HasEvent d) (events.SyncOne node) moment_in (codes "at") d
    (λ at h. record { at = λ _. h; copy = no; diff = no; ev = e; master = no; node = n; transit = no })
has_event_at Enter node d e n = then_field (HasEvent d) (λ copy. option_map (events.Enter node copy) (at_in d)) whole_in (codes "copy") d
    (λ copy k. with_field (HasEvent d) (events.Enter node copy) moment_in (codes "at") d
    (λ at h. record { at = λ _. h; copy = λ _. k; diff = no; ev = e; master = no; node = n; transit = no }))
has_event_at Leave node d e n = then_field (HasEvent d) (λ transit. option_map (events.Leave node transit) (at_in d)) whole_in (codes "transit") d
    (λ transit k. with_field (HasEvent d) (events.Leave node transit) moment_in (codes "at") d
    (λ at h. record { at = λ _. h; copy = no; diff = no; ev = e; master = no; node = n; transit = λ _. k }))
has_event_at Arrive node d e n = then_field (HasEvent d) (λ copy. option_map (events.Arrive node copy) (at_in d)) whole_in (codes "copy") d
    (λ copy k. with_field (HasEvent d) (events.Arrive node copy) moment_in (codes "at") d
    (λ at h. record { at = λ _. h; copy = λ _. k; diff = no; ev = e; master = no; node = n; transit = no }))
has_event_at Hear node d e n = with_field (HasEvent d) (events.Hear node) whole_in (codes "copy") d
    (λ copy k. record { at = no; copy = λ _. k; diff = no; ev = e; master = no; node = n; transit = no })
has_event_at Request node d e n = with_field (HasEvent d) (events.Request node) moment_in (codes "at") d
    (λ at h. record { at = λ _. h; copy = no; diff = no; ev = e; master = no; node = n; transit = no })
has_event_at SetMaster node d e n = with_field (HasEvent d) (events.SetMaster node) name_in (codes "master") d
    (λ master k. record { at = no; copy = no; diff = no; ev = e; master = λ _. k; node = n; transit = no })
has_event_at StepClock node d e n = with_field (HasEvent d) (events.StepClock node) difference_in (codes "diff") d
    (λ diff k. record { at = no; copy = no; diff = λ _. k; ev = e; master = no; node = n; transit = no })
has_event_at _ node d e n = record { at = no; copy = no; diff = no; ev = e; master = no; node = n; transit = no }

-- the text of `ev` stands there
has_kind : (d : Data) → IfSome (option_and_then kind_of (field as_str (codes "ev") d)) (λ _. Has (codes "ev") d)
has_kind d = then_field (λ _. Has (codes "ev") d) kind_of as_str (codes "ev") d (λ text h. still (kind_of text) h)
  where
    still : {X P : Type 0} (o : Option X) → P → IfSome o (λ _. P)
    still None h = tt
    still (Some x) h = h

has_event : (d : Data) → IfSome (event_in d) (HasEvent d)
has_event d = then_also (λ _. Has (codes "ev") d) (HasEvent d) _ (option_and_then kind_of (field as_str (codes "ev") d)) (has_kind d)
    (λ kind e. then_field (HasEvent d) (λ node. event_at kind node d) name_in (codes "node") d (λ node n. has_event_at kind node d e n))

-- something is made of what is there, and of nothing else
for_mapped : {X Y : Type 0} (f : X → Y) (o : Option X) (key : List ℕ) (d : Data) → HasFor o key d → HasFor (option_map f o) key d
for_mapped f None key d h = h
for_mapped f (Some x) key d h = h

event_has_fields : (d : Data) (event : Event) (rest : List Field) → HasEvent d event → HasFields d rest → HasFields d (event_fields event rest)
event_has_fields d event rest h others = (
  for_mapped _ (true_moment event) (codes "at") d h.at,
  (
    for_mapped _ (named_copy event) (codes "copy") d h.copy,
    (
      for_mapped _ (named_difference event) (codes "diff") d h.diff,
      (
        λ _. h.ev,
        (
          for_mapped _ (named_master event) (codes "master") d h.master,
          (
            λ _. h.node,
            (for_mapped _ (named_transit event) (codes "transit") d h.transit, others),
          ),
        ),
      ),
    ),
  ),
)

-- ---- what was recorded

-- the keys of an outcome
record HasOut (d : Data) (out : TraceOut) : Type 0 where
  code : HasFor (out_code out) (codes "code") d
  hex : HasFor (made_octets out) (codes "hex") d
  offset2 : HasFor (out_report out) (codes "offset2") d
  path2 : HasFor (out_report out) (codes "path2") d
  tags : HasFor (out_report out) (codes "tags") d

has_report : (d : Data) → IfSome (report_in d) (λ _. Has (codes "offset2") d × Has (codes "path2") d × Has (codes "tags") d)
has_report d =
    let P : Report → Type 0 = λ _. Has (codes "offset2") d × Has (codes "path2") d × Has (codes "tags") d in
    then_field P _ difference_in (codes "offset2") d (λ offset2 x.
    then_field P _ difference_in (codes "path2") d (λ path2 y.
    weaker (λ _. Has (codes "tags") d) P (field (report_of offset2 path2) (codes "tags") d) (has (report_of offset2 path2) (codes "tags") d) (λ report z. (x, y, z))))

has_out : (text : List ℕ) (d : Data) → IfSome (out_of text d) (HasOut d)
has_out text d =
    let P : TraceOut → Type 0 = HasOut d in
    either P (bytes_eq text (codes "done")) _ _ (λ _. record { code = no; hex = no; offset2 = no; path2 = no; tags = no }) (λ _.
    either P (bytes_eq text (codes "made")) _ _ (λ _. with_field P (λ octets. outs.Made (record { items = octets })) octets_in (codes "hex") d
    (λ octets h. record { code = no; hex = λ _. h; offset2 = no; path2 = no; tags = no })) (λ _.
    either P (bytes_eq text (codes "entered")) _ _ (λ _. record { code = no; hex = no; offset2 = no; path2 = no; tags = no }) (λ _.
    either P (bytes_eq text (codes "held")) _ _ (λ _. record { code = no; hex = no; offset2 = no; path2 = no; tags = no }) (λ _.
    either P (bytes_eq text (codes "completed")) _ _ (λ _. record { code = no; hex = no; offset2 = no; path2 = no; tags = no }) (λ _.
    either P (bytes_eq text (codes "report")) _ _ (λ _. mapped P outs.Report (report_in d) (weaker _ (λ report. P (outs.Report report)) (report_in d) (has_report d)
    (λ report h. record { code = no; hex = no; offset2 = λ _. h.0; path2 = λ _. h.1; tags = λ _. h.2 }))) (λ _.
    either P (bytes_eq text (codes "ignored")) _ _ (λ _. with_field P outs.Ignored (whole_below 65536) (codes "code") d
    (λ code h. record { code = λ _. h; hex = no; offset2 = no; path2 = no; tags = no })) (λ _.
    either P (bytes_eq text (codes "refused")) _ _ (λ _. with_field P outs.Refused (whole_below 65536) (codes "code") d
    (λ code h. record { code = λ _. h; hex = no; offset2 = no; path2 = no; tags = no })) (λ _. tt))))))))

has_reading : (at : Option ℕ) (d : Data) → IfSome (reading_in at d) (λ reading. HasFor reading (codes "reading") d)
has_reading None d = no
has_reading (Some at) d = with_field (λ reading. HasFor reading (codes "reading") d) Some moment_in (codes "reading") d (λ time h _. h)

-- the keys of what was recorded
record HasRecorded (d : Data) (line : TraceLine) : Type 0 where
  event : HasEvent d line.event
  reading : HasFor line.reading (codes "reading") d
  text : Has (codes "out") d
  out : HasOut d line.out

has_recorded : (d : Data) → IfSome (trace_line_in d) (HasRecorded d)
has_recorded d =
    then_also (HasEvent d) (HasRecorded d) _ (event_in d) (has_event d) (λ event e.
    then_also (λ reading. HasFor reading (codes "reading") d) (HasRecorded d) _ (reading_in (true_moment event) d) (has_reading (true_moment event) d) (λ reading r.
    then_field (HasRecorded d) _ as_str (codes "out") d (λ text t.
    then_also (HasOut d) (HasRecorded d) _ (out_of text d) (has_out text d) (λ out o.
    record { event = e; reading = r; text = t; out = o }))))

answer_has_fields : (d : Data) (n : ℕ) (line : TraceLine) → HasRecorded d line → Has (codes "n") d → HasFields d (answer_fields n line)
answer_has_fields d n line h number = (
  for_mapped _ (out_code line.out) (codes "code") d h.out.code,
  (
    for_mapped _ (made_octets line.out) (codes "hex") d h.out.hex,
    (
      λ _. number,
      (
        λ _. h.text,
        (
          for_mapped _ line.reading (codes "reading") d h.reading,
          (
            for_mapped _ (out_report line.out) (codes "offset2") d h.out.offset2,
            (
              for_mapped _ (out_report line.out) (codes "path2") d h.out.path2,
              (for_mapped _ (out_report line.out) (codes "tags") d h.out.tags, tt),
            ),
          ),
        ),
      ),
    ),
  ),
)

-- ---- nodes

-- the keys of a configuration
record HasConfig (d : Data) : Type 0 where
  clock : Has (codes "id") d
  port : Has (codes "port") d
  domain : Has (codes "domain") d
  log : Has (codes "log") d

has_config : (d : Data) → IfSome (config_in d) (λ _. HasConfig d)
has_config d =
    let P : PortConfig → Type 0 = λ _. HasConfig d in
    then_field P _ clock_in (codes "id") d (λ clock x.
    then_field P _ (whole_below 65536) (codes "port") d (λ port y.
    then_field P _ (whole_below 256) (codes "domain") d (λ domain z.
    with_field P _ signed_octet_in (codes "log") d (λ log w. record { clock = x; port = y; domain = z; log = w }))))

-- a node's keys are just those of what is written of it, by any name
abbrev HasNode : Data → NodeKind → Type 0
HasNode d kind = (name : List ℕ) → HaveSameKeys d (kind_data name kind)

port_has_keys : (d : Data) (name kind : List ℕ) (config : PortConfig) (first : Seq) → has_keys 7 d ≡ true → Has (codes "kind") d → Has (codes "node") d
    → HasConfig d → Has (codes "first") d → HaveSameKeys d (port_data name kind config first)
port_has_keys d name kind config first keys k n c f = have_same_keys d (port_fields name kind config first) 7 refl refl keys
    (λ _. c.domain, (λ _. f, (λ _. c.clock, (λ _. k, (λ _. c.log, (λ _. n, (λ _. c.port, tt)))))))

has_port : (kind : PortConfig → Seq → NodeKind) (text : List ℕ) (d : Data)
    → ((name : List ℕ) (config : PortConfig) (first : Seq) → kind_data name (kind config first) ≡ port_data name text config first)
    → Has (codes "kind") d → Has (codes "node") d → IfSome (port_in kind d) (HasNode d)
has_port kind text d written k n =
    let P : NodeKind → Type 0 = HasNode d in
    either P (has_keys 7 d) _ None (λ keys.
    then_also (λ _. HasConfig d) P _ (config_in d) (has_config d) (λ config c.
    mapped P (kind config) (first_in d) (mapped (λ first. P (kind config first)) _ (field (whole_below 65536) (codes "first") d)
    (weaker (λ _. Has (codes "first") d) _ (field (whole_below 65536) (codes "first") d) (has (whole_below 65536) (codes "first") d)
    (λ first f name q. port_has_keys d name text config (record { 0 = first }) keys k n c f q ∙ ap (λ (e : Data). is_some (get q e)) (sym (written name config (record { 0 = first })))))))) (λ _. tt)

has_kind_of_node : (text : List ℕ) (d : Data) → Has (codes "kind") d → Has (codes "node") d → IfSome (node_kind text d) (HasNode d)
has_kind_of_node text d k n =
    let P : NodeKind → Type 0 = HasNode d in
    either P (bytes_eq text (codes "master")) _ _ (λ _. has_port kinds.Master (codes "master") d (λ name config first. refl) k n) (λ _.
    either P (bytes_eq text (codes "slave")) _ _ (λ _. has_port kinds.Slave (codes "slave") d (λ name config first. refl) k n) (λ _.
    either P (bytes_eq text (codes "clock")) _ None (λ _. either P (has_keys 2 d) (Some kinds.Clock) None
    (λ keys name. have_same_keys d (clock_fields name) 2 refl refl keys (λ _. k, (λ _. n, tt))) (λ _. tt)) (λ _. tt)))

has_node : (d : Data) → IfSome (node_spec_in d) (λ node. HaveSameKeys d (node_data node))
has_node d =
    let P : NodeSpec → Type 0 = λ node. HaveSameKeys d (node_data node) in
    then_field P _ as_str (codes "kind") d (λ text k.
    then_field P _ name_in (codes "node") d (λ name n.
    mapped P _ (node_kind text d) (weaker (HasNode d) _ (node_kind text d) (has_kind_of_node text d k n) (λ kind h. h name))))

-- ---- lines

has_scheduled : (d : Data) → IfSome (scheduled_in d) (λ event. HaveSameKeys d (scheduled_data event))
has_scheduled d =
    let P : Event → Type 0 = λ event. HaveSameKeys d (scheduled_data event) in
    then_also (HasEvent d) P _ (event_in d) (has_event d) (λ event e.
    either P (has_keys (event_keys event) d) (Some event) None
    (λ keys. have_same_keys d (event_fields event []) (event_keys event) refl (event_count event) keys (event_has_fields d event [] e tt)) (λ _. tt))

-- lines of schedules
pub lines_have_own_keys : LinesHaveOwnKeys
lines_have_own_keys d = either (λ line. HaveSameKeys d (line_data line)) (is_some (get (codes "ev") d)) _ _
    (λ _. mapped _ schedules.Event (scheduled_in d) (has_scheduled d)) (λ _. mapped _ schedules.Node (node_spec_in d) (has_node d))

-- lines of transcripts
pub transcript_lines_have_own_keys : TranscriptLinesHaveOwnKeys
transcript_lines_have_own_keys d =
    let P : TranscriptLine → Type 0 = λ line. HaveSameKeys d (transcript_line_data line) in
    either P (is_some (get (codes "ev") d)) _ _
    (λ _. then_also (λ line. HasRecorded d line × IsRecorded line) P _ (trace_line_in d) (if_some _ (trace_line_in d) (λ line is.
    (subst (λ o. IfSome o (HasRecorded d)) is (has_recorded d), subst (λ o. IfSome o IsRecorded) is (recorded_read d)))) (λ line (h, r).
    then_field P _ whole_in (codes "n") d (λ n number.
    either P (has_keys (line_keys line) d) (Some (lines.Event n line)) None
    (λ keys. have_same_keys d (line_fields n line) (line_keys line) refl (line_count n line r) keys
    (event_has_fields d line.event (answer_fields n line) h.event (answer_has_fields d n line h number))) (λ _. tt))))
    (λ _. mapped P lines.Node (node_spec_in d) (has_node d))
