-- What was noted of the events of an input, behind one more line.
use Rattle.std.proofs.Common.{◌≡◌, ◌∙◌, ◌++◌, [], ◌∷◌, ℕ, Option, Some, None, refl, sym, ap, subst}
use Rattle.std.specs.Prelude.{option_map, reverse}
use Rattle.std.proofs.lemmas.List.{reverse-append, reverse-reverse}
use Rattle.slave_port.specs.declared.heard.Report.{Report}
use Rattle.network_model.specs.Network.{Network}
use Rattle.trace_model.specs.declared.finding.Finding.{Finding}
use Rattle.trace_model.specs.declared.judgement.Results.{Results}
use Rattle.trace_model.specs.declared.line.TraceLine.{TraceLine}
use Rattle.trace_model.specs.declared.verdict.Why.TheVariants.{Bytes}
use Rattle.trace_model.specs.Line.{Lines}
use Rattle.exchange_check.specs.Transcript.{Transcript as Fed}
use Rattle.exchange_check.specs.Evidence.{Evidences, IsWithLine, last_by_messages, last_finding, last_otherwise, unbegun}
use Rattle.exchange_check.specs.Exchange.{last_exchange}
use Rattle.exchange_check.specs.declared.evidence.Evidence.{Evidence}
use Rattle.exchange_check.specs.declared.exchange.Exchange.{Exchange as Followed}
use Rattle.schedule_lines.specs.declared.reading.transcript.TranscriptLine.{TranscriptLine}
use Rattle.schedule_lines.specs.declared.reading.transcript.TranscriptLine.TheVariants as recorded
use Rattle.schedule_reading.specs.Transcript.{Recorded}
use Rattle.explain_input.specs.declared.input.Input.{Input}
use Rattle.explain_input.specs.declared.input.Input.TheVariants.{Transcript, Schedule}
use Rattle.explain_input.specs.Input.{Enters}
use Rattle.explain_transcript.specs.Details.{details_of, last_time, made_by, moments_of, octets_of}
use Rattle.explain_transcript.specs.declared.details.Details.{Details}
use Rattle.explain_transcript.specs.declared.details.Moments.{Moments}
use Rattle.explain_transcript.specs.declared.details.Octets.{Octets}
use Rattle.explain_transcript.specs.Inner.Noting.{IsNotedOf, IsNotedIn, fed_of}

-- of lines of this network
pub noted_of : (evidence : Evidence) (nodes : Network) (lines : Lines) → IsNotedOf evidence nodes lines
    → Evidences evidence (fed_of nodes lines)
noted_of evidence nodes [] h = h nodes
noted_of evidence nodes (line ∷ earlier) h = h

-- what a checker was fed
pub fed_same : (fed : Fed) (nodes : Network) (lines : Lines) → (fed.network ≡ nodes) × (reverse fed.lines ≡ lines)
    → fed ≡ fed_of nodes lines
fed_same fed nodes lines (same_nodes, same_lines) =
    let all : fed.lines ≡ reverse lines = sym (reverse-reverse fed.lines) ∙ ap reverse same_lines in
    λ i. record { network = same_nodes i; lines = all i }

-- behind a node
pub node_noted : (evidence : Evidence) (before : Input) (later : Recorded) (entry : Option TranscriptLine)
    → ((number : ℕ) (line : TraceLine) → entry ≡ Some (recorded.Event number line) → ⊥)
    → Enters entry before (Transcript later) → IsNotedIn evidence before → IsNotedOf evidence later.nodes later.lines
node_noted evidence (Transcript state) later (Some (recorded.Node node)) no_event (none, is) notes =
    let all : (network : Network) → Evidences evidence (unbegun network) =
    subst (λ (lines : Lines). IsNotedOf evidence state.nodes lines) none notes in
    subst (λ (r : Recorded). IsNotedOf evidence r.nodes r.lines) (sym is) all
node_noted evidence before later (Some (recorded.Event number line)) no_event enters notes = absurd (no_event number line refl)
node_noted evidence (Schedule state) later (Some (recorded.Node node)) no_event enters notes = absurd enters
node_noted evidence before later None no_event enters notes = absurd enters

-- behind an event, which a checker was fed last
pub event_noted : (evidence evidence' : Evidence) (before : Input) (later : Recorded) (number : ℕ) (line : TraceLine) (fed : Fed)
    → Enters (Some (recorded.Event number line)) before (Transcript later) → IsNotedIn evidence before
    → (fed.network ≡ later.nodes) × (reverse fed.lines ≡ later.lines)
    → ((earlier : Fed) → IsWithLine earlier line fed → Evidences evidence earlier → Evidences evidence' fed)
    → IsNotedOf evidence' later.nodes later.lines
event_noted evidence evidence' (Transcript state) later number line fed (place, network, is) notes same note =
    let fed_is : fed ≡ fed_of state.nodes (line ∷ state.lines) =
    fed_same fed later.nodes later.lines same ∙ ap (λ (r : Recorded). fed_of r.nodes r.lines) is in
    let pushed : reverse (line ∷ state.lines) ≡ reverse state.lines ++ line ∷ [] = reverse-append (line ∷ []) state.lines in
    let with_line : IsWithLine (fed_of state.nodes state.lines) line fed =
    fed_is ∙ (λ i. record { network = state.nodes; lines = pushed i }) in
    let after : Evidences evidence' fed =
    note (fed_of state.nodes state.lines) with_line (noted_of evidence state.nodes state.lines notes) in
    subst (λ (r : Recorded). IsNotedOf evidence' r.nodes r.lines) (sym is)
    (subst (λ (f : Fed). Evidences evidence' f) fed_is after)
event_noted evidence evidence' (Schedule state) later number line fed enters notes same note = absurd enters

-- with an event there is a checker
pub event_there : {A : Type 0} (before : Input) (later : Recorded) (number : ℕ) (line : TraceLine)
    → Enters (Some (recorded.Event number line)) before (Transcript later) → later.lines ≡ [] → A
event_there (Transcript state) later number line (place, network, is) none =
    let some : later.lines ≡ line ∷ state.lines = ap (λ (r : Recorded). r.lines) is in
    absurd (cc (some, none))
event_there (Schedule state) later number line enters none = absurd enters

-- the same by what was matched
pub note_told : (evidence evidence' : Evidence) (before input : Input) (state : Recorded) (entry : Option TranscriptLine)
    (inner : TranscriptLine) (number : ℕ) (line : TraceLine) (fed : Fed)
    → input ≡ Transcript state → entry ≡ Some inner → inner ≡ recorded.Event number line
    → Enters entry before input → IsNotedIn evidence before
    → (fed.network ≡ state.nodes) × (reverse fed.lines ≡ state.lines)
    → ((earlier : Fed) → IsWithLine earlier line fed → Evidences evidence earlier → Evidences evidence' fed)
    → IsNotedIn evidence' input
note_told evidence evidence' before input state entry inner number line fed is some event enters notes same note =
    let entry_is : entry ≡ Some (recorded.Event number line) = some ∙ ap (λ (e : TranscriptLine). Some e) event in
    let entered : Enters (Some (recorded.Event number line)) before (Transcript state) =
    subst (λ (e : Option TranscriptLine). Enters e before (Transcript state)) entry_is
    (subst (λ (i : Input). Enters entry before i) is enters) in
    subst (λ (i : Input). IsNotedIn evidence' i) (sym is)
    (event_noted evidence evidence' before state number line fed entered notes same note)

-- what is told of a report of the last line beside its judgement
pub details_told : (evidence : Evidence) (input : Input) (state : Recorded) (report : Report) (fed : Fed)
    (told : Option Results) (octets : Option Octets) (otherwise : Option Finding) (event : Option ℕ)
    (exchange : Option Followed) (moments : Option Moments) (time : Option ℕ)
    → input ≡ Transcript state → IsNotedIn evidence input
    → (fed.network ≡ state.nodes) × (reverse fed.lines ≡ state.lines)
    → (Evidences evidence fed → told ≡ last_by_messages fed.network (reverse fed.lines) report)
    → (Evidences evidence fed → octets ≡ octets_of (last_finding fed.network (reverse fed.lines) report Bytes) otherwise)
    → (Evidences evidence fed → otherwise ≡ last_otherwise fed.network (reverse fed.lines) report)
    → event ≡ made_by otherwise → exchange ≡ last_exchange fed.network (reverse fed.lines) report
    → moments ≡ option_map moments_of exchange
    → (exchange ≡ last_exchange fed.network (reverse fed.lines) report → time ≡ last_time fed.network (reverse fed.lines) report)
    → (record { by_messages = told; octets = octets; otherwise = event; moments = moments; time = time }) ≡ details_of input report
details_told evidence input state report fed told octets otherwise event exchange moments time is notes (nodes, lines)
    messages differing others made exchanges moments_is times =
    let here : IsNotedIn evidence (Transcript state) = subst (λ (i : Input). IsNotedIn evidence i) is notes in
    let evidences : Evidences evidence fed = subst (λ (f : Fed). Evidences evidence f)
    (sym (fed_same fed state.nodes state.lines (nodes, lines))) (noted_of evidence state.nodes state.lines here) in
    let mine : Details = record { by_messages = told; octets = octets; otherwise = event; moments = moments; time = time } in
    let told_is : told ≡ last_by_messages state.nodes state.lines report =
    messages evidences ∙ (λ i. last_by_messages (nodes i) (lines i) report) in
    let otherwise_is : otherwise ≡ last_otherwise state.nodes state.lines report =
    others evidences ∙ (λ i. last_otherwise (nodes i) (lines i) report) in
    let octets_are : octets ≡ octets_of (last_finding state.nodes state.lines report Bytes)
    (last_otherwise state.nodes state.lines report) =
    differing evidences ∙ (λ i. octets_of (last_finding (nodes i) (lines i) report Bytes) (otherwise_is i)) in
    let event_is : event ≡ made_by (last_otherwise state.nodes state.lines report) = made ∙ ap made_by otherwise_is in
    let exchange_is : exchange ≡ last_exchange state.nodes state.lines report =
    exchanges ∙ (λ i. last_exchange (nodes i) (lines i) report) in
    let moments_are : moments ≡ option_map moments_of (last_exchange state.nodes state.lines report) =
    moments_is ∙ ap (option_map moments_of) exchange_is in
    let time_is : time ≡ last_time state.nodes state.lines report =
    times exchanges ∙ (λ i. last_time (nodes i) (lines i) report) in
    subst (λ (i : Input). mine ≡ details_of i report) (sym is) (λ i. record {
      by_messages = told_is i;
      octets = octets_are i;
      otherwise = event_is i;
      moments = moments_are i;
      time = time_is i;
    })
