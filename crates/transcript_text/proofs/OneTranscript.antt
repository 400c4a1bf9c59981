-- What is written of a run is taken as its transcript, and so its verdict accepts it, and no line of it has a fault.
use Rattle.std.proofs.Common.{◌≡◌, ◌∙◌, List, [], ◌∷◌, ◌++◌, length, refl, sym, ap, append_assoc, append-nil, map, ℕ}
use Rattle.std.proofs.Common.{◌+◌, Some, None, Ok, Err, subst}
use Rattle.network_model.specs.Network.{Network}
use Rattle.network_model.specs.Premises.{Premise}
use Rattle.trace_model.specs.Line.{Lines}
use Rattle.trace_model.specs.Verdict.{verdict}
use Rattle.trace_model.specs.Complete.{MissesNothing}
use Rattle.schedule_lines.specs.declared.reading.transcript.TranscriptLine.{TranscriptLine}
use Rattle.transcript_text.specs.Replay.{nodes_text}
use Rattle.schedule_reading.specs.Transcript.{nothing, Recorded, Follows}
use Rattle.transcript_text.specs.CheckText.{numbered, transcript_of, AreRecorded, check_rules}
use Rattle.transcript_text.specs.CheckText.{ChecksAll}
use Rattle.schedule_reading.specs.Verdict.{verdict_text}
use Rattle.transcript_text.specs.Accepted.{EachRunIsAccepted, IsOfDevice, EachRunIsChecked}
use Rattle.network_model.proofs.ExactPremises.{IsExact}
use Rattle.transcript_text.proofs.Transcribed.{transcribed}
use Rattle.network_model.specs.Clash.{first_clash}
use Rattle.text_lines.specs.Lines.{lines_of}
use Rattle.text_lines.specs.Task.{TakesLines}
use Rattle.transcript_text.specs.declared.fault.FaultKind.{FaultKind}
use Rattle.transcript_text.specs.declared.fault.FaultKind.TheVariants.{Read, Write, LineTooLong, TooManyLines, Json}
use Rattle.transcript_text.specs.declared.fault.FaultKind.TheVariants.{Field, World, Memory}
use Rattle.transcript_text.proofs.OneAnswer.{checks_one}
use Rattle.schedule_lines.specs.declared.reading.transcript.TranscriptLine.TheVariants as recorded

-- ---- a transcript is taken

-- these entries in turn take one state to another
abbrev FollowsAll : List TranscriptLine → Recorded → Recorded → Type 0
FollowsAll [] state later = later ≡ state
FollowsAll (entry ∷ entries) state later = (next : Recorded) × Follows entry state next × FollowsAll entries next later

push : (entries : List TranscriptLine) (entry : TranscriptLine) (state next later : Recorded) → FollowsAll entries state next → Follows entry next later
    → FollowsAll (entries ++ entry ∷ []) state later
push [] entry state next later same follows = (later, subst (λ (s : Recorded). Follows entry s later) same follows, refl)
push (first ∷ entries) entry state next later (one, does, rest) follows = (one, does, push entries entry one next later rest follows)

nodes_follow : (done nodes : Network) → FollowsAll (map recorded.Node nodes) (record { nodes = done; lines = [] }) (record { nodes = done ++ nodes; lines = [] })
nodes_follow done [] = ap (λ (n : Network). record { nodes = n; lines = [] }) (append-nil done)
nodes_follow done (node ∷ nodes) = (
  record { nodes = done ++ node ∷ []; lines = [] },
  (refl, refl),
  subst (λ (n : Network). FollowsAll (map recorded.Node nodes) (record { nodes = done ++ node ∷ []; lines = [] }) (record { nodes = n; lines = [] }))
      (append_assoc done (node ∷ []) nodes) (nodes_follow (done ++ node ∷ []) nodes),
)

transcript_follows : (nodes : Network) (lines : Lines) → first_clash nodes ≡ None
    → FollowsAll (transcript_of nodes lines) (record { nodes = []; lines = [] }) (record { nodes = nodes; lines = lines })
transcript_follows nodes [] network =
    subst (λ (es : List TranscriptLine). FollowsAll es (record { nodes = []; lines = [] }) (record { nodes = nodes; lines = [] }))
    (sym (append-nil (map recorded.Node nodes))) (nodes_follow [] nodes)
transcript_follows nodes (line ∷ earlier) network =
    subst (λ (es : List TranscriptLine). FollowsAll es (record { nodes = []; lines = [] }) (record { nodes = nodes; lines = line ∷ earlier }))
    (append_assoc (map recorded.Node nodes) (numbered earlier) (recorded.Event (length earlier) line ∷ []))
    (push (transcript_of nodes earlier) (recorded.Event (length earlier) line) _ (record { nodes = nodes; lines = earlier }) _
    (transcript_follows nodes earlier network) (refl, network, refl))

taken : (number : ℕ) (lines : List (List ℕ)) (entries : List TranscriptLine) (state later : Recorded) → AreRecorded number lines entries → FollowsAll entries state later
    → TakesLines check_rules number lines state later []
taken number [] [] state later are follows = (follows, refl)
taken number [] (entry ∷ entries) state later are follows = absurd are
taken number (line ∷ lines) [] state later are follows = absurd are
taken number (line ∷ lines) (entry ∷ entries) state later (fine, is, rest) (next, does, others) =
    (next, [], [], fine, (entry, is, does, refl), taken (number + 1) lines entries next later rest others, refl)

transcript_taken : (nodes : Network) (lines : Lines) (octets : List ℕ) → first_clash nodes ≡ None → AreRecorded 1 (lines_of octets) (transcript_of nodes lines)
    → TakesLines check_rules 1 (lines_of octets) nothing (record { nodes = nodes; lines = lines }) []
transcript_taken nodes lines octets network are = taken 1 (lines_of octets) (transcript_of nodes lines) _ _ are (transcript_follows nodes lines network)

-- ---- what was taken is the transcript

abbrev step : TranscriptLine → Recorded → Recorded
step (recorded.Node node) s = record { nodes = s.nodes ++ node ∷ []; lines = [] }
step (recorded.Event number line) s = record { nodes = s.nodes; lines = line ∷ s.lines }

abbrev after : List TranscriptLine → Recorded → Recorded
after [] s = s
after (entry ∷ entries) s = after entries (step entry s)

stepped : (entry : TranscriptLine) (s later : Recorded) → Follows entry s later → later ≡ step entry s
stepped (recorded.Node node) s later follows = follows.1
stepped (recorded.Event number line) s later follows = follows.2

followed : (entries : List TranscriptLine) (s later : Recorded) → FollowsAll entries s later → later ≡ after entries s
followed [] s later same = same
followed (entry ∷ entries) s later (next, does, rest) = followed entries next later rest ∙ ap (after entries) (stepped entry s next does)

after_push : (entries : List TranscriptLine) (entry : TranscriptLine) (s : Recorded) → after (entries ++ entry ∷ []) s ≡ step entry (after entries s)
after_push [] entry s = refl
after_push (first ∷ entries) entry s = after_push entries entry (step first s)

after_transcript : (nodes : Network) (lines : Lines) → after (transcript_of nodes lines) (record { nodes = []; lines = [] }) ≡ record { nodes = nodes; lines = lines }
after_transcript nodes [] =
    ap (λ (es : List TranscriptLine). after es (record { nodes = []; lines = [] })) (append-nil (map recorded.Node nodes))
    ∙ sym (followed (map recorded.Node nodes) (record { nodes = []; lines = [] }) (record { nodes = nodes; lines = [] }) (nodes_follow [] nodes))
after_transcript nodes (line ∷ earlier) =
    ap (λ (es : List TranscriptLine). after es (record { nodes = []; lines = [] }))
    (sym (append_assoc (map recorded.Node nodes) (numbered earlier) (recorded.Event (length earlier) line ∷ [])))
    ∙ after_push (transcript_of nodes earlier) (recorded.Event (length earlier) line) (record { nodes = []; lines = [] })
    ∙ ap (step (recorded.Event (length earlier) line)) (after_transcript nodes earlier)

taken_is : (number : ℕ) (lines : List (List ℕ)) (entries : List TranscriptLine) (s later : Recorded) (text : List ℕ) → AreRecorded number lines entries
    → TakesLines check_rules number lines s later text → later ≡ after entries s
taken_is number [] [] s later text are takes = takes.0
taken_is number [] (entry ∷ entries) s later text are takes = absurd are
taken_is number (line ∷ lines) [] s later text are takes = absurd are
taken_is number (line ∷ lines) (entry ∷ entries) s later text (fine, is, rest) (next, first, others, fine', (entry', is', does, none), takes, whole) =
    let same : entry' ≡ entry = cc (is, is') in
    taken_is (number + 1) lines entries next later others rest takes ∙ ap (after entries) (stepped entry' s next does ∙ ap (λ (e : TranscriptLine). step e s) same)

-- ---- its verdict

verdict_answered : (nodes : Network) (lines : Lines) (octets : List ℕ) → first_clash nodes ≡ None → AreRecorded 1 (lines_of octets) (transcript_of nodes lines)
    → ChecksAll octets (Some []) None None (verdict nodes lines)
verdict_answered nodes lines octets network are = record {
  state = record { nodes = nodes; lines = lines };
  text = [];
  taken = transcript_taken nodes lines octets network are;
  last = verdict_text (verdict nodes lines);
  ends = (network, refl, refl);
  output = tt;
  input = refl;
}

-- a verdict over what is written of a run accepts it
pub accepted_by : (premise : Premise) → IsExact premise → MissesNothing premise → EachRunIsAccepted premise
accepted_by premise exact misses nodes run text left before after answer holds ranges writes checks =
    let told = transcribed premise exact nodes run text holds ranges writes in
    let state = taken_is 1 (lines_of (nodes_text nodes ++ text)) (transcript_of nodes told.lines) _ checks.state checks.text told.recorded checks.taken
    ∙ after_transcript nodes told.lines in
    checks.ends.1 ∙ ap (λ (s : Recorded). verdict s.nodes s.lines) state ∙ misses nodes told.lines run holds told.tells

by_kind : (kind : FaultKind) → ((IsOfDevice kind → ⊥) → ⊥) → IsOfDevice kind
by_kind Read sure = tt
by_kind Write sure = tt
by_kind Memory sure = tt
by_kind LineTooLong sure = sure (λ device. device)
by_kind TooManyLines sure = sure (λ device. device)
by_kind Json sure = sure (λ device. device)
by_kind Field sure = sure (λ device. device)
by_kind (World why) sure = sure (λ device. device)

-- a fault over what is written of a run is of a device or of memory
pub checked_by : (premise : Premise) → IsExact premise → EachRunIsChecked premise
checked_by premise exact nodes run text left before after stop network holds ranges writes until =
    let told = transcribed premise exact nodes run text holds ranges writes in
    let octets : List ℕ = nodes_text nodes ++ text in
    by_kind stop.what (λ sure.
    let same = checks_one octets (Some []) None None left before after (Ok (verdict nodes told.lines)) (Err stop)
    (verdict_answered nodes told.lines octets network told.recorded) until tt sure in
    let ends = same.0 in
    absurd cc)
