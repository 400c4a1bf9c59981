-- What was replayed is a schedule of nodes and of a run, and what was written of it tells the run.
use Rattle.std.proofs.Common.{◌≡◌, ◌∙◌, ℕ, ◌+◌, List, [], ◌∷◌, ◌++◌, Option, refl, sym, ap, append_assoc, append-nil, map}
use Rattle.std.specs.Prelude.{reverse}
use Rattle.std.proofs.lemmas.List.{map-append, reverse-append}
use Rattle.network_model.specs.declared.event.Event.{Event}
use Rattle.network_model.specs.declared.node.NodeSpec.{NodeSpec}
use Rattle.network_model.specs.Network.{Network}
use Rattle.network_model.specs.Run.{Run}
use Rattle.world_model.specs.State.{State}
use Rattle.schedule_lines.specs.declared.reading.schedule.Line.{Line}
use Rattle.schedule_lines.specs.declared.reading.schedule.Line.TheVariants as entries
use Rattle.text_lines.specs.Lines.{lines_of}
use Rattle.text_lines.specs.Task.{TakesLines}
use Rattle.transcript_text.proofs.Entries.{AreEntries, schedule_of}
use Rattle.transcript_text.specs.Replay.{nodes_text, WritesRun, owed, Follows, replay_rules, ReplaysAll}

-- what went out of the nodes' lines
abbrev begun : Network → Run → List ℕ
begun nodes [] = []
begun nodes (event ∷ earlier) = nodes_text nodes

-- what lines did to the schedule, the transcript and what went out
pub record HasTaken (state later : State) (number : ℕ) (lines : List (List ℕ)) (text written : List ℕ) : Type 0 where
  pub schedule : List Line
  pub are : AreEntries number lines schedule
  pub whole : schedule_of later.network later.run ≡ schedule_of state.network state.run ++ schedule
  pub text' : List ℕ
  pub transcript : WritesRun later.network later.run text'
  pub out : (begun state.network state.run ++ text) ++ written ≡ begun later.network later.run ++ text'

schedule_of-node : (nodes : Network) (node : NodeSpec) → schedule_of (nodes ++ node ∷ []) [] ≡ schedule_of nodes [] ++ entries.Node node ∷ []
schedule_of-node nodes node =
    append-nil (map entries.Node (nodes ++ node ∷ [])) ∙ map-append entries.Node nodes (node ∷ [])
    ∙ ap (λ (l : List Line). l ++ entries.Node node ∷ []) (sym (append-nil (map entries.Node nodes)))

schedule_of-event : (nodes : Network) (run : Run) (event : Event) → schedule_of nodes (event ∷ run) ≡ schedule_of nodes run ++ entries.Event event ∷ []
schedule_of-event nodes run event =
    ap (λ (l : List Event). map entries.Node nodes ++ map entries.Event l) (reverse-append (event ∷ []) run)
    ∙ ap (λ (l : List Line). map entries.Node nodes ++ l) (map-append entries.Event (reverse run) (event ∷ []))
    ∙ sym (append_assoc (map entries.Node nodes) (map entries.Event (reverse run)) (entries.Event event ∷ []))

went_out : (nodes : Network) (run : Run) (text line : List ℕ) → WritesRun nodes run text
    → (begun nodes run ++ text) ++ (owed nodes run ++ line) ≡ nodes_text nodes ++ (text ++ line)
went_out nodes [] text line none = rw none refl
went_out nodes (event ∷ earlier) text line written = append_assoc (nodes_text nodes) text line

-- one line
record HasTakenOne (state later : State) (entry : Line) (text written : List ℕ) : Type 0 where
  schedule : schedule_of later.network later.run ≡ schedule_of state.network state.run ++ entry ∷ []
  text' : List ℕ
  transcript : WritesRun later.network later.run text'
  out : (begun state.network state.run ++ text) ++ written ≡ begun later.network later.run ++ text'

took : (state later : State) (entry : Line) (text written : List ℕ) → WritesRun state.network state.run text → Follows entry state later written
    → HasTakenOne state later entry text written
took state later (entries.Node node) text written so_far (first, is, none) = record {
  schedule = rw (is, first) (schedule_of-node state.network node);
  text' = text;
  transcript = rw is (rw first at so_far);
  out = rw (is, first, none) (append-nil text);
}
took state later (entries.Event event) text written so_far (network, is, line, is_line, all) = record {
  schedule = rw is (schedule_of-event state.network state.run event);
  text' = text ++ line;
  transcript = rw is (text, line, so_far, is_line, refl);
  out = rw (is, all) (went_out state.network state.run text line so_far);
}

taken : (number : ℕ) (lines : List (List ℕ)) (state later : State) (text written : List ℕ) → WritesRun state.network state.run text
    → TakesLines replay_rules number lines state later written → HasTaken state later number lines text written
taken number [] state later text written so_far (same, none) = record {
  schedule = [];
  are = tt;
  whole = rw same (sym (append-nil _));
  text' = text;
  transcript = rw same so_far;
  out = rw (same, none) (append-nil _);
}
taken number (line ∷ lines) state later text written so_far (next, first, others, fine, (entry, is, follows), rest, whole) =
    let one = took state next entry text first so_far follows in
    let more = taken (number + 1) lines next later one.text' others one.transcript rest in record {
      schedule = entry ∷ more.schedule;
      are = (fine, is, more.are);
      whole = more.whole ∙ ap (λ (l : List Line). l ++ more.schedule) one.schedule ∙ append_assoc (schedule_of state.network state.run) (entry ∷ []) more.schedule;
      text' = more.text';
      transcript = more.transcript;
      out = rw whole (sym (append_assoc (begun state.network state.run ++ text) first others) ∙ ap (λ (t : List ℕ). t ++ others) one.out ∙ more.out);
    }

-- the schedule that was replayed, and the text of its run
pub record IsReplayed (octets : List ℕ) (nodes : Network) (run : Run) (written : List ℕ) : Type 0 where
  pub schedule : AreEntries 1 (lines_of octets) (schedule_of nodes run)
  pub text : List ℕ
  pub transcript : WritesRun nodes run text
  pub whole : written ≡ nodes_text nodes ++ text

all_out : (nodes : Network) (run : Run) (text : List ℕ) → WritesRun nodes run text → (begun nodes run ++ text) ++ owed nodes run ≡ nodes_text nodes ++ text
all_out nodes [] text none = rw none (sym (append-nil (nodes_text nodes)))
all_out nodes (event ∷ earlier) text written = append-nil (nodes_text nodes ++ text)

pub replayed : (octets : List ℕ) (left before after : Option (List ℕ)) (events : ℕ) (r : ReplaysAll octets left before after events)
    → IsReplayed octets r.state.network r.state.run (r.text ++ r.last)
replayed octets left before after events r =
    let all = taken 1 (lines_of octets) (record { network = []; run = [] }) r.state [] r.text refl r.taken in record {
      schedule = rw all.whole all.are;
      text = all.text';
      transcript = all.transcript;
      whole = (λ i. all.out i ++ r.ends.2 i) ∙ all_out r.state.network r.state.run all.text' all.transcript;
    }
