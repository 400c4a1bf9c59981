-- What one more line does to a schedule that is replayed, and what is known at a fault in it.
use Rattle.std.proofs.Common.{◌≡◌, ◌≢◌, ◌∙◌, ◌⊎◌, inl, inr, refl, sym, ap, subst, ℕ, List, [], ◌∷◌, ◌++◌, length}
use Rattle.std.proofs.Common.{take_all, le_refl, Option, None, Result, Ok, Err}
use Rattle.std.specs.Prelude.{MatchResult}
use Rattle.std.specs.Io.KnownBytes.{Appends}
use Rattle.std.proofs.KnownBytes.{Appends-nil, Appends-trans, Appends-kept}
use Rattle.network_model.specs.declared.event.Event.{Event}
use Rattle.network_model.specs.declared.node.NodeSpec.{NodeSpec}
use Rattle.network_model.specs.declared.refusal.WorldRefusal.{WorldRefusal}
use Rattle.network_model.specs.Network.{Network}
use Rattle.network_model.specs.Run.{Run}
use Rattle.network_model.specs.Clash.{first_clash}
use Rattle.world_model.specs.State.{State, new_state, after}
use Rattle.schedule_lines.specs.declared.reading.schedule.Line.TheVariants as entries
use Rattle.schedule_reading.specs.declared.fault.TaskFault.{TaskFault}
use Rattle.schedule_reading.specs.declared.fault.TaskFault.TheVariants.{Write, Json, Field, World, Memory}
use Rattle.schedule_reading.specs.declared.stage.Stage.{Stage}
use Rattle.schedule_reading.specs.declared.stage.Stage.TheVariants.{Nodes, Events}
use Rattle.schedule_reading.specs.Fault.{is_write}
use Rattle.schedule_reading.specs.Entry.{entry_in}
use Rattle.schedule_reading.specs.Schedule.{FaultsIn, FaultsAtEnd}
use Rattle.transcript_text.specs.Replay.{nodes_text, IsEventLine, owed, NodesGoOut, GoesOut, Follows, replay_rules}
use Rattle.schedule_reading.specs.Stage.{nodes_in, HasOneMore, IsStill}
use Rattle.schedule_reading.specs.Entry.{IsOwnFault}
use Rattle.transcript_text.specs.Inner.Replaying.{state_of, IsReplaying, WritesNone, StopsEvent, StopsAt}
use Rattle.text_lines.specs.Task.{WentOut}
use Rattle.transcript_text.proofs.NodeLines.{Unbegun}

-- what is said of a line that stops it
abbrev pub Stops : TaskFault → State → List ℕ → Option (List ℕ) → Option (List ℕ) → Type 0
Stops fault state line before after =
    (written : List ℕ) × (FaultsIn fault state.network state.run line × GoesOut fault state.network state.run written)
    × WentOut (is_write fault) (Appends before after written)

nothing : (fault : TaskFault) (nodes : Network) (run : Run) → NodesGoOut fault nodes [] → GoesOut fault nodes run []
nothing fault nodes [] none = none
nothing fault nodes (event ∷ earlier) none = refl

no_memory : (state : State) (line : List ℕ) (at : Option (List ℕ)) → Stops Memory state line at at
no_memory state line at = ([], (tt, nothing Memory state.network state.run (0, refl)), Appends-nil at)

ill_formed : (state : State) (line : List ℕ) (at : Option (List ℕ)) → FaultsIn Field state.network state.run line
    → Stops Field state line at at
ill_formed state line at fault = ([], (fault, nothing Field state.network state.run refl), Appends-nil at)

-- a line that couldn't be read as a node or an event
pub unread_entry : (fault : TaskFault) (state : State) (line : List ℕ) (at : Option (List ℕ))
    → (fault ≡ Memory) ⊎ IsOwnFault entry_in fault line
    → Stops fault state line at at
unread_entry fault state line at (inl memory) =
    subst (λ f. Stops f state line at at) (sym memory) (no_memory state line at)
unread_entry fault state line at (inr (inl json, is)) =
    subst (λ f. Stops f state line at at) (sym json)
    ([], (is ∙ ap Err json, nothing Json state.network state.run refl), Appends-nil at)
unread_entry fault state line at (inr (inr field, is)) =
    subst (λ f. Stops f state line at at) (sym field) (ill_formed state line at (inl (is ∙ ap Err field)))

-- a node that wasn't taken
pub untaken_node : (fault : TaskFault) (state : State) (line : List ℕ) (node : NodeSpec) (at : Option (List ℕ))
    → entry_in line ≡ Ok (entries.Node node) → (fault ≡ Memory) ⊎ ((fault ≡ Field) × (state.run ≢ []))
    → Stops fault state line at at
untaken_node fault state line node at is (inl memory) =
    subst (λ f. Stops f state line at at) (sym memory) (no_memory state line at)
untaken_node fault state line node at is (inr (field, begun)) =
    subst (λ f. Stops f state line at at) (sym field) (ill_formed state line at (inr (node, is, begun)))

-- ---- an event

-- an event before which no world could begin
pub no_world : (fault : TaskFault) (nodes : Network) (event : Event) (before after : Option (List ℕ))
    → Unbegun fault nodes before after
    → StopsAt fault (new_state nodes) (entries.Event event) before after
no_world fault nodes event before after (faults, (written, out, went)) =
    λ line is. (written, (go fault faults line is, out), went)
  where
    go : (fault : TaskFault) → FaultsAtEnd fault nodes → (line : List ℕ) → entry_in line ≡ Ok (entries.Event event)
        → FaultsIn fault nodes [] line
    go (World why) clash line is = (event, is, rw clash refl)
    go Write network line is = (event, is, network, λ begun. absurd (begun refl))
    go Memory faults line is = tt
    go Json faults line is = absurd faults
    go Field faults line is = absurd faults

-- a world that began at the first event
pub begun_world : (world : State) (stage : Stage State) (nodes : Network) (before now : Option (List ℕ))
    → state_of stage ≡ new_state nodes
    → (world ≡ new_state nodes) × (first_clash nodes ≡ None) × Appends before now (nodes_text nodes)
    → (world ≡ state_of stage) × (first_clash world.network ≡ None) × Appends before now (owed world.network world.run)
begun_world world stage nodes before now is (new, network, out) =
    (new ∙ sym is, rw new network, rw new out)

-- with an event among the lines nothing of the nodes' lines is owed
pub none_owed : (nodes : Network) (run : Run) (at : Option (List ℕ)) → run ≢ [] → Appends at at (owed nodes run)
none_owed nodes [] at begun = absurd (begun refl)
none_owed nodes (event ∷ earlier) at begun = Appends-nil at

nodes_went_out : (nodes : Network) (run : Run) → GoesOut Memory nodes run (owed nodes run)
nodes_went_out nodes [] = (length nodes, sym (ap nodes_text (take_all (length nodes) nodes (le_refl _))))
nodes_went_out nodes (event ∷ earlier) = refl

refused_after : (why : WorldRefusal) (nodes : Network) (run : Run) → first_clash nodes ≡ None
    → GoesOut (World why) nodes run (owed nodes run)
refused_after why nodes [] network = rw network refl
refused_after why nodes (event ∷ earlier) network = refl

unknown_after : (nodes : Network) (run : Run) → GoesOut Write nodes run (owed nodes run)
unknown_after nodes [] = tt
unknown_after nodes (event ∷ earlier) = refl

-- an event that didn't happen, or whose line wasn't written
pub stopped : (fault : TaskFault) (state : State) (event : Event) (before now after : Option (List ℕ))
    → first_clash state.network ≡ None
    → Appends before now (owed state.network state.run) → StopsEvent fault state event → WritesNone fault now after
    → StopsAt fault state (entries.Event event) before after
stopped (World why) state event before now after network appended stops none = λ line is. (
  owed state.network state.run,
  ((event, is, rw (network, stops) refl), refused_after why state.network state.run network),
  Appends-kept before now after _ appended none,
)
stopped Write state event before now after network appended stops none = λ line is.
    (owed state.network state.run, ((event, is, network, λ _. stops), unknown_after state.network state.run), tt)
stopped Memory state event before now after network appended stops none = λ line is. (
  owed state.network state.run,
  (tt, nodes_went_out state.network state.run),
  Appends-kept before now after _ appended none,
)
stopped Json state event before now after network appended stops none = absurd none
stopped Field state event before now after network appended stops none = absurd none

-- an event that happened, where what was owed is written
pub happened : (world later : State) (event : Event) (before now out : Option (List ℕ))
    → first_clash world.network ≡ None
    → Appends before now (owed world.network world.run) → (later ≡ after event world)
    → (text : List ℕ) × IsEventLine world.network world.run event text × Appends now out text
    → (written : List ℕ) × IsReplaying (Events later) × Follows (entries.Event event) world later written
    × Appends before out written
happened world later event before now out network appended later_is (text, is_line, more) = (
  owed world.network world.run ++ text,
  rw later_is ((λ none. absurd cc), network),
  (network, later_is, text, is_line, refl),
  Appends-trans before now out (owed world.network world.run) text appended more,
)

-- what comes of an event in a world, where what was owed is written
pub event_done : {A : Type 0} (r : Result A TaskFault) (world later : State) (event : Event)
    (before now out : Option (List ℕ))
    → first_clash world.network ≡ None → Appends before now (owed world.network world.run)
    → MatchResult r
    (λ _. (later ≡ after event world) × ((text : List ℕ) × IsEventLine world.network world.run event text
    × Appends now out text))
    (λ fault. StopsEvent fault world event × WritesNone fault now out)
    → MatchResult r
    (λ _. (written : List ℕ) × IsReplaying (Events later) × Follows (entries.Event event) world later written
    × Appends before out written)
    (λ fault. StopsAt fault world (entries.Event event) before out)
event_done (Ok x) world later event before now out network appended (later_is, line) =
    happened world later event before now out network appended later_is line
event_done (Err fault) world later event before now out network appended (stops, none) =
    stopped fault world event before now out network appended stops none

-- ---- a line

-- what comes of a line: the schedule is so far then, or it stops
abbrev pub IsTaken : {A : Type 0} → Result A TaskFault → Stage State → State → List ℕ → Option (List ℕ)
    → Option (List ℕ) → Type 0
IsTaken r later state line before after = MatchResult r
    (λ _. (x : State) × (written : List ℕ) × ((state_of later ≡ x) × IsReplaying later)
    × replay_rules.Takes line state x written
    × Appends before after written)
    (λ fault. Stops fault state line before after)

pushed : (stage later : Stage State) (node : NodeSpec) → HasOneMore node stage later
    → IsReplaying later × Follows (entries.Node node) (state_of stage) (state_of later) []
pushed (Nodes nodes) (Nodes others) node (so_far, was, is) =
    let same : nodes.items ≡ so_far = cc in
    let more : others.items ≡ so_far ++ node ∷ [] = cc in
    (tt, (refl, ap new_state (more ∙ ap (λ (l : Network). l ++ node ∷ []) (sym same)), refl))
pushed (Nodes nodes) (Events world) node (so_far, was, is) = absurd cc
pushed (Events world) later node (so_far, was, is) = absurd cc

after_event : (stage : Stage State) → IsReplaying stage → nodes_in stage ≡ None → (state_of stage).run ≢ []
after_event (Nodes nodes) stands none = absurd cc
after_event (Events world) stands none = stands.0

pub node_taken : {A : Type 0} (r : Result A TaskFault) (stage later : Stage State) (state : State) (line : List ℕ)
    (node : NodeSpec) (at : Option (List ℕ))
    → entry_in line ≡ Ok (entries.Node node) → (state_of stage ≡ state) × IsReplaying stage
    → MatchResult r (λ _. HasOneMore node stage later)
    (λ fault. IsStill stage later × ((fault ≡ Memory) ⊎ ((fault ≡ Field) × (nodes_in stage ≡ None))))
    → IsTaken r later state line at at
node_taken (Ok x) stage later state line node at is (same, stands) more =
    let (begun, follows) = pushed stage later node more in
    (state_of later, [], (refl, begun), (entries.Node node, is, rw same at follows), Appends-nil at)
node_taken (Err fault) stage later state line node at is (same, stands) (still, inl memory) =
    untaken_node fault state line node at is (inl memory)
node_taken (Err fault) stage later state line node at is (same, stands) (still, inr (field, none)) =
    untaken_node fault state line node at is (inr (field, rw same at (after_event stage stands none)))

pub event_taken : {A : Type 0} (r : Result A TaskFault) (stage later : Stage State) (state : State) (line : List ℕ)
    (event : Event)
    (before after : Option (List ℕ)) → entry_in line ≡ Ok (entries.Event event) → state_of stage ≡ state
    → MatchResult r
    (λ _. (written : List ℕ) × IsReplaying later × Follows (entries.Event event) (state_of stage)
    (state_of later) written × Appends before after written)
    (λ fault. StopsAt fault (state_of stage) (entries.Event event) before after)
    → IsTaken r later state line before after
event_taken (Ok x) stage later state line event before after is same (written, begun, follows, appended) =
    (state_of later, written, (refl, begun), (entries.Event event, is, rw same at follows), appended)
event_taken (Err fault) stage later state line event before after is same stops = rw same at (stops line is)
