-- What `replay` writes, by the schedule that it reads.
use Rattle.std.specs.Prelude.{◌≡◌, ℕ, List, [], ◌∷◌, ◌++◌, length, take, if◌then◌else◌, is_none, Option, None, Result}
use Rattle.std.specs.Prelude.{⊤, Ok}
use Rattle.network_model.specs.declared.event.Event.{Event}
use Rattle.network_model.specs.Network.{Network}
use Rattle.network_model.specs.Run.{Run}
use Rattle.network_model.specs.Clash.{first_clash}
use Rattle.trace_model.specs.declared.line.TraceLine.{TraceLine}
use Rattle.trace_model.specs.Told.{TellsEvent}
use Rattle.schedule_lines.specs.Written.{node_data, event_data, line_text}
use Rattle.transcript_text.specs.declared.fault.Fault.{Fault}
use Rattle.schedule_reading.specs.declared.fault.TaskFault.{TaskFault}
use Rattle.schedule_reading.specs.declared.fault.TaskFault.TheVariants.{Write, World, Memory}
use Rattle.schedule_reading.specs.Schedule.{FaultsAtEnd, FaultsIn}
use Rattle.schedule_reading.specs.Entry.{entry_in}
use Rattle.text_lines.specs.declared.counted.Counted.{Counted}
use Rattle.text_lines.specs.Task.{Rules, AnswersAll}
use Rattle.world_model.specs.State.{State}
use Rattle.schedule_lines.specs.declared.reading.schedule.Line.{Line}
use Rattle.transcript_text.specs.Answer.{Says, SaysAnswer}
use Rattle.transcript_text.specs.Fault.{of_task}
use Rattle.schedule_reading.specs.Fault.{is_write}
use Rattle.text_lines.specs.Lines.{lines_limit}
use Rattle.schedule_lines.specs.declared.reading.schedule.Line.TheVariants as entries

-- the lines of the nodes
abbrev pub nodes_text : Network → List ℕ
nodes_text [] = []
nodes_text (node ∷ others) = line_text (node_data node) ++ nodes_text others

-- the line of an event after these: it tells what became of the event, with the octets of the copy that it made
pub record IsEventLine (network : Network) (earlier : Run) (event : Event) (line : List ℕ) : Type 0 where
  pub recorded : TraceLine
  pub told : TellsEvent network event earlier recorded
  pub text : line ≡ line_text (event_data (length earlier) recorded)

-- the lines of the events of a run, the oldest first
abbrev pub WritesRun : Network → Run → List ℕ → Type 0
WritesRun network [] written = written ≡ []
WritesRun network (event ∷ earlier) written =
    (others : List ℕ) × (line : List ℕ) × WritesRun network earlier others × IsEventLine network earlier event line
    × (written ≡ others ++ line)

-- what is to go out of the nodes' lines with the next event, or at the end: all, where there was no event yet
abbrev pub owed : Network → Run → List ℕ
owed nodes [] = nodes_text nodes
owed nodes (event ∷ earlier) = []

-- What goes out of the nodes' lines at this fault, where no event had happened: all of them where a network is there
-- and doesn't accept the first event, and whole lines from the first on where memory is refused.
abbrev pub NodesGoOut : TaskFault → Network → List ℕ → Type 0
NodesGoOut (World why) nodes written = written ≡ (if is_none (first_clash nodes) then nodes_text nodes else [])
NodesGoOut Write nodes written = ⊤
NodesGoOut Memory nodes written = (count : ℕ) × (written ≡ nodes_text (take count nodes))
NodesGoOut fault nodes written = written ≡ []

-- what goes out of them at this fault: nothing more where an event had happened
abbrev pub GoesOut : TaskFault → Network → Run → List ℕ → Type 0
GoesOut fault nodes [] written = NodesGoOut fault nodes written
GoesOut fault nodes (event ∷ earlier) written = written ≡ []

-- what a node or an event does, and what is written
abbrev pub Follows : Line → (state later : State) → List ℕ → Type 0
Follows (entries.Node node) state later written =
    (state.run ≡ []) × (later ≡ record { network = state.network ++ node ∷ []; run = [] }) × (written ≡ [])
Follows (entries.Event event) state later written =
    (first_clash state.network ≡ None) × (later ≡ record { network = state.network; run = event ∷ state.run })
    × (line : List ℕ) × IsEventLine state.network state.run event line
    × (written ≡ owed state.network state.run ++ line)

-- Each line is a node or an event. The nodes' lines go out with the first event, or at the end where there is none; the
-- answer is the number of events.
abbrev pub replay_rules : Rules State ℕ TaskFault
replay_rules = record {
  lines_limit = lines_limit;
  Takes = λ line state later written. (entry : Line) × (entry_in line ≡ Ok entry) × Follows entry state later written;
  Stops = λ line state fault written. FaultsIn fault state.network state.run line
      × GoesOut fault state.network state.run written;
  Ends = λ lines state events written.
      (first_clash state.network ≡ None) × (events ≡ length state.run) × (written ≡ owed state.network state.run);
  StopsAtEnd = λ state fault written. (state.run ≡ []) × FaultsAtEnd fault state.network
      × NodesGoOut fault state.network written;
  is_of_writer = is_write;
}

-- no node and no event
abbrev pub nothing : State
nothing = record { network = []; run = [] }

-- all lines of an input of these octets were replayed, and the input is at its end
abbrev pub ReplaysAll : List ℕ → (left before after : Option (List ℕ)) → ℕ → Type 0
ReplaysAll = AnswersAll replay_rules nothing

-- what an answer of `replay` over these octets says, of what is left of them and of what was written
abbrev pub Replays : List ℕ → (left before after : Option (List ℕ)) → Result ℕ Fault → Type 0
Replays = Says of_task replay_rules nothing

-- what an answer of `replay` says where the reader tells its octets, and where the writer does
abbrev pub ReplaysAnswer : {R W : Type 0} → (R → Option (List ℕ)) → (W → Option (List ℕ)) → Result ℕ Fault
    → (input input' : Counted R) (output output' : Counted W) → Type 0
ReplaysAnswer = SaysAnswer of_task replay_rules nothing
