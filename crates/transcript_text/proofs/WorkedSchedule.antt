-- Lines of a schedule and of its transcript, worked by hand.
use Rattle.std.proofs.Common.{◌≡◌, refl, [], ◌∷◌, ◌++◌, codes, Ok, Err}
use Rattle.std.specs.Str.{is_utf8, chars}
use Rattle.serde_json.proofs.OnLiterals.{serde_json_on_literals}
use Rattle.network_model.specs.declared.event.Event.TheVariants as events
use Rattle.network_model.specs.declared.node.NodeKind.TheVariants as kinds
use Rattle.schedule_lines.specs.declared.reading.schedule.Line.TheVariants as entries
use Rattle.schedule_reading.specs.declared.fault.TaskFault.TheVariants.{Json, Field}
use Rattle.schedule_reading.specs.Entry.{entry_in}
use Rattle.transcript_text.proofs.Entries.{schedule_of}
use Rattle.transcript_text.specs.Replay.{nodes_text}

-- a schedule's nodes stand first, and its events in the order in which they happen
nodes_then_events : schedule_of (record { name = codes "S"; kind = kinds.Clock } ∷ []) (events.Tick (codes "S") ∷ events.Follow (codes "S") ∷ [])
    ≡ entries.Node (record { name = codes "S"; kind = kinds.Clock }) ∷ entries.Event (events.Follow (codes "S")) ∷ entries.Event (events.Tick (codes "S")) ∷ []
nodes_then_events = refl

-- a clock
clock_line : entry_in (codes "{\"kind\":\"clock\",\"node\":\"T\"}") ≡ Ok (entries.Node (record { name = codes "T"; kind = kinds.Clock }))
unfolding serde_json_on_literals is_utf8 chars
clock_line = refl

-- an event, its keys in another order
tick_line : entry_in (codes "{\"node\":\"S\",\"ev\":\"tick\"}") ≡ Ok (entries.Event (events.Tick (codes "S")))
unfolding serde_json_on_literals is_utf8 chars
tick_line = refl

-- no node and no event
ill_formed_line : entry_in (codes "{\"ev\":\"tick\"}") ≡ Err Field
unfolding serde_json_on_literals is_utf8 chars
ill_formed_line = refl

-- no JSON
no_json_line : entry_in (codes "x") ≡ Err Json
unfolding serde_json_on_literals is_utf8 chars
no_json_line = refl

-- the line of a clock
clock_text : nodes_text (record { name = codes "T"; kind = kinds.Clock } ∷ []) ≡ codes "{\"kind\":\"clock\",\"node\":\"T\"}" ++ 10 ∷ []
unfolding serde_json_on_literals is_utf8 chars
clock_text = refl
