-- What an event of a run adds to a slave's calls, and what came after an event.
-- The slave's history is read back to events of the run by it.
use Rattle.std.proofs.Common.{◌≡◌, ◌∙◌, ℕ, ◌<◌, Bool, true, false, List, [], ◌∷◌, ◌++◌, length, Option, Some, None, Ok, IsOk, refl, sym, ap, arith, if◌then◌else◌, option_map, option_and_then}
use Rattle.std.specs.Prelude.{◌==◌, ok_or, option_to_list}
use Rattle.std.proofs.lemmas.Bool.{ne_eqb, eq-eqb}
use Rattle.event_codec.specs.Packet.{Contents}
use Rattle.slave_port.specs.History as calls
use Rattle.slave_port.specs.History.{Call}
use Rattle.slave_port.proofs.Options.{some_image}
use Rattle.network_model.specs.declared.event.Event.{Event}
use Rattle.network_model.specs.declared.event.Event.TheVariants.{Arrive, Hear, Request, Stamped, Tick, SetMaster}
use Rattle.network_model.specs.declared.refusal.WorldRefusal.TheVariants.{NoNode, WrongKind}
use Rattle.network_model.specs.declared.stepped.Outcome.TheVariants.{Done}
use Rattle.network_model.specs.Network.{Network, NodeName, PortSetup, kind_of, master_port, slave_port, is_named}
use Rattle.network_model.specs.Run.{Run, Place, place, site_of, events_after}
use Rattle.network_model.specs.Kinds.{is_tick, is_set_master}
use Rattle.network_model.specs.Clock.{reading}
use Rattle.network_model.specs.Numbering.{waiting_request}
use Rattle.network_model.specs.Truth.{copy_of, master_at}
use Rattle.network_model.specs.SlaveHistory.{request_sequence, call_made, history_of}
use Rattle.network_model.specs.Outcome.{outcome_of, ◌>>=◌}
use Rattle.network_model.proofs.Options.{ok_value, ok_step, ok_some}

-- the events after one, when another one comes, and after the last one
pub events_after-later : (event : Event) (run : Run) (tag : ℕ) → tag < length run → events_after tag (event ∷ run) ≡ event ∷ events_after tag run
events_after-later event run tag below =
    let other : (length run == tag) ≡ false = ne_eqb (length run) tag (λ (e : length run ≡ tag). omega arith) in
    ap {B = Run} (λ (same : Bool). if same then [] else event ∷ events_after tag run) other

pub events_after-last : (event : Event) (earlier : Run) → events_after (length earlier) (event ∷ earlier) ≡ []
events_after-last event earlier =
    ap {B = Run} (λ (same : Bool). if same then [] else event ∷ events_after (length earlier) earlier) (eq-eqb (length earlier) (length earlier) refl)

-- the history, after an event of the slave and after one of another node
pub history-here : (network : Network) (port : PortSetup) (slave : NodeName) (event : Event) (earlier : Run) (call : Option Call)
    → is_named (site_of event) slave ≡ true → call_made network port event earlier ≡ call
    → history_of network port slave (event ∷ earlier) ≡ option_to_list call ++ history_of network port slave earlier
history-here network port slave event earlier call here made =
    let before : List Call = history_of network port slave earlier in
    ap (λ (named : Bool). if named then option_to_list (call_made network port event earlier) ++ before else before) here
    ∙ ap (λ (c : Option Call). option_to_list c ++ before) made

pub history-elsewhere : (network : Network) (port : PortSetup) (slave : NodeName) (event : Event) (earlier : Run) → is_named (site_of event) slave ≡ false
    → history_of network port slave (event ∷ earlier) ≡ history_of network port slave earlier
history-elsewhere network port slave event earlier elsewhere =
    let before : List Call = history_of network port slave earlier in
    ap (λ (named : Bool). if named then option_to_list (call_made network port event earlier) ++ before else before) elsewhere

-- a tick, and a set_master
abbrev pub ticks : Call → Bool
ticks (calls.SetMaster master) = false
ticks calls.Tick = true
ticks (calls.NextRequest tag) = false
ticks (calls.RequestLeft number t3) = false
ticks (calls.Event heard t2 tag) = false
ticks (calls.General heard tag) = false

abbrev pub sets : Call → Bool
sets (calls.SetMaster master) = true
sets calls.Tick = false
sets (calls.NextRequest tag) = false
sets (calls.RequestLeft number t3) = false
sets (calls.Event heard t2 tag) = false
sets (calls.General heard tag) = false

-- Tick events make ticks, and SetMaster events set_master calls
pub call_kind : (network : Network) (port : PortSetup) (event : Event) (earlier : Run) (call : Call) → call_made network port event earlier ≡ Some call
    → (is_tick event ≡ ticks call) × (is_set_master event ≡ sets call)
call_kind network port (Arrive node copy at) earlier call made =
    let by = some_image (λ (m : Contents). calls.Event (Ok m) (reading (place (Arrive node copy at) earlier)) (length earlier)) (copy_of network earlier copy) made in
    (ap ticks by.2, ap sets by.2)
call_kind network port (Hear node copy) earlier call made =
    let by = some_image (λ (m : Contents). calls.General (Ok m) (length earlier)) (copy_of network earlier copy) made in (ap ticks by.2, ap sets by.2)
call_kind network port (Request node at) earlier call made = let same : calls.NextRequest (length earlier) ≡ call = cc in (ap ticks same, ap sets same)
call_kind network port (Stamped node) earlier call made =
    let by = some_image (λ (request : Place). calls.RequestLeft (request_sequence port request) (reading request)) (waiting_request node earlier) made in
    (ap ticks by.2, ap sets by.2)
call_kind network port (Tick node) earlier call made = let same : calls.Tick ≡ call = cc in (ap ticks same, ap sets same)
call_kind network port (SetMaster node master) earlier call made =
    let by = some_image (λ (other : PortSetup). calls.SetMaster other.config.identity) (master_at network master) made in (ap ticks by.2, ap sets by.2)
call_kind network port _ earlier call made = cc

-- the master that an accepted SetMaster event names is one
named_is_master : (network : Network) (earlier : Run) (node master : NodeName) → IsOk (outcome_of network earlier (SetMaster node master))
    → (port : PortSetup) × (master_at network master ≡ Some port)
named_is_master network earlier node master accepted =
    let outcome = ok_value (outcome_of network earlier (SetMaster node master)) accepted in
    let kind = ok_step (ok_or (kind_of network node) NoNode)
    (λ kind. ok_or (kind_of network master) NoNode >>= (λ other. ok_or (slave_port kind) WrongKind >>= (λ port. ok_or (master_port other) WrongKind >>= (λ present. Ok Done)))) outcome.1 in
    let other = ok_step (ok_or (kind_of network master) NoNode)
    (λ other. ok_or (slave_port kind.0) WrongKind >>= (λ port. ok_or (master_port other) WrongKind >>= (λ present. Ok Done))) kind.2 in
    let port = ok_step (ok_or (slave_port kind.0) WrongKind) (λ port. ok_or (master_port other.0) WrongKind >>= (λ present. Ok Done)) other.2 in
    let present = ok_step (ok_or (master_port other.0) WrongKind) (λ present. Ok Done) port.2 in
    (present.0, ap (option_and_then master_port) (ok_some (kind_of network master) NoNode other.1) ∙ ok_some (master_port other.0) WrongKind present.1)

-- an event of a slave that makes no call is no tick, and no SetMaster
pub silent : (network : Network) (port : PortSetup) (event : Event) (earlier : Run) → IsOk (outcome_of network earlier event)
    → call_made network port event earlier ≡ None → (is_tick event ≡ false) × (is_set_master event ≡ false)
silent network port (SetMaster node master) earlier accepted none =
    let told = named_is_master network earlier node master accepted in
    let made : call_made network port (SetMaster node master) earlier ≡ Some (calls.SetMaster told.0.config.identity) =
    ap (option_map (λ (other : PortSetup). calls.SetMaster other.config.identity)) told.1 in
    cc
silent network port (Tick node) earlier accepted none = cc
silent network port _ earlier accepted none = (refl, refl)

-- each call of a slave is made by an event of one kind
pub data IsCallOf (network : Network) (port : PortSetup) (event : Event) (earlier : Run) (call : Call) : Type 0 where
  Arrives : (node : NodeName) (copy at : ℕ) (m : Contents) → event ≡ Arrive node copy at → copy_of network earlier copy ≡ Some m
      → call ≡ calls.Event (Ok m) (reading (place event earlier)) (length earlier) → IsCallOf network port event earlier call
  Hears : (node : NodeName) (copy : ℕ) (m : Contents) → event ≡ Hear node copy → copy_of network earlier copy ≡ Some m
      → call ≡ calls.General (Ok m) (length earlier) → IsCallOf network port event earlier call
  Requests : (node : NodeName) (at : ℕ) → event ≡ Request node at → call ≡ calls.NextRequest (length earlier) → IsCallOf network port event earlier call
  Departs : (node : NodeName) (request : Place) → event ≡ Stamped node → waiting_request node earlier ≡ Some request
      → call ≡ calls.RequestLeft (request_sequence port request) (reading request) → IsCallOf network port event earlier call
  Ticks : (node : NodeName) → event ≡ Tick node → call ≡ calls.Tick → IsCallOf network port event earlier call
  Sets : (node master : NodeName) (other : PortSetup) → event ≡ SetMaster node master → master_at network master ≡ Some other
      → call ≡ calls.SetMaster other.config.identity → IsCallOf network port event earlier call

pub call_of : (network : Network) (port : PortSetup) (event : Event) (earlier : Run) (call : Call) → call_made network port event earlier ≡ Some call
    → IsCallOf network port event earlier call
call_of network port (Arrive node copy at) earlier call made =
    let by = some_image (λ (m : Contents). calls.Event (Ok m) (reading (place (Arrive node copy at) earlier)) (length earlier)) (copy_of network earlier copy) made in
    Arrives node copy at by.0 refl by.1 (sym by.2)
call_of network port (Hear node copy) earlier call made =
    let by = some_image (λ (m : Contents). calls.General (Ok m) (length earlier)) (copy_of network earlier copy) made in Hears node copy by.0 refl by.1 (sym by.2)
call_of network port (Request node at) earlier call made = Requests node at refl cc
call_of network port (Stamped node) earlier call made =
    let by = some_image (λ (request : Place). calls.RequestLeft (request_sequence port request) (reading request)) (waiting_request node earlier) made in
    Departs node by.0 refl by.1 (sym by.2)
call_of network port (Tick node) earlier call made = Ticks node refl cc
call_of network port (SetMaster node master) earlier call made =
    let by = some_image (λ (other : PortSetup). calls.SetMaster other.config.identity) (master_at network master) made in
    Sets node master by.0 refl by.1 (sym by.2)
call_of network port _ earlier call made = cc
