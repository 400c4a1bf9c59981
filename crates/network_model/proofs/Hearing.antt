-- What a slave answers when it hears a message is its port's answer to the call, and a message that it used was of use.
-- By this the premises speak of each message that is held or completed.
use Rattle.std.proofs.Common.{◌≡◌, ◌∙◌, ℕ, Bool, true, false, List, ◌∷◌, length, Option, Some, None, Ok, IsOk, refl, sym, ap, subst, if◌then◌else◌, option_and_then}
use Rattle.std.specs.Prelude.{◌&&◌, is_none, ok_or, unwrap_or}
use Rattle.event_codec.specs.Packet.{Contents}
use Rattle.slave_port.specs.declared.heard.Heard.TheVariants as answers
use Rattle.slave_port.specs.History as calls
use Rattle.slave_port.specs.History.{Call, Setup}
use Rattle.slave_port.specs.Completion.{SyncCompletion, DelayCompletion}
use Rattle.slave_port.specs.Kept.{sync_completion, delay_completion, last_sync_completion, last_delay_completion}
use Rattle.slave_port.specs.Answer.{completed, used}
use Rattle.slave_port.proofs.Options.{some_step}
use Rattle.network_model.specs.declared.event.Event.TheVariants.{Arrive, Hear}
use Rattle.network_model.specs.declared.node.NodeKind.{NodeKind}
use Rattle.network_model.specs.declared.node.NodeKind.TheVariants as kinds
use Rattle.network_model.specs.declared.stepped.Outcome.{Outcome}
use Rattle.network_model.specs.declared.refusal.WorldRefusal.TheVariants.{NoNode, WrongKind, NoCopy, ReadingOutOfRange}
use Rattle.network_model.specs.Network.{Network, NodeName, PortSetup, kind_of, slave_port}
use Rattle.network_model.specs.Run.{Run, place}
use Rattle.network_model.specs.Clock.{reading, reading_of}
use Rattle.network_model.specs.Truth.{slave_at, copy_of}
use Rattle.network_model.specs.Outcome.{◌>>=◌, node_as, port_of, reads, arrived_outcome, heard, outcome_of}
use Rattle.network_model.specs.Premises.{is_of_use}
use Rattle.network_model.proofs.Options.{ok_value, ok_step, ok_some}

completed_of_use : (sync : Option SyncCompletion) (delay : Option DelayCompletion) → is_of_use (completed sync delay) ≡ true
completed_of_use None delay = refl
completed_of_use (Some sync) None = refl
completed_of_use (Some sync) (Some delay) = refl

-- what isn't ignored is of use
pub used_of_use : (setup : Setup) (earlier : List Call) (call : Call) → is_of_use (used setup earlier call) ≡ true
used_of_use setup earlier call = by (is_none (sync_completion setup earlier call) && is_none (delay_completion setup earlier call))
  where
    by : (held : Bool)
        → is_of_use (if held then answers.Held else completed (last_sync_completion setup (call ∷ earlier)) (last_delay_completion setup (call ∷ earlier))) ≡ true
    by true = refl
    by false = completed_of_use (last_sync_completion setup (call ∷ earlier)) (last_delay_completion setup (call ∷ earlier))

module _ (network : Network) (port : PortSetup) (node : NodeName) (earlier : Run) (m : Contents) where
  -- at a slave an arrival is answered by its port
  by_kind : (kind own : NodeKind) (now : ℕ) → slave_port kind ≡ Some port → port_of kind ≡ Some own
      → arrived_outcome network own node earlier now m ≡ heard network port node earlier (calls.Event (Ok m) now (length earlier))
  by_kind (kinds.Slave config first) own now slave is =
      let same : kinds.Slave config first ≡ own = cc in
      let set_up : (record { config = config; first = first.0 }) ≡ port = cc in
      ap (λ (k : NodeKind). arrived_outcome network k node earlier now m) (sym same)
      ∙ ap (λ (p : PortSetup). heard network p node earlier (calls.Event (Ok m) now (length earlier))) set_up
  by_kind (kinds.Master config first) own now slave is = cc
  by_kind kinds.Clock own now slave is = cc

  pub arrival_heard : (copy at : ℕ) → slave_at network node ≡ Some port → copy_of network earlier copy ≡ Some m → IsOk (outcome_of network earlier (Arrive node copy at))
      → outcome_of network earlier (Arrive node copy at)
      ≡ Ok (heard network port node earlier (calls.Event (Ok m) (reading (place (Arrive node copy at) earlier)) (length earlier)))
  arrival_heard copy at slave is accepted =
      let outcome = ok_value (outcome_of network earlier (Arrive node copy at)) accepted in
      let kind = ok_step (node_as port_of network node)
      (λ kind. ok_or (copy_of network earlier copy) NoCopy >>= (λ m. reads (Arrive node copy at) earlier >>= (λ now. Ok (arrived_outcome network kind node earlier now m)))) outcome.1 in
      let message = ok_step (ok_or (copy_of network earlier copy) NoCopy)
      (λ m. reads (Arrive node copy at) earlier >>= (λ now. Ok (arrived_outcome network kind.0 node earlier now m))) kind.2 in
      let now = ok_step (reads (Arrive node copy at) earlier) (λ now. Ok (arrived_outcome network kind.0 node earlier now message.0)) message.2 in
      let known = ok_step (ok_or (kind_of network node) NoNode) (λ kind. ok_or (port_of kind) WrongKind) kind.1 in
      let own = some_step slave_port (kind_of network node) slave in
      let node_is : kind_of network node ≡ Some known.0 = ok_some (kind_of network node) NoNode {x = known.0} known.1 in
      let one_kind : own.0 ≡ known.0 = cc in
      let message_is : copy_of network earlier copy ≡ Some message.0 = ok_some (copy_of network earlier copy) NoCopy {x = message.0} message.1 in
      let one_message : message.0 ≡ m = cc in
      let now_is : reading_of (place (Arrive node copy at) earlier) ≡ Some now.0 = ok_some (reading_of (place (Arrive node copy at) earlier)) ReadingOutOfRange {x = now.0} now.1 in
      let one_reading : now.0 ≡ reading (place (Arrive node copy at) earlier) = sym (ap (λ (r : Option ℕ). unwrap_or r 0) now_is) in
      outcome.1 ∙ sym now.2
      ∙ ap (λ (c : Contents). Ok (arrived_outcome network kind.0 node earlier now.0 c)) one_message
      ∙ ap (λ (o : Outcome). Ok o) (by_kind own.0 kind.0 now.0 own.2 (subst (λ (k : NodeKind). port_of k ≡ Some kind.0) (sym one_kind) (ok_some (port_of known.0) WrongKind {x = kind.0} known.2)))
      ∙ ap (λ (t2 : ℕ). Ok (heard network port node earlier (calls.Event (Ok m) t2 (length earlier)))) one_reading

  pub hearing_heard : (copy : ℕ) → slave_at network node ≡ Some port → copy_of network earlier copy ≡ Some m → IsOk (outcome_of network earlier (Hear node copy))
      → outcome_of network earlier (Hear node copy) ≡ Ok (heard network port node earlier (calls.General (Ok m) (length earlier)))
  hearing_heard copy slave is accepted =
      let outcome = ok_value (outcome_of network earlier (Hear node copy)) accepted in
      let own = ok_step (node_as slave_port network node)
      (λ port. ok_or (copy_of network earlier copy) NoCopy >>= (λ m. Ok (heard network port node earlier (calls.General (Ok m) (length earlier))))) outcome.1 in
      let message = ok_step (ok_or (copy_of network earlier copy) NoCopy) (λ m. Ok (heard network own.0 node earlier (calls.General (Ok m) (length earlier)))) own.2 in
      let known = ok_step (ok_or (kind_of network node) NoNode) (λ kind. ok_or (slave_port kind) WrongKind) own.1 in
      let port_is : slave_at network node ≡ Some own.0 =
      ap (option_and_then slave_port) (ok_some (kind_of network node) NoNode {x = known.0} known.1) ∙ ok_some (slave_port known.0) WrongKind {x = own.0} known.2 in
      let one_port : own.0 ≡ port = cc in
      let message_is : copy_of network earlier copy ≡ Some message.0 = ok_some (copy_of network earlier copy) NoCopy {x = message.0} message.1 in
      let one_message : message.0 ≡ m = cc in
      outcome.1 ∙ sym message.2
      ∙ ap (λ (p : PortSetup). Ok (heard network p node earlier (calls.General (Ok message.0) (length earlier)))) one_port
      ∙ ap (λ (c : Contents). Ok (heard network port node earlier (calls.General (Ok c) (length earlier)))) one_message
