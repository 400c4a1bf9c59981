-- Why an event of a schedule doesn't happen, and the fault of its line.
use Rattle.std.proofs.Common.{◌≡◌, ◌⊎◌, inl, inr, refl, Some, None}
use Rattle.network_model.specs.declared.event.Event.{Event}
use Rattle.network_model.specs.declared.refusal.WorldRefusal.{WorldRefusal}
use Rattle.network_model.specs.declared.refusal.WorldRefusal.TheVariants.{SameName, SameIdentity, NoNode, WrongKind}
use Rattle.network_model.specs.declared.refusal.WorldRefusal.TheVariants.{NoCopy, NoTransit, ReadingOutOfRange}
use Rattle.network_model.specs.declared.refusal.WorldRefusal.TheVariants.{NothingWaiting, Memory}
use Rattle.network_model.specs.Network.{Network}
use Rattle.network_model.specs.Clash.{first_clash}
use Rattle.world_model.specs.State.{State, new_state, IsRefused}
use Rattle.schedule_reading.specs.Fault.{fault_of}
use Rattle.schedule_reading.specs.Schedule.{refusal_of}
use Rattle.explain_input.specs.Inner.Schedule.{Refuses}

-- where it is known by what an event is refused, it is known of the fault by which that is told
told : (why : WorldRefusal) (state : State) (event : Event) → refusal_of state.network state.run event ≡ Some why
    → Refuses (fault_of why) state event
told Memory state event is = tt
told SameName state event is = is
told SameIdentity state event is = is
told NoNode state event is = is
told WrongKind state event is = is
told NoCopy state event is = is
told NoTransit state event is = is
told ReadingOutOfRange state event is = is
told NothingWaiting state event is = is

-- an event that doesn't happen in a network
pub refused : (why : WorldRefusal) (state : State) (event : Event) → first_clash state.network ≡ None
    → IsRefused state event why → Refuses (fault_of why) state event
refused why state event network (inr (memory, could)) = rw memory tt
refused why state event network (inl is) = told why state event (rw (network, is) refl)

-- nodes that are no network
pub no_network : (why : WorldRefusal) (nodes : Network) (event : Event)
    → (why ≡ Memory) ⊎ (first_clash nodes ≡ Some why) → Refuses (fault_of why) (new_state nodes) event
no_network why nodes event (inl memory) = rw memory tt
no_network why nodes event (inr clash) = told why (new_state nodes) event (rw clash refl)
