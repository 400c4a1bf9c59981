-- What the nodes refuse, and events that can't happen.
use Rattle.std.proofs.Common.{◌≡◌, pos, negsuc, refl, List, [], ◌∷◌, map, reverse, Some, Ok, Err}
use Rattle.ptp_units.specs.Moment.{bound}
use Rattle.master_port.specs.Written.{sync}
use Rattle.network_model.specs.declared.event.Event.{Event}
use Rattle.network_model.specs.declared.event.Event.TheVariants.{Sync, Follow, Enter, Leave, Arrive, Hear, Request, SetMaster, StepClock}
use Rattle.network_model.specs.declared.refusal.WorldRefusal.TheVariants.{NoNode, WrongKind, NoCopy, NoTransit, ReadingOutOfRange, NothingWaiting}
use Rattle.network_model.specs.declared.stepped.Outcome.TheVariants.{Done, Made, Entered, Refused}
use Rattle.network_model.specs.Truth.{copy_of}
use Rattle.network_model.specs.Outcome.{outcome_of}
use Rattle.network_model.proofs.Worked.{small_network, m_config, m, s, t, at, answers_after}

-- the clock is set back while a Sync is in it, by which the Sync doesn't leave, and a second one stays for no time
abbrev clock_set_back : List Event
clock_set_back =
    Sync m (at 1 0 0) ∷ Enter t 0 (at 1 0 0) ∷ StepClock t (negsuc 65535) ∷ Leave t 1 (at 1 0 0) ∷ Enter t 0 (at 1 0 0)
    ∷ Leave t 4 (at 1 0 0) ∷ Follow m ∷ Enter t 6 (at 1 0 0) ∷ Leave t 7 (at 1 0 0) ∷ []

refused_by_a_clock : answers_after small_network [] clock_set_back
    ≡ Ok Made ∷ Ok Entered ∷ Ok Done ∷ Ok (Refused 403) ∷ Ok Entered ∷ Ok Made ∷ Ok Made ∷ Ok Entered ∷ Ok (Refused 402) ∷ []
refused_by_a_clock = refl

stays_for_no_time : copy_of small_network (reverse clock_set_back) 5 ≡ Some (sync m_config 0)
stays_for_no_time = refl

-- a message that a clock refuses has left its stay, and the tag is no copy
stay_was_left : outcome_of small_network (reverse clock_set_back) (Leave t 1 (at 1 0 0)) ≡ Err NoTransit
stay_was_left = refl

refused_departure_makes_no_copy : outcome_of small_network (reverse clock_set_back) (Arrive s 3 (at 2 0 0)) ≡ Err NoCopy
refused_departure_makes_no_copy = refl

no_copy_yet : outcome_of small_network [] (Arrive s 0 (at 0 0 0)) ≡ Err NoCopy
no_copy_yet = refl

no_stay_yet : outcome_of small_network (Sync m (at 1 0 0) ∷ []) (Leave t 0 (at 1 0 0)) ≡ Err NoTransit
no_stay_yet = refl

no_node : outcome_of small_network [] (SetMaster s (90 ∷ [])) ≡ Err NoNode
no_node = refl

-- the unknown name is told before the wrong kind
no_node_first : outcome_of small_network [] (SetMaster t (90 ∷ [])) ≡ Err NoNode
no_node_first = refl

wrong_kinds : map (outcome_of small_network []) (Sync s (at 0 0 0) ∷ Hear t 0 ∷ SetMaster s t ∷ [])
    ≡ Err WrongKind ∷ Err WrongKind ∷ Err WrongKind ∷ []
wrong_kinds = refl

no_sync_waits : outcome_of small_network [] (Follow m) ≡ Err NothingWaiting
no_sync_waits = refl

reading_below_zero : outcome_of small_network (StepClock s (negsuc 0) ∷ []) (Request s (at 0 0 0)) ≡ Err ReadingOutOfRange
reading_below_zero = refl

steps_too_far : outcome_of small_network [] (StepClock s (pos bound)) ≡ Err ReadingOutOfRange
steps_too_far = refl
