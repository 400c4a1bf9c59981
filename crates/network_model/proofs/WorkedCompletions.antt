-- What completes in one exchange through a clock, in the words of the law on pairs: a message finds its partner held and
-- completes, or finds none and doesn't.
use Rattle.std.proofs.Common.{◌≡◌, ◌≤◌, pos, false, List, [], ◌∷◌, length, refl, arith, inr, Some, Ok}
use Rattle.std.specs.Prelude.{IsSome, Any}
use Rattle.ptp_units.specs.Moment.{stamp}
use Rattle.event_codec.specs.declared.message.Body.TheVariants.{DelayResp}
use Rattle.event_codec.specs.Correction.{with_correction}
use Rattle.event_codec.specs.Packet.{Contents}
use Rattle.event_codec.specs.Profile.{header_of}
use Rattle.master_port.specs.Written.{sync, follow_up}
use Rattle.pairing.specs.Marked.{entry}
use Rattle.slave_port.specs.History as calls
use Rattle.slave_port.specs.History.{Call}
use Rattle.slave_port.specs.Completion.{SyncCompletion}
use Rattle.slave_port.specs.Kept.{usable_two_step_sync, usable_follow_up, usable_delay_resp, held_syncs, held_follows}
use Rattle.slave_port.specs.Requests.{held_requests}
use Rattle.network_model.specs.declared.event.Event.TheVariants.{Sync, Arrive, Hear, Request}
use Rattle.network_model.specs.Network.{PortSetup}
use Rattle.network_model.specs.Run.{Run, Place, place, tag_of}
use Rattle.network_model.specs.Truth.{origin_heard}
use Rattle.network_model.specs.SlaveHistory.{slave_setup}
use Rattle.network_model.specs.Outcome.{outcome_of, IsRun}
use Rattle.network_model.specs.Premises.{exact_limits, IsFreshAndTicked}
use Rattle.network_model.specs.Evidence.{is_completing}
use Rattle.network_model.specs.Pairs.{HeardAt, IsOfOrigin, calls_before, Completes, sync_completed, IsPairOf, PairsSync, PairsRequest}
use Rattle.network_model.proofs.Accepted.{IsNetwork-test, IsRun-test}
use Rattle.network_model.proofs.Short.{IsFresh-short, IsTicked-short}
use Rattle.network_model.proofs.Reach.{for_slave}
use Rattle.network_model.proofs.Pairs.{no_pair_is_missed}
use Rattle.network_model.proofs.Worked.{small_network, m_config, s_config, m, s, at}
use Rattle.network_model.proofs.WorkedExchange.{after, whole}

-- the port of S, and what it was told before an event
abbrev port : PortSetup
port = record { config = s_config; first = 0 }

abbrev told_before : Place → List Call
told_before p = calls_before small_network port p

-- the Sync event that all is about
abbrev sync_event : Place
sync_event = place (Sync m (at 1 0 0)) (after 2)

-- the Sync arrives while no Follow_Up is held, and completes nothing
abbrev arriving : Place
arriving = place (Arrive s 4 (at 1 3000 0)) (after 5)

abbrev sync_heard : HeardAt small_network arriving
sync_heard = record {
  port = port;
  call = calls.Event (Ok (with_correction (sync m_config 0) (record { 0 = pos 131072000 }))) (at 1 4000 0) 5;
  slave = refl;
  made = refl;
}

sync_is_usable : IsSome (usable_two_step_sync (slave_setup port) (told_before arriving) sync_heard.call)
sync_is_usable = refl

no_follow_up_held : held_follows (slave_setup port) (told_before arriving) ≡ []
no_follow_up_held = refl

sync_waits : is_completing (outcome_of small_network arriving.earlier arriving.event) ≡ false
sync_waits = refl

-- the Follow_Up is heard while that Sync is held, and completes it
abbrev hearing : Place
hearing = place (Hear s 6) (after 7)

abbrev follow_up_heard : HeardAt small_network hearing
follow_up_heard = record { port = port; call = calls.General (Ok (follow_up m_config 0 (at 1 0 0))) 7; slave = refl; made = refl }

follow_up_is_usable : IsSome (usable_follow_up (slave_setup port) (told_before hearing) follow_up_heard.call)
follow_up_is_usable = refl

follow_up_of : origin_heard hearing ≡ Some sync_event
follow_up_of = refl

sync_held : Any (λ held. IsOfOrigin (after 7) held.value.tag sync_event) (held_syncs (slave_setup port) (told_before hearing))
sync_held = (0, entry 0 (record { t2 = at 1 4000 0; correction = pos 131072000; tag = 5 }), omega arith, refl, refl)

follow_up_completes : Completes small_network hearing
follow_up_completes = refl

abbrev completion : SyncCompletion
completion = record {
  number = 0;
  t2 = at 1 4000 0;
  origin = stamp 1 0;
  follow_correction = pos 0;
  sync_correction = pos 131072000;
  sync_tag = 5;
  follow_tag = Some 7;
}

completed : sync_completed small_network hearing follow_up_heard ≡ Some completion
completed = refl

of_one_event : IsPairOf (after 8) 7 sync_event completion
of_one_event = record { follow_tag = 7; two_step = refl; now = inr refl; sync = refl; follow = refl }

-- the Delay_Resp is heard while its request is held, and known to have left
abbrev answered : Place
answered = place (Hear s 11) (after 13)

abbrev response : Contents
response = record {
  header = header_of m_config (0 ∷ 0 ∷ []) (pos 229376000) 0 3 (pos 0);
  body = DelayResp (stamp 2 4500) s_config.identity;
  suffix = [];
}

abbrev response_heard : HeardAt small_network answered
response_heard = record { port = port; call = calls.General (Ok response) 13; slave = refl; made = refl }

response_is_usable : IsSome (usable_delay_resp (slave_setup port) (told_before answered) response_heard.call)
response_is_usable = refl

response_to : origin_heard answered ≡ Some (place (Request s (at 2 0 0)) (after 8))
response_to = refl

request_held : Any (λ request. (request.value.tag ≡ 8) × IsSome request.value.t3) (held_requests (slave_setup port) (told_before answered))
request_held = (0, entry 0 (record { t3 = Some (at 2 1000 0); tag = 8 }), omega arith, refl, (refl, refl))

response_completes : Completes small_network answered
response_completes = refl

-- the law speaks of all three
fresh_and_ticked : (run : Run) → IsRun small_network run → length run ≤ 16384 → IsFreshAndTicked exact_limits small_network run
fresh_and_ticked run accepted short = record {
  apart = IsNetwork-test small_network refl refl;
  accepted = accepted;
  fresh = IsFresh-short 32768 small_network run (omega arith);
  ticked = IsTicked-short 16384 run (omega arith);
}

sync_by_law : PairsSync small_network arriving sync_heard
    (λ origin. Any (λ follow. IsOfOrigin (after 5) follow.value.tag origin) (held_follows (slave_setup port) (told_before arriving)))
sync_by_law =
    no_pair_is_missed.syncs small_network arriving
    (for_slave exact_limits small_network s (after 6) (fresh_and_ticked (after 6) (IsRun-test small_network (after 6) refl) (omega arith)))
    sync_heard sync_is_usable

follow_up_by_law : PairsSync small_network hearing follow_up_heard
    (λ origin. Any (λ held. IsOfOrigin (after 7) held.value.tag origin) (held_syncs (slave_setup port) (told_before hearing)))
follow_up_by_law =
    no_pair_is_missed.follow_ups small_network hearing
    (for_slave exact_limits small_network s (after 8) (fresh_and_ticked (after 8) (IsRun-test small_network (after 8) refl) (omega arith)))
    follow_up_heard follow_up_is_usable

response_by_law : PairsRequest small_network answered response_heard
    (λ origin. Any (λ request. (request.value.tag ≡ tag_of origin) × IsSome request.value.t3) (held_requests (slave_setup port) (told_before answered)))
response_by_law =
    no_pair_is_missed.delay_resps small_network answered
    (for_slave exact_limits small_network s whole (fresh_and_ticked whole (IsRun-test small_network whole refl) (omega arith)))
    response_heard response_is_usable
