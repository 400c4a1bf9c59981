-- Which messages pair: crossed ones, numbers that wrap, and changes of master.
use Rattle.std.proofs.Common.{◌≡◌, refl, List, [], ◌∷◌, reverse, Some, Ok, Err}
use Rattle.master_port.specs.Written.{sync}
use Rattle.slave_port.specs.declared.heard.Heard.TheVariants as answers
use Rattle.slave_port.specs.declared.reason.Reason.TheVariants.{OtherMaster, UnknownRequest, EgressUnknown, NotNewer}
use Rattle.network_model.specs.declared.event.Event.{Event}
use Rattle.network_model.specs.declared.event.Event.TheVariants.{Sync, Follow, Arrive, Hear, Request, Stamped, Tick, SetMaster}
use Rattle.network_model.specs.declared.refusal.WorldRefusal.TheVariants.{NothingWaiting}
use Rattle.network_model.specs.declared.stepped.Outcome.TheVariants.{Done, Made, Heard, Refused}
use Rattle.network_model.specs.Truth.{copy_of}
use Rattle.network_model.specs.Outcome.{outcome_of}
use Rattle.network_model.proofs.Worked.{master, slave, small_network, two_masters, m_config, a, b, m, s, at, answers_after}

-- two Follow_Ups come before their Syncs
abbrev follow_ups_first : List Event
follow_ups_first =
    SetMaster s m ∷ Sync m (at 1 0 0) ∷ Follow m ∷ Sync m (at 2 0 0) ∷ Follow m ∷ Hear s 2 ∷ Hear s 4 ∷ []

follow_ups_are_held : answers_after small_network [] follow_ups_first
    ≡ Ok Done ∷ Ok Made ∷ Ok Made ∷ Ok Made ∷ Ok Made ∷ Ok (Heard answers.Held) ∷ Ok (Heard answers.Held) ∷ []
follow_ups_are_held = refl

-- after the later Sync has completed, the earlier one isn't newer, until two ticks have passed; a repeat completes again
older_sync_is_ignored : answers_after small_network (reverse follow_ups_first)
    (Arrive s 3 (at 2 100 0) ∷ Arrive s 1 (at 2 200 0) ∷ Arrive s 3 (at 2 300 0) ∷ Tick s ∷ Tick s ∷ Arrive s 1 (at 2 400 0) ∷ Hear s 2 ∷ [])
    ≡ Ok (Heard answers.Completed) ∷ Ok (Heard (answers.Ignored NotNewer)) ∷ Ok (Heard answers.Completed) ∷ Ok Done ∷ Ok Done
    ∷ Ok (Heard answers.Held) ∷ Ok (Heard answers.Completed) ∷ []
older_sync_is_ignored = refl

syncs_in_order_complete : answers_after small_network (reverse follow_ups_first) (Arrive s 1 (at 2 100 0) ∷ Arrive s 3 (at 2 200 0) ∷ [])
    ≡ Ok (Heard answers.Completed) ∷ Ok (Heard answers.Completed) ∷ []
syncs_in_order_complete = refl

-- the last number and the first one
abbrev wrapping : List Event
wrapping =
    SetMaster s a ∷ Sync a (at 1 0 0) ∷ Follow a ∷ Sync a (at 2 0 0) ∷ Follow a ∷ Arrive s 1 (at 1 100 0) ∷ Arrive s 3 (at 2 100 0) ∷ []

pairs_where_numbers_wrap : answers_after (two_masters 65535) (reverse wrapping) (Hear s 2 ∷ Hear s 4 ∷ [])
    ≡ Ok (Heard answers.Completed) ∷ Ok (Heard answers.Completed) ∷ []
pairs_where_numbers_wrap = refl

older_follow_up_is_ignored : answers_after (two_masters 65535) (reverse wrapping) (Hear s 4 ∷ Hear s 2 ∷ [])
    ≡ Ok (Heard answers.Completed) ∷ Ok (Heard (answers.Ignored NotNewer)) ∷ []
older_follow_up_is_ignored = refl

last_number : copy_of (two_masters 65535) (reverse wrapping) 1 ≡ Some (sync m_config 65535)
last_number = refl

first_number_again : copy_of (two_masters 65535) (reverse wrapping) 3 ≡ Some (sync m_config 0)
first_number_again = refl

-- what came before a change of master is gone, where the first master is back too
syncs_go_with_their_master : answers_after (two_masters 3) []
    (SetMaster s a ∷ Sync a (at 1 0 0) ∷ Follow a ∷ Arrive s 1 (at 1 100 0) ∷ SetMaster s b ∷ Hear s 2 ∷ SetMaster s a ∷ Hear s 2 ∷ [])
    ≡ Ok Done ∷ Ok Made ∷ Ok Made ∷ Ok (Heard answers.Held) ∷ Ok Done ∷ Ok (Heard (answers.Ignored OtherMaster)) ∷ Ok Done
    ∷ Ok (Heard answers.Held) ∷ []
syncs_go_with_their_master = refl

requests_go_with_their_master : answers_after (two_masters 0) []
    (SetMaster s a ∷ Request s (at 1 0 0) ∷ Stamped s ∷ Arrive a 1 (at 1 100 0) ∷ SetMaster s b ∷ Hear s 3 ∷ SetMaster s a ∷ Hear s 3 ∷ [])
    ≡ Ok Done ∷ Ok Made ∷ Ok Done ∷ Ok Made ∷ Ok Done ∷ Ok (Heard (answers.Ignored OtherMaster)) ∷ Ok Done
    ∷ Ok (Heard (answers.Ignored UnknownRequest)) ∷ []
requests_go_with_their_master = refl

-- a response that comes before it is known when its request left
abbrev early_response : List Event
early_response = SetMaster s m ∷ Request s (at 1 0 0) ∷ Arrive m 1 (at 1 100 0) ∷ Hear s 2 ∷ Stamped s ∷ []

early_response_is_ignored : answers_after small_network [] early_response
    ≡ Ok Done ∷ Ok Made ∷ Ok Made ∷ Ok (Heard (answers.Ignored EgressUnknown)) ∷ Ok Done ∷ []
early_response_is_ignored = refl

nothing_waits_twice : outcome_of small_network (reverse early_response) (Stamped s) ≡ Err NothingWaiting
nothing_waits_twice = refl

-- a request waits over a change of master, after which the slave doesn't hold it
late_response_completes : answers_after small_network (reverse early_response) (Hear s 2 ∷ Request s (at 2 0 0) ∷ SetMaster s m ∷ Stamped s ∷ [])
    ≡ Ok (Heard answers.Completed) ∷ Ok Made ∷ Ok Done ∷ Ok (Refused 511) ∷ []
late_response_completes = refl

-- in no network, since its two masters have one identity: the Follow_Up of one completes the Sync of the other
shared_identity_pairs_wrongly : answers_after (master a m_config 0 ∷ master b m_config 0 ∷ slave ∷ []) []
    (SetMaster s a ∷ Sync a (at 1 0 0) ∷ Sync b (at 5 0 0) ∷ Follow a ∷ Arrive s 2 (at 5 100 0) ∷ Hear s 3 ∷ [])
    ≡ Ok Done ∷ Ok Made ∷ Ok Made ∷ Ok Made ∷ Ok (Heard answers.Held) ∷ Ok (Heard answers.Completed) ∷ []
shared_identity_pairs_wrongly = refl
