-- Worked exchanges right behind a line that tells that the slave or the master began anew: each is found.
use Rattle.std.proofs.Common.{◌≡◌, ℕ, pos, List, [], ◌∷◌, Some, refl, arith, rules, inl, inr}
use Rattle.std.proofs.lemmas.List.Elements.{All-nil, All-cons}
use Rattle.ptp_units.specs.Moment.{stamp}
use Rattle.master_port.specs.Written.{sync, follow_up}
use Rattle.slave_port.specs.Written.{delay_req}
use Rattle.slave_port.specs.Completion.{SyncCompletion, DelayCompletion}
use Rattle.network_model.proofs.Worked.{m_config, s_config, at}
use Rattle.recording_model.specs.Recorded.{Recorded}
use Rattle.recording_model.specs.Listening.{report_at}
use Rattle.recording_model.specs.Finds.{completion_of, answer_of}
use Rattle.recording_model.specs.Finds.{ComesTwoStep, ComesDelay, SyncFirst}
use Rattle.recording_model.specs.Apart.{IsToldApart}
use Rattle.recording_model.proofs.Finds.{each_exchange}
use Rattle.recording_model.proofs.WorkedFinds.{watched, line, response, none_says, two_step_comes, answer_comes, stands}

-- a two-step Sync of the master with this number, its Follow_Up, a Delay_Req of the slave, and the Delay_Resp to it
abbrev sync_at : (at_line seconds number : ℕ) → Recorded
sync_at at_line seconds number = line at_line (at seconds 4000 0) (sync m_config number)

abbrev follow_at : (at_line seconds number : ℕ) → Recorded
follow_at at_line seconds number = line at_line (at seconds 8000 0) (follow_up m_config number (at seconds 0 0))

abbrev request_at : (at_line seconds number : ℕ) → Recorded
request_at at_line seconds number = line at_line (at seconds 1000 0) (delay_req s_config number)

abbrev response_at : (at_line number : ℕ) → Recorded
response_at at_line number = line at_line 0 (response number)

-- the slave: its Delay_Req 1000 in line 2 is far ahead of 9; it belongs to the exchange
abbrev slave_lines : List Recorded
slave_lines = follow_at 4 2 5 ∷ sync_at 3 2 5 ∷ request_at 2 2 1000 ∷ request_at 1 1 9 ∷ []

abbrev slave_pair : SyncCompletion
slave_pair = completion_of (sync_at 3 2 5) (follow_at 4 2 5) (sync m_config 5) (follow_up m_config 5 (at 2 0 0)) (stamp 2 0)

abbrev slave_answered : DelayCompletion
slave_answered = answer_of (request_at 2 2 1000) (response_at 5 1000) (delay_req s_config 1000) (response 1000) (stamp 2 4500)

slave_sync : ComesTwoStep watched 2 (sync_at 3 2 5 ∷ request_at 2 2 1000 ∷ request_at 1 1 9 ∷ []) (follow_at 4 2 5) slave_pair
slave_sync =
    two_step_comes watched 2 (sync_at 3 2 5) (follow_at 4 2 5) (sync m_config 5) (follow_up m_config 5 (at 2 0 0)) (stamp 2 0)
    (sync_at 3 2 5) (follow_at 4 2 5) [] (request_at 2 2 1000 ∷ request_at 1 1 9 ∷ []) (search rules) (search (rules, SyncFirst))
    (inl (λ flag. search (rules, none_says), search (rules, none_says), refl, refl)) tt (omega arith)

slave_delay : ComesDelay watched 2 slave_lines (response_at 5 1000) slave_answered
slave_delay =
    search (
      rules,
      none_says,
      answer_comes watched 2 (request_at 2 2 1000) (response_at 5 1000) (delay_req s_config 1000) (response 1000)
          (stamp 2 4500) (follow_at 4 2 5 ∷ sync_at 3 2 5 ∷ []) (request_at 1 1 9 ∷ []),
    )

slave_is_found : report_at watched slave_lines (response_at 5 1000)
    ≡ Some (record {
      offset2 = pos 32768000;
      path2 = pos 491520000;
      sync_tag = 3;
      follow_tag = Some 4;
      request_tag = 2;
      response_tag = 5;
    })
slave_is_found =
    each_exchange watched slave_lines (response_at 5 1000) slave_pair slave_answered (search rules)
    (inr (stands [] (follow_at 4 2 5) (sync_at 3 2 5 ∷ request_at 2 2 1000 ∷ request_at 1 1 9 ∷ []) (inl slave_sync) tt (search rules), slave_delay))

-- the master: its Sync 5 again in line 3, two seconds later; the port uses it
abbrev again_lines : List Recorded
again_lines = request_at 5 2 9 ∷ follow_at 4 3 5 ∷ sync_at 3 3 5 ∷ follow_at 2 1 5 ∷ sync_at 1 1 5 ∷ []

abbrev again_pair : SyncCompletion
again_pair = completion_of (sync_at 3 3 5) (follow_at 4 3 5) (sync m_config 5) (follow_up m_config 5 (at 3 0 0)) (stamp 3 0)

abbrev again_answered : DelayCompletion
again_answered = answer_of (request_at 5 2 9) (response_at 6 9) (delay_req s_config 9) (response 9) (stamp 2 4500)

again_sync : ComesTwoStep watched 3 (sync_at 3 3 5 ∷ follow_at 2 1 5 ∷ sync_at 1 1 5 ∷ []) (follow_at 4 3 5) again_pair
again_sync =
    two_step_comes watched 3 (sync_at 3 3 5) (follow_at 4 3 5) (sync m_config 5) (follow_up m_config 5 (at 3 0 0)) (stamp 3 0)
    (sync_at 3 3 5) (follow_at 4 3 5) [] (follow_at 2 1 5 ∷ sync_at 1 1 5 ∷ []) (search rules) (search (rules, SyncFirst))
    (inr (refl, refl)) tt (omega arith)

again_delay : ComesDelay watched 3 again_lines (response_at 6 9) again_answered
again_delay =
    search (
      rules,
      none_says,
      answer_comes watched 3 (request_at 5 2 9) (response_at 6 9) (delay_req s_config 9) (response 9) (stamp 2 4500)
          [] (follow_at 4 3 5 ∷ sync_at 3 3 5 ∷ follow_at 2 1 5 ∷ sync_at 1 1 5 ∷ []),
    )

again_is_found : report_at watched again_lines (response_at 6 9)
    ≡ Some (record {
      offset2 = pos 32768000;
      path2 = pos 491520000;
      sync_tag = 3;
      follow_tag = Some 4;
      request_tag = 5;
      response_tag = 6;
    })
again_is_found =
    each_exchange watched again_lines (response_at 6 9) again_pair again_answered (search rules)
    (inr (
      stands (request_at 5 2 9 ∷ []) (follow_at 4 3 5) (sync_at 3 3 5 ∷ follow_at 2 1 5 ∷ sync_at 1 1 5 ∷ []) (inl again_sync)
          (inr refl, tt) (search rules),
      again_delay,
    ))

-- the master: after its Sync 100 one that is behind by a second, in line 3
abbrev lower_lines : List Recorded
lower_lines = request_at 5 2 9 ∷ follow_at 4 2 40 ∷ sync_at 3 2 40 ∷ follow_at 2 1 100 ∷ sync_at 1 1 100 ∷ []

abbrev lower_pair : SyncCompletion
lower_pair = completion_of (sync_at 3 2 40) (follow_at 4 2 40) (sync m_config 40) (follow_up m_config 40 (at 2 0 0)) (stamp 2 0)

abbrev lower_answered : DelayCompletion
lower_answered = answer_of (request_at 5 2 9) (response_at 6 9) (delay_req s_config 9) (response 9) (stamp 2 4500)

lower_sync : ComesTwoStep watched 3 (sync_at 3 2 40 ∷ follow_at 2 1 100 ∷ sync_at 1 1 100 ∷ []) (follow_at 4 2 40) lower_pair
lower_sync =
    two_step_comes watched 3 (sync_at 3 2 40) (follow_at 4 2 40) (sync m_config 40) (follow_up m_config 40 (at 2 0 0)) (stamp 2 0)
    (sync_at 3 2 40) (follow_at 4 2 40) [] (follow_at 2 1 100 ∷ sync_at 1 1 100 ∷ []) (search rules)
    (search (rules, SyncFirst)) (inr (refl, refl)) tt (omega arith)

lower_delay : ComesDelay watched 3 lower_lines (response_at 6 9) lower_answered
lower_delay =
    search (
      rules,
      none_says,
      answer_comes watched 3 (request_at 5 2 9) (response_at 6 9) (delay_req s_config 9) (response 9) (stamp 2 4500)
          [] (follow_at 4 2 40 ∷ sync_at 3 2 40 ∷ follow_at 2 1 100 ∷ sync_at 1 1 100 ∷ []),
    )

-- it is told apart from the life before
lower_is_apart : IsToldApart watched (follow_at 2 1 100 ∷ sync_at 1 1 100 ∷ []) (sync_at 3 2 40) (sync m_config 40)
lower_is_apart = record {
  said = refl;
  sync_is = refl;
  not_ahead = refl;
  apart = search (rules, All-cons, All-nil);
}

lower_is_found : report_at watched lower_lines (response_at 6 9)
    ≡ Some (record {
      offset2 = pos 32768000;
      path2 = pos 491520000;
      sync_tag = 3;
      follow_tag = Some 4;
      request_tag = 5;
      response_tag = 6;
    })
lower_is_found =
    each_exchange watched lower_lines (response_at 6 9) lower_pair lower_answered (search rules)
    (inr (
      stands (request_at 5 2 9 ∷ []) (follow_at 4 2 40) (sync_at 3 2 40 ∷ follow_at 2 1 100 ∷ sync_at 1 1 100 ∷ [])
          (inl lower_sync) (inr refl, tt) (search rules),
      lower_delay,
    ))
