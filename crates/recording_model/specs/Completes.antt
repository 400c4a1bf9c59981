-- The law: what a listening port uses completes exactly where its counterpart is held, and there is a report exactly
-- where both halves stand then (IEEE 1588-2019, 11.2 and 11.3). `laws::what_is_held_completes` promises it.
use Rattle.std.specs.Prelude.{◌≡◌, is_none, ◌&&◌, if◌then◌else◌, List, ◌∷◌, Option, Some, None, Ok, option_map}
use Rattle.std.specs.Prelude.{option_and_then}
use Rattle.event_codec.specs.Packet.{Contents}
use Rattle.pairing.specs.Marked.{Entry, first_value as newest}
use Rattle.slave_port.specs.declared.heard.Report.{Report}
use Rattle.slave_port.specs.History.{Setup, Call}
use Rattle.slave_port.specs.Values.{SyncValue, FollowValue, ResponseValue}
use Rattle.slave_port.specs.Requests.{held_requests}
use Rattle.slave_port.specs.Completion.{SyncCompletion, DelayCompletion, pair, answered}
use Rattle.slave_port.specs.Kept.{usable_two_step_sync, usable_follow_up, usable_delay_resp, held_syncs, held_follows}
use Rattle.slave_port.specs.Kept.{sync_completion, delay_completion, last_sync_completion, last_delay_completion}
use Rattle.slave_port.specs.Answer.{report_of}
use Rattle.recording_model.specs.declared.watched.Watched.{Watched}
use Rattle.recording_model.specs.Recorded.{Recorded}
use Rattle.recording_model.specs.Listening.{Listening, setup_in, ready, hearing, after_all, report_at}

-- a datagram that a port hears: what it says, the port that is to hear it, and the call by which that does
pub record HeardAt (w : Watched) (earlier : List Recorded) (d : Recorded) : Type 0 where
  pub m : Contents
  pub said : d.said ≡ Ok m
  pub port : Listening
  pub ready_is : ready w d.line d.time m m.body (after_all w earlier) ≡ Some port
  pub call : Call
  pub call_is : hearing d.line d.time m m.body ≡ Some call

-- how that port is set up
abbrev pub setup_at : (w : Watched) {earlier : List Recorded} {d : Recorded} → HeardAt w earlier d → Setup
setup_at w heard = setup_in w heard.port

-- a usable two-step Sync completes with the newest Follow_Up that is held under its number, where there is one
abbrev pub EachSyncPairs : Type 0
EachSyncPairs =
    (w : Watched) (earlier : List Recorded) (d : Recorded) (heard : HeardAt w earlier d) (sync : Entry SyncValue)
    → usable_two_step_sync (setup_at w heard) heard.port.calls heard.call ≡ Some sync
    → sync_completion (setup_at w heard) heard.port.calls heard.call
    ≡ option_map (pair sync.number sync.value) (newest sync.number (held_follows (setup_at w heard) heard.port.calls))

-- a usable Follow_Up completes the newest two-step Sync that is held under its number, where there is one
abbrev pub EachFollowUpPairs : Type 0
EachFollowUpPairs =
    (w : Watched) (earlier : List Recorded) (d : Recorded) (heard : HeardAt w earlier d) (follow : Entry FollowValue)
    → usable_follow_up (setup_at w heard) heard.port.calls heard.call ≡ Some follow
    → sync_completion (setup_at w heard) heard.port.calls heard.call
    ≡ option_map (λ sync. pair follow.number sync follow.value)
    (newest follow.number (held_syncs (setup_at w heard) heard.port.calls))

-- a usable Delay_Resp completes the newest request that is held under its number, where there is one that left
abbrev pub EachDelayRespPairs : Type 0
EachDelayRespPairs =
    (w : Watched) (earlier : List Recorded) (d : Recorded) (heard : HeardAt w earlier d) (response : Entry ResponseValue)
    → usable_delay_resp (setup_at w heard) heard.port.calls heard.call ≡ Some response
    → delay_completion (setup_at w heard) heard.port.calls heard.call
    ≡ option_and_then (answered response.number response.value)
    (newest response.number (held_requests (setup_at w heard) heard.port.calls))

-- a report of these two halves, where both are there
abbrev pub report_of_both : Option SyncCompletion → Option DelayCompletion → Option Report
report_of_both sync delay = option_and_then (λ s. option_map (report_of s) delay) sync

-- at each completion there is a report, of the last completions in the window, where there is one of each kind; and at
-- nothing else
abbrev pub EachCompletionIsReported : Type 0
EachCompletionIsReported =
    (w : Watched) (earlier : List Recorded) (d : Recorded) (heard : HeardAt w earlier d)
    → report_at w earlier d
    ≡ (if is_none (sync_completion (setup_at w heard) heard.port.calls heard.call)
    && is_none (delay_completion (setup_at w heard) heard.port.calls heard.call)
    then None
    else report_of_both
    (last_sync_completion (setup_at w heard) (heard.call ∷ heard.port.calls))
    (last_delay_completion (setup_at w heard) (heard.call ∷ heard.port.calls)))

-- What is held pairs, whatever is recorded. What is held `EachExchangeIsFound` says.
pub record WhatIsHeldCompletes : Type 0 where
  pub syncs : EachSyncPairs
  pub follow_ups : EachFollowUpPairs
  pub delay_resps : EachDelayRespPairs
  pub reports : EachCompletionIsReported
