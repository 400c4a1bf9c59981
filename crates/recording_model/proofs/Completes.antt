-- What a port uses completes where its counterpart is held, and at each completion there is a report where both halves
-- stand.
use Rattle.std.proofs.Common.{◌≡◌, ◌∙◌, List, ◌∷◌, Option, Some, None, refl, sym, ap, subst}
use Rattle.std.proofs.Common.{is_none, Bool, true}
use Rattle.std.proofs.Common.{option_map, option_and_then, if◌then◌else◌}
use Rattle.std.specs.Prelude.{◌&&◌}
use Rattle.std.specs.Result.{result_ok}
use Rattle.event_codec.specs.Reading.{Reading}
use Rattle.pairing.specs.Marked.{Entry, first_value}
use Rattle.slave_port.specs.declared.heard.Heard.{Heard}
use Rattle.slave_port.specs.declared.heard.Heard.TheVariants as answers
use Rattle.slave_port.specs.declared.reason.Reason.{Reason}
use Rattle.slave_port.specs.History.{Call, Setup}
use Rattle.slave_port.specs.Values.{SyncValue, FollowValue, ResponseValue}
use Rattle.slave_port.specs.Requests.{held_requests}
use Rattle.slave_port.specs.Completion.{SyncCompletion, DelayCompletion, pair, answered as answered_by}
use Rattle.slave_port.specs.Kept.{usable_two_step_sync, usable_follow_up, usable_delay_resp, held_syncs, held_follows}
use Rattle.slave_port.specs.Kept.{sync_completion, delay_completion, last_sync_completion}
use Rattle.slave_port.specs.Kept.{last_delay_completion}
use Rattle.slave_port.specs.Answer.{answer, used, ignored, unless_ignored, completed}
use Rattle.slave_port.proofs.Uses.{two_step_entry, follow_entry, sync_completion_of, delay_completion_of}
use Rattle.recording_model.specs.declared.watched.Watched.{Watched}
use Rattle.recording_model.specs.Recorded.{Recorded}
use Rattle.recording_model.specs.Listening.{Listening, answer_in, answered, ready, after_all, report_in}
use Rattle.recording_model.specs.Listening.{report_at}
use Rattle.std.proofs.lemmas.Bool.{and_right}
use Rattle.recording_model.specs.Finds.{is_completion}
use Rattle.recording_model.specs.Completes.{HeardAt, setup_at, EachSyncPairs, EachFollowUpPairs, EachDelayRespPairs}
use Rattle.recording_model.specs.Completes.{report_of_both, EachCompletionIsReported, WhatIsHeldCompletes}

-- the report of an answer that both halves are there, or not
reported : (sync : Option SyncCompletion) (delay : Option DelayCompletion)
    → report_in (completed sync delay) ≡ report_of_both sync delay
reported None delay = refl
reported (Some sync) None = refl
reported (Some sync) (Some delay) = refl

-- the report that a port answers to a call
pub answered_report : (setup : Setup) (history : List Call) (call : Call)
    → report_in (answer setup history call)
    ≡ (if is_none (sync_completion setup history call) && is_none (delay_completion setup history call) then None
    else report_of_both (last_sync_completion setup (call ∷ history)) (last_delay_completion setup (call ∷ history)))
answered_report setup history call =
    by (sync_completion setup history call) refl (delay_completion setup history call) refl
  where
    sync : Option SyncCompletion
    sync = last_sync_completion setup (call ∷ history)

    delay : Option DelayCompletion
    delay = last_delay_completion setup (call ∷ history)

    used_by : (first : Option SyncCompletion) (second : Option DelayCompletion)
        → sync_completion setup history call ≡ first → delay_completion setup history call ≡ second
        → used setup history call ≡ (if is_none first && is_none second then answers.Held else completed sync delay)
    used_by first second one two = λ i. if is_none (one i) && is_none (two i) then answers.Held else completed sync delay

    unheard : (reason : Option Reason) → report_in (unless_ignored reason answers.Held) ≡ None
    unheard None = refl
    unheard (Some reason) = refl

    by : (first : Option SyncCompletion) → sync_completion setup history call ≡ first
        → (second : Option DelayCompletion) → delay_completion setup history call ≡ second
        → report_in (answer setup history call)
        ≡ (if is_none first && is_none second then None else report_of_both sync delay)
    by (Some c) one second two =
        ap report_in ((sync_completion_of setup history call c one).1 ∙ used_by (Some c) second one two)
        ∙ reported sync delay
    by None one (Some c) two =
        ap report_in ((delay_completion_of setup history call c two).used ∙ used_by None (Some c) one two)
        ∙ reported sync delay
    by None one None two =
        ap (λ (h : Heard). report_in (unless_ignored (ignored setup history call) h)) (used_by None None one two)
        ∙ unheard (ignored setup history call)

-- what a datagram reports that a port hears
pub report_is : (w : Watched) (earlier : List Recorded) (d : Recorded) (heard : HeardAt w earlier d)
    → report_at w earlier d ≡ report_in (answer (setup_at w heard) heard.port.calls heard.call)
report_is w earlier d heard =
    let l : Listening = after_all w earlier in
    ap (λ (r : Reading). option_and_then report_in
    (option_and_then (λ m. answered w d.line d.time m m.body l) (result_ok r))) heard.said
    ∙ ap (λ (call : Option Call). option_and_then report_in
    (option_and_then
    (λ call. option_map (λ l. answer_in w l call) (ready w d.line d.time heard.m heard.m.body l)) call)) heard.call_is
    ∙ ap (λ (port : Option Listening). option_and_then report_in
    (option_map (λ l. answer_in w l heard.call) port)) heard.ready_is

-- an answer to what completes something says so
completed-is : (sync : Option SyncCompletion) (delay : Option DelayCompletion)
    → is_completion (completed sync delay) ≡ true
completed-is None delay = refl
completed-is (Some sync) None = refl
completed-is (Some sync) (Some delay) = refl

pub sync-is_completion : (setup : Setup) (history : List Call) (call : Call) (c : SyncCompletion)
    → sync_completion setup history call ≡ Some c → is_completion (answer setup history call) ≡ true
sync-is_completion setup history call c is =
    let sync : Option SyncCompletion = last_sync_completion setup (call ∷ history) in
    let delay : Option DelayCompletion = last_delay_completion setup (call ∷ history) in
    ap is_completion ((sync_completion_of setup history call c is).1)
    ∙ (λ i. is_completion (if is_none (is i) && is_none (delay_completion setup history call) then answers.Held
    else completed sync delay))
    ∙ completed-is sync delay

pub delay-is_completion : (setup : Setup) (history : List Call) (call : Call) (c : DelayCompletion)
    → delay_completion setup history call ≡ Some c → is_completion (answer setup history call) ≡ true
delay-is_completion setup history call c is =
    let sync : Option SyncCompletion = last_sync_completion setup (call ∷ history) in
    let delay : Option DelayCompletion = last_delay_completion setup (call ∷ history) in
    ap is_completion (delay_completion_of setup history call c is).used
    ∙ ap (λ (b : Bool). is_completion (if b then answers.Held else completed sync delay))
    (and_right (is_none (sync_completion setup history call)) (is_none (delay_completion setup history call))
    (ap (λ (o : Option DelayCompletion). is_none o) is))
    ∙ completed-is sync delay

-- what is used completes with what is held under its number
module _ (setup : Setup) (history : List Call) (call : Call) where
  pub sync_completes : (e : Entry SyncValue) → usable_two_step_sync setup history call ≡ Some e
      → sync_completion setup history call
      ≡ option_map (pair e.number e.value) (first_value e.number (held_follows setup history))
  sync_completes e is =
      let one = two_step_entry setup history call e is in
      subst (λ (e : Entry SyncValue). sync_completion setup history call
      ≡ option_map (pair e.number e.value) (first_value e.number (held_follows setup history))) (sym one.is)
      one.completes

  pub follow_completes : (e : Entry FollowValue) → usable_follow_up setup history call ≡ Some e
      → sync_completion setup history call
      ≡ option_map (λ (sync : SyncValue). pair e.number sync e.value) (first_value e.number (held_syncs setup history))
  follow_completes e is =
      let one = follow_entry setup history call e is in
      subst (λ (e : Entry FollowValue). sync_completion setup history call
      ≡ option_map (λ (sync : SyncValue). pair e.number sync e.value) (first_value e.number (held_syncs setup history)))
      (sym one.is) one.completes

  pub response_completes : (e : Entry ResponseValue) → usable_delay_resp setup history call ≡ Some e
      → delay_completion setup history call
      ≡ option_and_then (answered_by e.number e.value) (first_value e.number (held_requests setup history))
  response_completes e is =
      ap (option_and_then (λ (response : Entry ResponseValue). option_and_then
      (answered_by response.number response.value) (first_value response.number (held_requests setup history)))) is

each_sync : EachSyncPairs
each_sync w earlier d heard sync is = sync_completes (setup_at w heard) heard.port.calls heard.call sync is

each_follow_up : EachFollowUpPairs
each_follow_up w earlier d heard follow is =
    follow_completes (setup_at w heard) heard.port.calls heard.call follow is

each_response : EachDelayRespPairs
each_response w earlier d heard response is =
    response_completes (setup_at w heard) heard.port.calls heard.call response is

each_completion : EachCompletionIsReported
each_completion w earlier d heard =
    report_is w earlier d heard ∙ answered_report (setup_at w heard) heard.port.calls heard.call

pub no_pair : WhatIsHeldCompletes
no_pair = record {
  syncs = each_sync;
  follow_ups = each_follow_up;
  delay_resps = each_response;
  reports = each_completion;
}
