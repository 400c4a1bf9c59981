-- What a port does with a message is what the history says.
use Rattle.std.proofs.Common.{◌≡◌, ◌∙◌, ℕ, refl, sym, ap, List, ◌∷◌, subst, Option, Some, None, Result, Ok, Err, option_map, option_and_then}
use Rattle.std.specs.Option.{option_or}
use Rattle.std.specs.Result.{result_ok, result_err}
use Rattle.event_codec.specs.declared.message.Message.{Message}
use Rattle.event_codec.specs.Packet.{Contents, contents}
use Rattle.event_codec.specs.Reading.{Reading, Answers}
use Rattle.pairing.specs.Marked.{Entry, entry, push, first_value as newest, find}
use Rattle.slave_port.specs.declared.heard.Heard.{Heard}
use Rattle.slave_port.specs.declared.heard.Heard.TheVariants as answers
use Rattle.slave_port.specs.declared.reason.Reason.{Reason}
use Rattle.slave_port.specs.declared.used.Used.{Used}
use Rattle.slave_port.specs.declared.used.Used.TheVariants.{TwoStepSync, OneStepSync, FollowUp, DelayResp}
use Rattle.slave_port.specs.History.{Setup, Call, Event, General}
use Rattle.slave_port.specs.Values.{SyncValue, FollowValue, RequestValue, ResponseValue}
use Rattle.slave_port.specs.Usable.{judged, event_use, general_use}
use Rattle.slave_port.specs.Requests.{held_requests}
use Rattle.slave_port.specs.Completion.{SyncCompletion, DelayCompletion, pair, alone, answered}
use Rattle.slave_port.specs.Kept.{criteria, usable, held_syncs, held_follows}
use Rattle.slave_port.specs.Answer.{request_reason, ignored, completed}
use Rattle.slave_port.specs.StandsFor.{Last, Port, StandsFor}
use Rattle.slave_port.specs.Inner.Changes.{criteria_of, renewed, and_completed, with_sync_completion, unless, with_response_to, taken, taken_or_ignored, sync_heard, general_heard}
use Rattle.slave_port.proofs.Received.{received, received_of, unanswerable_by, IsAnswered, same_criteria, stands-event, stands-general, IsAnswered-used, IsAnswered-ignored}

module _ (port : Port) where
  -- what a two-step Sync does, by what it completes with
  synced : (number : ℕ) (sync : SyncValue) (paired : Option SyncCompletion)
      → with_sync_completion paired (record port { syncs = push port.capacities.syncs (entry number sync) port.syncs })
      ≡ received (Some (entry number (TwoStepSync sync))) paired None port
  synced number sync None = refl
  synced number sync (Some completion) = refl

  -- what a Follow_Up does, by what it completes with
  followed : (number : ℕ) (follow : FollowValue) (paired : Option SyncCompletion)
      → with_sync_completion paired (record port { follows = push port.capacities.follows (entry number follow) port.follows })
      ≡ received (Some (entry number (FollowUp follow))) paired None port
  followed number follow None = refl
  followed number follow (Some completion) = refl

  -- what a Delay_Resp does, by the request of its number
  responding : (number : ℕ) (response : ResponseValue) (request : Option RequestValue)
      → with_response_to (entry number response) request port
      ≡ unless (request_reason request)
      (received (Some (entry number (DelayResp response))) None (option_and_then (answered number response) request) port) port
  responding number response None = refl
  responding number response (Some request) = at request.t3
    where
      left_at : Option ℕ → Option RequestValue
      left_at t3 = Some (record { t3 = t3; tag = request.tag })

      at : (t3 : Option ℕ) → with_response_to (entry number response) (left_at t3) port
          ≡ unless (request_reason (left_at t3))
          (received (Some (entry number (DelayResp response))) None (option_and_then (answered number response) (left_at t3)) port) port
      at None = refl
      at (Some t3) = refl

  -- nothing changes where no request is completed
  not_responding : (number : ℕ) (response : ResponseValue) (request : Option RequestValue) (reason : Reason)
      → request_reason request ≡ Some reason
      → (received (Some (entry number (DelayResp response))) None (option_and_then (answered number response) request) port).0 ≡ port
  not_responding number response None reason why = refl
  not_responding number response (Some request) reason why = at request.t3 why
    where
      left_at : Option ℕ → Option RequestValue
      left_at t3 = Some (record { t3 = t3; tag = request.tag })

      at : (t3 : Option ℕ) → request_reason (left_at t3) ≡ Some reason
          → (received (Some (entry number (DelayResp response))) None (option_and_then (answered number response) (left_at t3)) port).0 ≡ port
      at None why = refl
      at (Some t3) why = cc

module _ (setup : Setup) (history : List Call) (port : Port) (stands : StandsFor setup port history) where
  -- what is used does what the history says
  taken-received : (number : ℕ) (used : Used)
      → taken number used port
      ≡ unless (unanswerable_by setup history (Some (entry number used)))
      (received_of setup history port (Some (entry number used))) port
  taken-received number (TwoStepSync sync) =
      ap (λ follow. with_sync_completion (option_map (pair number sync) follow) (record port { syncs = push port.capacities.syncs (entry number sync) port.syncs }))
      (ap (newest number) stands.follows.latest)
      ∙ synced port number sync (option_map (pair number sync) (newest number (held_follows setup history)))
  taken-received number (OneStepSync sync) = refl
  taken-received number (FollowUp follow) =
      let completes : SyncValue → SyncCompletion = λ sync. pair number sync follow in
      ap (λ sync. with_sync_completion (option_map completes sync) (record port { follows = push port.capacities.follows (entry number follow) port.follows }))
      (ap (newest number) stands.syncs.latest)
      ∙ followed port number follow (option_map completes (newest number (held_syncs setup history)))
  taken-received number (DelayResp response) =
      ap (λ request. with_response_to (entry number response) request port) (ap (newest number) stands.requests)
      ∙ responding port number response (newest number (held_requests setup history))

  taken-ignored : (number : ℕ) (used : Used) (reason : Reason)
      → unanswerable_by setup history (Some (entry number used)) ≡ Some reason
      → (received_of setup history port (Some (entry number used))).0 ≡ port
  taken-ignored number (TwoStepSync sync) reason why = cc
  taken-ignored number (OneStepSync sync) reason why = cc
  taken-ignored number (FollowUp follow) reason why = cc
  taken-ignored number (DelayResp response) reason why =
      not_responding port number response (newest number (held_requests setup history)) reason why

  -- what is usable, by why it is ignored all the same
  used-by : (call : Call) (used : Entry Used) → StandsFor setup (received_of setup history port (usable setup history call)).0 (call ∷ history)
      → judged (criteria setup history) call ≡ Some (Ok used)
      → (why : Option Reason) → unanswerable_by setup history (Some used) ≡ why
      → IsAnswered setup history call (unless why (received_of setup history port (Some used)) port)
  used-by call used after judgement None why =
      let is : usable setup history call ≡ Some used = ap (option_and_then result_ok) judgement in
      let none : ignored setup history call ≡ None =
      (λ i. option_or (option_and_then result_err (judgement i)) (unanswerable_by setup history (is i))) ∙ why in
      subst (λ u. IsAnswered setup history call (received_of setup history port u)) is
      (IsAnswered-used setup history port stands call after none)
  used-by call used after judgement (Some reason) why =
      let is : usable setup history call ≡ Some used = ap (option_and_then result_ok) judgement in
      let ignoring : ignored setup history call ≡ Some reason =
      (λ i. option_or (option_and_then result_err (judgement i)) (unanswerable_by setup history (is i))) ∙ why in
      let same : (received_of setup history port (usable setup history call)).0 ≡ port =
      ap (λ u. (received_of setup history port u).0) is ∙ taken-ignored used.number used.value reason why in
      IsAnswered-ignored setup history port stands call reason (subst (λ p. StandsFor setup p (call ∷ history)) same after) ignoring

  IsAnswered-judged : (call : Call) → StandsFor setup (received_of setup history port (usable setup history call)).0 (call ∷ history)
      → (judgement : Result (Entry Used) Reason) → judged (criteria setup history) call ≡ Some judgement
      → IsAnswered setup history call (taken_or_ignored judgement port)
  IsAnswered-judged call after (Ok used) is =
      subst (IsAnswered setup history call) (sym (taken-received used.number used.value))
      (used-by call used after is (unanswerable_by setup history (Some used)) refl)
  IsAnswered-judged call after (Err reason) is =
      let none : usable setup history call ≡ None = ap (option_and_then result_ok) is in
      let same : (received_of setup history port (usable setup history call)).0 ≡ port =
      ap (λ u. (received_of setup history port u).0) none in
      IsAnswered-ignored setup history port stands call reason (subst (λ p. StandsFor setup p (call ∷ history)) same after)
      (λ i. option_or (option_and_then result_err (is i)) (unanswerable_by setup history (none i)))

  IsAnswered-event : (m : Contents) (t2 tag : ℕ) → IsAnswered setup history (Event (Ok m) t2 tag) (sync_heard m t2 tag port)
  IsAnswered-event m t2 tag =
      subst (λ c. IsAnswered setup history (Event (Ok m) t2 tag) (taken_or_ignored (event_use c m.header m.body t2 tag) port))
      (sym (same_criteria setup history port stands))
      (IsAnswered-judged (Event (Ok m) t2 tag) (stands-event setup history port stands (Ok m) t2 tag)
      (event_use (criteria setup history) m.header m.body t2 tag) refl)

  IsAnswered-general : (m : Contents) (tag : ℕ) → IsAnswered setup history (General (Ok m) tag) (general_heard m tag port)
  IsAnswered-general m tag =
      subst (λ c. IsAnswered setup history (General (Ok m) tag) (taken_or_ignored (general_use c m.header m.body tag) port))
      (sym (same_criteria setup history port stands))
      (IsAnswered-judged (General (Ok m) tag) (stands-general setup history port stands (Ok m) tag)
      (general_use (criteria setup history) m.header m.body tag) refl)

  pub IsAnswered-sync : (m : Contents) (t2 tag : ℕ) (outcome : Port × Heard) → outcome ≡ sync_heard m t2 tag port
      → IsAnswered setup history (Event (Ok m) t2 tag) outcome
  IsAnswered-sync m t2 tag outcome heard = subst (IsAnswered setup history (Event (Ok m) t2 tag)) (sym heard) (IsAnswered-event m t2 tag)

  pub IsAnswered-follow_or_response : (m : Contents) (tag : ℕ) (outcome : Port × Heard) → outcome ≡ general_heard m tag port
      → IsAnswered setup history (General (Ok m) tag) outcome
  IsAnswered-follow_or_response m tag outcome heard = subst (IsAnswered setup history (General (Ok m) tag)) (sym heard) (IsAnswered-general m tag)

-- what is decoded is what the octets say
pub said_by : (message : Message) (length : ℕ) (said : Reading) → Answers (Ok (message, length)) said → Ok (contents message) ≡ said
said_by message length (Ok m) same = ap Ok same.0
said_by message length (Err refusal) same = absurd same

-- nothing changes where a message is ignored
module _ (port : Port) (reason : Reason) where
  completed-kept : (after : Port) (sync : Option (Last SyncCompletion)) (delay : Option (Last DelayCompletion))
      → completed (option_map (λ l. l.completion) sync) (option_map (λ l. l.completion) delay) ≡ answers.Ignored reason → after ≡ port
  completed-kept after None delay is = cc
  completed-kept after (Some sync) None is = cc
  completed-kept after (Some sync) (Some delay) is = cc

  paired-kept : (paired : Option SyncCompletion) (after : Port) → (with_sync_completion paired after).1 ≡ answers.Ignored reason
      → (with_sync_completion paired after).0 ≡ port
  paired-kept None after is = cc
  paired-kept (Some completion) after is = completed-kept _ (renewed (Some completion) after.last_sync) after.last_delay is

  unless-kept : (why : Option Reason) (used : Port × Heard) → (used.1 ≡ answers.Ignored reason → used.0 ≡ port)
      → (unless why used port).1 ≡ answers.Ignored reason → (unless why used port).0 ≡ port
  unless-kept None used kept is = kept is
  unless-kept (Some first) used kept is = refl

  taken-kept : (number : ℕ) (used : Used) → (taken number used port).1 ≡ answers.Ignored reason → (taken number used port).0 ≡ port
  taken-kept number (TwoStepSync sync) = paired-kept
      (option_map (pair number sync) (find number port.follows))
      (record port { syncs = push port.capacities.syncs (entry number sync) port.syncs })
  taken-kept number (OneStepSync sync) = paired-kept (Some (alone number sync)) port
  taken-kept number (FollowUp follow) = paired-kept
      (option_map (λ sync. pair number sync follow) (find number port.syncs))
      (record port { follows = push port.capacities.follows (entry number follow) port.follows })
  taken-kept number (DelayResp response) =
      let request = find number port.requests in
      let delay = renewed (option_and_then (answered number response) request) port.last_delay in
      unless-kept (request_reason request) (and_completed (record port { last_delay = delay }))
      (completed-kept (record port { last_delay = delay }) port.last_sync delay)

  judged-kept : (judgement : Result (Entry Used) Reason) → (taken_or_ignored judgement port).1 ≡ answers.Ignored reason
      → (taken_or_ignored judgement port).0 ≡ port
  judged-kept (Ok used) is = taken-kept used.number used.value is
  judged-kept (Err first) is = refl

  pub sync_heard-kept : (m : Contents) (t2 tag : ℕ) → (sync_heard m t2 tag port).1 ≡ answers.Ignored reason → (sync_heard m t2 tag port).0 ≡ port
  sync_heard-kept m t2 tag = judged-kept (event_use (criteria_of port) m.header m.body t2 tag)

  pub general_heard-kept : (m : Contents) (tag : ℕ) → (general_heard m tag port).1 ≡ answers.Ignored reason → (general_heard m tag port).0 ≡ port
  general_heard-kept m tag = judged-kept (general_use (criteria_of port) m.header m.body tag)
