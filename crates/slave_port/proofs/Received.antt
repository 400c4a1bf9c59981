-- What a message does to a port that stands for a history, whatever it brings.
use Rattle.std.proofs.Common.{◌≡◌, ◌∙◌, ℕ, sym, ap, refl, List, ◌∷◌, ◌&&◌, ◌++◌, is_none, if◌then◌else◌, option_to_list, Option, Some, None, option_map, option_and_then}
use Rattle.event_codec.specs.Reading.{Reading}
use Rattle.pairing.specs.Marked.{Entry, Marked, push, first_value as newest}
use Rattle.pairing.specs.Latest.{HoldsLatest}
use Rattle.pairing.proofs.Laws.{HoldsLatest-push}
use Rattle.slave_port.specs.declared.heard.Heard.{Heard}
use Rattle.slave_port.specs.declared.heard.Heard.TheVariants as answers
use Rattle.slave_port.specs.declared.reason.Reason.{Reason}
use Rattle.slave_port.specs.declared.used.Used.{Used}
use Rattle.slave_port.specs.History.{Setup, Call, Event, General}
use Rattle.slave_port.specs.Window.{with_brought}
use Rattle.slave_port.specs.Used.{part, two_step_sync, follow_up, delay_resp}
use Rattle.slave_port.specs.Requests.{held_requests}
use Rattle.slave_port.specs.Completion.{SyncCompletion, DelayCompletion, answered}
use Rattle.slave_port.specs.Kept.{kept, criteria, completion_in, usable, sync_completion, delay_completion, delay_completions, last_sync_completion, last_delay_completion}
use Rattle.slave_port.specs.Answer.{request_reason, completed, used as used_answer, ignored, unless_ignored, answer}
use Rattle.slave_port.specs.StandsFor.{Port, HoldsWindow, StandsFor, last_of}
use Rattle.slave_port.specs.Inner.Changes.{criteria_of, renewed, and_completed}
use Rattle.slave_port.proofs.Completions.{last_of-brought, part-last_of, completion-last_of}

-- the table with what a call brings
abbrev pub pushed : {V : Type 0} → ℕ → Option (Entry V) → Marked V → Marked V
pushed capacity None table = table
pushed capacity (Some e) table = push capacity e table

HoldsLatest-pushed : {V : Type 0} {capacity : ℕ} {since before : List (Entry V)} {table : Marked V} (brings : Option (Entry V))
    → HoldsLatest capacity since before table → HoldsLatest capacity (option_to_list brings ++ since) before (pushed capacity brings table)
HoldsLatest-pushed None held = held
HoldsLatest-pushed (Some e) held = HoldsLatest-push refl held

-- a port with what is used and what it completes
abbrev with_all : Option (Entry Used) → Option SyncCompletion → Option DelayCompletion → Port → Port
with_all used paired delayed port = record port {
  syncs = pushed port.capacities.syncs (option_and_then (part two_step_sync) used) port.syncs;
  follows = pushed port.capacities.follows (option_and_then (part follow_up) used) port.follows;
  last_sync = renewed paired port.last_sync;
  last_delay = renewed delayed port.last_delay;
}

-- and the answer
abbrev pub received : Option (Entry Used) → Option SyncCompletion → Option DelayCompletion → Port → Port × Heard
received used paired delayed port =
    let after = with_all used paired delayed port in
    (after, if is_none paired && is_none delayed then answers.Held else (and_completed after).1)

-- a port after a call, and what it answered, are what the history says
pub record IsAnswered (setup : Setup) (history : List Call) (call : Call) (outcome : Port × Heard) : Type 0 where
  pub stands : StandsFor setup outcome.0 (call ∷ history)
  pub answer : outcome.1 ≡ answer setup history call

-- the request that is completed by what is used
abbrev delayed_by : Setup → List Call → Option (Entry Used) → Option DelayCompletion
delayed_by setup history used = option_and_then
    (λ response. option_and_then (answered response.number response.value) (newest response.number (held_requests setup history)))
    (option_and_then (part delay_resp) used)

-- why what is used completes no request
abbrev pub unanswerable_by : Setup → List Call → Option (Entry Used) → Option Reason
unanswerable_by setup history used = option_and_then
    (λ response. request_reason (newest response.number (held_requests setup history)))
    (option_and_then (part delay_resp) used)

-- a port with what is used after a history, and the answer
abbrev pub received_of : Setup → List Call → Port → Option (Entry Used) → Port × Heard
received_of setup history port used =
    received used (completion_in setup.capacities (kept setup history) used) (delayed_by setup history used) port

module _ (setup : Setup) (history : List Call) (port : Port) (stands : StandsFor setup port history) where
  -- a port judges by what the history says
  pub same_criteria : criteria_of port ≡ criteria setup history
  same_criteria =
      let completions = (kept setup history).completions in
      let number : SyncCompletion → ℕ = λ completion. completion.number in
      let last : option_map (λ last. last.completion.number) port.last_sync ≡ (criteria setup history).last =
      ap (option_map (λ last. last.completion.number)) stands.last_sync ∙ part-last_of number completions.since completions.before in
      λ i. record { config = stands.config i; master = stands.master i; last = last i }

  syncs-with : (used : Option (Entry Used))
      → HoldsWindow setup.capacities.syncs (with_brought (option_and_then (part two_step_sync) used) (kept setup history).syncs) (received_of setup history port used).0.syncs
  syncs-with used = rw stands.capacities (HoldsLatest-pushed (option_and_then (part two_step_sync) used) stands.syncs)

  follows-with : (used : Option (Entry Used))
      → HoldsWindow setup.capacities.follows (with_brought (option_and_then (part follow_up) used) (kept setup history).follows) (received_of setup history port used).0.follows
  follows-with used = rw stands.capacities (HoldsLatest-pushed (option_and_then (part follow_up) used) stands.follows)

  last_sync-with : (paired : Option SyncCompletion) → let completions = (kept setup history).completions in
      renewed paired port.last_sync ≡ last_of (option_to_list paired ++ completions.since) completions.before
  last_sync-with paired =
      let completions = (kept setup history).completions in
      ap (renewed paired) stands.last_sync ∙ last_of-brought paired completions.since completions.before

  last_delay-with : (delayed : Option DelayCompletion) → let completions = delay_completions setup history in
      renewed delayed port.last_delay ≡ last_of (option_to_list delayed ++ completions.since) completions.before
  last_delay-with delayed =
      let completions = delay_completions setup history in
      ap (renewed delayed) stands.last_delay ∙ last_of-brought delayed completions.since completions.before

  pub stands-event : (heard : Reading) (t2 tag : ℕ) → let call = Event heard t2 tag in
      StandsFor setup (received_of setup history port (usable setup history call)).0 (call ∷ history)
  stands-event heard t2 tag =
      let call = Event heard t2 tag in
      record {
        config = stands.config;
        capacities = stands.capacities;
        next = stands.next;
        master = stands.master;
        syncs = syncs-with (usable setup history call);
        follows = follows-with (usable setup history call);
        requests = stands.requests;
        last_sync = last_sync-with (sync_completion setup history call);
        last_delay = last_delay-with (delay_completion setup history call);
      }

  pub stands-general : (heard : Reading) (tag : ℕ) → let call = General heard tag in
      StandsFor setup (received_of setup history port (usable setup history call)).0 (call ∷ history)
  stands-general heard tag =
      let call = General heard tag in
      record {
        config = stands.config;
        capacities = stands.capacities;
        next = stands.next;
        master = stands.master;
        syncs = syncs-with (usable setup history call);
        follows = follows-with (usable setup history call);
        requests = stands.requests;
        last_sync = last_sync-with (sync_completion setup history call);
        last_delay = last_delay-with (delay_completion setup history call);
      }

  answered-received : (call : Call) → StandsFor setup (received_of setup history port (usable setup history call)).0 (call ∷ history)
      → (received_of setup history port (usable setup history call)).1 ≡ used_answer setup history call
  answered-received call after =
      let port' = (received_of setup history port (usable setup history call)).0 in
      let paired : option_map (λ l. l.completion) port'.last_sync ≡ last_sync_completion setup (call ∷ history) =
      ap (option_map (λ l. l.completion)) after.last_sync
      ∙ completion-last_of (kept setup (call ∷ history)).completions.since (kept setup (call ∷ history)).completions.before in
      let delayed : option_map (λ l. l.completion) port'.last_delay ≡ last_delay_completion setup (call ∷ history) =
      ap (option_map (λ l. l.completion)) after.last_delay
      ∙ completion-last_of (delay_completions setup (call ∷ history)).since (delay_completions setup (call ∷ history)).before in
      let none = is_none (sync_completion setup history call) && is_none (delay_completion setup history call) in
      λ i. if none then answers.Held else completed (paired i) (delayed i)

  -- what isn't ignored
  pub IsAnswered-used : (call : Call) → StandsFor setup (received_of setup history port (usable setup history call)).0 (call ∷ history)
      → ignored setup history call ≡ None → IsAnswered setup history call (received_of setup history port (usable setup history call))
  IsAnswered-used call after none = record {
    stands = after;
    answer = answered-received call after ∙ ap (λ r. unless_ignored r (used_answer setup history call)) (sym none);
  }

  -- what is ignored changes nothing
  pub IsAnswered-ignored : (call : Call) (reason : Reason) → StandsFor setup port (call ∷ history)
      → ignored setup history call ≡ Some reason → IsAnswered setup history call (port, answers.Ignored reason)
  IsAnswered-ignored call reason after why = record {
    stands = after;
    answer = ap (λ r. unless_ignored r (used_answer setup history call)) (sym why);
  }
