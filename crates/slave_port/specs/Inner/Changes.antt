-- Inner, for the functions of the port itself: what each call does to what the port keeps. What callers are told is
-- said by the history alone.
use Rattle.std.specs.Prelude.{ℕ, true, false, if◌then◌else◌, option_map, option_and_then, Option, Some, None, Result}
use Rattle.std.specs.Prelude.{Ok, Err}
use Rattle.ptp_units.specs.Sequence.{next}
use Rattle.event_codec.specs.Packet.{Contents}
use Rattle.pairing.specs.Marked.{Entry, entry, push, find, set, tick}
use Rattle.slave_port.specs.declared.exchange.LastExchange.{LastExchange}
use Rattle.slave_port.specs.declared.heard.Heard.{Heard}
use Rattle.slave_port.specs.declared.heard.Heard.TheVariants as answers
use Rattle.slave_port.specs.declared.reason.Reason.{Reason}
use Rattle.slave_port.specs.declared.used.Used.{Used}
use Rattle.slave_port.specs.declared.used.Used.TheVariants.{TwoStepSync, OneStepSync, FollowUp, DelayResp}
use Rattle.slave_port.specs.Values.{SyncValue, FollowValue, RequestValue, ResponseValue}
use Rattle.slave_port.specs.Usable.{Criteria, event_use, general_use}
use Rattle.slave_port.specs.Completion.{SyncCompletion, pair, alone, answered}
use Rattle.slave_port.specs.Answer.{request_reason, completed}
use Rattle.slave_port.specs.Exchange.{exchanged}
use Rattle.slave_port.specs.StandsFor.{Last, Port}

-- the last completion, where another one came or none
abbrev pub renewed : {C : Type 0} → Option C → Option (Last C) → Option (Last C)
renewed None last = last
renewed (Some completion) last = Some (record { completion = completion; ticked = false })

-- what a tick leaves of the last completion
abbrev pub aged : {C : Type 0} → Last C → Option (Last C)
aged last = if last.ticked then None else Some (record { completion = last.completion; ticked = true })

-- by what a port judges the next message
abbrev pub criteria_of : Port → Criteria
criteria_of port = record {
  config = port.config;
  master = port.master;
  last = option_map (λ last. last.completion.number) port.last_sync;
}

-- after a tick
abbrev pub ticked : Port → Port
ticked port = record port {
  syncs = tick port.syncs;
  follows = tick port.follows;
  last_sync = option_and_then aged port.last_sync;
  last_delay = option_and_then aged port.last_delay;
}

-- a request is drawn
abbrev pub with_request : (tag : ℕ) → Port → Port
with_request tag port = record port {
  next = next port.next;
  requests = push port.capacities.requests (entry port.next (record { t3 = None; tag = tag })) port.requests;
}

-- the request has left at this moment
abbrev pub left : (t3 : ℕ) → RequestValue → RequestValue
left t3 request = record { t3 = Some t3; tag = request.tag }

-- the newest request of the number has left
abbrev pub with_departure : (number t3 : ℕ) → RequestValue → Port → Port
with_departure number t3 request port = record port { requests = set number (left t3 request) port.requests }

-- the port, and a report where both completions are there
abbrev pub and_completed : Port → Port × Heard
and_completed port = (
  port,
  completed
      (option_map (λ last. last.completion) port.last_sync)
      (option_map (λ last. last.completion) port.last_delay),
)

-- the exchange of the last completions, where both are there
abbrev pub exchange_in : Port → Option LastExchange
exchange_in port = exchanged
    (option_map (λ last. last.completion) port.last_sync)
    (option_map (λ last. last.completion) port.last_delay)

-- a Sync is completed, if it is
abbrev pub with_sync_completion : Option SyncCompletion → Port → Port × Heard
with_sync_completion None port = (port, answers.Held)
with_sync_completion (Some completion) port =
    and_completed (record port { last_sync = renewed (Some completion) port.last_sync })

-- a two-step Sync is held, and completes with the newest Follow_Up of its number
abbrev pub with_sync : Entry SyncValue → Port → Port × Heard
with_sync sync port = with_sync_completion
    (option_map (pair sync.number sync.value) (find sync.number port.follows))
    (record port { syncs = push port.capacities.syncs sync port.syncs })

-- a Follow_Up is held, and completes with the newest Sync of its number
abbrev pub with_follow : Entry FollowValue → Port → Port × Heard
with_follow follow port = with_sync_completion
    (option_map (λ sync. pair follow.number sync follow.value) (find follow.number port.syncs))
    (record port { follows = push port.capacities.follows follow port.follows })

-- nothing changes where a message is ignored
abbrev pub unless : Option Reason → Port × Heard → Port → Port × Heard
unless None used port = used
unless (Some reason) used port = (port, answers.Ignored reason)

-- a Delay_Resp completes this request, if there is one that can be completed
abbrev pub with_response_to : Entry ResponseValue → Option RequestValue → Port → Port × Heard
with_response_to response request port = unless
    (request_reason request)
    (and_completed (record port {
      last_delay = renewed (option_and_then (answered response.number response.value) request) port.last_delay;
    }))
    port

-- a Delay_Resp completes with the newest request of its number
abbrev pub with_response : Entry ResponseValue → Port → Port × Heard
with_response response port = with_response_to response (find response.number port.requests) port

-- a message is used
abbrev pub taken : (number : ℕ) → Used → Port → Port × Heard
taken number (TwoStepSync sync) port = with_sync (entry number sync) port
taken number (OneStepSync sync) port = with_sync_completion (Some (alone number sync)) port
taken number (FollowUp follow) port = with_follow (entry number follow) port
taken number (DelayResp response) port = with_response (entry number response) port

-- a message is used, or ignored
abbrev pub taken_or_ignored : Result (Entry Used) Reason → Port → Port × Heard
taken_or_ignored (Ok used) port = taken used.number used.value port
taken_or_ignored (Err reason) port = (port, answers.Ignored reason)

-- a message on the event port
abbrev pub sync_heard : Contents → (t2 tag : ℕ) → Port → Port × Heard
sync_heard m t2 tag port = taken_or_ignored (event_use (criteria_of port) m.header m.body t2 tag) port

-- a message on the general port
abbrev pub general_heard : Contents → (tag : ℕ) → Port → Port × Heard
general_heard m tag port = taken_or_ignored (general_use (criteria_of port) m.header m.body tag) port
