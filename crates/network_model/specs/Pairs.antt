-- Nothing that pairs is passed over (IEEE 1588-2019, 7.3.7 and 11.3): statements on whole runs.
-- `laws::no_pair_is_missed` promises them.
use Rattle.std.specs.Prelude.{◌≡◌, ◌↔◌, ◌⊎◌, ℕ, Option, Some, Ok, List, IsSome, IfSome, IsTrue, Any, option_and_then}
use Rattle.slave_port.specs.History.{Call}
use Rattle.slave_port.specs.Completion.{SyncCompletion, DelayCompletion}
use Rattle.slave_port.specs.Kept.{usable_two_step_sync, usable_follow_up, usable_delay_resp, held_syncs, held_follows}
use Rattle.slave_port.specs.Kept.{sync_completion, delay_completion}
use Rattle.slave_port.specs.Requests.{held_requests}
use Rattle.slave_port.specs.Answer.{answer}
use Rattle.network_model.specs.declared.stepped.Outcome.TheVariants as outcomes
use Rattle.network_model.specs.Network.{Network, PortSetup}
use Rattle.network_model.specs.Run.{Run, Place, place_at, tag_of, until, site_of}
use Rattle.network_model.specs.Kinds.{heard_copy}
use Rattle.network_model.specs.Truth.{slave_at, origin_heard}
use Rattle.network_model.specs.SlaveHistory.{slave_setup, call_made, history_of}
use Rattle.network_model.specs.Outcome.{outcome_of}
use Rattle.network_model.specs.Premises.{Premise, SlavePremise, exact_limits, IsAcceptedRun, IsFreshAndTickedFor}
use Rattle.network_model.specs.Evidence.{is_completing}

-- what a slave's port is told at an event
pub record HeardAt (network : Network) (p : Place) : Type 0 where
  pub port : PortSetup
  pub call : Call
  pub slave : slave_at network (site_of p.event) ≡ Some port
  pub made : call_made network port p.event p.earlier ≡ Some call

-- the message heard at the event of this tag has the number that this event drew
abbrev pub IsOfOrigin : Run → (tag : ℕ) → Place → Type 0
IsOfOrigin run tag origin = option_and_then origin_heard (place_at run tag) ≡ Some origin

-- the calls of a slave's port before an event
abbrev pub calls_before : Network → PortSetup → Place → List Call
calls_before network port p = history_of network port (site_of p.event) p.earlier

-- a message that a slave hears: what its port is told, that the port's answer is the event's outcome, and the event
-- that drew the message's number
pub record IsHeard (network : Network) (p : Place) : Type 0 where
  pub told : HeardAt network p
  pub answered : outcome_of network p.earlier p.event
      ≡ Ok (outcomes.Heard (answer (slave_setup told.port) (calls_before network told.port p) told.call))
  pub origin : Place
  pub drawn : origin_heard p ≡ Some origin

-- Each message that arrives at a slave, or that it hears, is told to its port, and has an event that drew its number.
abbrev pub EachMessageIsHeard : Premise → Type 0
EachMessageIsHeard premise =
    (network : Network) (p : Place) → premise network (until p)
    → IsSome (slave_at network (site_of p.event)) → IsSome (heard_copy p.event)
    → IsHeard network p

-- the outcome of an event is that a slave heard a message that completed something
abbrev pub Completes : Network → Place → Type 0
Completes network p = IsTrue (is_completing (outcome_of network p.earlier p.event))

-- the completion of a Sync that the message of an event brings
abbrev pub sync_completed : (network : Network) (p : Place) → HeardAt network p → Option SyncCompletion
sync_completed network p heard = sync_completion (slave_setup heard.port) (calls_before network heard.port p) heard.call

-- the completion of a request that the message of an event brings
abbrev pub delay_completed : (network : Network) (p : Place) → HeardAt network p → Option DelayCompletion
delay_completed network p heard =
    delay_completion (slave_setup heard.port) (calls_before network heard.port p) heard.call

-- a completion is of the Sync and the Follow_Up of one Sync event, and one of them is heard at the event of this tag
pub record IsPairOf (run : Run) (tag : ℕ) (origin : Place) (completion : SyncCompletion) : Type 0 where
  pub follow_tag : ℕ
  pub two_step : completion.follow_tag ≡ Some follow_tag
  pub now : (completion.sync_tag ≡ tag) ⊎ (follow_tag ≡ tag)
  pub sync : IsOfOrigin run completion.sync_tag origin
  pub follow : IsOfOrigin run follow_tag origin

-- What comes of a message of a Sync event: the outcome is that it completes something exactly where it completes a
-- Sync, it does so exactly where a partner of this Sync event is held, and then with a message of this Sync event.
pub record PairsSync (network : Network) (p : Place) (heard : HeardAt network p) (IsHeld : Place → Type 0) : Type 0 where
  pub origin : Place
  pub drawn : origin_heard p ≡ Some origin
  pub outcome : Completes network p ↔ IsSome (sync_completed network p heard)
  pub partner : IsSome (sync_completed network p heard) ↔ IsHeld origin
  pub pair : IfSome (sync_completed network p heard) (IsPairOf (until p) (tag_of p) origin)

-- a completion is of this request and of the Delay_Resp heard at the event of this tag
pub record IsAnswerTo (tag : ℕ) (origin : Place) (completion : DelayCompletion) : Type 0 where
  pub request : completion.request_tag ≡ tag_of origin
  pub now : completion.response_tag ≡ tag

-- What comes of a Delay_Resp: the outcome is that it completes something exactly where it completes a request, it does
-- so exactly where its own request is held and known to have left, and then that request.
pub record PairsRequest (network : Network) (p : Place) (heard : HeardAt network p) (IsHeld : Place → Type 0) : Type 0 where
  pub origin : Place
  pub drawn : origin_heard p ≡ Some origin
  pub outcome : Completes network p ↔ IsSome (delay_completed network p heard)
  pub partner : IsSome (delay_completed network p heard) ↔ IsHeld origin
  pub pair : IfSome (delay_completed network p heard) (IsAnswerTo (tag_of p) origin)

-- A usable two-step Sync completes exactly where the slave holds a Follow_Up of the same Sync event, and with such a
-- one.
abbrev pub EachSyncPairs : SlavePremise → Type 0
EachSyncPairs premise =
    (network : Network) (p : Place) → premise network (site_of p.event) (until p) → (heard : HeardAt network p)
    → IsSome (usable_two_step_sync (slave_setup heard.port) (calls_before network heard.port p) heard.call)
    → PairsSync network p heard (λ origin. Any (λ follow. IsOfOrigin p.earlier follow.value.tag origin)
    (held_follows (slave_setup heard.port) (calls_before network heard.port p)))

-- A usable Follow_Up completes exactly where the slave holds a Sync of the same Sync event, and with such a one.
abbrev pub EachFollowUpPairs : SlavePremise → Type 0
EachFollowUpPairs premise =
    (network : Network) (p : Place) → premise network (site_of p.event) (until p) → (heard : HeardAt network p)
    → IsSome (usable_follow_up (slave_setup heard.port) (calls_before network heard.port p) heard.call)
    → PairsSync network p heard (λ origin. Any (λ sync. IsOfOrigin p.earlier sync.value.tag origin)
    (held_syncs (slave_setup heard.port) (calls_before network heard.port p)))

-- A usable Delay_Resp completes exactly where the slave holds its own request, and knows when that left, and completes
-- that one.
abbrev pub EachDelayRespPairs : SlavePremise → Type 0
EachDelayRespPairs premise =
    (network : Network) (p : Place) → premise network (site_of p.event) (until p) → (heard : HeardAt network p)
    → IsSome (usable_delay_resp (slave_setup heard.port) (calls_before network heard.port p) heard.call)
    → PairsRequest network p heard
    (λ origin. Any (λ request. (request.value.tag ≡ tag_of origin) × IsSome request.value.t3)
    (held_requests (slave_setup heard.port) (calls_before network heard.port p)))

-- No pair is missed, over runs of any length that are fresh and ticked for the slave.
pub record NoPairIsMissed : Type 0 where
  pub heard : EachMessageIsHeard IsAcceptedRun
  pub syncs : EachSyncPairs (IsFreshAndTickedFor exact_limits)
  pub follow_ups : EachFollowUpPairs (IsFreshAndTickedFor exact_limits)
  pub delay_resps : EachDelayRespPairs (IsFreshAndTickedFor exact_limits)
