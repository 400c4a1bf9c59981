-- What stands in the way of an event that isn't accepted: what the first refusal met that applies to it.
use Rattle.std.specs.Prelude.{ℕ, Bool, false, ◌&&◌, ◌||◌, [], ◌∷◌, if◌then◌else◌, is_some, Option, Some, None, option_map, option_and_then, unwrap_or, ◌≡◌, ◌<◌, IfSome, IsSome, Err}
use Rattle.std.specs.Option.{option_map_or}
use Rattle.ptp_units.specs.Moment.{bound}
use Rattle.network_model.specs.declared.event.Event.{Event}
use Rattle.network_model.specs.declared.event.Event.TheVariants.{Sync, SyncOne, Follow, Enter, Leave, Arrive, Hear}
use Rattle.network_model.specs.declared.event.Event.TheVariants.{Request, Stamped, Tick, SetMaster, StepClock}
use Rattle.network_model.specs.declared.refusal.WorldRefusal.{WorldRefusal}
use Rattle.network_model.specs.declared.refusal.WorldRefusal.TheVariants as refusals
use Rattle.network_model.specs.Network.{Network, NodeName, kind_of, is_named}
use Rattle.network_model.specs.Run.{Run, Place, place, place_at, tag_of, site_of, true_moment}
use Rattle.network_model.specs.Kinds.{is_at, is_sync, draws_sync, is_one_step_sync, is_follow, is_request, is_stamped, is_step}
use Rattle.network_model.specs.Kinds.{named_copy, named_transit, named_master, named_difference, entered_copy, is_leave_of}
use Rattle.network_model.specs.Outcome.{outcome_of}
use Rattle.world_model.specs.declared.obstacle.Obstacle.{Obstacle}
use Rattle.world_model.specs.declared.obstacle.Obstacle.TheVariants.{NoNode, OtherKind, NoEvent, SentNothing, NoEnter, LeftAlready}
use Rattle.world_model.specs.declared.obstacle.Obstacle.TheVariants.{TooFar, ClockSet, NoSync, OneStepSync, FollowUpSent}
use Rattle.world_model.specs.declared.obstacle.Obstacle.TheVariants.{NoDelayReq, DepartureTold}

-- the newest event of which this is true, with all that came before it
abbrev pub newest : (Event → Bool) → Run → Option Place
newest is_it [] = None
newest is_it (event ∷ earlier) = if is_it event then Some (place event earlier) else newest is_it earlier

-- the name that no node has: of the master that the event names, where there is the node at which it happens
abbrev pub missing_name : Network → Event → NodeName
missing_name network event =
    if is_some (kind_of network (site_of event)) then unwrap_or (named_master event) (site_of event) else site_of event

-- what the nodes are at which the event happens, and that it names as a master
abbrev pub kinds_met : Network → Event → Option Obstacle
kinds_met network event =
    option_map (λ kind. OtherKind kind (option_and_then (kind_of network) (named_master event))) (kind_of network (site_of event))

-- the event of this number sent no message, or there is none
abbrev pub copy_met : Run → ℕ → Obstacle
copy_met run number = option_map_or (λ p. SentNothing number p.event) (place_at run number) (NoEvent number)

-- the event of this number is no enter of the clock that is asked for, or there is none
abbrev pub enter_met : Run → ℕ → Obstacle
enter_met run number = option_map_or (λ p. NoEnter number p.event) (place_at run number) (NoEvent number)

-- a message entered this clock by the event of this number
abbrev pub is_entered_at : Run → NodeName → ℕ → Bool
is_entered_at run clock number =
    option_map_or (λ p. is_some (entered_copy p.event) && is_named (site_of p.event) clock) (place_at run number) false

-- what entered this clock by the event of this number left already, or nothing entered it so
abbrev pub stay_met : Run → NodeName → ℕ → Obstacle
stay_met run clock entered =
    if is_entered_at run clock entered
    then option_map_or (λ left. LeftAlready entered (tag_of left)) (newest (is_leave_of entered) run) (enter_met run entered)
    else enter_met run entered

-- the event that set a clock last, with the difference that it set
abbrev pub clock_set : Place → Option Obstacle
clock_set set = option_map (ClockSet (tag_of set)) (named_difference set.event)

-- the difference that the event sets, or else how its node's clock was set last
abbrev pub clock_met : Run → Event → Option Obstacle
clock_met run event =
    option_map_or (λ difference. Some (TooFar difference)) (named_difference event)
    (option_and_then clock_set (newest (is_at is_step (site_of event)) run))

-- a master sends a Sync, two-step or one-step, or a Follow_Up
abbrev pub is_sync_or_follow : Event → Bool
is_sync_or_follow event = draws_sync event || is_follow event

-- what stands in the way of a Follow_Up behind this, the last Sync or Follow_Up of the master
abbrev pub follow_up_met : Run → NodeName → Place → Option Obstacle
follow_up_met run master last =
    if is_one_step_sync last.event then Some (OneStepSync (tag_of last))
    else if is_follow last.event
    then Some (option_map_or (λ sync. FollowUpSent (tag_of sync) (tag_of last)) (newest (is_at is_sync master) run) NoSync)
    else None

-- why no Sync of this master waits for its Follow_Up
abbrev pub sync_met : Run → NodeName → Option Obstacle
sync_met run master = option_map_or (follow_up_met run master) (newest (is_at is_sync_or_follow master) run) (Some NoSync)

-- when this Delay_Req departed, the last one of the slave, was told already
abbrev pub departure_met : Run → NodeName → Place → Option Obstacle
departure_met run slave request =
    option_map (λ told. DepartureTold (tag_of request) (tag_of told)) (newest (is_at is_stamped slave) run)

-- why no Delay_Req of this slave waits for its departure time
abbrev pub request_met : Run → NodeName → Option Obstacle
request_met run slave = option_map_or (departure_met run slave) (newest (is_at is_request slave) run) (Some NoDelayReq)

-- why nothing waits for the event, which is a Follow_Up or tells when a Delay_Req departed
abbrev pub waiting_met : Run → Event → Option Obstacle
waiting_met run (Follow node) = sync_met run node
waiting_met run (Stamped node) = request_met run node
waiting_met run (Sync node at) = None
waiting_met run (SyncOne node at) = None
waiting_met run (Enter node copy at) = None
waiting_met run (Leave node transit at) = None
waiting_met run (Arrive node copy at) = None
waiting_met run (Hear node copy) = None
waiting_met run (Request node at) = None
waiting_met run (Tick node) = None
waiting_met run (SetMaster node master) = None
waiting_met run (StepClock node diff) = None

-- what stands in the way of an event that is refused for this reason
abbrev pub obstacle_of : Network → Run → Event → WorldRefusal → Option Obstacle
obstacle_of network run event refusals.NoNode = Some (NoNode (missing_name network event))
obstacle_of network run event refusals.WrongKind = kinds_met network event
obstacle_of network run event refusals.NoCopy = option_map (copy_met run) (named_copy event)
obstacle_of network run event refusals.NoTransit = option_map (stay_met run (site_of event)) (named_transit event)
obstacle_of network run event refusals.ReadingOutOfRange = clock_met run event
obstacle_of network run event refusals.NothingWaiting = waiting_met run event
obstacle_of network run event refusals.SameName = None
obstacle_of network run event refusals.SameIdentity = None
obstacle_of network run event refusals.Memory = None

-- where an event whose moment is one isn't accepted, something stands in its way for the first reason that applies
abbrev pub IsMet : Network → Run → Event → WorldRefusal → Type 0
IsMet network run event why =
    IfSome (true_moment event) (λ at. at < bound) → outcome_of network run event ≡ Err why
    → IsSome (obstacle_of network run event why)
