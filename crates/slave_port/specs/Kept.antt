-- What a history leaves in the window: the Syncs and Follow_Ups that are held, and the completions (IEEE 1588-2019,
-- 11.3). What is used depends on the last completion, and what completes on what is held, so these are one recursion.
use Rattle.std.specs.Prelude.{ℕ, List, [], ◌∷◌, take, option_map, option_and_then, Option}
use Rattle.pairing.specs.Marked.{Entry, first_value as newest}
use Rattle.slave_port.specs.declared.reason.Reason.{Reason}
use Rattle.slave_port.specs.History.{Capacities, Setup, Call, present_master}
use Rattle.slave_port.specs.Window.{Window, nothing, all, last, after}
use Rattle.slave_port.specs.declared.used.Used.{Used}
use Rattle.slave_port.specs.Values.{SyncValue, FollowValue, ResponseValue}
use Rattle.slave_port.specs.Used.{part, two_step_sync, follow_up, delay_resp}
use Rattle.slave_port.specs.Usable.{Criteria, usable_in, unusable_in}
use Rattle.slave_port.specs.Requests.{held_requests}
use Rattle.slave_port.specs.Completion.{SyncCompletion, DelayCompletion, answered, completed_by}

-- what came in the window: usable two-step Syncs, usable Follow_Ups, and completions of Syncs
pub record Kept : Type 0 where
  pub syncs : Window (Entry SyncValue)
  pub follows : Window (Entry FollowValue)
  pub completions : Window SyncCompletion

-- held are the last ones of the window, as many as fit
abbrev pub held : {V : Type 0} → (capacity : ℕ) → Window (Entry V) → List (Entry V)
held capacity window = take capacity (all window)

-- by what a port judges the next message, after these calls that have left this
abbrev pub criteria_in : Setup → List Call → Kept → Criteria
criteria_in setup history kept = record {
  config = setup.config;
  master = present_master history;
  last = option_map (λ completion. completion.number) (last kept.completions);
}

-- the completion of a Sync by what is used, if anything is
abbrev pub completion_in : Capacities → Kept → Option (Entry Used) → Option SyncCompletion
completion_in capacities kept used =
    option_and_then
    (λ e. completed_by (held capacities.syncs kept.syncs) (held capacities.follows kept.follows) e.number e.value) used

-- what is left after a call that uses this, if anything
abbrev pub kept_after : Capacities → Call → Option (Entry Used) → Kept → Kept
kept_after capacities call used kept = record {
  syncs = after call (option_and_then (part two_step_sync) used) kept.syncs;
  follows = after call (option_and_then (part follow_up) used) kept.follows;
  completions = after call (completion_in capacities kept used) kept.completions;
}

-- what a history leaves
abbrev pub kept : Setup → List Call → Kept
kept setup [] = record { syncs = nothing; follows = nothing; completions = nothing }
kept setup (call ∷ earlier) =
    kept_after setup.capacities call (usable_in (criteria_in setup earlier (kept setup earlier)) call)
    (kept setup earlier)

-- by what a port judges the next message, after these calls
abbrev pub criteria : Setup → List Call → Criteria
criteria setup history = criteria_in setup history (kept setup history)

-- what a call's message is used as, if it is usable
abbrev pub usable : Setup → List Call → Call → Option (Entry Used)
usable setup earlier call = usable_in (criteria setup earlier) call

-- the first reason for which a call's message isn't usable
abbrev pub unusable : Setup → List Call → Call → Option Reason
unusable setup earlier call = unusable_in (criteria setup earlier) call

-- the usable two-step Sync that a call brings, which is held
abbrev pub usable_two_step_sync : Setup → List Call → Call → Option (Entry SyncValue)
usable_two_step_sync setup earlier call = option_and_then (part two_step_sync) (usable setup earlier call)

-- the usable Follow_Up that a call brings, which is held
abbrev pub usable_follow_up : Setup → List Call → Call → Option (Entry FollowValue)
usable_follow_up setup earlier call = option_and_then (part follow_up) (usable setup earlier call)

-- the usable Delay_Resp that a call brings, which isn't held
abbrev pub usable_delay_resp : Setup → List Call → Call → Option (Entry ResponseValue)
usable_delay_resp setup earlier call = option_and_then (part delay_resp) (usable setup earlier call)

-- the two-step Syncs that are held, newest first
abbrev pub held_syncs : Setup → List Call → List (Entry SyncValue)
held_syncs setup history = held setup.capacities.syncs (kept setup history).syncs

-- the Follow_Ups that are held, newest first
abbrev pub held_follows : Setup → List Call → List (Entry FollowValue)
held_follows setup history = held setup.capacities.follows (kept setup history).follows

-- the completion of a Sync that a call brings
abbrev pub sync_completion : Setup → List Call → Call → Option SyncCompletion
sync_completion setup earlier call = completion_in setup.capacities (kept setup earlier) (usable setup earlier call)

-- the completion of a request that a call brings: a Delay_Resp and the newest request held under its number
abbrev pub delay_completion : Setup → List Call → Call → Option DelayCompletion
delay_completion setup earlier call = option_and_then
    (λ response. option_and_then
    (answered response.number response.value)
    (newest response.number (held_requests setup earlier)))
    (usable_delay_resp setup earlier call)

-- the completions of requests in the window
abbrev pub delay_completions : Setup → List Call → Window DelayCompletion
delay_completions setup [] = nothing
delay_completions setup (call ∷ earlier) =
    after call (delay_completion setup earlier call) (delay_completions setup earlier)

-- the last completion of a Sync in the window
abbrev pub last_sync_completion : Setup → List Call → Option SyncCompletion
last_sync_completion setup history = last (kept setup history).completions

-- the last completion of a request in the window
abbrev pub last_delay_completion : Setup → List Call → Option DelayCompletion
last_delay_completion setup history = last (delay_completions setup history)
