-- The kinds of messages that a slave port uses.
use Rattle.std.specs.Prelude.{option_map, Option, Some, None}
use Rattle.pairing.specs.Marked.{Entry, entry}
use Rattle.slave_port.specs.declared.used.Used.{Used}
use Rattle.slave_port.specs.declared.used.Used.TheVariants.{TwoStepSync, OneStepSync, FollowUp, DelayResp}
use Rattle.slave_port.specs.Values.{SyncValue, FollowValue, ResponseValue}

-- the two-step Sync, where it is one
abbrev pub two_step_sync : Used → Option SyncValue
two_step_sync (TwoStepSync sync) = Some sync
two_step_sync (OneStepSync sync) = None
two_step_sync (FollowUp follow) = None
two_step_sync (DelayResp response) = None

-- the Follow_Up, where it is one
abbrev pub follow_up : Used → Option FollowValue
follow_up (TwoStepSync sync) = None
follow_up (OneStepSync sync) = None
follow_up (FollowUp follow) = Some follow
follow_up (DelayResp response) = None

-- the Delay_Resp, where it is one
abbrev pub delay_resp : Used → Option ResponseValue
delay_resp (TwoStepSync sync) = None
delay_resp (OneStepSync sync) = None
delay_resp (FollowUp follow) = None
delay_resp (DelayResp response) = Some response

-- what is used, under its number, where it is of one kind
abbrev pub part : {V : Type 0} → (Used → Option V) → Entry Used → Option (Entry V)
part kind used = option_map (entry used.number) (kind used.value)
