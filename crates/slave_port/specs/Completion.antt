-- Completions: of a Sync by the Follow_Up of its number or by itself, of a request by the Delay_Resp of its number
-- (IEEE 1588-2019, 11.3).
use Rattle.std.specs.Prelude.{ℕ, ℤ, pos, List, option_map, Option, Some, None}
use Rattle.ptp_units.specs.Moment.{Stamp}
use Rattle.ptp_units.specs.Exchange.{sync_bracket, delay_bracket}
use Rattle.pairing.specs.Marked.{Entry, first_value as newest}
use Rattle.slave_port.specs.declared.used.Used.{Used}
use Rattle.slave_port.specs.declared.used.Used.TheVariants.{TwoStepSync, OneStepSync, FollowUp, DelayResp}
use Rattle.slave_port.specs.Values.{SyncValue, OneStepValue, FollowValue, ResponseValue, RequestValue}

-- the Sync's half of a report: its sequenceId, when it arrived, the timestamp of its departure, the corrections of its
-- Follow_Up (0 where it has none) and of the Sync, and the tags of the Sync and of its Follow_Up, if any
pub record SyncCompletion : Type 0 where
  pub number : ℕ
  pub t2 : ℕ
  pub origin : Stamp
  pub follow_correction : ℤ
  pub sync_correction : ℤ
  pub sync_tag : ℕ
  pub follow_tag : Option ℕ

-- the Delay_Req's half of a report: its sequenceId, when it left, its receiveTimestamp, the correction of the
-- Delay_Resp, and the tags of the request and of the Delay_Resp
pub record DelayCompletion : Type 0 where
  pub number : ℕ
  pub t3 : ℕ
  pub receive : Stamp
  pub correction : ℤ
  pub request_tag : ℕ
  pub response_tag : ℕ

-- the bracket of a Sync's half
abbrev pub bracket_of_sync : SyncCompletion → ℤ
bracket_of_sync sync = sync_bracket sync.t2 sync.origin sync.follow_correction sync.sync_correction

-- the bracket of a Delay_Req's half
abbrev pub bracket_of_delay : DelayCompletion → ℤ
bracket_of_delay delay = delay_bracket delay.receive delay.correction delay.t3

-- a two-step Sync and its Follow_Up complete
abbrev pub pair : (number : ℕ) → SyncValue → FollowValue → SyncCompletion
pair number sync follow = record {
  number = number;
  t2 = sync.t2;
  origin = follow.precise;
  follow_correction = follow.correction;
  sync_correction = sync.correction;
  sync_tag = sync.tag;
  follow_tag = Some follow.tag;
}

-- a one-step Sync completes by itself
abbrev pub alone : (number : ℕ) → OneStepValue → SyncCompletion
alone number sync = record {
  number = number;
  t2 = sync.t2;
  origin = sync.origin;
  follow_correction = pos 0;
  sync_correction = sync.correction;
  sync_tag = sync.tag;
  follow_tag = None;
}

-- a Delay_Resp and its request, which left at this moment, complete
abbrev pub responded : (number : ℕ) → ResponseValue → RequestValue → (t3 : ℕ) → DelayCompletion
responded number response request t3 = record {
  number = number;
  t3 = t3;
  receive = response.receive;
  correction = response.correction;
  request_tag = request.tag;
  response_tag = response.tag;
}

-- a Delay_Resp and its request complete where it is known when the request left
abbrev pub answered : (number : ℕ) → ResponseValue → RequestValue → Option DelayCompletion
answered number response request = option_map (responded number response request) request.t3

-- the completion of a Sync, where these two-step Syncs and these Follow_Ups are held: by the newest of the number
abbrev pub completed_by : List (Entry SyncValue) → List (Entry FollowValue) → (number : ℕ) → Used
    → Option SyncCompletion
completed_by syncs follows number (TwoStepSync sync) = option_map (pair number sync) (newest number follows)
completed_by syncs follows number (OneStepSync sync) = Some (alone number sync)
completed_by syncs follows number (FollowUp follow) = option_map (λ sync. pair number sync follow) (newest number syncs)
completed_by syncs follows number (DelayResp response) = None
