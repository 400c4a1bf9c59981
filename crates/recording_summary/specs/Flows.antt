-- What came of the master and the slave, and what is missing. Lists have the newest in front.
use Rattle.std.specs.Prelude.{◌≡◌, ℕ, ◌-◌, ℤ, pos, Bool, true, false, not, ◌&&◌, if◌then◌else◌}
use Rattle.std.specs.Prelude.{List, [], ◌∷◌, count_by, filter_map, is_some, Option, Some, None, option_map}
use Rattle.std.specs.Option.{option_or}
use Rattle.std.specs.Ordering.{int_eq}
use Rattle.recording_summary.specs.declared.flows.Flows.{Flows}
use Rattle.recording_summary.specs.declared.no_report.NoReport.{NoReport}
use Rattle.recording_summary.specs.declared.no_report.NoReport.TheVariants as whys
use Rattle.recording_summary.specs.declared.others.Meeting.{Meeting}
use Rattle.recording_summary.specs.declared.others.MessageKind.{MessageKind}
use Rattle.recording_summary.specs.declared.others.MessageKind.TheVariants.{Sync, FollowUp, DelayReq, DelayResp}
use Rattle.recording_summary.specs.Messages.{first_by}
use Rattle.slave_port.specs.Usable.{is_two_step}
use Rattle.statistics.specs.declared.flow.Sent.{Sent}
use Rattle.statistics.specs.declared.series.Point.{Point}
use Rattle.statistics.specs.Cases.{AreCases}
use Rattle.statistics.specs.Flow.{IsFlow}
use Rattle.statistics.specs.Wide.{at_most}

-- ---- what a message is
-- one of this kind, and the first of its number
abbrev pub is_first : MessageKind → Meeting → Bool
is_first kind m = is_some (first_by m.met kind m.time)

-- its number and time, where it is
abbrev pub sent_of : MessageKind → Meeting → Option Sent
sent_of kind m = option_map (λ it. record { line = m.line; number = it.number; time = m.time; begins = m.begins })
    (first_by m.met kind m.time)

-- it waits for another one
abbrev pub is_held : Option NoReport → Bool
is_held (Some whys.Held) = true
is_held _ = false

-- its Delay_Req didn't come before it
abbrev pub is_unasked : Option NoReport → Bool
is_unasked (Some whys.Unrecorded) = true
is_unasked _ = false

-- a Sync whose twoStepFlag is set
abbrev pub is_first_two_step : Meeting → Bool
is_first_two_step m = is_first Sync m && is_two_step m.header

-- a Sync that waits for its Follow_Up (IEEE 1588-2019, 9.5.9)
abbrev pub is_waiting : Meeting → Bool
is_waiting m = is_first Sync m && is_held m.why

-- a Follow_Up of a Sync that waited: it doesn't wait itself
abbrev pub is_following : Meeting → Bool
is_following m = is_first FollowUp m && not (is_held m.why)

-- a Delay_Resp whose Delay_Req came before it
abbrev pub is_answer : Meeting → Bool
is_answer m = is_first DelayResp m && not (is_unasked m.why)

-- a Delay_Req with a correction, which a clock in front of the place of recording gave it
abbrev pub correction_of : Meeting → Option Point
correction_of m =
    if is_first DelayReq m && not (int_eq m.header.correction.0 (pos 0))
    then Some (record { line = m.line; time = m.time; value = m.header.correction.0 })
    else None

-- a message of this kind with which its sender begins anew, and its number
abbrev pub begun_of : MessageKind → Meeting → Option Point
begun_of kind m =
    if is_first kind m && m.begins
    then Some (record { line = m.line; time = m.time; value = pos m.header.sequence.0 })
    else None

-- logMessageInterval of a message of this kind
abbrev pub log_of : MessageKind → Meeting → Option ℤ
log_of kind m = if is_first kind m then Some m.header.log else None

abbrev pub last_log : MessageKind → List Meeting → Option ℤ
last_log kind [] = None
last_log kind (m ∷ earlier) = option_or (log_of kind m) (last_log kind earlier)

-- ---- what these tell
-- how many are so, as far as is counted
abbrev pub count_met : (Meeting → Bool) → List Meeting → ℕ
count_met is all = at_most (count_by is all)

pub record AreFlows (all : List Meeting) (f : Flows) : Type 0 where
  pub syncs : IsFlow (filter_map (sent_of Sync) all) f.syncs
  pub requests : IsFlow (filter_map (sent_of DelayReq) all) f.requests
  pub follow_ups : f.follow_ups ≡ count_met (is_first FollowUp) all
  pub two_step : f.two_step ≡ count_met is_first_two_step all
  pub waiting : f.waiting ≡ count_met is_waiting all
  pub followed : f.followed ≡ count_met is_following all
  pub answers : f.answers ≡ count_met is_answer all
  pub corrected : AreCases (filter_map correction_of all) f.corrected
  pub master_anew : AreCases (filter_map (begun_of Sync) all) f.master_anew
  pub slave_anew : AreCases (filter_map (begun_of DelayReq) all) f.slave_anew
  pub sync_log : f.sync_log ≡ last_log Sync all
  pub request_log : f.request_log ≡ last_log DelayResp all

-- how many Syncs that waited have no Follow_Up
abbrev pub unfollowed : Flows → ℕ
unfollowed f = f.waiting - f.followed

-- how many Delay_Reqs have no Delay_Resp
abbrev pub unanswered : Flows → ℕ
unanswered f = f.requests.count - f.answers
