-- The exchange that a report was made of: the four times, the corrections and the numbers of its two halves (IEEE
-- 1588-2019, 11.2 and 11.3).
use Rattle.std.specs.Prelude.{◌≡◌, ℕ, List, [], ◌∷◌, ℤ, pos, ◌+ℤ◌, ◌-ℤ◌, Option, Some, None}
use Rattle.std.specs.Int.{abs_diff}
use Rattle.ptp_units.specs.Moment.{moment}
use Rattle.ptp_units.specs.Exchange.{offset2, path2}
use Rattle.slave_port.specs.declared.exchange.LastExchange.{LastExchange}
use Rattle.slave_port.specs.declared.heard.Heard.{Heard}
use Rattle.slave_port.specs.declared.heard.Heard.TheVariants as answers
use Rattle.slave_port.specs.declared.heard.Report.{Report}
use Rattle.slave_port.specs.History.{Setup, Call}
use Rattle.slave_port.specs.Completion.{SyncCompletion, DelayCompletion}
use Rattle.slave_port.specs.Kept.{last_sync_completion, last_delay_completion}
use Rattle.slave_port.specs.Answer.{answer}

-- t2 less t1, each corrected: t1 by the Follow_Up's correction, and their difference by the Sync's
abbrev pub sync_bracket_of : LastExchange → ℤ
sync_bracket_of x = (pos x.t2 -ℤ (pos x.t1 +ℤ x.follow_correction)) -ℤ x.sync_correction

-- t4, less the Delay_Resp's correction, less t3
abbrev pub delay_bracket_of : LastExchange → ℤ
delay_bracket_of x = (pos x.t4 -ℤ x.response_correction) -ℤ pos x.t3

-- how much older the older half is than the newer one: the time between t2 and t3 by the slave's clock
abbrev pub age : LastExchange → ℕ
age x = abs_diff x.t2 x.t3

-- the exchange of a completion of each kind
abbrev pub exchange_of : SyncCompletion → DelayCompletion → LastExchange
exchange_of sync delay = record {
  t1 = moment sync.origin 0;
  t2 = sync.t2;
  t3 = delay.t3;
  t4 = moment delay.receive 0;
  sync_correction = sync.sync_correction;
  follow_correction = sync.follow_correction;
  response_correction = delay.correction;
  sync_number = record { 0 = sync.number };
  request_number = record { 0 = delay.number };
}

-- an exchange where both completions are there
abbrev pub exchanged : Option SyncCompletion → Option DelayCompletion → Option LastExchange
exchanged None delay = None
exchanged (Some sync) None = None
exchanged (Some sync) (Some delay) = Some (exchange_of sync delay)

-- the exchange of the last completions in the window
abbrev pub last_exchange : Setup → List Call → Option LastExchange
last_exchange setup history = exchanged (last_sync_completion setup history) (last_delay_completion setup history)

-- the report that an answer is, or else the one before it
abbrev pub report_or : Heard → Option Report → Option Report
report_or answers.Held before = before
report_or answers.Completed before = before
report_or (answers.Report report) before = Some report
report_or (answers.Ignored reason) before = before

-- the last report in a history
abbrev pub last_report : Setup → List Call → Option Report
last_report setup [] = None
last_report setup (call ∷ earlier) = report_or (answer setup earlier call) (last_report setup earlier)

-- a report's two results are those of the four times and the corrections of an exchange
pub record IsReportOf (x : LastExchange) (report : Report) : Type 0 where
  pub offset2 : report.offset2 ≡ offset2 (sync_bracket_of x) (delay_bracket_of x)
  pub path2 : report.path2 ≡ path2 (sync_bracket_of x) (delay_bracket_of x)

-- it is the exchange of the last report in a history
abbrev pub IsOfLastReport : Setup → List Call → LastExchange → Type 0
IsOfLastReport setup history x = (report : Report) × ((last_report setup history ≡ Some report) × IsReportOf x report)
