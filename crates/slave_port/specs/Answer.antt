-- What a slave port answers, by its history alone (IEEE 1588-2019, 11.2 and 11.3).
use Rattle.std.specs.Prelude.{List, ◌∷◌, is_none, ◌&&◌, option_and_then, if◌then◌else◌, Option, Some, None}
use Rattle.std.specs.Option.{option_or}
use Rattle.ptp_units.specs.Exchange.{offset2, path2}
use Rattle.pairing.specs.Marked.{first_value as newest}
use Rattle.slave_port.specs.declared.heard.Heard.{Heard}
use Rattle.slave_port.specs.declared.heard.Heard.TheVariants as answers
use Rattle.slave_port.specs.declared.heard.Report.{Report}
use Rattle.slave_port.specs.declared.reason.Reason.{Reason}
use Rattle.slave_port.specs.declared.reason.Reason.TheVariants.{UnknownRequest, EgressUnknown}
use Rattle.slave_port.specs.History.{Setup, Call}
use Rattle.slave_port.specs.Values.{RequestValue}
use Rattle.slave_port.specs.Requests.{held_requests}
use Rattle.slave_port.specs.Completion.{SyncCompletion, DelayCompletion, bracket_of_sync, bracket_of_delay}
use Rattle.slave_port.specs.Kept.{unusable, usable_delay_resp, sync_completion, delay_completion, last_sync_completion}
use Rattle.slave_port.specs.Kept.{last_delay_completion}

-- why the newest held request of a Delay_Resp's number doesn't complete: there is none, or it isn't known when it left
abbrev pub request_reason : Option RequestValue → Option Reason
request_reason None = Some UnknownRequest
request_reason (Some request) = if is_none request.t3 then Some EgressUnknown else None

-- why a usable Delay_Resp is ignored all the same
abbrev pub unanswerable : Setup → List Call → Call → Option Reason
unanswerable setup earlier call = option_and_then
    (λ response. request_reason (newest response.number (held_requests setup earlier)))
    (usable_delay_resp setup earlier call)

-- the first reason for which a call's message is ignored
abbrev pub ignored : Setup → List Call → Call → Option Reason
ignored setup earlier call = option_or (unusable setup earlier call) (unanswerable setup earlier call)

-- the report of a completion of each kind
abbrev pub report_of : SyncCompletion → DelayCompletion → Report
report_of sync delay = record {
  offset2 = offset2 (bracket_of_sync sync) (bracket_of_delay delay);
  path2 = path2 (bracket_of_sync sync) (bracket_of_delay delay);
  sync_tag = sync.sync_tag;
  follow_tag = sync.follow_tag;
  request_tag = delay.request_tag;
  response_tag = delay.response_tag;
}

-- a report where both completions are there
abbrev pub completed : Option SyncCompletion → Option DelayCompletion → Heard
completed None delay = answers.Completed
completed (Some sync) None = answers.Completed
completed (Some sync) (Some delay) = answers.Report (report_of sync delay)

-- the answer to a message that isn't ignored
abbrev pub used : Setup → List Call → Call → Heard
used setup earlier call =
    if is_none (sync_completion setup earlier call) && is_none (delay_completion setup earlier call)
    then answers.Held
    else completed (last_sync_completion setup (call ∷ earlier)) (last_delay_completion setup (call ∷ earlier))

-- ignored for this reason, or else this answer
abbrev pub unless_ignored : Option Reason → Heard → Heard
unless_ignored (Some reason) heard = answers.Ignored reason
unless_ignored None heard = heard

-- the answer to a message, from the calls before it
abbrev pub answer : Setup → List Call → Call → Heard
answer setup earlier call = unless_ignored (ignored setup earlier call) (used setup earlier call)
