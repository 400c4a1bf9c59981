-- 701: the lines of a report, by what is kept, or the first thing that is found of them. Where trace_model's `Finding` has an
-- `x`, `x_by` is that by what is kept, as proofs/PlaceFound shows; the lines are those of `found_by`, as proofs/Placed shows.
use Rattle.std.specs.Prelude.{ℕ, ◌-◌, Bool, ◌&&◌, ◌||◌, nat_lt, ◌==◌, is_some, if◌then◌else◌}
use Rattle.std.specs.Prelude.{Option, Some, None, Result, Ok, Err, ok_or}
use Rattle.std.specs.Result.{result_err}
use Rattle.slave_port.specs.declared.heard.Report.{Report}
use Rattle.network_model.specs.declared.event.Event.{Event}
use Rattle.network_model.specs.Network.{NodeName}
use Rattle.network_model.specs.Run.{site_of}
use Rattle.network_model.specs.Kinds.{is_at, is_follow, is_request, is_arrival, is_hearing, heard_copy}
use Rattle.trace_model.specs.declared.finding.Finding.{Finding}
use Rattle.trace_model.specs.declared.finding.Finding.TheVariants as findings
use Rattle.trace_model.specs.declared.finding.Lack.{Lack}
use Rattle.trace_model.specs.declared.finding.Lack.TheVariants.{NotBefore, CameToNothing, OtherEvent, CompletedNothing}
use Rattle.trace_model.specs.declared.finding.Part.{Part}
use Rattle.trace_model.specs.declared.finding.Part.TheVariants as parts
use Rattle.trace_model.specs.Sound.{where_passes, is_of_line}
use Rattle.trace_model.specs.Finding.{passing, going_on}
use Rattle.exchange_check.specs.declared.facts.Fact.{Fact}
use Rattle.exchange_check.specs.declared.facts.Found.{Found}
use Rattle.exchange_check.specs.Inner.Judged.{is_stamped_by}
use Rattle.exchange_check.specs.Inner.Kept.{Facts, Stamps}

abbrev pub line_found_by : Facts → (limit number : ℕ) → Result Fact Lack
line_found_by facts limit number =
    if nat_lt number limit then ok_or (facts number) (CameToNothing number) else Err (NotBefore number)

-- of so many lines
abbrev pub tag_found_by : Facts → (count : ℕ) → (Event → Bool) → NodeName → ℕ → Result Fact Lack
tag_found_by facts count kind node number = passing
    (λ fact. is_at kind node fact.event)
    (λ fact. OtherEvent number)
    (line_found_by facts count number)

abbrev pub copy_found_by : Facts → (hearing : ℕ) → Option ℕ → Result Fact Lack
copy_found_by facts hearing None = Err (OtherEvent hearing)
copy_found_by facts hearing (Some copy) = line_found_by facts hearing copy

abbrev pub sender_found_by : Facts → Fact → Result Fact Lack
sender_found_by facts fact = copy_found_by facts fact.line (heard_copy fact.event)

abbrev pub sync_found_by : Facts → (count : ℕ) → NodeName → Report → Result Fact Lack
sync_found_by facts count slave report = passing
    (λ fact. is_some report.follow_tag || fact.completes)
    (λ fact. CompletedNothing report.sync_tag)
    (tag_found_by facts count is_arrival slave report.sync_tag)

abbrev pub follow_sender_by : Facts → (count : ℕ) → NodeName → ℕ → Result Fact Lack
follow_sender_by facts count slave hearing =
    going_on (sender_found_by facts) (tag_found_by facts count is_hearing slave hearing)

abbrev pub follow_found_by : Facts → (count : ℕ) → NodeName → ℕ → Result Fact Lack
follow_found_by facts count slave hearing = passing
    (λ fact. is_follow fact.event)
    (λ fact. OtherEvent fact.line)
    (follow_sender_by facts count slave hearing)

abbrev pub completion_found_by : Facts → (count : ℕ) → NodeName → ℕ → Result Fact Lack
completion_found_by facts count slave hearing = passing
    (λ fact. fact.completes)
    (λ fact. CompletedNothing hearing)
    (tag_found_by facts count is_hearing slave hearing)

abbrev pub response_sender_by : Facts → (count : ℕ) → NodeName → ℕ → Result Fact Lack
response_sender_by facts count slave hearing =
    going_on (sender_found_by facts) (completion_found_by facts count slave hearing)

abbrev pub response_found_by : Facts → (count : ℕ) → NodeName → ℕ → Result Fact Lack
response_found_by facts count slave hearing = passing
    (λ fact. is_arrival fact.event && fact.made)
    (λ fact. OtherEvent fact.line)
    (response_sender_by facts count slave hearing)

-- the first line below a number by which the slave learned when the request of this number departed
abbrev pub stamp_before : Stamps → (request number : ℕ) → Option ℕ
stamp_before stamps request number = where_passes (λ stamp. nat_lt stamp number) (stamps request)

-- a value that a tag names, or that the tag is wrong
abbrev pub tagged : {X : Type 0} → Part → Result X Lack → Result X Finding
tagged part (Ok x) = Ok x
tagged part (Err lack) = Err (findings.WrongTag part lack)

-- the same of the Follow_Up, where there is one
abbrev pub follow_tagged : Facts → (count : ℕ) → NodeName → Option ℕ → Result (Option Fact) Finding
follow_tagged facts count slave None = Ok None
follow_tagged facts count slave (Some hearing) =
    going_on (λ follow. Ok (Some follow)) (tagged parts.FollowUp (follow_found_by facts count slave hearing))

-- the lines that the four tags name
abbrev pub tags_found_by : Facts → (count : ℕ) → NodeName → Report → Result Found Finding
tags_found_by facts count slave report =
    going_on (λ sync.
    going_on (λ follow.
    going_on (λ request.
    going_on (λ arrival.
    Ok (record { sync_arrival = sync; follow = follow; request = request; request_arrival = arrival }))
    (tagged parts.DelayResp (response_found_by facts count slave report.response_tag)))
    (tagged parts.DelayReq (tag_found_by facts count is_request slave report.request_tag)))
    (follow_tagged facts count slave report.follow_tag))
    (tagged parts.Sync (sync_found_by facts count slave report))

-- lines, where the slave learned between two of them when its request departed
abbrev pub stamped_by : Stamps → (number : ℕ) → Report → Found → Result Found Finding
stamped_by stamps number report found =
    if is_stamped_by stamps report.request_tag report.response_tag then Ok found
    else Err (findings.Unstamped (stamp_before stamps report.request_tag number))

-- of a report of a line that counts
abbrev pub placed_by : Facts → Stamps → (count : ℕ) → Report → Fact → Result Found Finding
placed_by facts stamps count report fact =
    if is_of_line fact.line report
    then going_on (stamped_by stamps fact.line report) (tags_found_by facts count (site_of fact.event) report)
    else Err findings.OfOtherLine

-- what is found of them at any line
abbrev pub place_finding_at : Facts → Stamps → (count : ℕ) → Report → Option Fact → Option Finding
place_finding_at facts stamps count report None = Some findings.CantReport
place_finding_at facts stamps count report (Some fact) = result_err (placed_by facts stamps count report fact)

-- at the last of so many lines
abbrev pub place_finding_by : Facts → Stamps → (count : ℕ) → Report → Option Finding
place_finding_by facts stamps count report =
    if count == 0 then None else place_finding_at facts stamps count report (facts (count - 1))
