-- The lines of a report that are placed are those that are judged.
use Rattle.std.proofs.Common.{◌≡◌, ◌∙◌, ℕ, ◌≤◌, Bool, true, false, ◌&&◌, cond, length, Option, Some, None, Ok, Err, Result}
use Rattle.std.proofs.Common.{refl, sym, ap, arith, is_some}
use Rattle.std.specs.Prelude.{◌||◌, nat_lt, ok_or, option_and_then, option_map}
use Rattle.std.specs.Result.{result_ok}
use Rattle.std.proofs.lemmas.Bool.Decides.{nat_tests}
use Rattle.std.proofs.lemmas.Option.{slice_get_past}
use Rattle.slave_port.specs.declared.heard.Report.{Report}
use Rattle.network_model.specs.declared.event.Event.{Event}
use Rattle.network_model.specs.Network.{NodeName}
use Rattle.network_model.specs.Run.{site_of}
use Rattle.network_model.specs.Kinds.{is_at, is_follow, is_request, is_arrival, is_hearing, heard_copy}
use Rattle.trace_model.specs.declared.finding.Finding.{Finding}
use Rattle.trace_model.specs.declared.finding.Finding.TheVariants as findings
use Rattle.trace_model.specs.declared.finding.Lack.{Lack}
use Rattle.trace_model.specs.declared.finding.Lack.TheVariants.{NotBefore, CameToNothing, OtherEvent, CompletedNothing}
use Rattle.trace_model.specs.declared.finding.Part.{Part}
use Rattle.trace_model.specs.declared.finding.Part.TheVariants as parts
use Rattle.trace_model.specs.Finding.{passing, going_on}
use Rattle.trace_model.specs.Sound.{where_passes, below, is_of_line}
use Rattle.exchange_check.specs.declared.facts.Fact.{Fact}
use Rattle.exchange_check.specs.declared.facts.Found.{Found}
use Rattle.exchange_check.specs.declared.kept.Kept.{Kept}
use Rattle.exchange_check.specs.Inner.Kept.{Facts, Stamps}
use Rattle.exchange_check.specs.Inner.Machine.{facts_of, stamps_of}
use Rattle.exchange_check.specs.Inner.Judged.{line_of_by, sender_by, sync_by, follow_by, follows_by, completion_by}
use Rattle.exchange_check.specs.Inner.Judged.{arrival_by, is_stamped_by, found_by}
use Rattle.exchange_check.specs.Inner.PlaceFinding.{line_found_by, tag_found_by, copy_found_by, sender_found_by}
use Rattle.exchange_check.specs.Inner.PlaceFinding.{sync_found_by, follow_sender_by, follow_found_by, completion_found_by}
use Rattle.exchange_check.specs.Inner.PlaceFinding.{response_sender_by, response_found_by, tagged, follow_tagged}
use Rattle.exchange_check.specs.Inner.PlaceFinding.{tags_found_by, stamp_before, placed_by}

there : {X E : Type 0} (o : Option X) (lack : E) → result_ok (ok_or o lack) ≡ o
there None lack = refl
there (Some x) lack = refl

passed : {X E : Type 0} (test : X → Bool) (lack : X → E) (r : Result X E)
    → result_ok (passing test lack r) ≡ where_passes test (result_ok r)
passed test lack (Err other) = refl
passed {X} {E} test lack (Ok x) = by (test x)
  where
    by : (b : Bool) → result_ok (let r : Result X E = cond b (Ok x) (Err (lack x)) in r) ≡ cond b (Some x) None
    by true = refl
    by false = refl

tag : {X : Type 0} (part : Part) (r : Result X Lack) → result_ok (tagged part r) ≡ result_ok r
tag part (Ok x) = refl
tag part (Err lack) = refl

-- the line that made a copy
sent_by : (facts : Facts) (limit : ℕ) (o : Option ℕ)
    → result_ok (copy_found_by facts limit o) ≡ option_and_then (below facts limit) o
sent_by facts limit None = refl
sent_by facts limit (Some copy) = by (nat_lt copy limit)
  where
    by : (b : Bool) → result_ok (cond b (ok_or (facts copy) (CameToNothing copy)) (Err (NotBefore copy)))
        ≡ cond b (facts copy) None
    by true = there (facts copy) (CameToNothing copy)
    by false = refl

pub sender_ok : (facts : Facts) (fact : Fact) → result_ok (sender_found_by facts fact) ≡ sender_by facts fact
sender_ok facts fact = sent_by facts fact.line (heard_copy fact.event)

senders_ok : (facts : Facts) (r : Result Fact Lack)
    → result_ok (going_on (sender_found_by facts) r) ≡ option_and_then (sender_by facts) (result_ok r)
senders_ok facts (Ok fact) = sender_ok facts fact
senders_ok facts (Err lack) = refl

-- the lines that four tags name
chained : (s : Result Fact Finding) (f : Result (Option Fact) Finding) (u r : Result Fact Finding)
    → result_ok (let found : Result Found Finding = going_on (λ sync. going_on (λ follow. going_on (λ request. going_on (λ arrival.
    Ok (record { sync_arrival = sync; follow = follow; request = request; request_arrival = arrival })) r) u) f) s in found)
    ≡ option_and_then (λ sync. option_and_then (λ follow. option_and_then (λ request. option_map (λ arrival.
    record { sync_arrival = sync; follow = follow; request = request; request_arrival = arrival })
    (result_ok r)) (result_ok u)) (result_ok f)) (result_ok s)
chained (Err e) f u r = refl
chained (Ok s) (Err e) u r = refl
chained (Ok s) (Ok f) (Err e) r = refl
chained (Ok s) (Ok f) (Ok u) (Err e) = refl
chained (Ok s) (Ok f) (Ok u) (Ok r) = refl

module _ (facts : Facts) (count : ℕ) (within : (n : ℕ) → nat_lt n count ≡ false → facts n ≡ None) where
  line_ok : (number : ℕ) → result_ok (line_found_by facts count number) ≡ facts number
  line_ok number = by (nat_lt number count) refl
    where
      by : (b : Bool) → nat_lt number count ≡ b
          → result_ok (cond b (ok_or (facts number) (CameToNothing number)) (Err (NotBefore number))) ≡ facts number
      by true h = there (facts number) (CameToNothing number)
      by false h = sym (within number h)

  tag_ok : (kind : Event → Bool) (node : NodeName) (number : ℕ)
      → result_ok (tag_found_by facts count kind node number) ≡ line_of_by facts kind node number
  tag_ok kind node number =
      passed (λ fact. is_at kind node fact.event) (λ fact. OtherEvent number) (line_found_by facts count number)
      ∙ ap (where_passes (λ fact. is_at kind node fact.event)) (line_ok number)

  sync_ok : (slave : NodeName) (report : Report)
      → result_ok (sync_found_by facts count slave report) ≡ sync_by facts slave report
  sync_ok slave report =
      passed (λ fact. is_some report.follow_tag || fact.completes) (λ fact. CompletedNothing report.sync_tag)
      (tag_found_by facts count is_arrival slave report.sync_tag)
      ∙ ap (where_passes (λ fact. is_some report.follow_tag || fact.completes)) (tag_ok is_arrival slave report.sync_tag)

  follow_ok : (slave : NodeName) (hearing : ℕ)
      → result_ok (follow_found_by facts count slave hearing) ≡ follow_by facts slave hearing
  follow_ok slave hearing =
      passed (λ fact. is_follow fact.event) (λ fact. OtherEvent fact.line) (follow_sender_by facts count slave hearing)
      ∙ ap (where_passes (λ fact. is_follow fact.event))
      (senders_ok facts (tag_found_by facts count is_hearing slave hearing)
      ∙ ap (option_and_then (sender_by facts)) (tag_ok is_hearing slave hearing))

  completion_ok : (slave : NodeName) (hearing : ℕ)
      → result_ok (completion_found_by facts count slave hearing) ≡ completion_by facts slave hearing
  completion_ok slave hearing =
      passed (λ fact. fact.completes) (λ fact. CompletedNothing hearing) (tag_found_by facts count is_hearing slave hearing)
      ∙ ap (where_passes (λ fact. fact.completes)) (tag_ok is_hearing slave hearing)

  response_ok : (slave : NodeName) (hearing : ℕ)
      → result_ok (response_found_by facts count slave hearing) ≡ arrival_by facts slave hearing
  response_ok slave hearing =
      passed (λ fact. is_arrival fact.event && fact.made) (λ fact. OtherEvent fact.line)
      (response_sender_by facts count slave hearing)
      ∙ ap (where_passes (λ fact. is_arrival fact.event && fact.made))
      (senders_ok facts (completion_found_by facts count slave hearing)
      ∙ ap (option_and_then (sender_by facts)) (completion_ok slave hearing))

  some_follow : (r : Result Fact Finding)
      → result_ok (let told : Result (Option Fact) Finding = going_on (λ follow. Ok (Some follow)) r in told)
      ≡ option_map Some (result_ok r)
  some_follow (Ok fact) = refl
  some_follow (Err finding) = refl

  follows_ok : (slave : NodeName) (o : Option ℕ)
      → result_ok (follow_tagged facts count slave o) ≡ follows_by facts slave o
  follows_ok slave None = refl
  follows_ok slave (Some hearing) =
      some_follow (tagged parts.FollowUp (follow_found_by facts count slave hearing))
      ∙ ap (λ (o : Option Fact). option_map Some o)
      (tag parts.FollowUp (follow_found_by facts count slave hearing) ∙ follow_ok slave hearing)

  tags_ok : (slave : NodeName) (report : Report)
      → result_ok (tags_found_by facts count slave report)
      ≡ option_and_then (λ sync. option_and_then (λ follow. option_and_then (λ request. option_map (λ arrival.
      let found : Found = record { sync_arrival = sync; follow = follow; request = request; request_arrival = arrival } in found)
      (arrival_by facts slave report.response_tag))
      (line_of_by facts is_request slave report.request_tag))
      (follows_by facts slave report.follow_tag))
      (sync_by facts slave report)
  tags_ok slave report =
      chained (tagged parts.Sync (sync_found_by facts count slave report))
      (follow_tagged facts count slave report.follow_tag)
      (tagged parts.DelayReq (tag_found_by facts count is_request slave report.request_tag))
      (tagged parts.DelayResp (response_found_by facts count slave report.response_tag))
      ∙ (λ i. option_and_then (λ sync. option_and_then (λ follow. option_and_then (λ request. option_map (λ arrival.
      let found : Found = record { sync_arrival = sync; follow = follow; request = request; request_arrival = arrival } in found)
      ((tag parts.DelayResp (response_found_by facts count slave report.response_tag)
      ∙ response_ok slave report.response_tag) i))
      ((tag parts.DelayReq (tag_found_by facts count is_request slave report.request_tag)
      ∙ tag_ok is_request slave report.request_tag) i))
      (follows_ok slave report.follow_tag i))
      ((tag parts.Sync (sync_found_by facts count slave report) ∙ sync_ok slave report) i))

  under : (here stamped : Bool) (unstamped other : Finding) (r : Result Found Finding)
      → result_ok (let found : Result Found Finding = cond here (going_on (λ found. cond stamped (Ok found) (Err unstamped)) r) (Err other) in found)
      ≡ cond (here && stamped) (result_ok r) None
  under false stamped unstamped other r = refl
  under true true unstamped other (Ok found) = refl
  under true true unstamped other (Err finding) = refl
  under true false unstamped other (Ok found) = refl
  under true false unstamped other (Err finding) = refl

  placed_ok : (stamps : Stamps) (report : Report) (fact : Fact)
      → result_ok (placed_by facts stamps count report fact) ≡ found_by facts stamps (site_of fact.event) fact.line report
  placed_ok stamps report fact =
      let here : Bool = is_of_line fact.line report in
      let stamped : Bool = is_stamped_by stamps report.request_tag report.response_tag in
      under here stamped (findings.Unstamped (stamp_before stamps report.request_tag fact.line)) findings.OfOtherLine
      (tags_found_by facts count (site_of fact.event) report)
      ∙ ap (λ (o : Option Found). cond (here && stamped) o None) (tags_ok (site_of fact.event) report)

pub placed_found : (kept : Kept) (report : Report) (fact : Fact)
    → result_ok (placed_by (facts_of kept) (stamps_of kept) (length kept.facts.items) report fact)
    ≡ found_by (facts_of kept) (stamps_of kept) (site_of fact.event) fact.line report
placed_found kept report fact = placed_ok (facts_of kept) (length kept.facts.items) within (stamps_of kept) report fact
  where
    within : (n : ℕ) → nat_lt n (length kept.facts.items) ≡ false → facts_of kept n ≡ None
    within n h =
        let past : length kept.facts.items ≤ n = grind (arith, nat_tests) in
        ap (λ (o : Option (Option Fact)). option_and_then (λ fact. fact) o) (slice_get_past kept.facts.items n past)
