-- What is found of the lines of a report by what is kept, right after its line, is what is found by the lines.
use Rattle.std.proofs.Common.{◌≡◌, ◌∙◌, ℕ, ◌-◌, ◌<◌, Bool, true, false, ◌&&◌, cond, eqb, [], ◌∷◌, length, Option, Some, None}
use Rattle.std.proofs.Common.{Ok, Err, Result, refl, sym, ap, arith, is_some}
use Rattle.std.specs.Prelude.{◌||◌, nat_lt, ok_or, option_map}
use Rattle.std.specs.Option.{option_or, option_map_or}
use Rattle.std.specs.Result.{result_err}
use Rattle.std.proofs.lemmas.Bool.{eq-eqb, lt-ltb, ltb-true}
use Rattle.std.proofs.lemmas.Bool.Decides.{nat_tests}
use Rattle.std.proofs.lemmas.Option.{none-some, same_Some}
use Rattle.slave_port.specs.declared.heard.Report.{Report}
use Rattle.network_model.specs.declared.event.Event.{Event}
use Rattle.network_model.specs.Network.{Network, NodeName}
use Rattle.network_model.specs.Run.{site_of}
use Rattle.network_model.specs.Kinds.{is_at, is_follow, is_request, is_arrival, is_hearing, heard_copy}
use Rattle.trace_model.specs.declared.finding.Finding.{Finding}
use Rattle.trace_model.specs.declared.finding.Finding.TheVariants as findings
use Rattle.trace_model.specs.declared.finding.Lack.{Lack}
use Rattle.trace_model.specs.declared.finding.Lack.TheVariants.{NotBefore, CameToNothing, OtherEvent, CompletedNothing}
use Rattle.trace_model.specs.declared.finding.Part.{Part}
use Rattle.trace_model.specs.declared.finding.Part.TheVariants as parts
use Rattle.trace_model.specs.declared.line.TraceLine.{TraceLine}
use Rattle.trace_model.specs.declared.verdict.Why.TheVariants as whys
use Rattle.trace_model.specs.Line.{Lines, counts, is_made, completes}
use Rattle.trace_model.specs.Record.{LinePlace, line_place, line_number, event_of, line_at, first_stamp, stamps}
use Rattle.trace_model.specs.Sound.{is_of_line, is_stamped_between}
use Rattle.trace_model.specs.Finding.{broken, passing, going_on, line_found, tag_found, copy_found, sender_found, sync_found}
use Rattle.trace_model.specs.Finding.{follow_found, follow_lack, response_found, place_finding}
use Rattle.trace_model.proofs.Lines.{line_at-here}
use Rattle.exchange_check.specs.declared.facts.Fact.{Fact}
use Rattle.exchange_check.specs.declared.kept.Kept.{Kept}
use Rattle.exchange_check.specs.Evidence.{last_finding}
use Rattle.exchange_check.specs.declared.facts.Found.{Found}
use Rattle.exchange_check.specs.Inner.Judged.{is_stamped_by}
use Rattle.exchange_check.specs.Inner.Kept.{Facts, Stamps}
use Rattle.exchange_check.specs.Inner.Machine.{IsKept, machine, facts_of, stamps_of}
use Rattle.exchange_check.specs.Inner.PlaceFinding.{line_found_by, tag_found_by, copy_found_by, sender_found_by, sync_found_by}
use Rattle.exchange_check.specs.Inner.PlaceFinding.{follow_found_by, response_found_by, stamp_before, tagged, follow_tagged}
use Rattle.exchange_check.specs.Inner.PlaceFinding.{placed_by}
use Rattle.exchange_check.specs.Inner.PlaceFinding.{place_finding_at, place_finding_by}
use Rattle.exchange_check.proofs.Inside.{facts-kept, stamps-kept}
use Rattle.exchange_check.proofs.Noted.{stamps_at}
use Rattle.exchange_check.proofs.Told.{fact_of, facts_at}

module _ (network : Network) where
  -- a line that was found, as it is kept
  abbrev kept_found : Result LinePlace Lack → Result Fact Lack
  kept_found (Ok e) = Ok (fact_of network e)
  kept_found (Err lack) = Err lack

  lack_is : (r : Result LinePlace Lack) → result_err (kept_found r) ≡ result_err r
  lack_is (Ok e) = refl
  lack_is (Err lack) = refl

  passing_is : (test : Fact → Bool) (lack : Fact → Lack) (r : Result LinePlace Lack)
      → passing test lack (kept_found r)
      ≡ kept_found (passing (λ e. test (fact_of network e)) (λ e. lack (fact_of network e)) r)
  passing_is test lack (Err other) = refl
  passing_is test lack (Ok e) = by (test (fact_of network e))
    where
      by : (b : Bool) → cond b (Ok (fact_of network e)) (Err (lack (fact_of network e)))
          ≡ kept_found (cond b (Ok e) (Err (lack (fact_of network e))))
      by true = refl
      by false = refl

  module _ (lines : Lines) where
    abbrev facts : Facts
    facts = facts_at network lines

    abbrev count : ℕ
    count = length lines

    there : (o : Option LinePlace) (lack : Lack)
        → ok_or (option_map (fact_of network) o) lack ≡ kept_found (ok_or o lack)
    there None lack = refl
    there (Some e) lack = refl

    line_is : (limit number : ℕ) → line_found_by facts limit number ≡ kept_found (line_found network lines limit number)
    line_is limit number = by (nat_lt number limit)
      where
        by : (b : Bool) → cond b (ok_or (facts number) (CameToNothing number)) (Err (NotBefore number))
            ≡ kept_found (cond b (ok_or (line_at network lines number) (CameToNothing number)) (Err (NotBefore number)))
        by true = there (line_at network lines number) (CameToNothing number)
        by false = refl

    tag_is : (kind : Event → Bool) (node : NodeName) (number : ℕ)
        → tag_found_by facts count kind node number ≡ kept_found (tag_found network lines kind node number)
    tag_is kind node number =
        ap (passing (λ fact. is_at kind node fact.event) (λ fact. OtherEvent number)) (line_is count number)
        ∙ passing_is (λ fact. is_at kind node fact.event) (λ fact. OtherEvent number) (line_found network lines count number)

    copy_is : (hearing : ℕ) (o : Option ℕ)
        → copy_found_by facts hearing o ≡ kept_found (copy_found network lines hearing o)
    copy_is hearing None = refl
    copy_is hearing (Some copy) = line_is hearing copy

    sender_is : (r : Result LinePlace Lack)
        → going_on (sender_found_by facts) (kept_found r) ≡ kept_found (going_on (sender_found network lines) r)
    sender_is (Err lack) = refl
    sender_is (Ok e) = copy_is (line_number e) (heard_copy (event_of e))

    sync_is : (slave : NodeName) (report : Report)
        → sync_found_by facts count slave report ≡ kept_found (sync_found network lines slave report)
    sync_is slave report =
        ap (passing (λ fact. is_some report.follow_tag || fact.completes) (λ fact. CompletedNothing report.sync_tag))
        (tag_is is_arrival slave report.sync_tag)
        ∙ passing_is (λ fact. is_some report.follow_tag || fact.completes) (λ fact. CompletedNothing report.sync_tag)
        (tag_found network lines is_arrival slave report.sync_tag)

    follow_is : (slave : NodeName) (hearing : ℕ)
        → follow_found_by facts count slave hearing ≡ kept_found (follow_found network lines slave hearing)
    follow_is slave hearing =
        ap (λ (r : Result Fact Lack). passing (λ fact. is_follow fact.event) (λ fact. OtherEvent fact.line)
        (going_on (sender_found_by facts) r)) (tag_is is_hearing slave hearing)
        ∙ ap (passing (λ fact. is_follow fact.event) (λ fact. OtherEvent fact.line))
        (sender_is (tag_found network lines is_hearing slave hearing))
        ∙ passing_is (λ fact. is_follow fact.event) (λ fact. OtherEvent fact.line)
        (going_on (sender_found network lines) (tag_found network lines is_hearing slave hearing))

    completion_is : (slave : NodeName) (hearing : ℕ)
        → passing (λ fact. fact.completes) (λ fact. CompletedNothing hearing) (tag_found_by facts count is_hearing slave hearing)
        ≡ kept_found (passing (λ e. completes e.line.out) (λ e. CompletedNothing hearing)
        (tag_found network lines is_hearing slave hearing))
    completion_is slave hearing =
        ap (passing (λ fact. fact.completes) (λ fact. CompletedNothing hearing)) (tag_is is_hearing slave hearing)
        ∙ passing_is (λ fact. fact.completes) (λ fact. CompletedNothing hearing)
        (tag_found network lines is_hearing slave hearing)

    response_is : (slave : NodeName) (hearing : ℕ)
        → response_found_by facts count slave hearing ≡ kept_found (response_found network lines slave hearing)
    response_is slave hearing =
        let completion : Result LinePlace Lack = passing (λ e. completes e.line.out) (λ e. CompletedNothing hearing)
        (tag_found network lines is_hearing slave hearing) in
        ap (λ (r : Result Fact Lack). passing (λ fact. is_arrival fact.event && fact.made) (λ fact. OtherEvent fact.line)
        (going_on (sender_found_by facts) r)) (completion_is slave hearing)
        ∙ ap (passing (λ fact. is_arrival fact.event && fact.made) (λ fact. OtherEvent fact.line)) (sender_is completion)
        ∙ passing_is (λ fact. is_arrival fact.event && fact.made) (λ fact. OtherEvent fact.line)
        (going_on (sender_found network lines) completion)

    -- what tags lack
    sync_lack : (slave : NodeName) (report : Report)
        → result_err (sync_found_by facts count slave report) ≡ result_err (sync_found network lines slave report)
    sync_lack slave report = ap result_err (sync_is slave report) ∙ lack_is (sync_found network lines slave report)

    tagged_lack : {X : Type 0} (part : Part) (r : Result X Lack)
        → result_err (tagged part r) ≡ option_map (findings.WrongTag part) (result_err r)
    tagged_lack part (Ok x) = refl
    tagged_lack part (Err lack) = refl

    some_follow : (r : Result Fact Finding)
        → result_err (let told : Result (Option Fact) Finding = going_on (λ follow. Ok (Some follow)) r in told)
        ≡ result_err r
    some_follow (Ok fact) = refl
    some_follow (Err finding) = refl

    follow_tag_is : (slave : NodeName) (o : Option ℕ)
        → result_err (follow_tagged facts count slave o)
        ≡ option_map (findings.WrongTag parts.FollowUp) (follow_lack network lines slave o)
    follow_tag_is slave None = refl
    follow_tag_is slave (Some hearing) =
        some_follow (tagged parts.FollowUp (follow_found_by facts count slave hearing))
        ∙ tagged_lack parts.FollowUp (follow_found_by facts count slave hearing)
        ∙ ap (option_map (findings.WrongTag parts.FollowUp))
        (ap result_err (follow_is slave hearing) ∙ lack_is (follow_found network lines slave hearing))

    request_lack : (slave : NodeName) (number : ℕ)
        → result_err (tag_found_by facts count is_request slave number)
        ≡ result_err (tag_found network lines is_request slave number)
    request_lack slave number =
        ap result_err (tag_is is_request slave number) ∙ lack_is (tag_found network lines is_request slave number)

    response_lack : (slave : NodeName) (hearing : ℕ)
        → result_err (response_found_by facts count slave hearing)
        ≡ result_err (response_found network lines slave hearing)
    response_lack slave hearing =
        ap result_err (response_is slave hearing) ∙ lack_is (response_found network lines slave hearing)

    -- what is found first of four tags and of a stamp
    chained : (here stamped : Bool) (unstamped other : Finding) (s : Result Fact Finding)
        (f : Result (Option Fact) Finding) (u r : Result Fact Finding)
        → result_err (let found : Result Found Finding = cond here (going_on
        (λ found. cond stamped (Ok found) (Err unstamped)) (going_on (λ sync. going_on (λ follow. going_on (λ request.
        going_on (λ arrival. Ok (record { sync_arrival = sync; follow = follow; request = request; request_arrival = arrival }))
        r) u) f) s)) (Err other) in found)
        ≡ option_or (broken here other) (option_or (result_err s) (option_or (result_err f) (option_or (result_err u)
        (option_or (result_err r) (option_or (broken stamped unstamped) None)))))
    chained false stamped unstamped other s f u r = refl
    chained true stamped unstamped other (Err e) f u r = refl
    chained true stamped unstamped other (Ok s) (Err e) u r = refl
    chained true stamped unstamped other (Ok s) (Ok f) (Err e) r = refl
    chained true stamped unstamped other (Ok s) (Ok f) (Ok u) (Err e) = refl
    chained true true unstamped other (Ok s) (Ok f) (Ok u) (Ok r) = refl
    chained true false unstamped other (Ok s) (Ok f) (Ok u) (Ok r) = refl

    -- what is found of a line's report, where this is found of its stamp
    abbrev found_first : (here : Bool) (slave : NodeName) (report : Report) → Option Finding → Option Finding
    found_first here slave report stamp = option_or (broken here findings.OfOtherLine)
        (option_or (option_map (findings.WrongTag parts.Sync) (result_err (sync_found network lines slave report)))
        (option_or (option_map (findings.WrongTag parts.FollowUp) (follow_lack network lines slave report.follow_tag))
        (option_or
        (option_map (findings.WrongTag parts.DelayReq)
        (result_err (tag_found network lines is_request slave report.request_tag)))
        (option_or
        (option_map (findings.WrongTag parts.DelayResp)
        (result_err (response_found network lines slave report.response_tag))) (option_or stamp None)))))

    placed_is : (stamps : Stamps) (report : Report) (fact : Fact)
        → result_err (placed_by facts stamps count report fact)
        ≡ found_first (is_of_line fact.line report) (site_of fact.event) report
        (broken (is_stamped_by stamps report.request_tag report.response_tag)
        (findings.Unstamped (stamp_before stamps report.request_tag fact.line)))
    placed_is stamps report fact =
        let slave : NodeName = site_of fact.event in
        let stamp : Option Finding = broken (is_stamped_by stamps report.request_tag report.response_tag)
        (findings.Unstamped (stamp_before stamps report.request_tag fact.line)) in
        chained (is_of_line fact.line report) (is_stamped_by stamps report.request_tag report.response_tag)
        (findings.Unstamped (stamp_before stamps report.request_tag fact.line)) findings.OfOtherLine
        (tagged parts.Sync (sync_found_by facts count slave report))
        (follow_tagged facts count slave report.follow_tag)
        (tagged parts.DelayReq (tag_found_by facts count is_request slave report.request_tag))
        (tagged parts.DelayResp (response_found_by facts count slave report.response_tag))
        ∙ (λ i. option_or (broken (is_of_line fact.line report) findings.OfOtherLine)
        (option_or ((tagged_lack parts.Sync (sync_found_by facts count slave report)
        ∙ ap (option_map (findings.WrongTag parts.Sync)) (sync_lack slave report)) i)
        (option_or (follow_tag_is slave report.follow_tag i)
        (option_or ((tagged_lack parts.DelayReq (tag_found_by facts count is_request slave report.request_tag)
        ∙ ap (option_map (findings.WrongTag parts.DelayReq)) (request_lack slave report.request_tag)) i)
        (option_or ((tagged_lack parts.DelayResp (response_found_by facts count slave report.response_tag)
        ∙ ap (option_map (findings.WrongTag parts.DelayResp)) (response_lack slave report.response_tag)) i)
        (option_or stamp None))))))

  -- when the request departed
  stamp_bound : (request : ℕ) (lines : Lines) (n : ℕ) → first_stamp network request lines ≡ Some n → n < length lines
  stamp_bound request [] n h = absurd (none-some n h)
  stamp_bound request (line ∷ earlier) n h =
      by (first_stamp network request earlier) refl (stamps network request line earlier) h (stamp_bound request earlier)
    where
      by : (o : Option ℕ) → first_stamp network request earlier ≡ o → (b : Bool)
          → option_or o (cond b (Some (length earlier)) None) ≡ Some n
          → ((m : ℕ) → first_stamp network request earlier ≡ Some m → m < length earlier) → n < length (line ∷ earlier)
      by (Some m) is b e bound =
          let low : m < length earlier = bound m is in
          omega (arith, low, same_Some m n e)
      by None is true e bound = omega (arith, same_Some (length earlier) n e)
      by None is false e bound = absurd (none-some n e)

  module _ (line : TraceLine) (earlier : Lines) where
    abbrev e : LinePlace
    e = line_place line earlier

    abbrev fed : Lines
    fed = line ∷ earlier

    stamp_is : (request : ℕ) → stamp_before (stamps_at network fed) request (length earlier) ≡ first_stamp network request earlier
    stamp_is request = by (first_stamp network request earlier) refl (stamps network request line earlier)
      where
        test : ℕ → Option ℕ → Option ℕ
        test limit None = None
        test limit (Some stamp) = cond (nat_lt stamp limit) (Some stamp) None

        not_below : (n : ℕ) → nat_lt n n ≡ false
        not_below n = grind (arith, nat_tests)

        by : (o : Option ℕ) → first_stamp network request earlier ≡ o → (b : Bool)
            → test (length earlier) (option_or o (cond b (Some (length earlier)) None)) ≡ o
        by (Some s) is b =
            let low : s < length earlier = stamp_bound request earlier s is in
            λ i. cond (lt-ltb s (length earlier) low i) (Some s) None
        by None is true = λ i. cond (not_below (length earlier) i) (Some (length earlier)) None
        by None is false = refl

    -- of a Delay_Resp that was heard by the line itself at the latest
    stamped_is : (request hearing : ℕ) → hearing < length fed
        → is_stamped_by (stamps_at network fed) request hearing ≡ is_stamped_between network earlier request hearing
    stamped_is request hearing within =
        ap (λ (learned : Bool). nat_lt request hearing && learned)
        (by (first_stamp network request earlier) (stamps network request line earlier))
      where
        not_yet : nat_lt (length earlier) hearing ≡ false
        not_yet = grind (arith, nat_tests, within)

        by : (o : Option ℕ) (b : Bool)
            → option_map_or (λ stamp. nat_lt stamp hearing) (option_or o (cond b (Some (length earlier)) None)) false
            ≡ option_map_or (λ stamp. nat_lt stamp hearing) o false
        by (Some s) b = refl
        by None true = not_yet
        by None false = refl

    stamp_found_is : (report : Report) → report.response_tag < length fed
        → broken (is_stamped_by (stamps_at network fed) report.request_tag report.response_tag)
        (findings.Unstamped (stamp_before (stamps_at network fed) report.request_tag (length earlier)))
        ≡ broken (is_stamped_between network earlier report.request_tag report.response_tag)
        (findings.Unstamped (first_stamp network report.request_tag earlier))
    stamp_found_is report within = λ i. broken
        (stamped_is report.request_tag report.response_tag within i)
        (findings.Unstamped (stamp_is report.request_tag i))

    module _ (report : Report) where
      abbrev slave : NodeName
      slave = site_of line.event

      -- what the tag of the Delay_Resp lacks, by whether it is below the number of lines
      abbrev response_lack_if : (b : Bool) → Option Finding
      response_lack_if b = option_map (findings.WrongTag parts.DelayResp) (result_err (passing
          (λ e. is_arrival (event_of e) && is_made e.line.out)
          (λ e. OtherEvent (line_number e))
          (going_on (sender_found network fed) (passing
          (λ e. completes e.line.out)
          (λ e. CompletedNothing report.response_tag)
          (passing (λ e. is_at is_hearing slave (event_of e)) (λ e. OtherEvent report.response_tag)
          (cond b (ok_or (line_at network fed report.response_tag) (CameToNothing report.response_tag))
          (Err (NotBefore report.response_tag))))))))

      -- what is found of the stamp counts only where the tag of the Delay_Resp isn't wrong
      stamp_counts : (b : Bool) → nat_lt report.response_tag (length fed) ≡ b
          → option_or (response_lack_if b)
          (option_or (broken (is_stamped_by (stamps_at network fed) report.request_tag report.response_tag)
          (findings.Unstamped (stamp_before (stamps_at network fed) report.request_tag (length earlier)))) None)
          ≡ option_or (response_lack_if b)
          (option_or (broken (is_stamped_between network earlier report.request_tag report.response_tag)
          (findings.Unstamped (first_stamp network report.request_tag earlier))) None)
      stamp_counts true h = ap (λ (o : Option Finding). option_or (response_lack_if true) (option_or o None))
          (stamp_found_is report (ltb-true report.response_tag (length fed) h))
      stamp_counts false h = refl

      abbrev stamp : Option Finding
      stamp = broken (is_stamped_between network earlier report.request_tag report.response_tag)
          (findings.Unstamped (first_stamp network report.request_tag earlier))

      line_found_is : counts network line ≡ true
          → result_err (placed_by (facts_at network fed) (stamps_at network fed) (length fed) report (fact_of network e))
          ≡ place_finding network slave e report
      line_found_is counted =
          placed_is fed (stamps_at network fed) report (fact_of network e)
          ∙ (λ i. option_or (broken (is_of_line (length earlier) report) findings.OfOtherLine)
          (option_or (option_map (findings.WrongTag parts.Sync) (result_err (sync_found network fed slave report)))
          (option_or (option_map (findings.WrongTag parts.FollowUp) (follow_lack network fed slave report.follow_tag))
          (option_or
          (option_map (findings.WrongTag parts.DelayReq)
          (result_err (tag_found network fed is_request slave report.request_tag)))
          (stamp_counts (nat_lt report.response_tag (length fed)) refl i)))))
          ∙ sym (λ i. option_or (broken (counted i) findings.CantReport)
          (found_first fed (is_of_line (length earlier) report) slave report stamp))

      at_line : (b : Bool) → counts network line ≡ b
          → place_finding_at (facts_at network fed) (stamps_at network fed) (length fed) report (facts_at network fed (length earlier))
          ≡ place_finding network slave e report
      at_line true counted =
          ap (λ (o : Option LinePlace). place_finding_at (facts_at network fed) (stamps_at network fed) (length fed) report
          (option_map (fact_of network) o)) (line_at-here network line earlier counted)
          ∙ line_found_is counted
      at_line false counted =
          (λ i. place_finding_at (facts_at network fed) (stamps_at network fed) (length fed) report
          (option_map (fact_of network) (cond (eq-eqb (length earlier) (length earlier) refl i)
          (cond (counted i) (Some e) None) (line_at network earlier (length earlier)))))
          ∙ sym (λ i. option_or (broken (counted i) findings.CantReport)
          (found_first fed (is_of_line (length earlier) report) slave report stamp))

module _ (network : Network) (report : Report) where
  place_at : (lines : Lines) → place_finding_by (facts_at network lines) (stamps_at network lines) (length lines) report
      ≡ last_finding network lines report whys.NoSuchLine
  place_at [] = refl
  place_at (line ∷ earlier) =
      let some : eqb (length (line ∷ earlier)) 0 ≡ false = grind (arith, nat_tests) in
      let last : length (line ∷ earlier) - 1 ≡ length earlier = omega arith in
      (λ i. cond (some i) None (place_finding_at (facts_at network (line ∷ earlier)) (stamps_at network (line ∷ earlier))
      (length (line ∷ earlier)) report (facts_at network (line ∷ earlier) (last i))))
      ∙ at_line network line earlier report (counts network line) refl

  module _ (fed : Lines) (kept : Kept) (h : IsKept network kept (length fed) (machine network fed)) where
    pub place-told : place_finding_by (facts_of kept) (stamps_of kept) (length kept.facts.items) report
        ≡ last_finding network fed report whys.NoSuchLine
    place-told =
        (λ i. place_finding_by (facts-kept network fed kept h i) (stamps-kept network fed kept h i) (h.count_is i) report)
        ∙ place_at fed
