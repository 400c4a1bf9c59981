-- Lines that tell a run are accepted: each report line has its exchange, and so is sound.
use Rattle.std.proofs.Common.{◌≡◌, ◌∙◌, ℕ, ◌+◌, ◌<◌, ◌≤◌, Bool, true, false, cond, [], ◌∷◌, ◌++◌, Option, Some, None}
use Rattle.std.proofs.Common.{Ok, refl, sym, ap, subst, inl, inr, arith, option_map, option_and_then, if◌then◌else◌}
use Rattle.std.specs.Prelude.{◌==◌, ◌&&◌, ◌||◌, ◌⊎◌, is_some, nat_lt, IfSome}
use Rattle.std.specs.Option.{option_map_or}
use Rattle.std.specs.Ordering.{int_eq}
use Rattle.std.proofs.lemmas.Bool.{eq-eqb, lt-ltb}
use Rattle.std.proofs.lemmas.Bool.Decides.{Decides-int_eq}
use Rattle.std.proofs.lemmas.List.Sums.{sum_by-cons}
use Rattle.ptp_units.specs.Exchange.{offset2, path2}
use Rattle.event_codec.specs.Packet.{Contents}
use Rattle.slave_port.specs.declared.heard.Heard.{Heard}
use Rattle.slave_port.specs.declared.heard.Heard.TheVariants as answers
use Rattle.slave_port.specs.declared.heard.Report.{Report}
use Rattle.network_model.specs.declared.event.Event.{Event}
use Rattle.network_model.specs.declared.stepped.Outcome.{Outcome}
use Rattle.network_model.specs.declared.stepped.Outcome.TheVariants as outcomes
use Rattle.network_model.specs.Network.{Network, NodeName, PortSetup, is_named}
use Rattle.network_model.specs.Run.{Run, Place, place, place_at, tag_of, until, site_of, IsIn, true_moment}
use Rattle.network_model.specs.Kinds.{is_at, draws_sync, is_request, is_set_master, named_master, heard_copy}
use Rattle.network_model.specs.Truth.{copy_of, master_at, slave_at}
use Rattle.network_model.specs.Outcome.{outcome_of, IsRun}
use Rattle.network_model.specs.Premises.{Premise, exact_limits, IsAcceptedRun, IsFreshAndTicked, IsWithinTurn}
use Rattle.network_model.specs.Reported.{Reports}
use Rattle.network_model.specs.Exact.{OfPresentMaster, AreLater, IsOfOneSync, IsOfOneRequest, IsMeasurement}
use Rattle.network_model.specs.Evidence.{HasEvidence, ShareDomain}
use Rattle.network_model.proofs.Places.{IsIn-place_at, IsIn-within, tag_of-place_at}
use Rattle.network_model.proofs.Sites.{named-self, at_kind, at_site}
use Rattle.network_model.proofs.Journeys.{IsIn-origin}
use Rattle.network_model.proofs.Readings.{sync_timed, request_timed}
use Rattle.network_model.proofs.Reach.{last_set_master-later}
use Rattle.network_model.proofs.Pairing.{fresh_ticked_shorter, within_turn_shorter}
use Rattle.network_model.proofs.Reports.{report_event, each_of_one_sync, each_of_one_request}
use Rattle.network_model.proofs.Reports.{each_of_one_sync-one_turn, each_of_one_request-one_turn}
use Rattle.network_model.proofs.Twice.{each_twice}
use Rattle.network_model.proofs.TrueTime.{origin_drawn}
use Rattle.network_model.proofs.Evidence.{IsShownOf, each_has_evidence, shown_of}
use Rattle.trace_model.specs.declared.line.TraceLine.{TraceLine}
use Rattle.trace_model.specs.declared.line.TraceOut.{TraceOut}
use Rattle.trace_model.specs.declared.line.TraceOut.TheVariants as outs
use Rattle.trace_model.specs.Line.{Lines, counts}
use Rattle.trace_model.specs.Record.{LinePlace, event_of, site, line_number, first_stamp}
use Rattle.trace_model.specs.Sound.{Exchange, HasExchange, Sound, lines_to, sync_line, follow_lines, line_of}
use Rattle.trace_model.specs.Sound.{arrival_line, is_of_line, is_report_in_place, exchange_of, are_later}
use Rattle.trace_model.specs.Sound.{is_present_master, is_domain, is_of_master, bracket}
use Rattle.trace_model.specs.Verdict.{report_in}
use Rattle.trace_model.specs.Soundness.{AllSound, report_count}
use Rattle.trace_model.specs.Told.{TellsMade, TellsOutcome, TellsRun, heard_out}
use Rattle.trace_model.specs.Faithful.{took_effect, TellsPlace}
use Rattle.trace_model.specs.Complete.{EachReportHasExchange, is_report, answers_report, reports_in}
use Rattle.trace_model.specs.Complete.{MissesNothing, Complete, CompleteWithinOneTurn}
use Rattle.trace_model.proofs.Soundness.{verdicts_tell_soundness}
use Rattle.trace_model.proofs.Certain.{set_master_certain}
use Rattle.trace_model.proofs.Found.{same_event, same_number, line_counts}
use Rattle.trace_model.proofs.Last.{last_at, last_at-set_master, last_told}
use Rattle.trace_model.proofs.MessagesAfter.{accepted_told}
use Rattle.trace_model.proofs.OctetsOfExchanges.{each_exchange_is_written}
use Rattle.trace_model.proofs.Exchanges.{sync_found, follow_found, request_found, answer_found, stamp_found}
use Rattle.trace_model.proofs.Measured.{before_it, followed, bracket_told, fits_told}

-- one of three tests
first_of : (a b c : Bool) → a ≡ true → (a || b || c) ≡ true
first_of a b c is = λ i. is i || b || c

second_of : (a b c : Bool) → b ≡ true → (a || b || c) ≡ true
second_of true b c is = refl
second_of false b c is = λ i. is i || c

third_of : (a b c : Bool) → c ≡ true → (a || b || c) ≡ true
third_of true b c is = refl
third_of false true c is = refl
third_of false false c is = is

-- a report is of its line
of_line : (number tag : ℕ) (report : Report) → number ≡ tag
    → (report.sync_tag ≡ tag) ⊎ ((report.follow_tag ≡ Some tag) ⊎ (report.response_tag ≡ tag))
    → is_of_line number report ≡ true
of_line number tag report same (inl e) =
    first_of (report.sync_tag == number) (option_map_or (λ (hearing : ℕ). hearing == number) report.follow_tag false)
    (report.response_tag == number)
    (eq-eqb report.sync_tag number (e ∙ sym same))
of_line number tag report same (inr (inl e)) =
    second_of (report.sync_tag == number) (option_map_or (λ (hearing : ℕ). hearing == number) report.follow_tag false)
    (report.response_tag == number)
    (ap (λ (o : Option ℕ). option_map_or (λ (hearing : ℕ). hearing == number) o false) e
    ∙ eq-eqb tag number (sym same))
of_line number tag report same (inr (inr e)) =
    third_of (report.sync_tag == number) (option_map_or (λ (hearing : ℕ). hearing == number) report.follow_tag false)
    (report.response_tag == number)
    (eq-eqb report.response_tag number (e ∙ sym same))

-- tags that are later
later_than : (number : ℕ) (set : Place) (report : Report) → number ≡ tag_of set → AreLater set report
    → are_later number report ≡ true
later_than number set report same later =
    let sync : nat_lt number report.sync_tag ≡ true =
    lt-ltb number report.sync_tag (subst (λ (n : ℕ). n < report.sync_tag) (sym same) later.sync) in
    let request : nat_lt number report.request_tag ≡ true =
    lt-ltb number report.request_tag (subst (λ (n : ℕ). n < report.request_tag) (sym same) later.request) in
    let response : nat_lt number report.response_tag ≡ true =
    lt-ltb number report.response_tag (subst (λ (n : ℕ). n < report.response_tag) (sym same) later.response) in
    let follow = follow_later report.follow_tag later.follow in
    λ i. sync i && follow i && request i && response i
  where
    follow_later : (follow : Option ℕ) → IfSome follow (λ tag. tag_of set < tag)
        → option_map_or (λ (hearing : ℕ). nat_lt number hearing) follow true ≡ true
    follow_later None later = refl
    follow_later (Some tag) later = lt-ltb number tag (subst (λ (n : ℕ). n < tag) (sym same) later)

-- two ports of one domain
one_domain : (network : Network) (slave master : NodeName) → ShareDomain network slave master
    → is_domain (slave_at network slave) (master_at network master) ≡ true
one_domain network slave master shared =
    ap (λ (o : Option PortSetup). is_domain o (master_at network master)) shared.slave_port
    ∙ ap (is_domain (Some shared.own)) shared.master_port
    ∙ eq-eqb shared.own.config.domain shared.other.config.domain shared.domain

-- the lines of an exchange
abbrev whole : Option LinePlace → Option (Option LinePlace) → Option LinePlace → Option LinePlace → Option Exchange
whole s f r a =
    option_and_then (λ sync. option_and_then (λ follow. option_and_then (λ request.
    option_map (λ arrival. record { sync_arrival = sync; follow = follow; request = request; request_arrival = arrival }) a) r) f) s

module _ (network : Network) (answered : Place) (e : LinePlace) (report : Report)
    (tells : TellsPlace network answered e) (reports : Reports network answered report)
    (measured : IsMeasurement (until answered) (site_of answered.event) report)
    (evidence : HasEvidence network answered (site_of answered.event) report)
    (shown : IsShownOf network (until answered) (site_of answered.event) report measured) where
  abbrev slave : NodeName
  slave = site_of answered.event

  abbrev run : Run
  run = until answered

  told : TellsRun network run (lines_to e)
  told = (tells.told, tells.before)

  accepted : IsRun network run
  accepted = accepted_told network run (lines_to e) told

  number : line_number e ≡ tag_of answered
  number = same_number network answered e tells

  here : site e ≡ slave
  here = ap site_of (same_event network answered e tells)

  -- the slave's present master, named before the report
  present : (master : NodeName) → OfPresentMaster run slave master report
      → is_present_master network slave master e report ≡ true
  present master of =
      let unset : is_at is_set_master slave answered.event ≡ false =
      ap (λ (b : Bool). b && is_named (site_of answered.event) slave)
      (report_event network answered report reports).1 in
      let last : last_at is_set_master slave answered.earlier ≡ Some of.set =
      last_at-set_master slave answered.earlier
      ∙ sym (last_set_master-later slave answered.event answered.earlier unset) ∙ of.last in
      let found = last_told network is_set_master set_master_certain slave answered.earlier e.earlier of.set
      tells.before last in
      let named : named_master (event_of found.e) ≡ Some master =
      ap named_master (same_event network of.set found.e found.tells) ∙ of.named in
      let is : is_named master master ≡ true = named-self master in
      let later = later_than (line_number found.e) of.set report
      (same_number network of.set found.e found.tells) of.later in
      ap (λ (o : Option LinePlace). option_map_or
      (λ (set : LinePlace). option_map_or (λ (name : NodeName). is_named name master)
      (named_master (event_of set)) false && are_later (line_number set) report) o false) found.there
      ∙ ap (λ (o : Option NodeName). option_map_or (λ (name : NodeName). is_named name master) o false
      && are_later (line_number found.e) report) named
      ∙ (λ i. is i && later i)

  -- both messages are of one master
  one_master : measured.one_request.master ≡ measured.one_sync.master
  one_master =
      let sets : Some measured.one_request.present.set ≡ Some measured.one_sync.present.set =
      sym measured.one_request.present.last ∙ measured.one_sync.present.last in
      let one : measured.one_request.present.set ≡ measured.one_sync.present.set = cc in
      let names : Some measured.one_request.master ≡ Some measured.one_sync.master =
      sym measured.one_request.present.named ∙ ap (λ (p : Place). named_master p.event) one
      ∙ measured.one_sync.present.named in
      cc

  sync_drawn : is_at draws_sync measured.one_sync.master measured.one_sync.journey.origin.event ≡ true
  sync_drawn = origin_drawn run slave measured.one_sync.master report.follow_tag measured.one_sync.journey.origin
      measured.one_sync.sync.departure

  measured_exchange : HasExchange network e report
  measured_exchange =
      let os = measured.one_sync in
      let or = measured.one_request in
      let sync_in : IsIn run os.arrival = IsIn-place_at run report.sync_tag os.arrival os.sync.arrives.there in
      let arrival_in : IsIn run or.arrival = or.request.arrives.there in
      let sync = sync_found network run
      (lines_to e) told slave report os.arrival os.sync.arrives.copy os.sync.arrives.moment os.sync.arrives.there
      os.sync.arrives.event evidence.sync_used in
      let follow = follow_found network run
      (lines_to e) told slave os.master report.follow_tag os.journey.origin os.sync.departure
      evidence.follow_used in
      let request = request_found network run
      (lines_to e) told slave report.request_tag or.journey.origin or.request.requested or.request.drawn in
      let answer = answer_found network run
      (lines_to e) told slave or.master report.response_tag or.arrival or.request.arrives.copy
      or.request.arrives.moment or.request.hears or.request.arrives.event
      evidence.response_completes in
      let counted : counts network e.line ≡ true =
      line_counts network answered.event answered.earlier e.line tells.told (ap took_effect reports) in
      let of_its_line = of_line (line_number e) (tag_of answered) report number evidence.order.heard_now in
      let stamped_in = before_it answered evidence.stamped.stamped evidence.stamped.there
      (stamped_before (tag_of evidence.stamped.stamped) report.response_tag
      (tag_of answered) evidence.stamped.before_response evidence.order.response) in
      let requested_in = before_it answered or.journey.origin
      (IsIn-place_at run report.request_tag or.journey.origin or.request.requested)
      (requested_before (tag_of or.journey.origin) report.request_tag report.response_tag (tag_of answered)
      (tag_of-place_at run report.request_tag or.journey.origin or.request.requested) evidence.order.request
      evidence.order.response) in
      let requested : place_at answered.earlier report.request_tag ≡ Some or.journey.origin =
      subst (λ (t : ℕ). place_at answered.earlier t ≡ Some or.journey.origin)
      (tag_of-place_at run report.request_tag or.journey.origin or.request.requested) requested_in in
      let stamp = stamp_found network answered.earlier e.earlier tells.before slave report.request_tag
      or.journey.origin evidence.stamped.stamped stamped_in evidence.stamped.event
      evidence.stamped.done requested evidence.stamped.after_request or.request.drawn evidence.stamped.no_other in
      let between : nat_lt report.request_tag report.response_tag ≡ true =
      lt-ltb report.request_tag report.response_tag evidence.order.request in
      let first : option_map_or (λ (stamp : ℕ). nat_lt stamp report.response_tag)
      (first_stamp network report.request_tag e.earlier) false ≡ true =
      ap (λ (o : Option ℕ). option_map_or (λ (stamp : ℕ). nat_lt stamp report.response_tag) o false) stamp.1
      ∙ lt-ltb stamp.0 report.response_tag
      (first_before stamp.0 (tag_of evidence.stamped.stamped) report.response_tag stamp.2
      evidence.stamped.before_response) in
      let in_place : is_report_in_place network e report ≡ true =
      λ i. counted i && of_its_line i && (between i && first i) in
      let sync_kind = at_kind draws_sync os.master os.journey.origin.event sync_drawn in
      let request_kind = at_kind is_request slave or.journey.origin.event or.request.drawn in
      let sync_timed_at : is_some (true_moment os.arrival.event) ≡ true =
      ap (λ (v : Event). is_some (true_moment v)) os.sync.arrives.event in
      let arrival_timed : is_some (true_moment or.arrival.event) ≡ true =
      ap (λ (v : Event). is_some (true_moment v)) or.request.arrives.event in
      let sync_path = followed network answered e tells draws_sync os.arrival sync.e os.journey os.sync.arrives.copy
      sync.tells sync_in (ap heard_copy os.sync.arrives.event) sync_timed_at
      os.sync.arrives.journey_is sync_kind (sync_timed os.journey.origin.event sync_kind) in
      let request_path = followed network answered e tells is_request or.arrival answer.e or.journey
      or.request.arrives.copy answer.tells arrival_in (ap heard_copy or.request.arrives.event)
      arrival_timed or.request.arrives.journey_is request_kind (request_timed or.journey.origin.event request_kind) in
      let sync_origin_in = IsIn-within run os.arrival os.journey.origin sync_in
      (IsIn-origin os.arrival.earlier os.sync.arrives.copy os.journey os.sync.arrives.journey_is) in
      let request_origin_in = IsIn-place_at run report.request_tag or.journey.origin or.request.requested in
      let x : Exchange = record { sync_arrival = sync.e; follow = follow.found; request = request.e; request_arrival = answer.e } in
      let lines : exchange_of network slave e report ≡ Some x =
      ap (λ (b : Bool). if b then whole (sync_line network (lines_to e) slave report)
      (follow_lines network (lines_to e) slave report.follow_tag)
      (line_of network (lines_to e) is_request slave report.request_tag)
      (arrival_line network (lines_to e) slave report.response_tag) else None) in_place
      ∙ (λ i. whole (sync.there i) (follow.there i) (request.there i) (answer.there i)) in
      let site_sync : site sync_path.by_lines.origin ≡ os.master =
      ap site_of (same_event network os.journey.origin sync_path.by_lines.origin sync_path.tells.origin)
      ∙ at_site draws_sync os.master os.journey.origin.event sync_drawn in
      let site_arrival : site answer.e ≡ os.master =
      ap site_of (same_event network or.arrival answer.e answer.tells ∙ or.request.arrives.event) ∙ one_master in
      let of_present : is_present_master network slave (site sync_path.by_lines.origin) e report ≡ true =
      ap (λ (m : NodeName). is_present_master network slave m e report) site_sync ∙ present os.master os.present in
      let named : is_named (site answer.e) (site sync_path.by_lines.origin) ≡ true =
      ap (λ (m : NodeName). is_named m (site sync_path.by_lines.origin)) site_arrival
      ∙ ap (is_named os.master) site_sync ∙ named-self os.master in
      let domain : is_domain (slave_at network slave) (master_at network (site sync_path.by_lines.origin)) ≡ true =
      ap (λ (m : NodeName). is_domain (slave_at network slave) (master_at network m)) site_sync
      ∙ one_domain network slave os.master shown.domain in
      let of_master : is_of_master network slave e report x sync_path.by_lines ≡ true =
      λ i. of_present i && named i && domain i in
      let followed_by = follow.followed sync_path.by_lines.origin sync_path.tells.origin in
      let own : (line_number request_path.by_lines.origin == line_number request.e) ≡ true =
      eq-eqb (line_number request_path.by_lines.origin) (line_number request.e)
      (same_number network or.journey.origin request_path.by_lines.origin request_path.tells.origin
      ∙ sym (same_number network or.journey.origin request.e request.tells)) in
      let a = bracket_told network run draws_sync e os.arrival sync.e os.journey measured.exact.a accepted sync_in
      sync_timed_at sync_origin_in (sync_timed os.journey.origin.event sync_kind)
      measured.exact.of_sync sync_path in
      let b = bracket_told network run is_request e or.arrival answer.e or.journey measured.exact.b accepted
      arrival_in arrival_timed request_origin_in (request_timed or.journey.origin.event request_kind)
      measured.exact.of_request request_path in
      let offset : int_eq report.offset2
      (offset2 (bracket sync.e sync_path.by_lines) (bracket answer.e request_path.by_lines)) ≡ true =
      (Decides-int_eq report.offset2
      (offset2 (bracket sync.e sync_path.by_lines) (bracket answer.e request_path.by_lines))).1
      (measured.exact.offset ∙ (λ i. offset2 (a i) (b i))) in
      let path : int_eq report.path2
      (path2 (bracket sync.e sync_path.by_lines) (bracket answer.e request_path.by_lines)) ≡ true =
      (Decides-int_eq report.path2
      (path2 (bracket sync.e sync_path.by_lines) (bracket answer.e request_path.by_lines))).1
      (measured.exact.path ∙ (λ i. path2 (a i) (b i))) in
      record {
        x = x;
        sync = sync_path.by_lines;
        request = request_path.by_lines;
        lines = subst (λ (name : NodeName). exchange_of network name e report ≡ Some x) (sym here) lines;
        sync_unbroken = sync_path.there;
        request_unbroken = request_path.there;
        paired = λ i. followed_by i && own i;
        of_master = subst (λ (name : NodeName). is_of_master network name e report x sync_path.by_lines ≡ true)
            (sym here) of_master;
        readings = λ i. sync_path.arrival_right i && sync_path.journey_right i && request_path.arrival_right i
            && request_path.journey_right i;
        sync_fits = fits_told network draws_sync e os.arrival sync.e os.journey shown.sync_small sync_path;
        request_fits = fits_told network is_request e or.arrival answer.e or.journey shown.request_small request_path;
        results = λ i. offset i && path i;
      }
    where
      stamped_before : (stamp response now : ℕ) → stamp < response → response ≤ now → stamp < now
      stamped_before stamp response now a b = omega arith

      requested_before : (origin request response now : ℕ) → origin ≡ request → request < response → response ≤ now
          → origin < now
      requested_before origin request response now a b c = omega arith

      first_before : (first stamp response : ℕ) → first ≤ stamp → stamp < response → first < response
      first_before first stamp response a b = omega arith

-- what a line with a report tells
report_told : (copy : Option Contents) (outcome : Outcome) (out : TraceOut) (report : Report)
    → TellsOutcome copy outcome out → report_in out ≡ Some report
    → outcome ≡ outcomes.Heard (answers.Report report)
report_told copy outcomes.Done out report told is = let none : None ≡ Some report = sym (ap report_in told) ∙ is in cc
report_told copy outcomes.Made out report told is = by out told is
  where
    by : (out : TraceOut) → TellsMade copy out → report_in out ≡ Some report
        → outcomes.Made ≡ outcomes.Heard (answers.Report report)
    by outs.Done told is = absurd told
    by (outs.Made octets) told is = cc
    by outs.Entered told is = absurd told
    by outs.Held told is = absurd told
    by outs.Completed told is = absurd told
    by (outs.Report other) told is = absurd told
    by (outs.Ignored code) told is = absurd told
    by (outs.Refused code) told is = absurd told
report_told copy outcomes.Entered out report told is =
    let none : None ≡ Some report = sym (ap report_in told) ∙ is in cc
report_told copy (outcomes.Heard answers.Held) out report told is =
    let none : None ≡ Some report = sym (ap report_in told) ∙ is in cc
report_told copy (outcomes.Heard answers.Completed) out report told is =
    let none : None ≡ Some report = sym (ap report_in told) ∙ is in cc
report_told copy (outcomes.Heard (answers.Report other)) out report told is =
    let some : Some other ≡ Some report = sym (ap report_in told) ∙ is in
    let same : other ≡ report = cc in ap (λ (r : Report). outcomes.Heard (answers.Report r)) same
report_told copy (outcomes.Heard (answers.Ignored reason)) out report told is =
    let none : None ≡ Some report = sym (ap report_in told) ∙ is in cc
report_told copy (outcomes.Refused code) out report told is =
    let none : None ≡ Some report = sym (ap report_in told) ∙ is in cc

-- each report that is of one Sync and of one Delay_Req
exchange_from : (network : Network) (answered : Place) (e : LinePlace) (report : Report)
    → IsAcceptedRun network (until answered) → TellsPlace network answered e
    → Reports network answered report → IsOfOneSync (until answered) (site_of answered.event) report
    → IsOfOneRequest (until answered) (site_of answered.event) report
    → HasExchange network e report
exchange_from network answered e report premise tells reports one_sync one_request =
    let measured : IsMeasurement (until answered) (site_of answered.event) report =
    record {
      one_sync = one_sync;
      one_request =
          one_request;
      exact = each_twice network answered report premise reports one_sync one_request;
    } in
    let evidence = each_has_evidence network answered report premise reports in
    measured_exchange network answered e report tells reports measured evidence
    (shown_of network (until answered) (site_of answered.event) report evidence.sync evidence.request measured)

fresh_exchange : EachReportHasExchange (IsFreshAndTicked exact_limits)
fresh_exchange network answered e report premise tells reports =
    exchange_from network answered e report
    (record { apart = premise.apart; accepted = premise.accepted }) tells reports
    (each_of_one_sync network answered report premise reports)
    (each_of_one_request network answered report premise reports)

turn_exchange : EachReportHasExchange IsWithinTurn
turn_exchange network answered e report premise tells reports =
    exchange_from network answered e report
    (record { apart = premise.apart; accepted = premise.accepted }) tells reports
    (each_of_one_sync-one_turn network answered report premise reports)
    (each_of_one_request-one_turn network answered report premise reports)

module _ (premise : Premise)
    (shorter : (network : Network) (event : Event) (earlier : Run) → premise network (event ∷ earlier)
    → premise network earlier) (each : EachReportHasExchange premise) where
  -- a report line is sound
  sound_line : (network : Network) (event : Event) (earlier : Run) (e : LinePlace) (report : Report)
      → premise network (event ∷ earlier)
      → TellsPlace network (place event earlier) e → report_in e.line.out ≡ Some report → Sound network e report
  sound_line network event earlier e report holds tells is =
      let stepped = tells.told.stepped in
      let answered = report_told (copy_of network (event ∷ earlier) stepped.tag) stepped.outcome e.line.out report
      tells.told.told.outcome is in
      let reports : Reports network (place event earlier) report = tells.told.answered.outcome ∙ ap Ok answered in
      let has = each network (place event earlier) e report holds tells reports in
      record { exchange = has; octets = each_exchange_is_written network (place event earlier) e report tells has }

  -- all report lines are
  sound_behind : (network : Network) (run : Run) (later : Lines) (e : LinePlace) (report : Report)
      → premise network run
      → TellsRun network run (later ++ e.line ∷ e.earlier) → report_in e.line.out ≡ Some report
      → Sound network e report
  sound_behind network [] [] e report holds tells is = absurd tells
  sound_behind network [] (line ∷ later) e report holds tells is = absurd tells
  sound_behind network (event ∷ earlier) [] e report holds tells is =
      sound_line network event earlier e report holds (record { told = tells.0; before = tells.1 }) is
  sound_behind network (event ∷ earlier) (line ∷ later) e report holds tells is =
      sound_behind network earlier later e report (shorter network event earlier holds) tells.1 is

  all_sound : (network : Network) (run : Run) (lines : Lines) → premise network run → TellsRun network run lines
      → AllSound network lines
  all_sound network run lines holds tells e report line =
      sound_behind network run line.later e report holds (subst (TellsRun network run) line.there tells) line.reports

-- the reports of a run are those of its lines
heard_reports : (answer : Heard) → is_some (report_in (heard_out answer)) ≡ is_report answer
heard_reports answers.Held = refl
heard_reports _ = refl

reports_alike : (copy : Option Contents) (outcome : Outcome) (out : TraceOut) → TellsOutcome copy outcome out
    → is_some (report_in out) ≡ answers_report (Ok outcome)
reports_alike copy outcomes.Done out told = ap (λ (o : TraceOut). is_some (report_in o)) told
reports_alike copy outcomes.Made out told = by out told
  where
    by : (out : TraceOut) → TellsMade copy out → is_some (report_in out) ≡ false
    by outs.Done told = absurd told
    by (outs.Made octets) told = refl
    by outs.Entered told = absurd told
    by outs.Held told = absurd told
    by outs.Completed told = absurd told
    by (outs.Report other) told = absurd told
    by (outs.Ignored code) told = absurd told
    by (outs.Refused code) told = absurd told
reports_alike copy outcomes.Entered out told = ap (λ (o : TraceOut). is_some (report_in o)) told
reports_alike copy (outcomes.Heard answer) out told =
    ap (λ (o : TraceOut). is_some (report_in o)) told ∙ heard_reports answer
reports_alike copy (outcomes.Refused code) out told = ap (λ (o : TraceOut). is_some (report_in o)) told

counted_alike : (network : Network) (run : Run) (lines : Lines) → TellsRun network run lines
    → reports_in network run ≡ report_count lines
counted_alike network [] [] told = refl
counted_alike network [] (line ∷ lines) told = absurd told
counted_alike network (event ∷ earlier) [] told = absurd told
counted_alike network (event ∷ earlier) (line ∷ lines) told =
    let same : is_some (report_in line.out) ≡ answers_report (outcome_of network earlier event) =
    reports_alike (copy_of network (event ∷ earlier) told.0.stepped.tag) told.0.stepped.outcome line.out
    told.0.told.outcome ∙ ap answers_report (sym told.0.answered.outcome) in
    let more = sum_by-cons (λ (l : TraceLine). cond (is_some (report_in l.out)) 1 0) line lines in
    by (answers_report (outcome_of network earlier event)) (is_some (report_in line.out)) same more
    (counted_alike network earlier lines told.1)
  where
    by : (answers reported : Bool) → reported ≡ answers
        → report_count (line ∷ lines) ≡ cond reported 1 0 + report_count lines
        → reports_in network earlier ≡ report_count lines
        → (if answers then reports_in network earlier + 1 else reports_in network earlier)
        ≡ report_count (line ∷ lines)
    by true true same more before = omega arith
    by false false same more before = omega arith
    by true false same more before = cc
    by false true same more before = cc

-- lines are accepted that tell a run which meets a premise
accepted_by : (premise : Premise)
    → ((network : Network) (event : Event) (earlier : Run) → premise network (event ∷ earlier)
    → premise network earlier)
    → EachReportHasExchange premise → MissesNothing premise
accepted_by premise shorter each network lines run holds tells =
    ((verdicts_tell_soundness network lines).accepted (reports_in network run)).1
    (all_sound premise shorter each network run lines holds tells, counted_alike network run lines tells)

pub complete : Complete
complete = record {
  exchanges = fresh_exchange;
  verdicts = accepted_by (IsFreshAndTicked exact_limits) (fresh_ticked_shorter exact_limits) fresh_exchange;
}

pub complete_within_one_turn : CompleteWithinOneTurn
complete_within_one_turn =
    record { exchanges = turn_exchange; verdicts = accepted_by IsWithinTurn within_turn_shorter turn_exchange }
