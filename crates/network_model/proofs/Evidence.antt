-- Each report of an accepted run has its evidence: the order of its tags, that its messages were used, how the slave learnt
-- when the request left, the journeys of the Sync and the Delay_Req, one domain, and corrections that aren't too big.
-- A measurement is of the same messages, and no stay in a clock is left twice.
use Rattle.std.proofs.Common.{◌≡◌, ◌∙◌, ℕ, ◌+◌, ◌≤◌, List, ◌∷◌, length, Option, Some, None, refl, sym, ap, subst, arith, inl, inr, false, option_and_then}
use Rattle.std.specs.Prelude.{◌⊎◌, count_by, IfSome}
use Rattle.slave_port.specs.declared.heard.Heard.TheVariants as answers
use Rattle.slave_port.specs.declared.heard.Report.{Report}
use Rattle.slave_port.specs.History.{Call}
use Rattle.slave_port.specs.Completion.{SyncCompletion, DelayCompletion}
use Rattle.slave_port.specs.Kept.{sync_completion, delay_completion, last_sync_completion, last_delay_completion}
use Rattle.slave_port.specs.Answer.{report_of}
use Rattle.slave_port.proofs.Uses.{report_parts}
use Rattle.network_model.specs.declared.event.Event.TheVariants.{Arrive}
use Rattle.network_model.specs.Network.{Network, NodeName, PortSetup}
use Rattle.network_model.specs.Run.{Run, Place, place_at, tag_of, IsIn, until, site_of, events_after}
use Rattle.network_model.specs.Kinds.{is_at, is_request, draws_sync, is_set_master, named_master}
use Rattle.network_model.specs.Journey.{Journey, journey_of}
use Rattle.network_model.specs.Truth.{master_at, slave_at}
use Rattle.network_model.specs.SlaveHistory.{slave_setup, call_made, history_of}
use Rattle.network_model.specs.Present.{present_master}
use Rattle.network_model.specs.Premises.{IsAcceptedRun, is_used}
use Rattle.network_model.specs.Reported.{Reports}
use Rattle.network_model.specs.Exact.{Arrives, HearsOf, IsMeasurement}
use Rattle.network_model.specs.Evidence.{is_completing, HasOutcome, SyncWasUsed, TagsInOrder, WasStamped, ShareDomain, IsRepresented, IsOfKind, HasSync, HasRequest, EachReportHasEvidence, EvidenceIsOfMeasurements, ShowsEvidence}
use Rattle.network_model.proofs.Places.{place_at-bound, IsIn-place_at, IsIn-within}
use Rattle.network_model.proofs.Sites.{at_site}
use Rattle.network_model.proofs.Journeys.{IsIn-last}
use Rattle.network_model.proofs.MessagesAfter.{copy_of-message_after}
use Rattle.network_model.proofs.Masters.{last_set_master-since}
use Rattle.network_model.proofs.Requests.{waiting_request-is}
use Rattle.network_model.proofs.Answers.{answered_by}
use Rattle.network_model.proofs.Reports.{made_of}
use Rattle.network_model.proofs.LeftOnce.{each_stay_left_once}
use Rattle.network_model.proofs.Twice.{one_arrival, one_hearing}
use Rattle.network_model.proofs.TrueTime.{origin_drawn}
use Rattle.network_model.proofs.Completing.{report_completes, sync_last, delay_last}
use Rattle.network_model.proofs.Departures.{waits_alone}
use Rattle.network_model.proofs.Shown.{IsSyncShown, IsRequestShown, sync_shown, request_shown}

-- a Follow_Up's tag is one of the run
follow_bound : (network : Network) (run : Run) (follow : Option ℕ) → IfSome follow (HasOutcome network run is_used) → (last : ℕ) → length run ≡ last + 1 → IfSome follow (λ tag. tag ≤ last)
follow_bound network run None used last ends = tt
follow_bound network run (Some tag) used last ends = let below = place_at-bound run tag used.p used.there in omega arith

-- one of the report's messages is heard at its own event
abbrev IsHeardAt : ℕ → Report → Type 0
IsHeardAt now report = (report.sync_tag ≡ now) ⊎ ((report.follow_tag ≡ Some now) ⊎ (report.response_tag ≡ now))

heard_by_sync : (now : ℕ) (report : Report) (sync c : SyncCompletion) (delay : DelayCompletion) → report ≡ report_of sync delay → sync ≡ c
    → (c.sync_tag ≡ now) ⊎ (c.follow_tag ≡ Some now) → IsHeardAt now report
heard_by_sync now report sync c delay is same (inl e) = inl (ap (λ (r : Report). r.sync_tag) is ∙ ap (λ (c : SyncCompletion). c.sync_tag) same ∙ e)
heard_by_sync now report sync c delay is same (inr e) = inr (inl (ap (λ (r : Report). r.follow_tag) is ∙ ap (λ (c : SyncCompletion). c.follow_tag) same ∙ e))

module _ (network : Network) (answered : Place) (report : Report) (premise : IsAcceptedRun network (until answered)) where
  by_completion : (port : PortSetup) (slave_is : slave_at network (site_of answered.event) ≡ Some port) (call : Call) (made : call_made network port answered.event answered.earlier ≡ Some call)
      → (sync : SyncCompletion) (delay : DelayCompletion)
      → last_sync_completion (slave_setup port) (call ∷ history_of network port (site_of answered.event) answered.earlier) ≡ Some sync
      → last_delay_completion (slave_setup port) (call ∷ history_of network port (site_of answered.event) answered.earlier) ≡ Some delay → report ≡ report_of sync delay
      → ((c : SyncCompletion) × (sync_completion (slave_setup port) (history_of network port (site_of answered.event) answered.earlier) call ≡ Some c))
      ⊎ ((c : DelayCompletion) × (delay_completion (slave_setup port) (history_of network port (site_of answered.event) answered.earlier) call ≡ Some c))
      → IsHeardAt (tag_of answered) report
  by_completion port slave_is call made sync delay last last_delay is (inl (c, brought)) =
      let shown = sync_shown network port (site_of answered.event) slave_is (until answered) premise answered (IsIn-last answered.event answered.earlier) refl call made c brought in
      let both : Some sync ≡ Some c = sym last ∙ sync_last (slave_setup port) (history_of network port (site_of answered.event) answered.earlier) call c brought in
      heard_by_sync (tag_of answered) report sync c delay is (cc) shown.completed_now
  by_completion port slave_is call made sync delay last last_delay is (inr (c, brought)) =
      let shown = request_shown network port (site_of answered.event) slave_is (until answered) premise answered (IsIn-last answered.event answered.earlier) refl call made c brought in
      let both : Some delay ≡ Some c = sym last_delay ∙ delay_last (slave_setup port) (history_of network port (site_of answered.event) answered.earlier) call c brought in
      let same : delay ≡ c = cc in
      inr (inr (ap (λ (r : Report). r.response_tag) is ∙ ap (λ (c : DelayCompletion). c.response_tag) same ∙ shown.completed_now))

  heard_now : Reports network answered report → IsHeardAt (tag_of answered) report
  heard_now reports =
      let by = answered_by network answered.earlier (answers.Report report) answered.event reports in
      let history : List Call = history_of network by.port (site_of answered.event) answered.earlier in
      let parts = report_parts (slave_setup by.port) history by.call report (sym by.is) in
      by_completion by.port by.slave by.call by.made parts.0 parts.1 parts.2 parts.3 parts.4 (report_completes (slave_setup by.port) history by.call report (sym by.is))

-- the event by which the slave learnt when the request left
was_stamped : (network : Network) (port : PortSetup) (slave : NodeName) (run : Run) (p : Place) (c : DelayCompletion) (report : Report) → report.request_tag ≡ c.request_tag → report.response_tag ≡ c.response_tag
    → IsRequestShown network slave run p c → WasStamped network run slave report
was_stamped network port slave run p c report request_tag response_tag shown =
    let learnt = shown.learnt in
    let waited = waiting_request-is port slave learnt.at.earlier learnt.request learnt.waiting in
    let after = place_at-bound learnt.at.earlier (tag_of learnt.request) learnt.request waited.0 in
    let before = place_at-bound p.earlier (tag_of learnt.at) learnt.at learnt.there in
    let tag : report.request_tag ≡ tag_of learnt.request = request_tag ∙ learnt.tag_is in
    let heard : report.response_tag ≡ tag_of p = response_tag ∙ shown.completed_now in
    record {
      stamped = learnt.at;
      there = IsIn-within run p learnt.at shown.there learnt.there;
      event = learnt.event;
      done = learnt.done;
      after_request = omega arith;
      before_response = omega arith;
      no_other = subst (λ (t : ℕ). count_by (is_at is_request slave) (events_after t learnt.at.earlier) ≡ 0) (sym tag)
          (waits_alone port slave learnt.at.earlier learnt.request learnt.waiting);
    }

-- the Sync, of one domain and not too big
abbrev has_sync : (network : Network) (port : PortSetup) (slave : NodeName) (run : Run) (p : Place) (c : SyncCompletion) (report : Report) → slave_at network slave ≡ Some port
    → report.sync_tag ≡ c.sync_tag → report.follow_tag ≡ c.follow_tag → IsSyncShown network port slave run p c → HasSync network run slave report
has_sync network port slave run p c report slave_is tag follow shown = record {
  arrival = shown.arrival;
  journey = shown.of_master.journey;
  arrives = record {
    copy = shown.copy;
    moment = shown.moment;
    there = ap (place_at run) tag ∙ shown.there;
    event = shown.event;
    journey_is = shown.of_master.made;
  };
  kind = subst (λ (n : NodeName). IsOfKind run slave n report.follow_tag shown.of_master.journey.origin) (sym shown.of_master.site)
      (subst (λ (o : Option ℕ). IsOfKind run slave shown.of_master.node o shown.of_master.journey.origin) (sym follow) shown.kind);
  domain = record {
    own = port;
    other = shown.of_master.master;
    slave_port = slave_is;
    master_port = ap (master_at network) shown.of_master.site ∙ shown.of_master.master_is;
    domain = sym shown.used.domain ∙ shown.of_master.domain;
  };
  small = record {
    message = shown.m;
    arrived = sym (copy_of-message_after network shown.arrival.earlier shown.copy shown.of_master.journey shown.of_master.made) ∙ shown.used.m_is;
    small = shown.used.small;
  };
}

-- and the Delay_Req, which isn't too big either
abbrev has_request : (network : Network) (port : PortSetup) (slave : NodeName) (run : Run) (p : Place) (c : DelayCompletion) (report : Report)
    → report.request_tag ≡ c.request_tag → report.response_tag ≡ c.response_tag → IsRequestShown network slave run p c → HasRequest network run slave report
has_request network port slave run p c report request_tag response_tag shown =
    let learnt = shown.learnt in
    let waited = waiting_request-is port slave learnt.at.earlier learnt.request learnt.waiting in
    let stamped_in : IsIn run learnt.at = IsIn-within run p learnt.at shown.there learnt.there in
    let tag : report.request_tag ≡ tag_of learnt.request = request_tag ∙ learnt.tag_is in
    let hears : HearsOf run report.response_tag slave shown.made = subst (λ (t : ℕ). HearsOf run t slave shown.made) (sym response_tag) shown.hears in
    let made_in : IsIn hears.hearing.earlier shown.made = IsIn-place_at hears.hearing.earlier hears.copy shown.made hears.made_by in
    record {
      requested = learnt.request;
      there = ap (place_at run) tag ∙ IsIn-within run learnt.at learnt.request stamped_in waited.0;
      asked = waited.1;
      master = shown.node;
      arrival = shown.made;
      journey = shown.journey;
      hears = hears;
      arrives = record {
        copy = shown.asked;
        moment = shown.moment;
        there = IsIn-within run hears.hearing shown.made (IsIn-place_at run report.response_tag hears.hearing hears.there) made_in;
        event = shown.event;
        journey_is = shown.journey_is;
      };
      drawn = shown.drawn;
      domain = shown.domain;
      small = record {
        message = shown.request;
        arrived = sym (copy_of-message_after network shown.made.earlier shown.asked shown.journey shown.journey_is) ∙ shown.request_is;
        small = shown.small;
      };
    }

-- the order of the tags
tags_in_order : (network : Network) (answered : Place) (report : Report) → SyncWasUsed network (until answered) report.follow_tag report.sync_tag
    → IfSome report.follow_tag (HasOutcome network (until answered) is_used) → HasOutcome network (until answered) is_completing report.response_tag
    → HasSync network (until answered) (site_of answered.event) report → WasStamped network (until answered) (site_of answered.event) report
    → IsHeardAt (tag_of answered) report → TagsInOrder (tag_of answered) report
tags_in_order network answered report used follow response sync stamped heard = record {
  sync = let below = place_at-bound (until answered) report.sync_tag sync.arrival sync.arrives.there in omega arith;
  follow = follow_bound network (until answered) report.follow_tag follow (tag_of answered) (omega arith);
  response = let below = place_at-bound (until answered) report.response_tag response.p response.there in omega arith;
  heard_now = heard;
  request = omega (arith, stamped.after_request, stamped.before_response);
}

-- the present master is that of an event after which the slave was told none
still_present : (slave : NodeName) (run : Run) (p : Place) (node : NodeName) → IsIn run p → is_set_master p.event ≡ false
    → count_by (is_at is_set_master slave) (events_after (tag_of p) run) ≡ 0 → present_master slave p.earlier ≡ Some node → present_master slave run ≡ Some node
still_present slave run p node there unset none present =
    ap (option_and_then (λ (set : Place). named_master set.event)) (last_set_master-since slave run p there unset none) ∙ present

-- each report
pub each_has_evidence : EachReportHasEvidence IsAcceptedRun
each_has_evidence network answered report premise reports =
    let run : Run = until answered in
    let slave : NodeName = site_of answered.event in
    let made = made_of network answered report premise.accepted reports in
    let sync = sync_shown network made.port slave made.slave_is run premise made.sync_is.p made.sync_is.there made.sync_is.site made.sync_is.call made.sync_is.made made.sync made.sync_is.brought in
    let request = request_shown network made.port slave made.slave_is run premise made.delay_is.p made.delay_is.there made.delay_is.site made.delay_is.call made.delay_is.made made.delay made.delay_is.brought in
    let request_tag = ap (λ (r : Report). r.request_tag) made.is in
    let response_tag = ap (λ (r : Report). r.response_tag) made.is in
    let used : SyncWasUsed network run report.follow_tag report.sync_tag = subst (λ (r : Report). SyncWasUsed network run r.follow_tag r.sync_tag) (sym made.is) sync.sync_used in
    let follow : IfSome report.follow_tag (HasOutcome network run is_used) = subst (λ (r : Report). IfSome r.follow_tag (HasOutcome network run is_used)) (sym made.is) sync.follow_used in
    let response : HasOutcome network run is_completing report.response_tag = subst (λ (r : Report). HasOutcome network run is_completing r.response_tag) (sym made.is) request.completing in
    let stamped = was_stamped network made.port slave run made.delay_is.p made.delay report request_tag response_tag request in
    let arrived = has_sync network made.port slave run made.sync_is.p made.sync report made.slave_is (ap (λ (r : Report). r.sync_tag) made.is) (ap (λ (r : Report). r.follow_tag) made.is) sync in
    let sync_present = still_present slave run made.sync_is.p sync.of_master.node made.sync_is.there sync.unset made.sync_is.no_master sync.under in
    let request_present = still_present slave run made.delay_is.p request.node made.delay_is.there request.unset made.delay_is.no_master request.under in
    let both : Some request.node ≡ Some sync.of_master.node = sym request_present ∙ sync_present in
    let one : request.node ≡ sync.of_master.node = cc in
    record {
      order = tags_in_order network answered report used follow response arrived stamped (heard_now network answered report premise reports);
      sync_used = used;
      follow_used = follow;
      response_completes = response;
      stamped = stamped;
      sync = arrived;
      request = has_request network made.port slave run made.delay_is.p made.delay report request_tag response_tag request;
      present = sync_present ∙ ap (λ (n : NodeName). Some n) (sym sync.of_master.site);
      one_master = one ∙ sym sync.of_master.site;
    }

-- two arrivals of one event are of one copy, at one node
one_answer : (run : Run) (p q : Place) (node other : NodeName) (j k : Journey) → p ≡ q → Arrives run (tag_of p) node p j → Arrives run (tag_of q) other q k → (node ≡ other) × (j ≡ k)
one_answer run p q node other j k one first second =
    let events : Arrive node first.copy first.moment ≡ Arrive other second.copy second.moment = sym first.event ∙ ap (λ (o : Place). o.event) one ∙ second.event in
    let copies : first.copy ≡ second.copy = cc in
    let journeys : Some j ≡ Some k = sym first.journey_is ∙ ap (λ (o : Place). journey_of o.earlier first.copy) one ∙ ap (journey_of q.earlier) copies ∙ second.journey_is in
    (cc, cc)

-- what there is evidence of is what was measured
evidence_is_measured : EvidenceIsOfMeasurements
evidence_is_measured network run slave report sync request measured =
    let of_sync = measured.one_sync.sync in
    let of_request = measured.one_request.request in
    let one = one_arrival run report.sync_tag slave sync.arrival measured.one_sync.arrival sync.journey measured.one_sync.journey sync.arrives of_sync.arrives in
    let made = one_hearing run report.response_tag slave request.arrival measured.one_request.arrival request.hears of_request.hears in
    let answer = one_answer run request.arrival measured.one_request.arrival request.master measured.one_request.master request.journey measured.one_request.journey made request.arrives of_request.arrives in
    record {
      master = ap (λ (j : Journey). site_of j.origin.event) one.1
          ∙ at_site draws_sync measured.one_sync.master measured.one_sync.journey.origin.event
          (origin_drawn run slave measured.one_sync.master report.follow_tag measured.one_sync.journey.origin of_sync.departure);
      sync_arrival = one.0;
      sync_journey = one.1;
      answered_by = answer.0;
      request_arrival = made;
      request_journey = answer.1;
    }

-- the evidence in the words of a measurement
pub record IsShownOf (network : Network) (run : Run) (slave : NodeName) (report : Report) (measured : IsMeasurement run slave report) : Type 0 where
  pub domain : ShareDomain network slave measured.one_sync.master
  pub sync_small : IsRepresented network measured.one_sync.journey
  pub request_small : IsRepresented network measured.one_request.journey

pub shown_of : (network : Network) (run : Run) (slave : NodeName) (report : Report) → HasSync network run slave report → HasRequest network run slave report
    → (measured : IsMeasurement run slave report) → IsShownOf network run slave report measured
shown_of network run slave report sync request measured =
    let one = evidence_is_measured network run slave report sync request measured in
    record {
      domain = subst (ShareDomain network slave) one.master sync.domain;
      sync_small = subst (IsRepresented network) one.sync_journey sync.small;
      request_small = subst (IsRepresented network) one.request_journey request.small;
    }

-- what every accepted run shows
pub shows_evidence : ShowsEvidence
shows_evidence = record { reports = each_has_evidence; measurements = evidence_is_measured; stays = each_stay_left_once }
