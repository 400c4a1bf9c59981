-- Each completion of a request is of one Request event of the slave: the Delay_Resp answers a copy of its Delay_Req, at the
-- present master. A report takes its Delay_Req from such a completion.
use Rattle.std.proofs.Common.{◌≡◌, ◌∙◌, ℕ, pos, ◌+◌, ◌<◌, ◌≤◌, Bool, true, false, Some, refl, sym, ap, subst, arith, option_and_then}
use Rattle.std.specs.Prelude.{count_by}
use Rattle.ptp_units.specs.Interval.{with_residence, less_fraction}
use Rattle.ptp_units.specs.Moment.{Stamp, stamp_of, fraction_of}
use Rattle.ptp_units.specs.Sequence.{of_count}
use Rattle.event_codec.specs.declared.message.Body.{Body}
use Rattle.event_codec.specs.declared.message.Body.TheVariants as bodies
use Rattle.event_codec.specs.declared.port.PortIdentity.{PortIdentity}
use Rattle.event_codec.specs.Packet.{Contents}
use Rattle.slave_port.specs.History.{Call}
use Rattle.slave_port.specs.Values.{RequestValue}
use Rattle.slave_port.specs.Requests.{requests}
use Rattle.slave_port.specs.Completion.{DelayCompletion}
use Rattle.slave_port.specs.Kept.{delay_completion}
use Rattle.slave_port.proofs.Uses.{delay_completion_of}
use Rattle.network_model.specs.declared.event.Event.{Event}
use Rattle.network_model.specs.declared.event.Event.TheVariants.{Arrive, Request}
use Rattle.network_model.specs.Network.{Network, NodeName, PortSetup, IsNetwork}
use Rattle.network_model.specs.Run.{Run, Place, place_at, tag_of, IsIn, site_of}
use Rattle.network_model.specs.Kinds.{is_at, is_request, is_set_master}
use Rattle.network_model.specs.Clock.{reading}
use Rattle.network_model.specs.Numbering.{number_of}
use Rattle.network_model.specs.Journey.{Journey, journey_of, residence}
use Rattle.network_model.specs.Truth.{master_at, slave_at, copy_of, origin_of, origin_made, origin_heard}
use Rattle.network_model.specs.SlaveHistory.{slave_setup, table_capacity, call_made, history_of}
use Rattle.network_model.specs.Outcome.{IsRun}
use Rattle.network_model.specs.Present.{last_set_master}
use Rattle.network_model.specs.Exact.{Arrives, HearsOf}
use Rattle.network_model.proofs.Places.{accepted-place_at, IsRun-place_at, IsIn-place_at, place_at-bound, IsIn-within}
use Rattle.network_model.proofs.Made.{origin_of-place_at}
use Rattle.network_model.proofs.Journeys.{origin_of-journey}
use Rattle.network_model.proofs.Identities.{same_name, identity_of_slave}
use Rattle.network_model.proofs.Sites.{at_kind}
use Rattle.network_model.proofs.Reach.{one_origin, draws_with-request}
use Rattle.network_model.proofs.Told.{IsTold}
use Rattle.network_model.proofs.Masters.{last_set_master-in, last_set_master-since}
use Rattle.network_model.proofs.Entries.{heard_by, delay_resp_copy, delay_req_copy}
use Rattle.network_model.proofs.Pairing.{NumbersMeet, from_master, used_near_request}
use Rattle.network_model.proofs.Requests.{requests_are, request_found}

-- a request is no SetMaster
request_sets_none : (event : Event) → is_request event ≡ true → is_set_master event ≡ false
request_sets_none (Request node at) is = refl
request_sets_none _ is = cc

-- a Delay_Resp to this slave: the arrival that made it, the Delay_Req that arrived, and the Request event that drew that
pub record IsAnswer (network : Network) (port : PortSetup) (slave : NodeName) (run : Run) (copy : ℕ) (m : Contents) (receive : Stamp) : Type 0 where
  pub made : Place
  pub node : NodeName
  pub answering : PortSetup
  pub asked : ℕ
  pub moment : ℕ
  pub journey : Journey
  pub there : place_at run copy ≡ Some made
  pub event : made.event ≡ Arrive node asked moment
  pub answering_is : master_at network node ≡ Some answering
  pub journey_is : journey_of made.earlier asked ≡ Some journey
  pub origin_there : IsIn made.earlier journey.origin
  pub drawn : is_at is_request slave journey.origin.event ≡ true
  pub origin_is : origin_of run copy ≡ Some journey.origin
  pub source_is : m.header.source ≡ answering.config.identity
  pub domain_is : m.header.domain ≡ answering.config.domain
  pub number_is : m.header.sequence.0 ≡ of_count (number_of port journey.origin)
  pub receive_is : receive ≡ stamp_of (reading made)
  pub correction_is : m.header.correction.0 ≡ less_fraction (with_residence (pos 0) (residence journey)) (fraction_of (reading made))
  pub request : Contents
  pub request_is : copy_of network made.earlier asked ≡ Some request
  pub lessened : m.header.correction.0 ≡ less_fraction request.header.correction.0 (fraction_of (reading made))

same_answer : {a b : PortIdentity} {receive other : Stamp} → ◌≡◌ {A = Body} (bodies.DelayResp receive a) (bodies.DelayResp other b) → (receive ≡ other) × (a ≡ b)
same_answer same = (cc, cc)

pub answer_to_slave : (network : Network) (port : PortSetup) (slave : NodeName) (run : Run) (copy : ℕ) (m : Contents) (receive : Stamp) (requesting : PortIdentity)
    → IsNetwork network → slave_at network slave ≡ Some port → copy_of network run copy ≡ Some m → m.body ≡ bodies.DelayResp receive requesting
    → requesting ≡ port.config.identity → IsAnswer network port slave run copy m receive
answer_to_slave network port slave run copy m receive requesting apart slave_is is body own =
    let resp = delay_resp_copy network run copy m receive requesting is body in
    let req = delay_req_copy network resp.made.earlier resp.asked resp.request resp.is_request.0 resp.request_is resp.is_request.1 in
    let bodies_are = same_answer (sym body ∙ ap (λ (m : Contents). m.body) resp.is) in
    let source : resp.request.header.source ≡ req.port.config.identity = ap (λ (m : Contents). m.header.source) req.is in
    let one : req.node ≡ slave =
    same_name network apart.identities req.node slave port.config.identity
    (identity_of_slave network req.node req.port req.port_is ∙ ap (λ (i : PortIdentity). Some i) (sym source ∙ sym bodies_are.1 ∙ own))
    (identity_of_slave network slave port slave_is) in
    let ports : Some req.port ≡ Some port = sym req.port_is ∙ ap (slave_at network) one ∙ slave_is in
    let port_is : req.port ≡ port = cc in
    record {
      made = resp.made;
      node = resp.node;
      answering = resp.port;
      asked = resp.asked;
      moment = resp.moment;
      journey = req.journey;
      there = resp.there;
      event = resp.event;
      answering_is = resp.port_is;
      journey_is = req.made;
      origin_there = req.there;
      drawn = subst (λ (n : NodeName). is_at is_request n req.journey.origin.event ≡ true) one req.drawn;
      origin_is = origin_of-place_at run copy ∙ ap (option_and_then (λ (p : Place). origin_made p.event p.earlier (origin_of p.earlier))) resp.there
          ∙ ap (λ (e : Event). origin_made e resp.made.earlier (origin_of resp.made.earlier)) resp.event ∙ origin_of-journey resp.made.earlier resp.asked req.journey req.made;
      source_is = ap (λ (m : Contents). m.header.source) resp.is;
      domain_is = ap (λ (m : Contents). m.header.domain) resp.is;
      number_is = ap (λ (m : Contents). m.header.sequence.0) resp.is ∙ ap (λ (m : Contents). m.header.sequence.0) req.is
          ∙ ap (λ (o : PortSetup). of_count (number_of o req.journey.origin)) port_is;
      receive_is = bodies_are.0;
      correction_is = ap (λ (m : Contents). m.header.correction.0) resp.is
          ∙ ap (λ (m : Contents). less_fraction m.header.correction.0 (fraction_of (reading resp.made))) req.is;
      request = resp.request;
      request_is = resp.request_is;
      lessened = ap (λ (m : Contents). m.header.correction.0) resp.is;
    }

-- a completion at an event is of one Request event of the slave, which the present master answered
pub record IsOneRequest (network : Network) (slave : NodeName) (run : Run) (p : Place) (c : DelayCompletion) : Type 0 where
  pub source : PortIdentity
  pub told : IsTold network slave p.earlier source
  pub arrival : Place
  pub journey : Journey
  pub requested : place_at run c.request_tag ≡ Some journey.origin
  pub drawn : is_at is_request slave journey.origin.event ≡ true
  pub hears : HearsOf run c.response_tag slave arrival
  pub arrives : Arrives run (tag_of arrival) told.master arrival journey
  pub later_request : tag_of told.set < c.request_tag
  pub later_response : tag_of told.set < c.response_tag
  pub heard : origin_heard p ≡ Some journey.origin
  pub unset : is_set_master p.event ≡ false

pub one_request : (reach : ℕ) → reach ≤ 65536 → (network : Network) (port : PortSetup) (slave : NodeName) → slave_at network slave ≡ Some port
    → (run : Run) → NumbersMeet reach network slave run → (p : Place) → IsIn run p → site_of p.event ≡ slave → (call : Call) → call_made network port p.event p.earlier ≡ Some call
    → (c : DelayCompletion) → delay_completion (slave_setup port) (history_of network port slave p.earlier) call ≡ Some c → IsOneRequest network slave run p c
one_request reach fits network port slave slave_is run meet p there site call made c brought =
    let before : IsRun network p.earlier = IsRun-place_at network run (tag_of p) p meet.accepted there in
    let done = delay_completion_of (slave_setup port) (history_of network port slave p.earlier) call c brought in
    let at = heard_by network port slave p call slave_is before (accepted-place_at network run (tag_of p) p meet.accepted there) site made done.used
    done.h.m done.h.tag done.h.call_is done.h.passes in
    let answer = answer_to_slave network port slave p.earlier at.copy done.h.m done.h.receive done.h.requesting meet.apart slave_is at.used.m_is done.h.body done.h.own in
    let master = from_master network slave p.earlier done.h.m.header.source answer.node answer.answering meet.apart at.used.told answer.answering_is answer.source_is in
    let found = request_found port slave p.earlier done.h.m.header.sequence.0 done.request table_capacity (count_by (is_at is_request slave) p.earlier)
    (requests (slave_setup port) (history_of network port slave p.earlier)) (requests_are network port slave p.earlier before) done.found in
    let held = found.2 in
    let few : count_by (is_at is_request slave) p.earlier < found.1 + 16 = found.3 in
    let counted : count_by (is_at is_request slave) held.u.earlier + 1 ≡ found.1 = held.count in
    let made_in : IsIn p.earlier answer.made = IsIn-place_at p.earlier at.copy answer.made answer.there in
    let origin_in : IsIn p.earlier answer.journey.origin = IsIn-within p.earlier answer.made answer.journey.origin made_in answer.origin_there in
    let heard : origin_heard p ≡ Some answer.journey.origin = ap (option_and_then (origin_of p.earlier)) at.used.heard ∙ answer.origin_is in
    let near = used_near_request slave p.earlier answer.journey.origin reach answer.drawn (meet.used p answer.journey.origin there site at.used.used heard) in
    let number : of_count (port.first + count_by (is_at is_request slave) held.u.earlier) ≡ of_count (port.first + count_by (is_at is_request slave) answer.journey.origin.earlier) =
    sym held.number ∙ found.4 ∙ answer.number_is
    ∙ ap (λ (kind : Event → Bool). of_count (port.first + count_by kind answer.journey.origin.earlier)) (draws_with-request slave answer.journey.origin.event answer.drawn) in
    let one : held.u ≡ answer.journey.origin =
    one_origin (is_at is_request slave) port.first p.earlier held.u answer.journey.origin held.there origin_in held.drawn answer.drawn (omega arith) (omega arith) number in
    let request_tag : c.request_tag ≡ tag_of held.u = ap (λ (c : DelayCompletion). c.request_tag) done.is ∙ ap (λ (r : RequestValue). r.tag) (sym found.5) ∙ held.tag in
    let response_tag : c.response_tag ≡ tag_of p = ap (λ (c : DelayCompletion). c.response_tag) done.is ∙ at.tag_is in
    let other : is_set_master held.u.event ≡ false = request_sets_none held.u.event (at_kind is_request slave held.u.event held.drawn) in
    let since : last_set_master slave held.u.earlier ≡ Some at.used.told.set = sym (last_set_master-since slave p.earlier held.u held.there other held.no_master) ∙ at.used.told.last in
    let set_before = place_at-bound held.u.earlier (tag_of at.used.told.set) at.used.told.set (last_set_master-in slave held.u.earlier at.used.told.set since) in
    let set_before_now = place_at-bound p.earlier (tag_of at.used.told.set) at.used.told.set (last_set_master-in slave p.earlier at.used.told.set at.used.told.last) in
    record {
      source = done.h.m.header.source;
      told = at.used.told;
      arrival = answer.made;
      journey = answer.journey;
      requested = subst (λ (t : ℕ). place_at run t ≡ Some answer.journey.origin) (sym request_tag)
          (subst (λ (o : Place). place_at run (tag_of held.u) ≡ Some o) one (IsIn-within run p held.u there held.there));
      drawn = answer.drawn;
      hears = record {
        hearing = p;
        copy = at.copy;
        there = subst (λ (t : ℕ). place_at run t ≡ Some p) (sym response_tag) there;
        event = at.event;
        made_by = answer.there;
      };
      arrives = record {
        copy = answer.asked;
        moment = answer.moment;
        there = IsIn-within run p answer.made there made_in;
        event = answer.event ∙ ap (λ (n : NodeName). Arrive n answer.asked answer.moment) master.0;
        journey_is = answer.journey_is;
      };
      later_request = omega arith;
      later_response = omega arith;
      heard = heard;
      unset = ap is_set_master at.event;
    }
