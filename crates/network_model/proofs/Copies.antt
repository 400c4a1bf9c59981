-- What each copy is: a Sync, a Delay_Req, a Follow_Up or a Delay_Resp, with the number, the source and the times of the
-- events that made it. What a slave holds is read back to these events by it.
use Rattle.std.proofs.Common.{◌≡◌, ◌∙◌, ℕ, Bool, true, false, Option, Some, option_map, option_and_then, refl, sym, ap, if◌then◌else◌}
use Rattle.std.specs.Prelude.{◌==◌, int_lt, Ok, Err}
use Rattle.std.specs.Result.{result_ok}
use Rattle.ptp_units.specs.Moment.{fraction_of}
use Rattle.ptp_units.specs.Interval.{least, less_fraction}
use Rattle.ptp_units.specs.Sequence.{of_count}
use Rattle.event_codec.specs.declared.message.Header.{Header}
use Rattle.event_codec.specs.declared.message.Body.{Body}
use Rattle.event_codec.specs.declared.message.Body.TheVariants as bodies
use Rattle.event_codec.specs.declared.port.PortConfig.{PortConfig}
use Rattle.event_codec.specs.Packet.{Contents}
use Rattle.master_port.specs.declared.refusal.MasterRefusal.{MasterRefusal}
use Rattle.master_port.specs.declared.refusal.MasterRefusal.TheVariants.{OtherDomain, CorrectionTooLow}
use Rattle.master_port.specs.Written.{sync, one_step_sync, delay_resp, answer_to}
use Rattle.slave_port.specs.Written.{delay_req}
use Rattle.transparent_clock.specs.Forwarding.{resided}
use Rattle.slave_port.proofs.Options.{some_step, some_image}
use Rattle.network_model.specs.declared.event.Event.{Event}
use Rattle.network_model.specs.declared.event.Event.TheVariants.{Sync, SyncOne, Follow, Leave, Arrive, Request}
use Rattle.network_model.specs.Network.{Network, NodeName, PortSetup}
use Rattle.network_model.specs.Run.{Run, Place, place, place_at, IsIn}
use Rattle.network_model.specs.Kinds.{is_at, is_sync, is_one_step_sync, is_request}
use Rattle.network_model.specs.Clock.{reading}
use Rattle.network_model.specs.Numbering.{number_of, waiting_sync}
use Rattle.network_model.specs.Journey.{Journey, begun, journey_made, journey_of, residence}
use Rattle.network_model.specs.Truth.{master_at, slave_at, drawn, message_after, followed, responded, copy_made, copy_of}
use Rattle.network_model.proofs.Made.{copy_of-place_at, journey_of-place_at}
use Rattle.network_model.proofs.Sites.{named-self}
use Rattle.network_model.proofs.Journeys.{IsIn-origin}
use Rattle.network_model.proofs.MessagesAfter.{copy_of-message_after}

-- a copy of the message that an event of this kind drew at this node, after its journey
pub record IsDrawn (run : Run) (copy : ℕ) (m : Contents) (kind : Event → Bool) (port_at : NodeName → Option PortSetup)
    (message : PortSetup → Place → Contents) : Type 0 where
  pub journey : Journey
  pub node : NodeName
  pub port : PortSetup
  pub made : journey_of run copy ≡ Some journey
  pub there : IsIn run journey.origin
  pub drawn : is_at kind node journey.origin.event ≡ true
  pub port_is : port_at node ≡ Some port
  pub is : m ≡ resided (message port journey.origin) (residence journey)

-- a two-step Sync
abbrev pub IsTwoStep : Network → Run → ℕ → Contents → Type 0
IsTwoStep network run copy m = IsDrawn run copy m is_sync (master_at network) (λ port origin. sync port.config (of_count (number_of port origin)))

-- a one-step Sync
abbrev pub IsOneStep : Network → Run → ℕ → Contents → Type 0
IsOneStep network run copy m =
    IsDrawn run copy m is_one_step_sync (master_at network) (λ port origin. one_step_sync port.config (of_count (number_of port origin)) (reading origin))

-- a Delay_Req
abbrev pub IsDelayReq : Network → Run → ℕ → Contents → Type 0
IsDelayReq network run copy m = IsDrawn run copy m is_request (slave_at network) (λ port origin. delay_req port.config (of_count (number_of port origin)))

-- the Follow_Up of a Sync that waited
pub record IsFollowUp (network : Network) (run : Run) (copy : ℕ) (m : Contents) : Type 0 where
  pub made : Place
  pub origin : Place
  pub node : NodeName
  pub port : PortSetup
  pub there : place_at run copy ≡ Some made
  pub event : made.event ≡ Follow node
  pub waiting : waiting_sync node made.earlier ≡ Some origin
  pub port_is : master_at network node ≡ Some port
  pub is : m ≡ followed port origin

-- the Delay_Resp to a Delay_Req that arrived
pub record IsDelayResp (network : Network) (run : Run) (copy : ℕ) (m : Contents) : Type 0 where
  pub made : Place
  pub node : NodeName
  pub port : PortSetup
  pub asked : ℕ
  pub moment : ℕ
  pub request : Contents
  pub there : place_at run copy ≡ Some made
  pub event : made.event ≡ Arrive node asked moment
  pub port_is : master_at network node ≡ Some port
  pub request_is : copy_of network made.earlier asked ≡ Some request
  pub is_request : (origin : _) × (request.body ≡ bodies.DelayReq origin)
  pub is : m ≡ delay_resp port.config request.header (reading made)

pub data IsCopy (network : Network) (run : Run) (copy : ℕ) (m : Contents) : Type 0 where
  TwoStep : IsTwoStep network run copy m → IsCopy network run copy m
  OneStep : IsOneStep network run copy m → IsCopy network run copy m
  DelayReq : IsDelayReq network run copy m → IsCopy network run copy m
  FollowUp : IsFollowUp network run copy m → IsCopy network run copy m
  DelayResp : IsDelayResp network run copy m → IsCopy network run copy m

-- a master answers a Delay_Req alone, by its Delay_Resp
pub answered : (config : PortConfig) (body : Body) (header : Header) (t4 : ℕ) (m : Contents) → result_ok (answer_to config body header t4) ≡ Some m
    → ((origin : _) × (body ≡ bodies.DelayReq origin)) × (m ≡ delay_resp config header t4)
answered config (bodies.Sync origin) header t4 m e = cc
answered config (bodies.FollowUp precise) header t4 m e = cc
answered config (bodies.DelayResp receive requesting) header t4 m e = cc
answered config (bodies.DelayReq origin) header t4 m e =
    ((origin, refl), given (header.domain == config.domain) (int_lt (less_fraction header.correction.0 (fraction_of t4)) least) e)
  where
    given : (domain low : Bool)
        → result_ok {T = Contents} {E = MasterRefusal} (if domain then (if low then Err CorrectionTooLow else Ok (delay_resp config header t4)) else Err OtherDomain) ≡ Some m
        → m ≡ delay_resp config header t4
    given false low e = cc
    given true true e = cc
    given true false e = cc

module _ (network : Network) (run : Run) (copy : ℕ) (m : Contents) where
  -- a copy that has a journey
  with_journey : (event : Event) (earlier : Run) (stays : _) → journey_of run copy ≡ Some (record { origin = place event earlier; stays = stays })
      → message_after network (record { origin = place event earlier; stays = stays }) ≡ Some m → IsCopy network run copy m
  with_journey (Sync node at) earlier stays made is =
      let journey : Journey = record { origin = place (Sync node at) earlier; stays = stays } in
      let whole = some_image (λ (d : Contents). resided d (residence journey)) (drawn network (Sync node at) earlier) is in
      let port = some_image (λ (p : PortSetup). sync p.config (of_count (number_of p journey.origin))) (master_at network node) whole.1 in
      TwoStep (record {
        journey = journey;
        node = node;
        port = port.0;
        made = made;
        there = IsIn-origin run copy journey made;
        drawn = named-self node;
        port_is = port.1;
        is = sym whole.2 ∙ ap (λ (d : Contents). resided d (residence journey)) (sym port.2);
      })
  with_journey (SyncOne node at) earlier stays made is =
      let journey : Journey = record { origin = place (SyncOne node at) earlier; stays = stays } in
      let whole = some_image (λ (d : Contents). resided d (residence journey)) (drawn network (SyncOne node at) earlier) is in
      let port = some_image (λ (p : PortSetup). one_step_sync p.config (of_count (number_of p journey.origin)) (reading journey.origin)) (master_at network node) whole.1 in
      OneStep (record {
        journey = journey;
        node = node;
        port = port.0;
        made = made;
        there = IsIn-origin run copy journey made;
        drawn = named-self node;
        port_is = port.1;
        is = sym whole.2 ∙ ap (λ (d : Contents). resided d (residence journey)) (sym port.2);
      })
  with_journey (Request node at) earlier stays made is =
      let journey : Journey = record { origin = place (Request node at) earlier; stays = stays } in
      let whole = some_image (λ (d : Contents). resided d (residence journey)) (drawn network (Request node at) earlier) is in
      let port = some_image (λ (p : PortSetup). delay_req p.config (of_count (number_of p journey.origin))) (slave_at network node) whole.1 in
      DelayReq (record {
        journey = journey;
        node = node;
        port = port.0;
        made = made;
        there = IsIn-origin run copy journey made;
        drawn = named-self node;
        port_is = port.1;
        is = sym whole.2 ∙ ap (λ (d : Contents). resided d (residence journey)) (sym port.2);
      })
  with_journey _ earlier stays made is = cc

  message_after_copy : (journey : Journey) → journey_of run copy ≡ Some journey → copy_of network run copy ≡ Some m → IsCopy network run copy m
  message_after_copy journey made is =
      with_journey journey.origin.event journey.origin.earlier journey.stays made (sym (copy_of-message_after network run copy journey made) ∙ is)

  made_copy : (event : Event) (earlier : Run) → place_at run copy ≡ Some (place event earlier)
      → copy_made network event earlier (copy_of network earlier) ≡ Some m → copy_of network run copy ≡ Some m
      → journey_of run copy ≡ journey_made event earlier (journey_of earlier) → IsCopy network run copy m
  made_copy (Sync node at) earlier there made is journey = message_after_copy (begun (Sync node at) earlier) journey is
  made_copy (SyncOne node at) earlier there made is journey = message_after_copy (begun (SyncOne node at) earlier) journey is
  made_copy (Request node at) earlier there made is journey = message_after_copy (begun (Request node at) earlier) journey is
  made_copy (Leave node transit at) earlier there made is journey =
      let by = some_step (message_after network) (journey_made (Leave node transit at) earlier (journey_of earlier)) made in
      message_after_copy by.0 (journey ∙ by.1) is
  made_copy (Follow node) earlier there made is journey =
      let port = some_step (λ (p : PortSetup). option_map (followed p) (waiting_sync node earlier)) (master_at network node) made in
      let waits = some_image (followed port.0) (waiting_sync node earlier) port.2 in
      FollowUp (record {
        made = place (Follow node) earlier;
        origin = waits.0;
        node = node;
        port = port.0;
        there = there;
        event = refl;
        waiting = waits.1;
        port_is = port.1;
        is = sym waits.2;
      })
  made_copy (Arrive node asked at) earlier there made is journey =
      let here : Place = place (Arrive node asked at) earlier in
      let port = some_step (λ (p : PortSetup). option_and_then (responded p (reading here)) (copy_of network earlier asked)) (master_at network node) made in
      let request = some_step (responded port.0 (reading here)) (copy_of network earlier asked) port.2 in
      let said = answered port.0.config request.0.body request.0.header (reading here) m request.2 in
      DelayResp (record {
        made = here;
        node = node;
        port = port.0;
        asked = asked;
        moment = at;
        request = request.0;
        there = there;
        event = refl;
        port_is = port.1;
        request_is = request.1;
        is_request = said.0;
        is = said.1;
      })
  made_copy _ earlier there made is journey = cc

  -- each copy is of one of these kinds
  pub copy_kind : copy_of network run copy ≡ Some m → IsCopy network run copy m
  copy_kind is =
      let p = some_step (λ (p : Place). copy_made network p.event p.earlier (copy_of network p.earlier)) (place_at run copy) (sym (copy_of-place_at network run copy) ∙ is) in
      let journey : journey_of run copy ≡ journey_made p.0.event p.0.earlier (journey_of p.0.earlier) =
      journey_of-place_at run copy ∙ ap (option_and_then (λ (p : Place). journey_made p.event p.earlier (journey_of p.earlier))) p.1 in
      made_copy p.0.event p.0.earlier p.1 p.2 is journey
