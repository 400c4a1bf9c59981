-- Each message that arrives at a slave, or that it hears, is told to its port, whose answer is the event's outcome, and an event
-- drew its number.
use Rattle.std.proofs.Common.{◌≡◌, ◌∙◌, ℕ, true, length, Some, Ok, IsOk, refl, ap, option_map, option_and_then}
use Rattle.std.specs.Prelude.{IsSome, ok_or}
use Rattle.event_codec.specs.Packet.{Contents}
use Rattle.slave_port.specs.History as calls
use Rattle.slave_port.specs.History.{Call}
use Rattle.network_model.specs.declared.event.Event.{Event}
use Rattle.network_model.specs.declared.event.Event.TheVariants.{Arrive, Hear}
use Rattle.network_model.specs.declared.refusal.WorldRefusal.TheVariants.{NoCopy}
use Rattle.network_model.specs.Network.{Network, PortSetup, slave_port}
use Rattle.network_model.specs.Run.{Run, Place, place, site_of}
use Rattle.network_model.specs.Kinds.{heard_copy}
use Rattle.network_model.specs.Clock.{reading}
use Rattle.network_model.specs.Truth.{slave_at, copy_of, origin_of, origin_made}
use Rattle.network_model.specs.SlaveHistory.{call_made}
use Rattle.network_model.specs.Outcome.{◌>>=◌, node_as, port_of, reads, arrived_outcome, heard, outcome_of}
use Rattle.network_model.specs.Premises.{IsAcceptedRun}
use Rattle.network_model.specs.Pairs.{EachMessageIsHeard}
use Rattle.network_model.proofs.Options.{some_value, ok_value, ok_step, ok_some}
use Rattle.network_model.proofs.Made.{origin_of-place_at}
use Rattle.network_model.proofs.Journeys.{origin_of-journey}
use Rattle.network_model.proofs.Copies.{IsCopy, TwoStep, OneStep, DelayReq, FollowUp, DelayResp, copy_kind}
use Rattle.network_model.proofs.Entries.{delay_req_copy}
use Rattle.network_model.proofs.HeldMessages.{origin_of_follow}
use Rattle.network_model.proofs.Completing.{hears, heard_outcome}

-- the copy that is heard, and what a port is told of it
record IsTold (network : Network) (port : PortSetup) (event : Event) (earlier : Run) : Type 0 where
  pub copy : ℕ
  pub m : Contents
  pub call : Call
  pub copy_is : heard_copy event ≡ Some copy
  pub m_is : copy_of network earlier copy ≡ Some m
  pub made : call_made network port event earlier ≡ Some call
  pub heard : hears call ≡ true

told : (network : Network) (port : PortSetup) (event : Event) (earlier : Run) → IsOk (outcome_of network earlier event) → IsSome (heard_copy event) → IsTold network port event earlier
told network port (Arrive node copy at) earlier accepted is =
    let outcome = ok_value (outcome_of network earlier (Arrive node copy at)) accepted in
    let kind = ok_step (node_as port_of network node)
    (λ kind. ok_or (copy_of network earlier copy) NoCopy >>= (λ m. reads (Arrive node copy at) earlier >>= (λ now. Ok (arrived_outcome network kind node earlier now m)))) outcome.1 in
    let message = ok_step (ok_or (copy_of network earlier copy) NoCopy)
    (λ m. reads (Arrive node copy at) earlier >>= (λ now. Ok (arrived_outcome network kind.0 node earlier now m))) kind.2 in
    let m_is : copy_of network earlier copy ≡ Some message.0 = ok_some (copy_of network earlier copy) NoCopy {x = message.0} message.1 in
    record {
      copy = copy;
      m = message.0;
      call = calls.Event (Ok message.0) (reading (place (Arrive node copy at) earlier)) (length earlier);
      copy_is = refl;
      m_is = m_is;
      made = ap (option_map (λ (m : Contents). calls.Event (Ok m) (reading (place (Arrive node copy at) earlier)) (length earlier))) m_is;
      heard = refl;
    }
told network port (Hear node copy) earlier accepted is =
    let outcome = ok_value (outcome_of network earlier (Hear node copy)) accepted in
    let own = ok_step (node_as slave_port network node)
    (λ port. ok_or (copy_of network earlier copy) NoCopy >>= (λ m. Ok (heard network port node earlier (calls.General (Ok m) (length earlier))))) outcome.1 in
    let message = ok_step (ok_or (copy_of network earlier copy) NoCopy) (λ m. Ok (heard network own.0 node earlier (calls.General (Ok m) (length earlier)))) own.2 in
    let m_is : copy_of network earlier copy ≡ Some message.0 = ok_some (copy_of network earlier copy) NoCopy {x = message.0} message.1 in
    record {
      copy = copy;
      m = message.0;
      call = calls.General (Ok message.0) (length earlier);
      copy_is = refl;
      m_is = m_is;
      made = ap (option_map (λ (m : Contents). calls.General (Ok m) (length earlier))) m_is;
      heard = refl;
    }
told network port _ earlier accepted is = cc

-- an event drew the number of each message
origin_known : (network : Network) (run : Run) (copy : ℕ) (m : Contents) → copy_of network run copy ≡ Some m → (origin : Place) × (origin_of run copy ≡ Some origin)
origin_known network run copy m is = by (copy_kind network run copy m is)
  where
    by : IsCopy network run copy m → (origin : Place) × (origin_of run copy ≡ Some origin)
    by (TwoStep c) = (c.journey.origin, origin_of-journey run copy c.journey c.made)
    by (OneStep c) = (c.journey.origin, origin_of-journey run copy c.journey c.made)
    by (DelayReq c) = (c.journey.origin, origin_of-journey run copy c.journey c.made)
    by (FollowUp c) = (c.origin, origin_of_follow network run copy m c)
    by (DelayResp c) =
        let req = delay_req_copy network c.made.earlier c.asked c.request c.is_request.0 c.request_is c.is_request.1 in (
          req.journey.origin,
          origin_of-place_at run copy ∙ ap (option_and_then (λ (p : Place). origin_made p.event p.earlier (origin_of p.earlier))) c.there
              ∙ ap (λ (e : Event). origin_made e c.made.earlier (origin_of c.made.earlier)) c.event
              ∙ origin_of-journey c.made.earlier c.asked req.journey req.made,
        )

pub each_is_heard : EachMessageIsHeard IsAcceptedRun
each_is_heard network p premise slave heard =
    let port = some_value (slave_at network (site_of p.event)) slave in
    let told = told network port.0 p.event p.earlier premise.accepted.0 heard in
    let origin = origin_known network p.earlier told.copy told.m told.m_is in
    record {
      told = record { port = port.0; call = told.call; slave = port.1; made = told.made };
      answered = heard_outcome network port.0 (site_of p.event) p told.call port.1 premise.accepted.0 refl told.made told.heard;
      origin = origin.0;
      drawn = ap (option_and_then (origin_of p.earlier)) told.copy_is ∙ origin.1;
    }
