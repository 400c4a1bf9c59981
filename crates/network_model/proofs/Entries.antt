-- Each message that a slave holds is a copy that it used: at which event, of whom, and what it took from it.
-- What completes is then read off the events.
use Rattle.std.proofs.Common.{◌≡◌, ◌∙◌, ℕ, true, false, List, length, Some, Ok, IsOk, sym, ap, subst}
use Rattle.std.specs.Prelude.{int_lt}
use Rattle.ptp_units.specs.Interval.{too_big}
use Rattle.ptp_units.specs.Moment.{Stamp}
use Rattle.event_codec.specs.declared.message.Body.TheVariants as bodies
use Rattle.event_codec.specs.Packet.{Contents}
use Rattle.slave_port.specs.History as calls
use Rattle.slave_port.specs.History.{Call}
use Rattle.slave_port.specs.Usable.{is_two_step}
use Rattle.slave_port.specs.Kept.{criteria}
use Rattle.slave_port.specs.Answer.{answer, used}
use Rattle.slave_port.proofs.Uses.{Passes}
use Rattle.network_model.specs.declared.event.Event.{Event}
use Rattle.network_model.specs.declared.event.Event.TheVariants.{Arrive, Hear}
use Rattle.network_model.specs.Network.{Network, NodeName, PortSetup}
use Rattle.network_model.specs.Run.{Run, Place, place, tag_of, site_of}
use Rattle.network_model.specs.Kinds.{heard_copy}
use Rattle.network_model.specs.Clock.{reading}
use Rattle.network_model.specs.Truth.{slave_at, copy_of}
use Rattle.network_model.specs.SlaveHistory.{slave_setup, call_made, history_of}
use Rattle.network_model.specs.Outcome.{outcome_of, IsRun}
use Rattle.network_model.specs.Premises.{is_of_use, is_used}
use Rattle.network_model.proofs.Copies.{IsTwoStep, IsOneStep, IsDelayReq, IsFollowUp, IsDelayResp, IsCopy, TwoStep, OneStep, DelayReq, FollowUp, DelayResp, copy_kind}
use Rattle.network_model.proofs.Calls.{IsCallOf, Arrives, Hears, Requests, Departs, Ticks, Sets, call_of}
use Rattle.network_model.proofs.Told.{IsTold, told_master}
use Rattle.network_model.proofs.Hearing.{used_of_use, arrival_heard, hearing_heard}

-- a slave used this message, of its present master, at this event
pub record UsedAt (network : Network) (port : PortSetup) (slave : NodeName) (p : Place) (copy : ℕ) (m : Contents) : Type 0 where
  pub heard : heard_copy p.event ≡ Some copy
  pub m_is : copy_of network p.earlier copy ≡ Some m
  pub used : is_used (outcome_of network p.earlier p.event) ≡ true
  pub told : IsTold network slave p.earlier m.header.source
  pub domain : m.header.domain ≡ port.config.domain
  pub small : int_lt m.header.correction.0 too_big ≡ true

-- it arrived, or was heard
pub record ArrivedAt (network : Network) (port : PortSetup) (slave : NodeName) (p : Place) (m : Contents) (t2 tag : ℕ) : Type 0 where
  pub copy : ℕ
  pub moment : ℕ
  pub event : p.event ≡ Arrive slave copy moment
  pub used : UsedAt network port slave p copy m
  pub t2_is : t2 ≡ reading p
  pub tag_is : tag ≡ tag_of p

pub record HeardBy (network : Network) (port : PortSetup) (slave : NodeName) (p : Place) (m : Contents) (tag : ℕ) : Type 0 where
  pub copy : ℕ
  pub event : p.event ≡ Hear slave copy
  pub used : UsedAt network port slave p copy m
  pub tag_is : tag ≡ tag_of p

module _ (network : Network) (port : PortSetup) (slave : NodeName) (p : Place) (call : Call)
    (slave_is : slave_at network slave ≡ Some port) (before : IsRun network p.earlier) (accepted : IsOk (outcome_of network p.earlier p.event))
    (site : site_of p.event ≡ slave) (made : call_made network port p.event p.earlier ≡ Some call)
    (answered : answer (slave_setup port) (history_of network port slave p.earlier) call ≡ used (slave_setup port) (history_of network port slave p.earlier) call) where
  history : List Call
  history = history_of network port slave p.earlier

  -- an answer that isn't 'ignored' is of use
  of_use : (c : Call) → c ≡ call → is_of_use (answer (slave_setup port) (history_of network port slave p.earlier) c) ≡ true
  of_use c same =
      ap (λ (c : Call). is_of_use (answer (slave_setup port) (history_of network port slave p.earlier) c)) same
      ∙ ap is_of_use answered ∙ used_of_use (slave_setup port) (history_of network port slave p.earlier) call

  pub arrived : (m : Contents) (t2 tag : ℕ) → call ≡ calls.Event (Ok m) t2 tag → Passes (criteria (slave_setup port) (history_of network port slave p.earlier)) m.header
      → ArrivedAt network port slave p m t2 tag
  arrived m t2 tag call_is passes = by (call_of network port p.event p.earlier call made)
    where
      by : IsCallOf network port p.event p.earlier call → ArrivedAt network port slave p m t2 tag
      by (Arrives node copy at heard event copy_is told) =
          let both : calls.Event (Ok heard) (reading p) (length p.earlier) ≡ calls.Event (Ok m) t2 tag = sym told ∙ call_is in
          let same : heard ≡ m = cc in
          let here : p.event ≡ Arrive slave copy at = event ∙ ap (λ (n : NodeName). Arrive n copy at) (sym (ap site_of event) ∙ site) in
          let m_is : copy_of network p.earlier copy ≡ Some m = copy_is ∙ ap (λ (c : Contents). Some c) same in
          let outcome = arrival_heard network port slave p.earlier m copy at slave_is m_is (subst (λ (e : Event). IsOk (outcome_of network p.earlier e)) here accepted) in
          let one : calls.Event (Ok m) (reading (place (Arrive slave copy at) p.earlier)) (length p.earlier) ≡ call =
          sym (ap (λ (e : Event). calls.Event (Ok m) (reading (place e p.earlier)) (length p.earlier)) here)
          ∙ ap (λ (c : Contents). calls.Event (Ok c) (reading p) (length p.earlier)) (sym same) ∙ sym told in
          record {
            copy = copy;
            moment = at;
            event = here;
            used = record {
              heard = ap heard_copy here;
              m_is = m_is;
              used = ap (λ (e : Event). is_used (outcome_of network p.earlier e)) here ∙ ap is_used outcome
                  ∙ of_use (calls.Event (Ok m) (reading (place (Arrive slave copy at) p.earlier)) (length p.earlier)) one;
              told = subst (λ source. IsTold network slave p.earlier source) (sym passes.source) (told_master network port slave p.earlier passes.master before passes.present);
              domain = passes.domain;
              small = passes.small;
            };
            t2_is = cc;
            tag_is = cc;
          }
      by (Hears node copy heard event copy_is told) = cc
      by (Requests node at event told) = cc
      by (Departs node request event waits told) = cc
      by (Ticks node event told) = cc
      by (Sets node master other event port_is told) = cc

  pub heard_by : (m : Contents) (tag : ℕ) → call ≡ calls.General (Ok m) tag → Passes (criteria (slave_setup port) (history_of network port slave p.earlier)) m.header
      → HeardBy network port slave p m tag
  heard_by m tag call_is passes = by (call_of network port p.event p.earlier call made)
    where
      by : IsCallOf network port p.event p.earlier call → HeardBy network port slave p m tag
      by (Hears node copy heard event copy_is told) =
          let both : calls.General (Ok heard) (length p.earlier) ≡ calls.General (Ok m) tag = sym told ∙ call_is in
          let same : heard ≡ m = cc in
          let here : p.event ≡ Hear slave copy = event ∙ ap (λ (n : NodeName). Hear n copy) (sym (ap site_of event) ∙ site) in
          let m_is : copy_of network p.earlier copy ≡ Some m = copy_is ∙ ap (λ (c : Contents). Some c) same in
          let outcome = hearing_heard network port slave p.earlier m copy slave_is m_is (subst (λ (e : Event). IsOk (outcome_of network p.earlier e)) here accepted) in
          let one : calls.General (Ok m) (length p.earlier) ≡ call = ap (λ (c : Contents). calls.General (Ok c) (length p.earlier)) (sym same) ∙ sym told in
          record {
            copy = copy;
            event = here;
            used = record {
              heard = ap heard_copy here;
              m_is = m_is;
              used = ap (λ (e : Event). is_used (outcome_of network p.earlier e)) here ∙ ap is_used outcome ∙ of_use (calls.General (Ok m) (length p.earlier)) one;
              told = subst (λ source. IsTold network slave p.earlier source) (sym passes.source) (told_master network port slave p.earlier passes.master before passes.present);
              domain = passes.domain;
              small = passes.small;
            };
            tag_is = cc;
          }
      by (Arrives node copy at heard event copy_is told) = cc
      by (Requests node at event told) = cc
      by (Departs node request event waits told) = cc
      by (Ticks node event told) = cc
      by (Sets node master other event port_is told) = cc

-- a Sync with twoStepFlag is a copy of a two-step Sync, and one without is a copy of a one-step Sync
pub two_step_copy : (network : Network) (run : Run) (copy : ℕ) (m : Contents) (origin : Stamp) → copy_of network run copy ≡ Some m
    → m.body ≡ bodies.Sync origin → is_two_step m.header ≡ true → IsTwoStep network run copy m
two_step_copy network run copy m origin is body flag = by (copy_kind network run copy m is)
  where
    by : IsCopy network run copy m → IsTwoStep network run copy m
    by (TwoStep c) = c
    by (OneStep c) = let other : is_two_step m.header ≡ false = ap (λ (m : Contents). is_two_step m.header) c.is in cc
    by (DelayReq c) = let other = ap (λ (m : Contents). m.body) c.is in cc
    by (FollowUp c) = let other = ap (λ (m : Contents). m.body) c.is in cc
    by (DelayResp c) = let other = ap (λ (m : Contents). m.body) c.is in cc

pub one_step_copy : (network : Network) (run : Run) (copy : ℕ) (m : Contents) (origin : Stamp) → copy_of network run copy ≡ Some m
    → m.body ≡ bodies.Sync origin → is_two_step m.header ≡ false → IsOneStep network run copy m
one_step_copy network run copy m origin is body flag = by (copy_kind network run copy m is)
  where
    by : IsCopy network run copy m → IsOneStep network run copy m
    by (OneStep c) = c
    by (TwoStep c) = let other : is_two_step m.header ≡ true = ap (λ (m : Contents). is_two_step m.header) c.is in cc
    by (DelayReq c) = let other = ap (λ (m : Contents). m.body) c.is in cc
    by (FollowUp c) = let other = ap (λ (m : Contents). m.body) c.is in cc
    by (DelayResp c) = let other = ap (λ (m : Contents). m.body) c.is in cc

pub follow_up_copy : (network : Network) (run : Run) (copy : ℕ) (m : Contents) (precise : Stamp) → copy_of network run copy ≡ Some m
    → m.body ≡ bodies.FollowUp precise → IsFollowUp network run copy m
follow_up_copy network run copy m precise is body = by (copy_kind network run copy m is)
  where
    by : IsCopy network run copy m → IsFollowUp network run copy m
    by (FollowUp c) = c
    by (TwoStep c) = let other = ap (λ (m : Contents). m.body) c.is in cc
    by (OneStep c) = let other = ap (λ (m : Contents). m.body) c.is in cc
    by (DelayReq c) = let other = ap (λ (m : Contents). m.body) c.is in cc
    by (DelayResp c) = let other = ap (λ (m : Contents). m.body) c.is in cc

pub delay_resp_copy : (network : Network) (run : Run) (copy : ℕ) (m : Contents) (receive : Stamp) (requesting : _) → copy_of network run copy ≡ Some m
    → m.body ≡ bodies.DelayResp receive requesting → IsDelayResp network run copy m
delay_resp_copy network run copy m receive requesting is body = by (copy_kind network run copy m is)
  where
    by : IsCopy network run copy m → IsDelayResp network run copy m
    by (DelayResp c) = c
    by (TwoStep c) = let other = ap (λ (m : Contents). m.body) c.is in cc
    by (OneStep c) = let other = ap (λ (m : Contents). m.body) c.is in cc
    by (DelayReq c) = let other = ap (λ (m : Contents). m.body) c.is in cc
    by (FollowUp c) = let other = ap (λ (m : Contents). m.body) c.is in cc

pub delay_req_copy : (network : Network) (run : Run) (copy : ℕ) (m : Contents) (origin : Stamp) → copy_of network run copy ≡ Some m
    → m.body ≡ bodies.DelayReq origin → IsDelayReq network run copy m
delay_req_copy network run copy m origin is body = by (copy_kind network run copy m is)
  where
    by : IsCopy network run copy m → IsDelayReq network run copy m
    by (DelayReq c) = c
    by (TwoStep c) = let other = ap (λ (m : Contents). m.body) c.is in cc
    by (OneStep c) = let other = ap (λ (m : Contents). m.body) c.is in cc
    by (FollowUp c) = let other = ap (λ (m : Contents). m.body) c.is in cc
    by (DelayResp c) = let other = ap (λ (m : Contents). m.body) c.is in cc
