-- Which event a line tells: the arrival of a Sync, the hearing of a Follow_Up or a Delay_Resp, or a Delay_Req that the
-- slave sends.
use Rattle.std.proofs.Common.{◌≡◌, ◌∙◌, ℕ, Bool, true, false, Some, None, refl, sym, ap, subst}
use Rattle.std.proofs.Common.{if◌then◌else◌}
use Rattle.ptp_units.specs.Moment.{Stamp}
use Rattle.ptp_units.specs.Sequence.{of_count}
use Rattle.event_codec.specs.declared.message.Body.{Body}
use Rattle.event_codec.specs.declared.message.Body.TheVariants as bodies
use Rattle.event_codec.specs.declared.port.PortIdentity.{PortIdentity}
use Rattle.event_codec.specs.Packet.{Contents}
use Rattle.slave_port.specs.Written.{delay_req}
use Rattle.slave_port.proofs.Options.{some_step, some_image}
use Rattle.network_model.specs.declared.event.Event.{Event}
use Rattle.network_model.specs.declared.event.Event.TheVariants.{Arrive, Hear, Request}
use Rattle.network_model.specs.Network.{Network, NodeName, PortSetup, is_named}
use Rattle.network_model.specs.Run.{Run, place, site_of}
use Rattle.network_model.specs.Numbering.{number_of}
use Rattle.network_model.specs.Truth.{slave_at, copy_of}
use Rattle.network_model.proofs.Sites.{named-same}
use Rattle.recording_model.specs.Told.{is_sync, is_general, where_is, told_by, told_at}

-- a general message
pub data IsGeneral (body : Body) : Type 0 where
  FollowUp : (precise : Stamp) → body ≡ bodies.FollowUp precise → IsGeneral body
  DelayResp : (receive : Stamp) (requesting : PortIdentity) → body ≡ bodies.DelayResp receive requesting
      → IsGeneral body

-- the event that a line tells, of the slave
pub data IsTold (network : Network) (slave : NodeName) (event : Event) (earlier : Run) (m : Contents) : Type 0 where
  Arrived : (copy moment : ℕ) (origin : Stamp) → event ≡ Arrive slave copy moment
      → copy_of network earlier copy ≡ Some m → m.body ≡ bodies.Sync origin
      → IsTold network slave event earlier m
  Heard : (copy : ℕ) → event ≡ Hear slave copy → copy_of network earlier copy ≡ Some m → IsGeneral m.body
      → IsTold network slave event earlier m
  Asked : (moment : ℕ) (port : PortSetup) → event ≡ Request slave moment → slave_at network slave ≡ Some port
      → m ≡ delay_req port.config (of_count (number_of port (place event earlier)))
      → IsTold network slave event earlier m

-- a message where it is of a kind
where-is : (kind : Body → Bool) (n m : Contents) → where_is kind n ≡ Some m → (kind m.body ≡ true) × (n ≡ m)
where-is kind n m is = by (kind n.body) refl is
  where
    by : (holds : Bool) → kind n.body ≡ holds → (if holds then Some n else None) ≡ Some m → (kind m.body ≡ true)
        × (n ≡ m)
    by true e is = let same : n ≡ m = cc in (ap (λ (c : Contents). kind c.body) (sym same) ∙ e, same)
    by false e is = cc

sync_body : (body : Body) → is_sync body ≡ true → (origin : Stamp) × (body ≡ bodies.Sync origin)
sync_body (bodies.Sync origin) is = (origin, refl)
sync_body _ is = cc

general_body : (body : Body) → is_general body ≡ true → IsGeneral body
general_body (bodies.FollowUp precise) is = FollowUp precise refl
general_body (bodies.DelayResp receive requesting) is = DelayResp receive requesting refl
general_body _ is = cc

module _ (network : Network) (slave : NodeName) (earlier : Run) (m : Contents) where
  told_kind : (event : Event) → site_of event ≡ slave → told_by network event earlier ≡ Some m
      → IsTold network slave event earlier m
  told_kind (Arrive node copy at) site told =
      let chosen = some_step (where_is is_sync) (copy_of network earlier copy) told in
      let is = where-is is_sync chosen.0 m chosen.2 in
      let body = sync_body m.body is.0 in
      Arrived copy at body.0 (ap (λ (n : NodeName). Arrive n copy at) site)
      (chosen.1 ∙ ap (λ (c : Contents). Some c) is.1) body.1
  told_kind (Hear node copy) site told =
      let chosen = some_step (where_is is_general) (copy_of network earlier copy) told in
      let is = where-is is_general chosen.0 m chosen.2 in
      Heard copy (ap (λ (n : NodeName). Hear n copy) site) (chosen.1 ∙ ap (λ (c : Contents). Some c) is.1)
      (general_body m.body is.0)
  told_kind (Request node at) site told =
      let port = some_image (λ (port : PortSetup). delay_req port.config
      (of_count (number_of port (place (Request node at) earlier)))) (slave_at network node) told in
      Asked at port.0 (ap (λ (n : NodeName). Request n at) site)
      (subst (λ (n : NodeName). slave_at network n ≡ Some port.0) site port.1) (sym port.2)
  told_kind _ site told = cc

  pub told_is : (event : Event) → told_at network slave event earlier ≡ Some m → IsTold network slave event earlier m
  told_is event told = by (is_named (site_of event) slave) refl told
    where
      by : (named : Bool) → is_named (site_of event) slave ≡ named
          → (if named then told_by network event earlier else None) ≡ Some m → IsTold network slave event earlier m
      by true e told = told_kind event (named-same (site_of event) slave e) told
      by false e told = cc
