-- What agrees with a message of the network is of its type, and what a port takes of the one stands in the other.
use Rattle.std.proofs.Common.{◌≡◌, ◌∙◌, ℤ, ◌+ℤ◌, Bool, true, false, Some, pos, refl, sym, ap, subst}
use Rattle.std.specs.Prelude.{int_lt, not, Option}
use Rattle.std.specs.Option.{option_map_or}
use Rattle.ptp_units.specs.Interval.{too_big}
use Rattle.ptp_units.specs.Moment.{Stamp}
use Rattle.event_codec.specs.declared.message.Body.{Body}
use Rattle.event_codec.specs.declared.message.Body.TheVariants as bodies
use Rattle.event_codec.specs.declared.message.Header.{Header}
use Rattle.event_codec.specs.declared.port.PortIdentity.{PortIdentity}
use Rattle.event_codec.specs.Packet.{Contents}
use Rattle.slave_port.specs.Usable.{is_two_step, is_too_big}
use Rattle.network_model.specs.Run.{Place, tag_of}
use Rattle.network_model.specs.Truth.{origin_heard}
use Rattle.recording_model.specs.Agreement.{Moved, moved_at, Agrees, AgreesInBody, AgreesInSync}

-- how much of it is moved, by the Sync of which something is heard
pub moved-origin : (moved : Moved) (p origin : Place) → origin_heard p ≡ Some origin
    → moved_at moved p ≡ moved (tag_of origin)
moved-origin moved p origin is =
    ap (λ (o : Option Place). option_map_or (λ origin. moved (tag_of origin)) o (pos 0)) is

-- where one that is too big tells no other, a correction that isn't tells none that is
small_too : (m said : Header) → (is_too_big m ≡ true → is_too_big said ≡ true)
    → int_lt said.correction.0 too_big ≡ true → int_lt m.correction.0 too_big ≡ true
small_too m said stays small = by (int_lt m.correction.0 too_big) refl
  where
    by : (less : Bool) → int_lt m.correction.0 too_big ≡ less → less ≡ true
    by true e = refl
    by false e =
        let big : not (int_lt said.correction.0 too_big) ≡ true = stays (ap not e) in
        let both : false ≡ true = sym (ap not small) ∙ big in
        both

module _ (moved : ℤ) (m said : Contents) (agrees : Agrees moved m said) where
  -- the bodies agree, whatever they are
  agreeing : (body read : Body) → m.body ≡ body → said.body ≡ read
      → AgreesInBody moved m.header said.header body read
  agreeing body read e f =
      subst (λ (b : Body). AgreesInBody moved m.header said.header b read) e
      (subst (AgreesInBody moved m.header said.header m.body) f agrees.body)

  -- a Sync is told by a Sync
  sync_told : (read : Stamp) → said.body ≡ bodies.Sync read
      → (origin : Stamp) × (m.body ≡ bodies.Sync origin) × (is_two_step said.header ≡ is_two_step m.header)
      × AgreesInSync (is_two_step m.header) moved m.header said.header origin read
  sync_told read is = by m.body refl (agreeing m.body (bodies.Sync read) refl is)
    where
      by : (body : Body) → m.body ≡ body → AgreesInBody moved m.header said.header body (bodies.Sync read)
          → (origin : Stamp) × (m.body ≡ bodies.Sync origin) × (is_two_step said.header ≡ is_two_step m.header)
          × AgreesInSync (is_two_step m.header) moved m.header said.header origin read
      by (bodies.Sync origin) e agreed = (origin, e, agreed.0, agreed.1)
      by (bodies.DelayReq origin) e agreed = absurd agreed
      by (bodies.FollowUp precise) e agreed = absurd agreed
      by (bodies.DelayResp receive requesting) e agreed = absurd agreed

  pub two_step_told : (read : Stamp) → said.body ≡ bodies.Sync read → is_two_step said.header ≡ true
      → int_lt said.header.correction.0 too_big ≡ true
      → (origin : Stamp) × (m.body ≡ bodies.Sync origin) × (is_two_step m.header ≡ true)
      × (m.header.correction.0 ≡ said.header.correction.0 +ℤ moved) × (int_lt m.header.correction.0 too_big ≡ true)
  two_step_told read is flag small =
      let told = sync_told read is in
      let two_step : is_two_step m.header ≡ true = sym told.2 ∙ flag in
      let agreed = subst (λ (b : Bool). AgreesInSync b moved m.header said.header told.0 read) two_step told.3 in
      (told.0, told.1, two_step, agreed.0, small_too m.header said.header agreed.1 small)

  pub one_step_told : (read : Stamp) → said.body ≡ bodies.Sync read → is_two_step said.header ≡ false
      → (m.body ≡ bodies.Sync read) × (is_two_step m.header ≡ false)
      × (said.header.correction.0 ≡ m.header.correction.0)
  one_step_told read is flag =
      let told = sync_told read is in
      let one_step : is_two_step m.header ≡ false = sym told.2 ∙ flag in
      let agreed = subst (λ (b : Bool). AgreesInSync b moved m.header said.header told.0 read) one_step told.3 in
      (told.1 ∙ ap (λ (s : Stamp). bodies.Sync s) (sym agreed.1), one_step, agreed.0)

  pub follow_up_told : (read : Stamp) → said.body ≡ bodies.FollowUp read
      → (m.body ≡ bodies.FollowUp read) × (said.header.correction.0 ≡ m.header.correction.0 +ℤ moved)
  follow_up_told read is = by m.body refl (agreeing m.body (bodies.FollowUp read) refl is)
    where
      by : (body : Body) → m.body ≡ body → AgreesInBody moved m.header said.header body (bodies.FollowUp read)
          → (m.body ≡ bodies.FollowUp read) × (said.header.correction.0 ≡ m.header.correction.0 +ℤ moved)
      by (bodies.FollowUp precise) e agreed =
          (e ∙ ap (λ (s : Stamp). bodies.FollowUp s) (sym agreed.1), agreed.0)
      by (bodies.Sync origin) e agreed = absurd agreed
      by (bodies.DelayReq origin) e agreed = absurd agreed
      by (bodies.DelayResp receive requesting) e agreed = absurd agreed

  pub response_told : (read : Stamp) (port : PortIdentity) → said.body ≡ bodies.DelayResp read port
      → (m.body ≡ bodies.DelayResp read port) × (said.header.correction.0 ≡ m.header.correction.0)
  response_told read port is = by m.body refl (agreeing m.body (bodies.DelayResp read port) refl is)
    where
      by : (body : Body) → m.body ≡ body → AgreesInBody moved m.header said.header body (bodies.DelayResp read port)
          → (m.body ≡ bodies.DelayResp read port) × (said.header.correction.0 ≡ m.header.correction.0)
      by (bodies.DelayResp receive requesting) e agreed = (
        e ∙ ap (λ (s : Stamp). bodies.DelayResp s requesting) (sym agreed.1)
            ∙ ap (λ (p : PortIdentity). bodies.DelayResp read p) (sym agreed.2),
        agreed.0,
      )
      by (bodies.Sync origin) e agreed = absurd agreed
      by (bodies.DelayReq origin) e agreed = absurd agreed
      by (bodies.FollowUp precise) e agreed = absurd agreed

  -- and the other way round
  pub tells_sync : (origin : Stamp) → m.body ≡ bodies.Sync origin → (read : Stamp) × (said.body ≡ bodies.Sync read)
  tells_sync origin is = by said.body refl (agreeing (bodies.Sync origin) said.body is refl)
    where
      by : (read : Body) → said.body ≡ read → AgreesInBody moved m.header said.header (bodies.Sync origin) read
          → (read : Stamp) × (said.body ≡ bodies.Sync read)
      by (bodies.Sync read) e agreed = (read, e)
      by (bodies.DelayReq read) e agreed = absurd agreed
      by (bodies.FollowUp read) e agreed = absurd agreed
      by (bodies.DelayResp read port) e agreed = absurd agreed

  pub tells_request : (origin : Stamp) → m.body ≡ bodies.DelayReq origin
      → (read : Stamp) × (said.body ≡ bodies.DelayReq read)
  tells_request origin is = by said.body refl (agreeing (bodies.DelayReq origin) said.body is refl)
    where
      by : (read : Body) → said.body ≡ read → AgreesInBody moved m.header said.header (bodies.DelayReq origin) read
          → (read : Stamp) × (said.body ≡ bodies.DelayReq read)
      by (bodies.DelayReq read) e agreed = (read, e)
      by (bodies.Sync read) e agreed = absurd agreed
      by (bodies.FollowUp read) e agreed = absurd agreed
      by (bodies.DelayResp read port) e agreed = absurd agreed

  pub tells_follow_up : (precise : Stamp) → m.body ≡ bodies.FollowUp precise → said.body ≡ bodies.FollowUp precise
  tells_follow_up precise is = by said.body refl (agreeing (bodies.FollowUp precise) said.body is refl)
    where
      by : (read : Body) → said.body ≡ read → AgreesInBody moved m.header said.header (bodies.FollowUp precise) read
          → said.body ≡ bodies.FollowUp precise
      by (bodies.FollowUp read) e agreed = e ∙ ap (λ (s : Stamp). bodies.FollowUp s) agreed.1
      by (bodies.Sync read) e agreed = absurd agreed
      by (bodies.DelayReq read) e agreed = absurd agreed
      by (bodies.DelayResp read port) e agreed = absurd agreed

  pub tells_response : (receive : Stamp) (requesting : PortIdentity) → m.body ≡ bodies.DelayResp receive requesting
      → said.body ≡ bodies.DelayResp receive requesting
  tells_response receive requesting is =
      by said.body refl (agreeing (bodies.DelayResp receive requesting) said.body is refl)
    where
      by : (read : Body) → said.body ≡ read
          → AgreesInBody moved m.header said.header (bodies.DelayResp receive requesting) read
          → said.body ≡ bodies.DelayResp receive requesting
      by (bodies.DelayResp read port) e agreed =
          e ∙ ap (λ (s : Stamp). bodies.DelayResp s port) agreed.1
          ∙ ap (λ (p : PortIdentity). bodies.DelayResp receive p) agreed.2
      by (bodies.Sync read) e agreed = absurd agreed
      by (bodies.DelayReq read) e agreed = absurd agreed
      by (bodies.FollowUp read) e agreed = absurd agreed
