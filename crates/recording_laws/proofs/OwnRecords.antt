-- A port that listens to the messages of records, one behind the other: what is known of its calls at each of them, and of the two halves
-- of a report.
use Rattle.std.proofs.Common.{◌≡◌, ◌∙◌, ℕ, false, List, [], ◌∷◌, Some, None, Ok, refl, sym, ap, subst}
use Rattle.std.specs.Prelude.{⊤, Option}
use Rattle.std.specs.Option.{option_map_or}
use Rattle.std.specs.Result.{result_ok}
use Rattle.ptp_units.specs.Moment.{Stamp}
use Rattle.event_codec.specs.declared.message.Body.{Body}
use Rattle.event_codec.specs.declared.message.Body.TheVariants as bodies
use Rattle.event_codec.specs.declared.port.PortIdentity.{PortIdentity}
use Rattle.event_codec.specs.Packet.{Contents}
use Rattle.event_codec.specs.Reading.{Reading}
use Rattle.pairing.specs.Marked.{first_value}
use Rattle.slave_port.specs.Completion.{SyncCompletion, DelayCompletion}
use Rattle.slave_port.specs.History as calls
use Rattle.slave_port.specs.History.{Call}
use Rattle.slave_port.specs.Kept.{last_sync_completion, last_delay_completion}
use Rattle.slave_port.specs.Requests.{held_requests}
use Rattle.slave_port.specs.Usable.{is_two_step}
use Rattle.recording_model.specs.declared.watched.Watched.{Watched}
use Rattle.recording_model.specs.Finds.{is_delay_req}
use Rattle.recording_model.specs.Listening.{Listening, after_all, hear, hears, hears_ready, hearing, ready, ready_response, setup_in, start}
use Rattle.recording_model.specs.Told.{is_general}
use Rattle.recording_model.specs.Recorded.{Recorded}
use Rattle.recording_laws.proofs.OwnCalls.{IsOfSync, IsOfResponse, halves_of}
use Rattle.recording_laws.proofs.OwnListening.{Kinds, Says, Known, Left, hear_known, known_call, request_kind, response_kind}
use Rattle.recording_laws.proofs.OwnPairs.{Joins, Responds, Rests, Unasked, Waits, IsReady, ready_is, calls_at, responds, rests_after, sync_rests, waits_after}

-- what the messages of each kind are
pub record AreMessages (kinds : Kinds) : Type 0 where
  pub one_step : (m : Contents) (t2 : ℕ) → kinds.Sync m t2 → is_two_step m.header ≡ false
  pub response : (m : Contents) (time : ℕ) → kinds.Response m time
      → (receive : Stamp) × (requesting : PortIdentity) × (m.body ≡ bodies.DelayResp receive requesting)

module _ (w : Watched) (kinds : Kinds) (Same : Contents → Contents → Type 0) (joins : Joins Same) (messages : AreMessages kinds) where
  -- The messages of records, newest in front: of a Sync, or of an exchange. The first of those that are heard may be a Delay_Resp.
  pub data AreRecords : List Recorded → Type 0 where
    Nothing : AreRecords []
    Late : (d : Recorded) (says : Says kinds d) (receive : Stamp) (requesting : PortIdentity)
        → says.m.body ≡ bodies.DelayResp receive requesting → AreRecords (d ∷ [])
    OneSync : (d : Recorded) (ds : List Recorded) (says : Says kinds d) (origin : Stamp) → says.m.body ≡ bodies.Sync origin
        → AreRecords ds → AreRecords (d ∷ ds)
    OneExchange : (q d : Recorded) (ds : List Recorded) (request : Says kinds q) (origin : Stamp) → request.m.body ≡ bodies.DelayReq origin
        → (response : Says kinds d) (receive : Stamp) (requesting : PortIdentity) → response.m.body ≡ bodies.DelayResp receive requesting
        → Same request.m response.m → AreRecords ds → AreRecords (d ∷ q ∷ ds)

  -- what is known where one more is heard
  pub record Step (earlier : List Recorded) (d : Recorded) : Type 0 where
    pub says : Says kinds d
    pub before : Known w kinds (Responds w kinds Same joins) (after_all w earlier)
    pub responds : (m : Contents) → d.said ≡ Ok m → kinds.Response m d.time → (r : Listening)
        → ready w d.line d.time m m.body (after_all w earlier) ≡ Some r → Responds w kinds Same joins (setup_in w r) r.calls m

  abbrev pub EachStep : List Recorded → Type 0
  EachStep [] = ⊤
  EachStep (d ∷ ds) = Step ds d × EachStep ds

  abbrev Stand : List Recorded → Type 0
  Stand ds = Known w kinds (Responds w kinds Same joins) (after_all w ds) × Rests w kinds Same joins (after_all w ds)

  known_more : (ds : List Recorded) (d : Recorded) → Step ds d → Known w kinds (Responds w kinds Same joins) (after_all w (d ∷ ds))
  known_more ds d step = hear_known w kinds (Responds w kinds Same joins) d step.says (after_all w ds) step.responds step.before

  -- a Sync or a Delay_Req is no Delay_Resp
  no_response : (d : Recorded) (says : Says kinds d) (m : Contents) (body : Body) → says.m.body ≡ body → d.said ≡ Ok m → kinds.Response m d.time
      → (receive : Stamp) × (requesting : PortIdentity) × (body ≡ bodies.DelayResp receive requesting)
  no_response d says m body is said response =
      let one : Ok says.m ≡ Ok m = sym says.said ∙ said in
      let same : says.m ≡ m = cc in
      let (receive, requesting, what) = messages.response m d.time response in
      (receive, requesting, sym is ∙ ap (λ (m : Contents). m.body) same ∙ what)

  sync_step : (d : Recorded) (ds : List Recorded) (says : Says kinds d) (origin : Stamp) → says.m.body ≡ bodies.Sync origin → Stand ds
      → Step ds d
  sync_step d ds says origin is stand = record {
    says = says;
    before = stand.0;
    responds = λ m said response r ready.
        let (receive, requesting, what) = no_response d says m (bodies.Sync origin) is said response in
        let other : bodies.Sync origin ≡ bodies.DelayResp receive requesting = what in cc;
  }

  request_step : (d : Recorded) (ds : List Recorded) (says : Says kinds d) (origin : Stamp) → says.m.body ≡ bodies.DelayReq origin → Stand ds
      → Step ds d
  request_step d ds says origin is stand = record {
    says = says;
    before = stand.0;
    responds = λ m said response r ready.
        let (receive, requesting, what) = no_response d says m (bodies.DelayReq origin) is said response in
        let other : bodies.DelayReq origin ≡ bodies.DelayResp receive requesting = what in cc;
  }

  -- where nothing was asked for, a Delay_Resp completes nothing
  late_step : (d : Recorded) → Says kinds d → Step [] d
  late_step d says = record {
    says = says;
    before = (refl, tt);
    responds = λ m said response r is.
        let (receive, requesting, what) = messages.response m d.time response in
        let at = ready_is w kinds Same joins d.time m requesting (start w) r (ap (λ (b : Body). ready w d.line d.time m b (start w)) (sym what) ∙ is) in
        record {
          time = d.time;
          response = response;
          answers = λ source domain to v t3 found left. absurd (none m requesting d.time r at v found);
        };
  }
    where
      none : (m : Contents) (requesting : PortIdentity) (time : ℕ) (r : Listening) → IsReady w kinds Same joins time m requesting (start w) r
          → (v : _) → first_value m.header.sequence.0 (held_requests (setup_in w r) r.calls) ≡ Some v → ⊥
      none m requesting time r at v found =
          let alike = calls_at w kinds Same joins time m requesting (start w) r at in
          let gone : first_value m.header.sequence.0 (held_requests (setup_in w r) r.calls) ≡ None =
          ap (λ (c : List Call). first_value m.header.sequence.0 (held_requests (setup_in w r) c)) alike.0 in
          let both : Some v ≡ None = sym found ∙ gone in cc

  late_rests : (d : Recorded) (m : Contents) (receive : Stamp) (requesting : PortIdentity) → d.said ≡ Ok m
      → m.body ≡ bodies.DelayResp receive requesting → Rests w kinds Same joins (hear w d (start w))
  late_rests d m receive requesting said body =
      subst (λ (said : Reading). Rests w kinds Same joins (option_map_or (λ m. hears w d.line d.time m m.body (start w)) (result_ok said) (start w)))
      (sym said)
      (subst (λ (b : Body). Rests w kinds Same joins (hears w d.line d.time m b (start w))) (sym body)
      (by (ready_response w d.time m requesting (start w))
      (λ r is. (calls_at w kinds Same joins d.time m requesting (start w) r (ready_is w kinds Same joins d.time m requesting (start w) r is)).1)))
    where
      by : (o : Option Listening) → ((r : Listening) → o ≡ Some r → r.asked ≡ false)
          → Rests w kinds Same joins (hears_ready false (calls.General (Ok m) d.line) o (start w))
      by None each = Unasked refl
      by (Some r) each = Unasked (each r refl)

  -- a Delay_Resp behind its Delay_Req
  response_step : (q d : Recorded) (ds : List Recorded) (request : Says kinds q) (origin : Stamp) → request.m.body ≡ bodies.DelayReq origin
      → (response : Says kinds d) (receive : Stamp) (requesting : PortIdentity) → response.m.body ≡ bodies.DelayResp receive requesting
      → Same request.m response.m → Known w kinds (Responds w kinds Same joins) (after_all w (q ∷ ds))
      → Waits w kinds Same joins (after_all w (q ∷ ds)) request.m → Step (q ∷ ds) d
  response_step q d ds request origin body response receive requesting what same known waits = record {
    says = response;
    before = known;
    responds = λ m said is r ready.
        let one : Ok response.m ≡ Ok m = sym response.said ∙ said in
        let alike : response.m ≡ m = cc in
        responds w kinds Same joins d request.m m receive requesting said
        (ap (λ (m : Contents). m.body) (sym alike) ∙ what) (subst (Same request.m) alike same) (ap is_delay_req body) is
        (after_all w (q ∷ ds)) waits r ready;
  }

  rested : (q d : Recorded) (ds : List Recorded) (request : Says kinds q) (origin : Stamp) → request.m.body ≡ bodies.DelayReq origin
      → (response : Says kinds d) (receive : Stamp) (requesting : PortIdentity) → response.m.body ≡ bodies.DelayResp receive requesting
      → Same request.m response.m → Waits w kinds Same joins (after_all w (q ∷ ds)) request.m
      → Rests w kinds Same joins (hear w d (after_all w (q ∷ ds)))
  rested q d ds request origin body response receive requesting what same waits =
      rests_after w kinds Same joins d request.m response.m receive requesting response.said what same (ap is_delay_req body)
      (response_kind w kinds (Responds w kinds Same joins) response.m d.time (ap is_general what) response.kind)
      (after_all w (q ∷ ds)) waits

  pub each_step : {ds : List Recorded} → AreRecords ds → EachStep ds × Stand ds
  each_step Nothing = (tt, ((refl, tt), Unasked refl))
  each_step (Late d says receive requesting what) =
      let step = late_step d says in
      ((step, tt), (known_more [] d step, late_rests d says.m receive requesting says.said what))
  each_step (OneSync d ds says origin body are) =
      let before = each_step are in
      let step = sync_step d ds says origin body before.1 in
      ((step, before.0), (known_more ds d step, sync_rests w kinds Same joins d says.m origin (after_all w ds) says.said body before.1.1))
  each_step (OneExchange q d ds request origin body response receive requesting what same are) =
      let before = each_step are in
      let asks = request_step q ds request origin body before.1 in
      let waits = waits_after w kinds Same joins q request.m origin (after_all w ds) request.said body
      (request_kind w kinds (Responds w kinds Same joins) request.m q.time (ap is_delay_req body) request.kind) request.low before.1.1 in
      let known = known_more ds q asks in
      let step = response_step q d ds request origin body response receive requesting what same known waits in
      ((step, (asks, before.0)), (known_more (q ∷ ds) d step, rested q d ds request origin body response receive requesting what same waits))

  -- the two halves of a report at one that is heard
  pub halves_at : (earlier : List Recorded) (d : Recorded) → Step earlier d → (m : Contents) (call : Call) (r : Listening) → d.said ≡ Ok m
      → hearing d.line d.time m m.body ≡ Some call → ready w d.line d.time m m.body (after_all w earlier) ≡ Some r
      → (sync : SyncCompletion) (delay : DelayCompletion) → last_sync_completion (setup_in w r) (call ∷ r.calls) ≡ Some sync
      → last_delay_completion (setup_in w r) (call ∷ r.calls) ≡ Some delay
      → IsOfSync w.master kinds.Sync (Responds w kinds Same joins (setup_in w r)) (Left w kinds (Responds w kinds Same joins)) (setup_in w r) sync
      × IsOfResponse w.master kinds.Sync (Responds w kinds Same joins (setup_in w r)) (Left w kinds (Responds w kinds Same joins)) (setup_in w r) delay
  halves_at earlier d step m call r said is is_ready sync delay synced delayed =
      halves_of w.master kinds.Sync (Responds w kinds Same joins (setup_in w r)) (Left w kinds (Responds w kinds Same joins)) (setup_in w r)
      messages.one_step
      (λ before m precise responds body.
      let (receive, requesting, what) = messages.response m responds.time responds.response in
      let other : bodies.FollowUp precise ≡ bodies.DelayResp receive requesting = sym body ∙ what in cc)
      (call ∷ r.calls) sync delay
      (known_call w kinds (Responds w kinds Same joins) d step.says (after_all w earlier) step.responds m r call step.before said is is_ready)
      synced delayed
