-- A one-step Sync and a Delay_Resp that a port uses complete.
use Rattle.std.proofs.Common.{◌≡◌, ◌∙◌, ℕ, Bool, true, false, List, Option, Some, None, Ok, refl, sym, ap}
use Rattle.std.specs.Prelude.{is_none, if◌then◌else◌, option_map, option_and_then}
use Rattle.std.specs.Option.{option_or}
use Rattle.std.specs.Result.{result_ok, result_err}
use Rattle.ptp_units.specs.Moment.{Stamp}
use Rattle.event_codec.specs.declared.message.Body.{Body}
use Rattle.event_codec.specs.declared.message.Body.TheVariants as bodies
use Rattle.event_codec.specs.declared.port.PortIdentity.{PortIdentity}
use Rattle.event_codec.specs.Packet.{Contents}
use Rattle.pairing.specs.Marked.{Entry, entry, first_value}
use Rattle.slave_port.specs.declared.reason.Reason.{Reason}
use Rattle.slave_port.specs.declared.reason.Reason.TheVariants as reasons
use Rattle.slave_port.specs.Answer.{answer, ignored, request_reason, unanswerable, unless_ignored, used}
use Rattle.slave_port.specs.Completion.{SyncCompletion, DelayCompletion, alone, answered, completed_by, responded}
use Rattle.slave_port.specs.History as calls
use Rattle.slave_port.specs.History.{Call, Setup}
use Rattle.slave_port.specs.Kept.{criteria, delay_completion, held_follows, held_syncs, sync_completion, unusable, usable_delay_resp}
use Rattle.slave_port.specs.Requests.{held_requests}
use Rattle.slave_port.specs.Usable.{event_use, general_use, is_two_step, response_reason, sync_reason, sync_use, used_unless}
use Rattle.slave_port.specs.Used.{delay_resp, part}
use Rattle.slave_port.specs.Values.{OneStepValue, RequestValue, ResponseValue}
use Rattle.network_model.specs.Premises.{is_of_use}

-- no reason of either kind
neither : (one other : Option Reason) → option_or one other ≡ None → (one ≡ None) × (other ≡ None)
neither None other none = (refl, none)
neither (Some reason) other none = cc

-- what is of use isn't ignored
not_ignored : (setup : Setup) (earlier : List Call) (call : Call) → is_of_use (answer setup earlier call) ≡ true
    → (unusable setup earlier call ≡ None) × (unanswerable setup earlier call ≡ None)
not_ignored setup earlier call is = neither (unusable setup earlier call) (unanswerable setup earlier call) (by (ignored setup earlier call) is)
  where
    by : (reason : Option Reason) → is_of_use (unless_ignored reason (used setup earlier call)) ≡ true → reason ≡ None
    by None is = refl
    by (Some reason) is = cc

-- where there is no reason, it is used as it is
used_as : (reason : Option Reason) (chosen : _) → result_err (used_unless reason chosen) ≡ None → result_ok (used_unless reason chosen) ≡ Some chosen
used_as None chosen none = refl
used_as (Some reason) chosen none = cc

-- the second of two
second : {U : Type 0} (b : Bool) (x y : U) → b ≡ false → (if b then x else y) ≡ y
second b x y is = ap (λ (b : Bool). if b then x else y) is

module _ (setup : Setup) (earlier : List Call) (m : Contents) where
  -- a one-step Sync completes
  pub sync_completes : (t2 tag : ℕ) (origin : Stamp) → m.body ≡ bodies.Sync origin → is_two_step m.header ≡ false
      → is_of_use (answer setup earlier (calls.Event (Ok m) t2 tag)) ≡ true
      → (c : SyncCompletion) × (sync_completion setup earlier (calls.Event (Ok m) t2 tag) ≡ Some c)
  sync_completes t2 tag origin body one_step is =
      let judge = criteria setup earlier in
      let no = (not_ignored setup earlier (calls.Event (Ok m) t2 tag) is).0 in
      let value : OneStepValue = record { t2 = t2; origin = origin; correction = m.header.correction.0; tag = tag } in
      let err : result_err (used_unless (sync_reason judge m.header) (entry m.header.sequence.0 (sync_use m.header origin t2 tag))) ≡ None =
      sym (ap (λ (b : Body). result_err (event_use judge m.header b t2 tag)) body) ∙ no in (
        alone m.header.sequence.0 value,
        ap (λ (b : Body). option_and_then (λ e. completed_by (held_syncs setup earlier) (held_follows setup earlier) e.number e.value)
            (result_ok (event_use judge m.header b t2 tag))) body
            ∙ ap (option_and_then (λ e. completed_by (held_syncs setup earlier) (held_follows setup earlier) e.number e.value))
            (used_as (sync_reason judge m.header) (entry m.header.sequence.0 (sync_use m.header origin t2 tag)) err)
            ∙ ap (completed_by (held_syncs setup earlier) (held_follows setup earlier) m.header.sequence.0)
            (second (is_two_step m.header) _ _ one_step),
      )

  -- there is a request that left
  has_request : (request : Option RequestValue) → request_reason request ≡ None
      → (v : RequestValue) × (t3 : ℕ) × (request ≡ Some v) × (v.t3 ≡ Some t3)
  has_request None none = cc
  has_request (Some v) none = by v.t3 refl none
    where
      by : (t3 : Option ℕ) → v.t3 ≡ t3 → (if is_none t3 then Some reasons.EgressUnknown else None) ≡ None
          → (v' : RequestValue) × (t3 : ℕ) × (Some v ≡ Some v') × (v'.t3 ≡ Some t3)
      by None is none = cc
      by (Some t3) is none = (v, t3, refl, is)

  -- a Delay_Resp completes
  pub response_completes : (tag : ℕ) (receive : Stamp) (requesting : PortIdentity) → m.body ≡ bodies.DelayResp receive requesting
      → is_of_use (answer setup earlier (calls.General (Ok m) tag)) ≡ true
      → (c : DelayCompletion) × (delay_completion setup earlier (calls.General (Ok m) tag) ≡ Some c)
  response_completes tag receive requesting body is =
      let judge = criteria setup earlier in
      let no = not_ignored setup earlier (calls.General (Ok m) tag) is in
      let value : ResponseValue = record { receive = receive; correction = m.header.correction.0; tag = tag } in
      let response : usable_delay_resp setup earlier (calls.General (Ok m) tag) ≡ Some (entry m.header.sequence.0 value) =
      ap (λ (b : Body). option_and_then (part delay_resp) (result_ok (general_use judge m.header b tag))) body
      ∙ ap (option_and_then (part delay_resp)) (used_as (response_reason judge m.header requesting) _
      (sym (ap (λ (b : Body). result_err (general_use judge m.header b tag)) body) ∙ no.0)) in
      let request = has_request (first_value m.header.sequence.0 (held_requests setup earlier))
      (sym (ap (option_and_then (λ (e : Entry ResponseValue). request_reason (first_value e.number (held_requests setup earlier)))) response) ∙ no.1) in (
        responded m.header.sequence.0 value request.0 request.1,
        ap (option_and_then (λ (e : Entry ResponseValue). option_and_then (answered e.number e.value) (first_value e.number (held_requests setup earlier)))) response
            ∙ ap (option_and_then (answered m.header.sequence.0 value)) request.2
            ∙ ap (option_map (responded m.header.sequence.0 value request.0)) request.3,
      )
