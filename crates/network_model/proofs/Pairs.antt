-- No pair is missed: a usable message completes where its partner, of the same Sync event or the same Request event, is held,
-- and nowhere else. One way is that what completes is of one origin; the other, that one origin gives one sequenceId.
use Rattle.std.proofs.Common.{◌≡◌, ◌∙◌, ℕ, zero, suc, ◌+◌, ◌-◌, ◌<◌, ◌≤◌, Bool, true, false, List, [], ◌∷◌, length, get_or, take, Option, Some, Ok, refl, sym, ap, subst, inl, inr, arith, option_map, option_and_then, if◌then◌else◌}
use Rattle.std.specs.Prelude.{count_by, nat_eq, find, IsSome, Any, ◌↔◌, ◌⊎◌}
use Rattle.std.specs.List.{All}
use Rattle.std.proofs.lemmas.Bool.{eqb-true, eqb-false}
use Rattle.std.proofs.lemmas.List.Elements.{All-head, All-tail, All-get_or}
use Rattle.ptp_units.specs.Sequence.{of_count}
use Rattle.event_codec.specs.declared.message.Body.TheVariants as bodies
use Rattle.event_codec.specs.Packet.{Contents}
use Rattle.pairing.specs.Marked.{Entry, entry, first_value}
use Rattle.slave_port.specs.History as calls
use Rattle.slave_port.specs.History.{Call, Setup}
use Rattle.slave_port.specs.Values.{SyncValue, FollowValue, ResponseValue, RequestValue}
use Rattle.slave_port.specs.Requests.{requests, held_requests}
use Rattle.slave_port.specs.Completion.{SyncCompletion, DelayCompletion, pair, responded, answered}
use Rattle.slave_port.specs.Kept.{criteria, usable_two_step_sync, usable_follow_up, usable_delay_resp, held_syncs, held_follows}
use Rattle.slave_port.specs.Answer.{answer, used}
use Rattle.slave_port.proofs.Options.{some_image}
use Rattle.slave_port.proofs.Uses.{HeardDelayResp, two_step_value, follow_value, response_value, two_step_entry, follow_entry, response_entry, IsSyncCompletion, BySync, Alone, ByFollowUp, sync_completion_of, delay_completion_of}
use Rattle.network_model.specs.declared.event.Event.{Event}
use Rattle.network_model.specs.Network.{Network, NodeName, PortSetup}
use Rattle.network_model.specs.Run.{Run, Place, place_at, tag_of, IsIn, until, site_of}
use Rattle.network_model.specs.Kinds.{is_at, is_request, is_set_master, heard_copy}
use Rattle.network_model.specs.Numbering.{number_of}
use Rattle.network_model.specs.Truth.{copy_of, origin_of, origin_made, origin_heard}
use Rattle.network_model.specs.SlaveHistory.{slave_setup, table_capacity, call_made, history_of}
use Rattle.network_model.specs.Outcome.{outcome_of}
use Rattle.network_model.specs.Premises.{exact_limits}
use Rattle.network_model.specs.Exact.{HearsFollowUp, LearnsDeparture}
use Rattle.network_model.specs.Evidence.{is_complete, is_completing}
use Rattle.network_model.specs.Pairs.{HeardAt, IsOfOrigin, calls_before, Completes, sync_completed, delay_completed, IsPairOf, PairsSync, IsAnswerTo, PairsRequest, NoPairIsMissed}
use Rattle.network_model.proofs.Places.{tag_of-place_at, IsIn-place_at, IsIn-within, same_place}
use Rattle.network_model.proofs.Options.{some_value, is_some_of, if_some}
use Rattle.network_model.proofs.Made.{origin_of-place_at}
use Rattle.network_model.proofs.Journeys.{IsIn-last}
use Rattle.network_model.proofs.Calls.{IsCallOf, Arrives, Hears, Requests, Departs, Ticks, Sets, call_of}
use Rattle.network_model.proofs.Reach.{draws_with-request}
use Rattle.network_model.proofs.Entries.{arrived, heard_by, two_step_copy, follow_up_copy}
use Rattle.network_model.proofs.Pairing.{NumbersMeet, meet_for}
use Rattle.network_model.proofs.HeldMessages.{IsHeldSync, IsHeldFollow, held_syncs_are, held_follows_are, of_two_step, of_follow, same_told, one_origin_of}
use Rattle.network_model.proofs.Requests.{IsRequest, AreRequests, requests_are}
use Rattle.network_model.proofs.OneSync.{one_sync}
use Rattle.network_model.proofs.OneRequest.{one_request, answer_to_slave}
use Rattle.network_model.proofs.Completing.{hears, heard_outcome, sync_completes, delay_completes, completes_something}
use Rattle.network_model.proofs.HeardMessages.{each_is_heard}

-- a value that is found is that of one of the entries
any_found : {V : Type 0} (P Q : Entry V → Type 0) (entries : List (Entry V)) (number : ℕ) (value : V) → All P entries → first_value number entries ≡ Some value
    → ((e : Entry V) → P e → e.number ≡ number → e.value ≡ value → Q e) → Any Q entries
any_found P Q [] number value all found gives = cc
any_found P Q (e ∷ others) number value all found gives =
    at (nat_eq e.number number) refl found (λ found. any_found P Q others number value (All-tail P e others all) found gives)
  where
    at : (same : Bool) → nat_eq e.number number ≡ same
        → option_map (λ e. e.value) (if same then Some e else find (λ e. nat_eq e.number number) others) ≡ Some value
        → (first_value number others ≡ Some value → Any Q others) → Any Q (e ∷ others)
    at true is found rest = (0, e, omega arith, refl, gives e (All-head P e others all) (eqb-true e.number number is) cc)
    at false is found rest = let later = rest found in (suc later.0, later.1, omega (arith, later.2), later.3, later.4)

-- where an entry has the number, one is found
found_where : {V : Type 0} (entries : List (Entry V)) (number k : ℕ) (x : Entry V) → k < length entries → get_or entries k x ≡ x → x.number ≡ number
    → IsSome (first_value number entries)
found_where [] number k x within there is = absurd (omega arith)
found_where (e ∷ others) number k x within there is = at k (nat_eq e.number number) refl within there (found_where others number)
  where
    at : (k : ℕ) (same : Bool) → nat_eq e.number number ≡ same → k < length (e ∷ others) → get_or (e ∷ others) k x ≡ x
        → ((k : ℕ) (x : Entry _) → k < length others → get_or others k x ≡ x → x.number ≡ number → IsSome (first_value number others))
        → IsSome (option_map (λ e. e.value) (if same then Some e else find (λ e. nat_eq e.number number) others))
    at k true e within there rest = refl
    at zero false f within there rest = let same : e ≡ x = there in absurd (eqb-false e.number number f (ap (λ e. e.number) same ∙ is))
    at (suc k) false e within there rest = rest k x (omega arith) there is

-- the message of a tag is of the origin of its event
of_tag : (run : Run) (p origin : Place) (tag : ℕ) → IsIn run p → tag ≡ tag_of p → origin_heard p ≡ Some origin → IsOfOrigin run tag origin
of_tag run p origin tag there is heard = ap (option_and_then origin_heard) (subst (λ (t : ℕ). place_at run t ≡ Some p) (sym is) there) ∙ heard

-- the Follow_Up of a Sync event is of its number
follow_origin : (run : Run) (slave master : NodeName) (tag : ℕ) (origin : Place) → HearsFollowUp run slave master tag origin → IsOfOrigin run tag origin
follow_origin run slave master tag origin is =
    let hears = is.hears in
    ap (option_and_then origin_heard) hears.there
    ∙ ap (option_and_then (origin_of hears.hearing.earlier)) (ap heard_copy hears.event)
    ∙ origin_of-place_at hears.hearing.earlier hears.copy
    ∙ ap (option_and_then (λ (p : Place). origin_made p.event p.earlier (origin_of p.earlier))) hears.made_by
    ∙ ap (λ (e : Event). origin_made e is.follow.earlier (origin_of is.follow.earlier)) is.follows
    ∙ is.followed

module _ (reach : ℕ) (fits : reach ≤ 65536) (network : Network) (p : Place) (meet : NumbersMeet reach network (site_of p.event) (until p)) (heard : HeardAt network p) where
  abbrev setup : Setup
  setup = slave_setup heard.port

  abbrev before : List Call
  before = calls_before network heard.port p

  -- the outcome of the event is the answer
  outcome_is : hears heard.call ≡ true → is_completing (outcome_of network p.earlier p.event) ≡ is_complete (answer setup before heard.call)
  outcome_is is = ap is_completing (heard_outcome network heard.port (site_of p.event) p heard.call heard.slave meet.accepted.0 refl heard.made is)

  -- what completes a Sync is answered so, where it is no Delay_Resp
  sync_outcome : hears heard.call ≡ true → answer setup before heard.call ≡ used setup before heard.call → ((c : DelayCompletion) → delay_completed network p heard ≡ Some c → ⊥)
      → Completes network p ↔ IsSome (sync_completed network p heard)
  sync_outcome is answered none = (
    λ completes. elim (completes_something setup before heard.call (sym (outcome_is is) ∙ completes)) [ inl found ↦ is_some_of found.0 found.1 | inr other ↦ absurd (none other.0 other.1) ],
    λ some.
        let c = some_value (sync_completed network p heard) some in
        outcome_is is ∙ ap is_complete answered ∙ sync_completes setup before heard.call c.0 c.1,
  )

  -- a Delay_Resp completes no Sync
  no_sync : (h : HeardDelayResp (criteria setup before) heard.call) → (c : SyncCompletion) → sync_completed network p heard ≡ Some c → ⊥
  no_sync h c brought = by (sync_completion_of setup before heard.call c brought).0
    where
      by : IsSyncCompletion setup before heard.call c → ⊥
      by (BySync other follow flag found is) =
          let both : calls.Event (Ok other.m) other.t2 other.tag ≡ calls.General (Ok h.m) h.tag = sym other.call_is ∙ h.call_is in cc
      by (Alone other flag is) =
          let both : calls.Event (Ok other.m) other.t2 other.tag ≡ calls.General (Ok h.m) h.tag = sym other.call_is ∙ h.call_is in cc
      by (ByFollowUp other sync found is) =
          let both : calls.General (Ok other.m) other.tag ≡ calls.General (Ok h.m) h.tag = sym other.call_is ∙ h.call_is in
          let same : other.m ≡ h.m = cc in
          let bodies : bodies.FollowUp other.precise ≡ bodies.DelayResp h.receive h.requesting = sym other.body ∙ ap (λ (m : Contents). m.body) same ∙ h.body in
          cc

  -- and is answered to complete where it completes its request
  pub delay_outcome : (h : HeardDelayResp (criteria setup before) heard.call) → Completes network p ↔ IsSome (delay_completed network p heard)
  delay_outcome h = (
    λ completes. elim (completes_something setup before heard.call (sym (outcome_is (ap hears h.call_is)) ∙ completes)) [ inl found ↦ absurd (no_sync h found.0 found.1) | inr other ↦ is_some_of other.0 other.1 ],
    λ some.
        let c = some_value (delay_completed network p heard) some in
        let done = delay_completion_of setup before heard.call c.0 c.1 in
        outcome_is (ap hears h.call_is) ∙ ap is_complete done.used ∙ delay_completes setup before heard.call c.0 c.1,
  )

  -- a completion is of two messages of one origin
  pair_of : (c : SyncCompletion) → sync_completed network p heard ≡ Some c → (origin : Place) → origin_heard p ≡ Some origin → (follow_tag : ℕ) → c.follow_tag ≡ Some follow_tag
      → (c.sync_tag ≡ tag_of p) ⊎ (follow_tag ≡ tag_of p) → IsPairOf (until p) (tag_of p) origin c
  pair_of c brought origin drawn follow_tag two_step now =
      let one = one_sync reach fits network heard.port (site_of p.event) heard.slave (until p) meet p (IsIn-last p.event p.earlier) refl heard.call heard.made c brought in
      let both : Some one.journey.origin ≡ Some origin = sym one.heard_now ∙ drawn in
      let same : one.journey.origin ≡ origin = cc in
      let follow : HearsFollowUp (until p) (site_of p.event) one.told.master follow_tag one.journey.origin =
      subst (λ (o : Option ℕ). LearnsDeparture (until p) (site_of p.event) one.told.master o one.journey.origin) two_step one.departure in
      record {
        follow_tag = follow_tag;
        two_step = two_step;
        now = now;
        sync = ap (option_and_then origin_heard) one.arrives.there ∙ one.heard ∙ ap (λ (o : Place). Some o) same;
        follow = follow_origin (until p) (site_of p.event) one.told.master follow_tag one.journey.origin follow ∙ ap (λ (o : Place). Some o) same;
      }

  pub sync_pairs : IsSome (usable_two_step_sync (slave_setup heard.port) (calls_before network heard.port p) heard.call)
      → PairsSync network p heard (λ origin. Any (λ follow. IsOfOrigin p.earlier follow.value.tag origin) (held_follows (slave_setup heard.port) (calls_before network heard.port p)))
  sync_pairs usable =
      let slave : NodeName = site_of p.event in
      let port : PortSetup = heard.port in
      let history : List Call = history_of network port slave p.earlier in
      let e = some_value (usable_two_step_sync (slave_setup port) history heard.call) usable in
      let sync = two_step_entry (slave_setup port) history heard.call e.0 e.1 in
      let there : IsIn (until p) p = IsIn-last p.event p.earlier in
      let at = arrived network port slave p heard.call heard.slave meet.accepted.1 meet.accepted.0 refl heard.made sync.used sync.h.m sync.h.t2 sync.h.tag sync.h.call_is sync.h.passes in
      let drawn = two_step_copy network p.earlier at.copy sync.h.m sync.h.origin at.used.m_is sync.h.body sync.flag in
      let now = of_two_step network port slave p at.copy sync.h.m meet.apart at.used drawn in
      let origin : Place = drawn.journey.origin in
      let number : ℕ = sync.h.m.header.sequence.0 in
      let all = held_follows_are network port slave heard.slave p.earlier meet.accepted.1 in
      let partner : IsSome (sync_completed network p heard) ↔ Any (λ follow. IsOfOrigin p.earlier follow.value.tag origin) (held_follows (slave_setup port) history) = (
        λ completes.
            let found = some_value (sync_completed network p heard) completes in
            let follow = some_image (pair number (two_step_value sync.h)) (first_value number (held_follows (slave_setup port) history)) (sym sync.completes ∙ found.1) in
            any_found (IsHeldFollow network port slave p.earlier) (λ follow. IsOfOrigin p.earlier follow.value.tag origin)
            (held_follows (slave_setup port) history) number follow.0 all follow.1
            (λ e held same value.
            let before = of_follow network port slave held.p held.copy held.m meet.apart held.used held.made in
            let number_is : held.m.header.sequence.0 ≡ number = sym (ap (λ (e : Entry FollowValue). e.number) held.is) ∙ same in
            let one = one_origin_of reach network slave (until p) p held.p sync.h.m.header.source held.m.header.source number origin held.made.origin fits meet there refl
            held.there (ap is_set_master held.event) (ap site_of held.event) held.window at.used.told held.used.told now
            (record { used = before.used; heard = before.heard; there = before.there; drawn = before.drawn; number_is = sym number_is ∙ before.number_is }) in
            of_tag p.earlier held.p origin e.value.tag held.there (ap (λ (e : Entry FollowValue). e.value.tag) held.is)
            (before.heard ∙ ap (λ (o : Place). Some o) (sym one))),
        λ any.
            let held = All-get_or (IsHeldFollow network port slave p.earlier) (held_follows (slave_setup port) history) any.0 any.1 any.2 all in
            let before = of_follow network port slave held.p held.copy held.m meet.apart held.used held.made in
            let e_is : any.1 ≡ entry held.m.header.sequence.0 (record { precise = held.precise; correction = held.m.header.correction.0; tag = tag_of held.p }) = sym any.3 ∙ held.is in
            let of_held = of_tag p.earlier held.p held.made.origin any.1.value.tag held.there (ap (λ (e : Entry FollowValue). e.value.tag) e_is) before.heard in
            let both : Some held.made.origin ≡ Some origin = sym of_held ∙ any.4 in
            let one : held.made.origin ≡ origin = cc in
            let told = same_told network slave p.earlier held.p sync.h.m.header.source held.m.header.source held.there (ap is_set_master held.event) held.window.masters
            at.used.told held.used.told in
            let number_is : any.1.number ≡ number =
            ap (λ (e : Entry FollowValue). e.number) e_is ∙ before.number_is ∙ ap (λ (o : Place). of_count (number_of held.used.told.port o)) one
            ∙ ap (λ (o : PortSetup). of_count (number_of o origin)) (sym told.2) ∙ sym now.number_is in
            let found = some_value (first_value number (held_follows (slave_setup port) history))
            (found_where (held_follows (slave_setup port) history) number any.0 any.1 any.2 any.3 number_is) in
            is_some_of (pair number (two_step_value sync.h) found.0) (sync.completes ∙ ap (option_map (pair number (two_step_value sync.h))) found.1),
      ) in
      record {
        origin = origin;
        drawn = now.heard;
        outcome = sync_outcome (ap hears sync.h.call_is) sync.used
            (λ c brought.
            let done = delay_completion_of (slave_setup port) history heard.call c brought in
            let both : calls.Event (Ok sync.h.m) sync.h.t2 sync.h.tag ≡ calls.General (Ok done.h.m) done.h.tag = sym sync.h.call_is ∙ done.h.call_is in cc);
        partner = partner;
        pair = if_some (IsPairOf (until p) (tag_of p) origin) (sync_completed network p heard)
            (λ c brought.
            let follow = some_image (pair number (two_step_value sync.h)) (first_value number (held_follows (slave_setup port) history)) (sym sync.completes ∙ brought) in
            pair_of c brought origin now.heard follow.0.tag (ap (λ (c : SyncCompletion). c.follow_tag) (sym follow.2))
            (inl (ap (λ (c : SyncCompletion). c.sync_tag) (sym follow.2) ∙ at.tag_is)));
      }

  pub follow_up_pairs : IsSome (usable_follow_up (slave_setup heard.port) (calls_before network heard.port p) heard.call)
      → PairsSync network p heard (λ origin. Any (λ sync. IsOfOrigin p.earlier sync.value.tag origin) (held_syncs (slave_setup heard.port) (calls_before network heard.port p)))
  follow_up_pairs usable =
      let slave : NodeName = site_of p.event in
      let port : PortSetup = heard.port in
      let history : List Call = history_of network port slave p.earlier in
      let e = some_value (usable_follow_up (slave_setup port) history heard.call) usable in
      let follow = follow_entry (slave_setup port) history heard.call e.0 e.1 in
      let there : IsIn (until p) p = IsIn-last p.event p.earlier in
      let at = heard_by network port slave p heard.call heard.slave meet.accepted.1 meet.accepted.0 refl heard.made follow.used follow.h.m follow.h.tag follow.h.call_is follow.h.passes in
      let made = follow_up_copy network p.earlier at.copy follow.h.m follow.h.precise at.used.m_is follow.h.body in
      let now = of_follow network port slave p at.copy follow.h.m meet.apart at.used made in
      let origin : Place = made.origin in
      let number : ℕ = follow.h.m.header.sequence.0 in
      let all = held_syncs_are network port slave heard.slave p.earlier meet.accepted.1 in
      let partner : IsSome (sync_completed network p heard) ↔ Any (λ sync. IsOfOrigin p.earlier sync.value.tag origin) (held_syncs (slave_setup port) history) = (
        λ completes.
            let found = some_value (sync_completed network p heard) completes in
            let sync = some_image (λ (sync : SyncValue). pair number sync (follow_value follow.h)) (first_value number (held_syncs (slave_setup port) history)) (sym follow.completes ∙ found.1) in
            any_found (IsHeldSync network port slave p.earlier) (λ sync. IsOfOrigin p.earlier sync.value.tag origin)
            (held_syncs (slave_setup port) history) number sync.0 all sync.1
            (λ e held same value.
            let before = of_two_step network port slave held.p held.copy held.m meet.apart held.used held.drawn in
            let number_is : held.m.header.sequence.0 ≡ number = sym (ap (λ (e : Entry SyncValue). e.number) held.is) ∙ same in
            let one = one_origin_of reach network slave (until p) p held.p follow.h.m.header.source held.m.header.source number origin held.drawn.journey.origin fits meet there refl
            held.there (ap is_set_master held.event) (ap site_of held.event) held.window at.used.told held.used.told now
            (record { used = before.used; heard = before.heard; there = before.there; drawn = before.drawn; number_is = sym number_is ∙ before.number_is }) in
            of_tag p.earlier held.p origin e.value.tag held.there (ap (λ (e : Entry SyncValue). e.value.tag) held.is)
            (before.heard ∙ ap (λ (o : Place). Some o) (sym one))),
        λ any.
            let held = All-get_or (IsHeldSync network port slave p.earlier) (held_syncs (slave_setup port) history) any.0 any.1 any.2 all in
            let before = of_two_step network port slave held.p held.copy held.m meet.apart held.used held.drawn in
            let e_is : any.1 ≡ entry held.m.header.sequence.0 (record { t2 = _; correction = held.m.header.correction.0; tag = tag_of held.p }) = sym any.3 ∙ held.is in
            let of_held = of_tag p.earlier held.p held.drawn.journey.origin any.1.value.tag held.there (ap (λ (e : Entry SyncValue). e.value.tag) e_is) before.heard in
            let both : Some held.drawn.journey.origin ≡ Some origin = sym of_held ∙ any.4 in
            let one : held.drawn.journey.origin ≡ origin = cc in
            let told = same_told network slave p.earlier held.p follow.h.m.header.source held.m.header.source held.there (ap is_set_master held.event) held.window.masters
            at.used.told held.used.told in
            let number_is : any.1.number ≡ number =
            ap (λ (e : Entry SyncValue). e.number) e_is ∙ before.number_is ∙ ap (λ (o : Place). of_count (number_of held.used.told.port o)) one
            ∙ ap (λ (o : PortSetup). of_count (number_of o origin)) (sym told.2) ∙ sym now.number_is in
            let found = some_value (first_value number (held_syncs (slave_setup port) history))
            (found_where (held_syncs (slave_setup port) history) number any.0 any.1 any.2 any.3 number_is) in
            is_some_of (pair number found.0 (follow_value follow.h))
            (follow.completes ∙ ap (option_map (λ (sync : SyncValue). pair number sync (follow_value follow.h))) found.1),
      ) in
      record {
        origin = origin;
        drawn = now.heard;
        outcome = sync_outcome (ap hears follow.h.call_is) follow.used
            (λ c brought.
            let done = delay_completion_of (slave_setup port) history heard.call c brought in
            let both : calls.General (Ok follow.h.m) follow.h.tag ≡ calls.General (Ok done.h.m) done.h.tag = sym follow.h.call_is ∙ done.h.call_is in
            let same : follow.h.m ≡ done.h.m = cc in
            let bodies : bodies.FollowUp follow.h.precise ≡ bodies.DelayResp done.h.receive done.h.requesting = sym follow.h.body ∙ ap (λ (m : Contents). m.body) same ∙ done.h.body in
            cc);
        partner = partner;
        pair = if_some (IsPairOf (until p) (tag_of p) origin) (sync_completed network p heard)
            (λ c brought.
            let sync = some_image (λ (sync : SyncValue). pair number sync (follow_value follow.h)) (first_value number (held_syncs (slave_setup port) history)) (sym follow.completes ∙ brought) in
            pair_of c brought origin now.heard follow.h.tag (ap (λ (c : SyncCompletion). c.follow_tag) (sym sync.2)) (inr at.tag_is));
      }

-- a part of the requests
are_taken : (port : PortSetup) (slave : NodeName) (run : Run) (k n : ℕ) (es : List (Entry RequestValue)) → AreRequests port slave run n es
    → AreRequests port slave run n (take k es) × (length (take k es) ≤ k)
are_taken port slave run zero n es are = (tt, omega arith)
are_taken port slave run (suc k) n [] are = (tt, omega arith)
are_taken port slave run (suc k) n (e ∷ others) are = let rest = are_taken port slave run k (n - 1) others are.1 in ((are.0, rest.0), omega (arith, rest.1))

request_at : (port : PortSetup) (slave : NodeName) (run : Run) (n : ℕ) (es : List (Entry RequestValue)) (k : ℕ) (x : Entry RequestValue) → AreRequests port slave run n es
    → k < length es → get_or es k x ≡ x → IsRequest port slave run (n - k) x
request_at port slave run n [] k x are within there = absurd (omega arith)
request_at port slave run n (e ∷ others) zero x are within there = subst (λ (r : Entry RequestValue). IsRequest port slave run (n - 0) r) there (subst (λ (m : ℕ). IsRequest port slave run m e) (omega arith) are.0)
request_at port slave run n (e ∷ others) (suc k) x are within there =
    let rest = request_at port slave run (n - 1) others k x are.1 (omega arith) there in
    let same : n - 1 - k ≡ n - suc k = omega arith in
    subst (λ (m : ℕ). IsRequest port slave run m x) same rest

-- of a few requests no two have one sequenceId, so the one of a number is found
newest_is : (port : PortSetup) (slave : NodeName) (run : Run) (number : ℕ) (n : ℕ) (es : List (Entry RequestValue)) (k : ℕ) (x : Entry RequestValue) → AreRequests port slave run n es
    → length es ≤ 65536 → k < length es → get_or es k x ≡ x → x.number ≡ number → first_value number es ≡ Some x.value
newest_is port slave run number n [] k x are short within there is = absurd (omega arith)
newest_is port slave run number n (e ∷ others) k x are short within there is =
    at k (nat_eq e.number number) refl within there (newest_is port slave run number (n - 1) others)
  where
    at : (k : ℕ) (same : Bool) → nat_eq e.number number ≡ same → k < length (e ∷ others) → get_or (e ∷ others) k x ≡ x
        → ((k : ℕ) (x : Entry RequestValue) → AreRequests port slave run (n - 1) others → length others ≤ 65536 → k < length others → get_or others k x ≡ x → x.number ≡ number
        → first_value number others ≡ Some x.value)
        → option_map (λ e. e.value) (if same then Some e else find (λ e. nat_eq e.number number) others) ≡ Some x.value
    at zero true f within there rest = ap (λ (e : Entry RequestValue). Some e.value) there
    at (suc k) true f within there rest =
        let older = request_at port slave run (n - 1) others k x are.1 (omega arith) there in
        let first : of_count (port.first + count_by (is_at is_request slave) are.0.u.earlier) ≡ of_count (port.first + count_by (is_at is_request slave) older.u.earlier) =
        sym are.0.number ∙ eqb-true e.number number f ∙ sym is ∙ older.number in
        let c = are.0.count in
        let d = older.count in
        absurd (omega arith)
    at zero false f within there rest = absurd (eqb-false e.number number f (ap (λ (e : Entry RequestValue). e.number) there ∙ is))
    at (suc k) false f within there rest = rest k x are.1 (omega arith) (omega arith) there is

-- the copy that a call on the general port is told
told_copy : (network : Network) (port : PortSetup) (p : Place) (call : Call) (m : Contents) (tag : ℕ) → call_made network port p.event p.earlier ≡ Some call
    → call ≡ calls.General (Ok m) tag → (copy : ℕ) × (heard_copy p.event ≡ Some copy) × (copy_of network p.earlier copy ≡ Some m)
told_copy network port p call m tag made call_is = by (call_of network port p.event p.earlier call made)
  where
    by : IsCallOf network port p.event p.earlier call → (copy : ℕ) × (heard_copy p.event ≡ Some copy) × (copy_of network p.earlier copy ≡ Some m)
    by (Hears node copy m' event copy_is told) =
        let both : calls.General (Ok m') (length p.earlier) ≡ calls.General (Ok m) tag = sym told ∙ call_is in
        let same : m' ≡ m = cc in
        (copy, ap heard_copy event, copy_is ∙ ap (λ (c : Contents). Some c) same)
    by (Arrives node copy at m' event copy_is told) = cc
    by (Requests node at event told) = cc
    by (Departs node request event waits told) = cc
    by (Ticks node event told) = cc
    by (Sets node master other event port_is told) = cc

module _ (reach : ℕ) (fits : reach ≤ 65536) (network : Network) (p : Place) (meet : NumbersMeet reach network (site_of p.event) (until p)) (heard : HeardAt network p) where
  pub delay_resp_pairs : IsSome (usable_delay_resp (slave_setup heard.port) (calls_before network heard.port p) heard.call)
      → PairsRequest network p heard
      (λ origin. Any (λ request. (request.value.tag ≡ tag_of origin) × IsSome request.value.t3) (held_requests (slave_setup heard.port) (calls_before network heard.port p)))
  delay_resp_pairs usable =
      let slave : NodeName = site_of p.event in
      let port : PortSetup = heard.port in
      let history : List Call = history_of network port slave p.earlier in
      let there : IsIn (until p) p = IsIn-last p.event p.earlier in
      let e = some_value (usable_delay_resp (slave_setup port) history heard.call) usable in
      let response = response_entry (slave_setup port) history heard.call e.0 e.1 in
      let number : ℕ = response.h.m.header.sequence.0 in
      let copy = told_copy network port p heard.call response.h.m response.h.tag heard.made response.h.call_is in
      let answer = answer_to_slave network port slave p.earlier copy.0 response.h.m response.h.receive response.h.requesting meet.apart heard.slave copy.2 response.h.body response.h.own in
      let answer_heard : origin_heard p ≡ Some answer.journey.origin = ap (option_and_then (origin_of p.earlier)) copy.1 ∙ answer.origin_is in
      let origin : Place = answer.journey.origin in
      let origin_in : IsIn p.earlier origin =
      IsIn-within p.earlier answer.made origin (IsIn-place_at p.earlier copy.0 answer.made answer.there) answer.origin_there in
      let request_of : (c : DelayCompletion) → delay_completed network p heard ≡ Some c → c.request_tag ≡ tag_of origin =
      λ c brought.
      let one = one_request reach fits network port slave heard.slave (until p) meet p there refl heard.call heard.made c brought in
      let drawn : Some one.journey.origin ≡ Some origin = sym one.heard ∙ answer_heard in
      let drawn_is : one.journey.origin ≡ origin = cc in
      sym (tag_of-place_at (until p) c.request_tag one.journey.origin one.requested) ∙ ap tag_of drawn_is in
      let partner : IsSome (delay_completed network p heard) ↔ Any (λ request. (request.value.tag ≡ tag_of origin) × IsSome request.value.t3) (held_requests (slave_setup port) history) = (
        λ completes.
            let c = some_value (delay_completed network p heard) completes in
            let done = delay_completion_of (slave_setup port) history heard.call c.0 c.1 in
            let tag : done.request.tag ≡ tag_of origin = sym (ap (λ (c : DelayCompletion). c.request_tag) done.is) ∙ request_of c.0 c.1 in
            any_found (λ e. Unit {0}) (λ request. (request.value.tag ≡ tag_of origin) × IsSome request.value.t3)
            (held_requests (slave_setup port) history) done.h.m.header.sequence.0 done.request (λ k d within. tt) done.found
            (λ e all same value. (ap (λ (r : RequestValue). r.tag) value ∙ tag, is_some_of done.t3 (ap (λ (r : RequestValue). r.t3) value ∙ done.left))),
        λ any.
            let es : List (Entry RequestValue) = requests (slave_setup port) history in
            let taken = are_taken port slave p.earlier table_capacity (count_by (is_at is_request slave) p.earlier) es (requests_are network port slave p.earlier meet.accepted.1) in
            let few : length (take table_capacity es) ≤ 16 = taken.1 in
            let own = request_at port slave p.earlier (count_by (is_at is_request slave) p.earlier) (take table_capacity es) any.0 any.1 taken.0 any.2 any.3 in
            let one : own.u ≡ origin = same_place p.earlier own.u origin own.there origin_in (sym own.tag ∙ any.4.0) in
            let number_is : any.1.number ≡ number =
            own.number ∙ ap (λ (o : Place). of_count (port.first + count_by (is_at is_request slave) o.earlier)) one
            ∙ sym (ap (λ (kind : Event → Bool). of_count (port.first + count_by kind answer.journey.origin.earlier)) (draws_with-request slave answer.journey.origin.event answer.drawn))
            ∙ sym answer.number_is in
            let found = newest_is port slave p.earlier number (count_by (is_at is_request slave) p.earlier) (take table_capacity es) any.0 any.1 taken.0 (omega arith) any.2 any.3 number_is in
            let t3 = some_value any.1.value.t3 any.4.1 in
            let completion : ℕ → DelayCompletion = responded number (response_value response.h) any.1.value in
            is_some_of (completion t3.0)
            (ap (option_and_then (λ (response : Entry ResponseValue). option_and_then (answered response.number response.value) (first_value response.number (held_requests (slave_setup port) history)))) e.1
            ∙ ap (λ (response : Entry ResponseValue). option_and_then (answered response.number response.value) (first_value response.number (held_requests (slave_setup port) history))) response.is
            ∙ ap (option_and_then (answered number (response_value response.h))) found
            ∙ ap (option_map completion) t3.1),
      ) in
      record {
        origin = origin;
        drawn = answer_heard;
        outcome = delay_outcome reach fits network p meet heard response.h;
        partner = partner;
        pair = if_some (IsAnswerTo (tag_of p) origin) (delay_completed network p heard)
            (λ c brought.
            let done = delay_completion_of (slave_setup port) history heard.call c brought in
            let at = heard_by network port slave p heard.call heard.slave meet.accepted.1 meet.accepted.0 refl heard.made done.used done.h.m done.h.tag done.h.call_is done.h.passes in
            record { request = request_of c brought; now = ap (λ (c : DelayCompletion). c.response_tag) done.is ∙ at.tag_is });
      }

-- in runs that are fresh and ticked for the slave
pub no_pair_is_missed : NoPairIsMissed
no_pair_is_missed = record {
  heard = each_is_heard;
  syncs = λ network p premise heard. sync_pairs 65536 (omega arith) network p (meet_for exact_limits network (site_of p.event) (until p) premise) heard;
  follow_ups = λ network p premise heard. follow_up_pairs 65536 (omega arith) network p (meet_for exact_limits network (site_of p.event) (until p) premise) heard;
  delay_resps = λ network p premise heard. delay_resp_pairs 65536 (omega arith) network p (meet_for exact_limits network (site_of p.event) (until p) premise) heard;
}
