-- What isn't heard brings no report, and no copy is heard.
use Rattle.std.proofs.Common.{◌≡◌, ◌∙◌, ℕ, Bool, true, false, List, [], ◌∷◌, ◌++◌, Option, Some, None, Ok}
use Rattle.std.proofs.Common.{refl, sym, ap, subst, arith, is_some, if◌then◌else◌, option_map, option_and_then}
use Rattle.std.specs.Prelude.{◌&&◌, ◌||◌, not}
use Rattle.std.specs.Result.{result_ok}
use Rattle.std.proofs.lemmas.Bool.{true≢false, and_from, and_parts, or_left, or_right, or_parts}
use Rattle.std.proofs.lemmas.List.Elements.{All-head, All-tail}
use Rattle.ptp_units.specs.Moment.{Stamp}
use Rattle.event_codec.specs.declared.message.Body.{Body}
use Rattle.event_codec.specs.declared.message.Body.TheVariants as bodies
use Rattle.event_codec.specs.declared.port.PortIdentity.{PortIdentity}
use Rattle.event_codec.specs.Packet.{Contents}
use Rattle.event_codec.specs.Port.{is_same_port}
use Rattle.event_codec.specs.Reading.{Reading}
use Rattle.pairing.specs.Marked.{Entry, entry}
use Rattle.sync_watch.specs.declared.judgement.Judgement.{Judgement}
use Rattle.sync_watch.specs.declared.judgement.Judgement.TheVariants.{Newer, Repeated, BeganAnew}
use Rattle.sync_watch.specs.Told.{Told, Sync, FollowUp, known, syncs, follow_ups}
use Rattle.sync_watch.specs.Life.{is_apart, newest}
use Rattle.sync_watch.specs.Judged.{sync_judgement, is_repeat, judged_sync, judged_follow_up}
use Rattle.slave_port.specs.declared.heard.Heard.{Heard}
use Rattle.slave_port.specs.History as calls
use Rattle.slave_port.specs.History.{Call}
use Rattle.recording_model.specs.declared.watched.Watched.{Watched}
use Rattle.recording_model.specs.Recorded.{Recorded}
use Rattle.recording_model.specs.Listening.{Listening, table_capacity, is_of, is_unicast, arrival_of, answer_in, answered}
use Rattle.recording_model.specs.Listening.{answered_to, report_in, report_at, ready_sync, ready_follow_up, ready_response}
use Rattle.recording_model.specs.Listening.{ready_judged, ready_followed, hear, after_all}
use Rattle.recording_model.specs.Told.{is_sync}
use Rattle.recording_model.specs.Finds.{is_master_sync, is_follow_up, is_master_follow_up, is_response_to, is_own_response}
use Rattle.recording_model.specs.Finds.{is_own_request, is_delay_req, says}
use Rattle.recording_model.specs.Pairs.{is_heard}
use Rattle.recording_model.specs.Copies.{is_own_message, AreOthers, NoCopyIsReported}
use Rattle.recording_model.proofs.Hearing.{Keeps, hear_holds}
use Rattle.recording_model.proofs.Known.{known-arrival, known-first}
use Rattle.recording_model.proofs.Said.{says-of}

-- ---- what isn't heard
unheard_none : (o : Option Heard) → is_some o ≡ false → option_and_then report_in o ≡ None
unheard_none None none = refl
unheard_none (Some heard) none = cc

unheard : (w : Watched) (earlier : List Recorded) (d : Recorded) → is_heard w earlier d ≡ false → report_at w earlier d ≡ None
unheard w earlier d none = unheard_none (answered_to w d (after_all w earlier)) none

-- ---- messages by whose number copies are known
module _ (w : Watched) (m : Contents) (of_master : is_of w w.master m.header ≡ true) where
  own-sync : (origin : Stamp) → m.body ≡ bodies.Sync origin → is_own_message w m ≡ true
  own-sync origin body =
      or_left (is_master_sync w m) (is_master_follow_up w m || is_own_response w m)
      (and_from (is_of w w.master m.header) (is_sync m.body) of_master (ap is_sync body))

  own-follow : (precise : Stamp) → m.body ≡ bodies.FollowUp precise → is_own_message w m ≡ true
  own-follow precise body =
      or_right (is_master_sync w m) (is_master_follow_up w m || is_own_response w m)
      (or_left (is_master_follow_up w m) (is_own_response w m)
      (and_from (is_of w w.master m.header) (is_follow_up m.body) of_master (ap is_follow_up body)))

  own-response : (receive : Stamp) (requesting : PortIdentity) → m.body ≡ bodies.DelayResp receive requesting
      → is_same_port requesting w.slave ≡ true → is_own_message w m ≡ true
  own-response receive requesting body to_slave =
      or_right (is_master_sync w m) (is_master_follow_up w m || is_own_response w m)
      (or_right (is_master_follow_up w m) (is_own_response w m)
      (and_from (is_of w w.master m.header) (is_response_to w.slave m.body) of_master
      (ap (is_response_to w.slave) body ∙ to_slave)))

-- ---- what is known of a message that was heard
-- its number is known, with its time
abbrev IsKnownBy : Body → (number time : ℕ) → (flag : Bool) → List Told → List (Entry ℕ) → Type 0
IsKnownBy (bodies.Sync origin) number time flag heard responses = known table_capacity number (syncs flag heard) ≡ Some time
IsKnownBy (bodies.DelayReq origin) number time flag heard responses = ⊥
IsKnownBy (bodies.FollowUp precise) number time flag heard responses =
    known table_capacity number (follow_ups flag heard) ≡ Some time
IsKnownBy (bodies.DelayResp receive requesting) number time flag heard responses = known table_capacity number responses ≡ Some time

module _ (w : Watched) (m : Contents) (time : ℕ) where
  abbrev Holds : Listening → Type 0
  Holds r = IsKnownBy m.body m.header.sequence.0 time (is_unicast m.header) r.heard r.responses

  -- another datagram leaves it known
  module _ (x : Recorded) (l : Listening)
      (none : says (λ (m : Contents). is_own_message w m || is_own_request w m) x ≡ false) where
    nothing : (n : Contents) → x.said ≡ Ok n → (is_own_message w n ≡ false) × (is_own_request w n ≡ false)
    nothing n said =
        or_parts (is_own_message w n) (is_own_request w n)
        (sym (says-of (λ (m : Contents). is_own_message w m || is_own_request w m) x n said) ∙ none)

    no_message : {P : Type 0} (n : Contents) → x.said ≡ Ok n → is_own_message w n ≡ true → P
    no_message n said own = absurd (true≢false (sym own ∙ (nothing n said).0))

    no_request : {P : Type 0} (n : Contents) → x.said ≡ Ok n → is_own_request w n ≡ true → P
    no_request n said own = absurd (true≢false (sym own ∙ (nothing n said).1))

    keeps_known : Keeps w x l Holds Holds Holds
    keeps_known = record {
      unheard = λ gone none r is. is;
      as_is = λ n said none r is. is;
      sync = λ n origin said body of_master r is. no_message n said (own-sync w n of_master origin body);
      master = λ n origin said body of_master r is. no_message n said (own-sync w n of_master origin body);
      follow = λ n precise said body of_master r is. no_message n said (own-follow w n of_master precise body);
      response = λ n receive requesting said body of_master to_slave r is.
          no_message n said (own-response w n of_master receive requesting body to_slave);
      other = λ n origin said body other r is_ready is. is;
      counted = λ n origin said body of_master r room is_ready is. is;
      ticked = λ n origin said body of_master r full is_ready is. is;
      general = λ n said kind r is_ready is. is;
      again = λ n said own r same is. is;
      asked = λ n said own r near is. is;
      begun = λ n said own r is. no_request n said own;
    }

-- it is known once it was heard
module _ (w : Watched) (x : Recorded) (l : Listening) (m : Contents) (said : x.said ≡ Ok m)
    (own : is_own_message w m ≡ true) (heard : is_some (answered_to w x l) ≡ true) where
  abbrev Known : Contents → Listening → Type 0
  Known n r = IsKnownBy n.body n.header.sequence.0 x.time (is_unicast n.header) r.heard r.responses

  same_message : (n : Contents) → x.said ≡ Ok n → n ≡ m
  same_message n other = let both : Ok n ≡ Ok m = sym other ∙ said in cc

  known-own : (n : Contents) (r : Listening) → x.said ≡ Ok n → Known n r → Known m r
  known-own n r other is = subst (λ (c : Contents). Known c r) (same_message n other) is

  abbrev Any : Listening → Type 0
  Any r = Unit {0}

  sync-known : (n : Contents) (origin : Stamp) (earlier : List Told) (responses : List (Entry ℕ)) → n.body ≡ bodies.Sync origin
      → IsKnownBy n.body n.header.sequence.0 x.time (is_unicast n.header) (Sync (arrival_of n.header x.time) ∷ earlier) responses
  sync-known n origin earlier responses body =
      rw body (known-arrival (arrival_of n.header x.time) (syncs (is_unicast n.header) earlier) table_capacity (omega arith) (omega arith))

  follow-known : (n : Contents) (precise : Stamp) (earlier : List Told) (responses : List (Entry ℕ))
      → n.body ≡ bodies.FollowUp precise
      → IsKnownBy n.body n.header.sequence.0 x.time (is_unicast n.header) (FollowUp (arrival_of n.header x.time) ∷ earlier) responses
  follow-known n precise earlier responses body =
      rw body (known-arrival (arrival_of n.header x.time) (follow_ups (is_unicast n.header) earlier) table_capacity (omega arith)
      (omega arith))

  response-known : (n : Contents) (receive : Stamp) (requesting : PortIdentity) (told : List Told) (earlier : List (Entry ℕ))
      → n.body ≡ bodies.DelayResp receive requesting
      → IsKnownBy n.body n.header.sequence.0 x.time (is_unicast n.header) told (entry n.header.sequence.0 x.time ∷ earlier)
  response-known n receive requesting told earlier body =
      rw body (known-first 0 n.header.sequence.0 x.time earlier table_capacity (omega arith) (omega arith))

  becomes_known : Keeps w x l Any (Known m) (Known m)
  becomes_known = record {
    unheard = λ gone none r is. absurd (true≢false (sym heard ∙ ap is_some gone));
    as_is = λ n other none r is.
        absurd (true≢false (sym own ∙ subst (λ (c : Contents). is_own_message w c ≡ false) (same_message n other) none));
    sync = λ n origin other body of_master r is.
        known-own n (record r { heard = Sync (arrival_of n.header x.time) ∷ r.heard }) other
        (sync-known n origin r.heard r.responses body);
    master = λ n origin other body of_master r is.
        subst (λ (c : Contents). IsKnownBy c.body c.header.sequence.0 x.time (is_unicast c.header)
        (Sync (arrival_of n.header x.time) ∷ []) []) (same_message n other) (sync-known n origin [] [] body);
    follow = λ n precise other body of_master r is.
        known-own n (record r { heard = FollowUp (arrival_of n.header x.time) ∷ r.heard }) other
        (follow-known n precise r.heard r.responses body);
    response = λ n receive requesting other body of_master to_slave r is.
        known-own n (record r { responses = entry n.header.sequence.0 x.time ∷ r.responses }) other
        (response-known n receive requesting r.heard r.responses body);
    other = λ n origin other body none r is_ready is. is;
    counted = λ n origin other body of_master r room is_ready is. is;
    ticked = λ n origin other body of_master r full is_ready is. is;
    general = λ n other kind r is_ready is. is;
    again = λ n other mine r same is. absurd (no_delay_req n other mine);
    asked = λ n other mine r near is. absurd (no_delay_req n other mine);
    begun = λ n other mine r is. absurd (no_delay_req n other mine);
  }
    where
      no_own : (o : Bool) (body : Body) → is_delay_req body ≡ true
          → ((o && is_sync body) || ((o && is_follow_up body) || (o && is_response_to w.slave body))) ≡ false
      no_own false body is = refl
      no_own true (bodies.Sync origin) is = cc
      no_own true (bodies.DelayReq origin) is = refl
      no_own true (bodies.FollowUp precise) is = cc
      no_own true (bodies.DelayResp receive requesting) is = cc

      no_delay_req : (n : Contents) → x.said ≡ Ok n → is_own_request w n ≡ true → ⊥
      no_delay_req n other mine =
          let same : is_own_message w n ≡ true =
          subst (λ (c : Contents). is_own_message w c ≡ true) (sym (same_message n other)) own in
          true≢false (sym same ∙ no_own (is_of w w.master n.header) n.body
          (and_parts (is_of w w.slave n.header) (is_delay_req n.body) mine).1)

  pub known_now : Known m (hear w x l)
  known_now = hear_holds w x l Any (Known m) (Known m) becomes_known tt

-- ---- a copy
-- what an own message is of, by its body
of_own : (o a b c : Bool) → ((o && a) || ((o && b) || (o && c))) ≡ true → o ≡ true
of_own true a b c is = refl
of_own false a b c is = cc

own_to : (o s : Bool) → ((o && false) || ((o && false) || (o && s))) ≡ true → s ≡ true
own_to true s is = is
own_to false s is = cc

module _ (w : Watched) (copy : Recorded) (m : Contents) (time : ℕ) (l : Listening) (near : is_apart copy.time time ≡ false)
    (of_master : is_of w w.master m.header ≡ true) where
  sync_none : known table_capacity m.header.sequence.0 (syncs (is_unicast m.header) l.heard) ≡ Some time
      → ready_sync w copy.line copy.time m l ≡ None
  sync_none is =
      ap (λ (b : Bool). if b
      then ready_judged (judged_sync (arrival_of m.header copy.time) table_capacity l.heard) w copy.line
      (arrival_of m.header copy.time) l
      else Some l) of_master
      ∙ ap (λ (j : Judgement). ready_judged j w copy.line (arrival_of m.header copy.time) l)
      (ap (λ (o : Option ℕ). sync_judgement (arrival_of m.header copy.time) o
      (known table_capacity m.header.sequence.0 (follow_ups (is_unicast m.header) l.heard))
      (newest (syncs (is_unicast m.header) l.heard))) is
      ∙ ap (λ (apart : Bool). if apart then BeganAnew else Repeated) near)

  follow_none : known table_capacity m.header.sequence.0 (follow_ups (is_unicast m.header) l.heard) ≡ Some time
      → ready_follow_up w copy.time m l ≡ None
  follow_none is =
      ap (λ (b : Bool). if b
      then ready_followed (judged_follow_up (arrival_of m.header copy.time) table_capacity l.heard)
      (arrival_of m.header copy.time) l
      else Some l) of_master
      ∙ ap (λ (o : Option ℕ). ready_followed
      (if is_repeat (arrival_of m.header copy.time)
      (known table_capacity m.header.sequence.0 (syncs (is_unicast m.header) l.heard)) o
      (newest (syncs (is_unicast m.header) l.heard))
      then Repeated else Newer) (arrival_of m.header copy.time) l) is

  response_none : (requesting : PortIdentity) → is_same_port requesting w.slave ≡ true
      → known table_capacity m.header.sequence.0 l.responses ≡ Some time
      → ready_response w copy.time m requesting l ≡ None
  response_none requesting to_slave is =
      ap (λ (b : Bool). if not b then Some l
      else if is_some (known table_capacity m.header.sequence.0 l.responses) then None
      else Some (record l { responses = entry m.header.sequence.0 copy.time ∷ l.responses }))
      (and_from (is_of w w.master m.header) (is_same_port requesting w.slave) of_master to_slave)
      ∙ ap (λ (o : Option ℕ). if is_some o then None
      else Some (record l { responses = entry m.header.sequence.0 copy.time ∷ l.responses })) is

module _ (w : Watched) (copy : Recorded) (m : Contents) (time : ℕ) (l : Listening) (near : is_apart copy.time time ≡ false)
    (own : is_own_message w m ≡ true) (is : Holds w m time l) where
  answers_none : (call : Call) (o : Option Listening) → o ≡ None → is_some (option_map (λ l. answer_in w l call) o) ≡ false
  answers_none call None none = refl
  answers_none call (Some r) none = cc

  abbrev OwnBy : Body → Type 0
  OwnBy b = ((is_of w w.master m.header && is_sync b)
      || ((is_of w w.master m.header && is_follow_up b) || (is_of w w.master m.header && is_response_to w.slave b))) ≡ true

  copy_unheard : (body : Body) → OwnBy body
      → IsKnownBy body m.header.sequence.0 time (is_unicast m.header) l.heard l.responses
      → is_some (answered w copy.line copy.time m body l) ≡ false
  copy_unheard (bodies.Sync origin) mine known =
      answers_none (calls.Event (Ok m) copy.time copy.line) (ready_sync w copy.line copy.time m l)
      (sync_none w copy m time l near (of_own (is_of w w.master m.header) true false false mine) known)
  copy_unheard (bodies.DelayReq origin) mine known = absurd known
  copy_unheard (bodies.FollowUp precise) mine known =
      answers_none (calls.General (Ok m) copy.line) (ready_follow_up w copy.time m l)
      (follow_none w copy m time l near (of_own (is_of w w.master m.header) false true false mine) known)
  copy_unheard (bodies.DelayResp receive requesting) mine known =
      answers_none (calls.General (Ok m) copy.line) (ready_response w copy.time m requesting l)
      (response_none w copy m time l near
      (of_own (is_of w w.master m.header) false false (is_same_port requesting w.slave) mine) requesting
      (own_to (is_of w w.master m.header) (is_same_port requesting w.slave) mine) known)

  pub copy_none : copy.said ≡ Ok m → is_some (answered_to w copy l) ≡ false
  copy_none said =
      ap (λ (r : Reading). is_some (option_and_then (λ m. answered w copy.line copy.time m m.body l) (result_ok r))) said
      ∙ copy_unheard m.body own is

module _ (w : Watched) (earlier : List Recorded) (d : Recorded) (m : Contents) (said : d.said ≡ Ok m)
    (own : is_own_message w m ≡ true) (heard : is_heard w earlier d ≡ true) where
  known_behind : (between : List Recorded) → AreOthers w between → Holds w m d.time (after_all w (between ++ d ∷ earlier))
  known_behind [] are = known_now w d (after_all w earlier) m said own heard
  known_behind (x ∷ between) are =
      hear_holds w x (after_all w (between ++ d ∷ earlier)) (Holds w m d.time) (Holds w m d.time) (Holds w m d.time)
      (keeps_known w m d.time x (after_all w (between ++ d ∷ earlier))
      (All-head (λ (d : Recorded). says (λ m. is_own_message w m || is_own_request w m) d ≡ false) x between are))
      (known_behind between
      (All-tail (λ (d : Recorded). says (λ m. is_own_message w m || is_own_request w m) d ≡ false) x between are))

pub no_copy : NoCopyIsReported
no_copy = record {
  unheard = unheard;
  copies = λ w earlier between d copy m said copied own heard are near.
      copy_none w copy m d.time (after_all w (between ++ d ∷ earlier)) near own
      (known_behind w earlier d m said own heard between are) copied;
}
