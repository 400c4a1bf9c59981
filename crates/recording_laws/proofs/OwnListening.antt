-- What a listening port was told of messages of three kinds, Syncs, Delay_Reqs and Delay_Resps, of each of which something is known.
use Rattle.std.proofs.Common.{◌≡◌, ◌∙◌, ℕ, zero, suc, ◌+◌, ◌<◌, Bool, true, false, true≢false, List, ◌∷◌, Option, Some, None, Ok, refl, sym, ap, subst}
use Rattle.std.specs.Prelude.{not, ◌&&◌, ◌||◌, ◌==◌, nat_lt, is_some, if◌then◌else◌}
use Rattle.std.specs.Option.{option_map_or}
use Rattle.std.specs.Result.{result_ok}
use Rattle.std.proofs.lemmas.Bool.{and_parts}
use Rattle.ptp_units.specs.Moment.{Stamp}
use Rattle.ptp_units.specs.Sequence.{ahead}
use Rattle.event_codec.specs.declared.message.Body.{Body}
use Rattle.event_codec.specs.declared.message.Body.TheVariants as bodies
use Rattle.event_codec.specs.declared.port.PortIdentity.{PortIdentity}
use Rattle.event_codec.specs.Packet.{Contents}
use Rattle.event_codec.specs.Port.{is_same_port}
use Rattle.event_codec.specs.Reading.{Reading}
use Rattle.pairing.specs.Marked.{entry}
use Rattle.sync_watch.specs.declared.arrival.Arrival.{Arrival}
use Rattle.sync_watch.specs.declared.judgement.Judgement.{Judgement}
use Rattle.sync_watch.specs.declared.judgement.Judgement.TheVariants.{Newer, Repeated, BeganAnew}
use Rattle.sync_watch.specs.Judged.{judged_sync, judged_follow_up}
use Rattle.sync_watch.specs.Told as told
use Rattle.sync_watch.specs.Told.{known}
use Rattle.slave_port.specs.History as calls
use Rattle.slave_port.specs.History.{Call, Setup, next_number}
use Rattle.recording_model.specs.declared.watched.Watched.{Watched}
use Rattle.recording_model.specs.Recorded.{Recorded}
use Rattle.recording_model.specs.Listening.{Listening, setup_in, table_capacity, ticks_every, is_of, arrival_of, with_master_anew}
use Rattle.recording_model.specs.Listening.{ready_judged, ready_sync, ready_followed, ready_follow_up, ready_response, ready, hears_ready}
use Rattle.recording_model.specs.Listening.{draws, asks, anew, hears_request, hears, hear, hearing}
use Rattle.recording_model.specs.Finds.{is_own_request, is_delay_req}
use Rattle.recording_model.specs.Told.{is_general}
use Rattle.recording_laws.proofs.OwnCalls.{EachCall, IsKnown}

-- what is known of a Sync, a Delay_Req and a Delay_Resp, each by its time
pub record Kinds : Type 1 where
  pub Sync : Contents → ℕ → Type 0
  pub Request : Contents → ℕ → Type 0
  pub Response : Contents → ℕ → Type 0

-- a datagram is such a message
pub data IsOfKind (kinds : Kinds) (m : Contents) (time : ℕ) : Type 0 where
  OfSync : (origin : Stamp) → m.body ≡ bodies.Sync origin → kinds.Sync m time → IsOfKind kinds m time
  OfRequest : (origin : Stamp) → m.body ≡ bodies.DelayReq origin → kinds.Request m time → IsOfKind kinds m time
  OfResponse : (receive : Stamp) (requesting : PortIdentity) → m.body ≡ bodies.DelayResp receive requesting → kinds.Response m time
      → IsOfKind kinds m time

pub record Says (kinds : Kinds) (d : Recorded) : Type 0 where
  pub m : Contents
  pub said : d.said ≡ Ok m
  pub kind : IsOfKind kinds m d.time
  pub low : m.header.sequence.0 < 65536

draws_known : (P : List Call → Call → Type 0) (count tag : ℕ) (earlier : List Call)
    → ((earlier : List Call) → P earlier (calls.NextRequest tag)) → EachCall P earlier → EachCall P (draws count tag earlier)
draws_known P zero tag earlier each are = are
draws_known P (suc count) tag earlier each are = (each (draws count tag earlier), draws_known P count tag earlier each are)

-- and of a Delay_Resp something by the port that hears it, and by the calls before it
module _ (w : Watched) (kinds : Kinds) (R : Setup → List Call → Contents → Type 0) where
  -- a Delay_Req of this number left then
  abbrev pub Left : (number t3 : ℕ) → Type 0
  Left number t3 = (m : Contents) × kinds.Request m t3 × (is_own_request w m ≡ true) × (m.header.sequence.0 ≡ number)

  abbrev pub IsKnownBy : Setup → List Call → Call → Type 0
  IsKnownBy setup = IsKnown w.master kinds.Sync (R setup) Left

  -- what is known of all calls of a port
  abbrev pub Known : Listening → Type 0
  Known l = EachCall (IsKnownBy (setup_in w l)) l.calls

  -- the port that is to hear a message knows no more, but that its master began anew
  judged_known : (j : Judgement) (line : ℕ) (a : Arrival) (l : Listening) → Known l → (r : Listening)
      → ready_judged j w line a l ≡ Some r → Known r
  judged_known Newer line a l are r is = let same : record l { heard = told.Sync a ∷ l.heard } ≡ r = cc in
      subst Known same are
  judged_known Repeated line a l are r is = cc
  judged_known BeganAnew line a l are r is = let same : with_master_anew w line a l ≡ r = cc in
      subst Known same (refl, are)

  as_known : (l r : Listening) → Known l → Some l ≡ Some r → Known r
  as_known l r are is = let same : l ≡ r = cc in subst Known same are

  pub sync_ready_known : (m : Contents) (line time : ℕ) (l : Listening) → Known l → (r : Listening)
      → ready_sync w line time m l ≡ Some r → Known r
  sync_ready_known m line time l are r is = by (is_of w w.master m.header) is
    where
      by : (of_master : Bool)
          → (if of_master then ready_judged (judged_sync (arrival_of m.header time) table_capacity l.heard) w line (arrival_of m.header time) l
          else Some l) ≡ Some r → Known r
      by true is = judged_known (judged_sync (arrival_of m.header time) table_capacity l.heard) line (arrival_of m.header time) l are r is
      by false is = as_known l r are is

  followed_known : (j : Judgement) (a : Arrival) (l : Listening) → Known l → (r : Listening)
      → ready_followed j a l ≡ Some r → Known r
  followed_known Newer a l are r is = let same : record l { heard = told.FollowUp a ∷ l.heard } ≡ r = cc in
      subst Known same are
  followed_known Repeated a l are r is = cc
  followed_known BeganAnew a l are r is = cc

  pub follow_up_ready_known : (m : Contents) (time : ℕ) (l : Listening) → Known l → (r : Listening)
      → ready_follow_up w time m l ≡ Some r → Known r
  follow_up_ready_known m time l are r is = by (is_of w w.master m.header) is
    where
      by : (of_master : Bool)
          → (if of_master then ready_followed (judged_follow_up (arrival_of m.header time) table_capacity l.heard) (arrival_of m.header time) l
          else Some l) ≡ Some r → Known r
      by true is = followed_known (judged_follow_up (arrival_of m.header time) table_capacity l.heard) (arrival_of m.header time) l are r is
      by false is = as_known l r are is

  pub response_ready_known : (m : Contents) (time : ℕ) (requesting : PortIdentity) (l : Listening) → Known l → (r : Listening)
      → ready_response w time m requesting l ≡ Some r → Known r
  response_ready_known m time requesting l are r is =
      by (not (is_of w w.master m.header && is_same_port requesting w.slave)) (is_some (known table_capacity m.header.sequence.0 l.responses)) is
    where
      by : (other again : Bool)
          → (if other then Some l else if again then None
          else Some (record l { responses = entry m.header.sequence.0 time ∷ l.responses })) ≡ Some r → Known r
      by true again is = as_known l r are is
      by false true is = cc
      by false false is = let same : record l { responses = entry m.header.sequence.0 time ∷ l.responses } ≡ r = cc in
          subst Known same are

  sync_kind : (m : Contents) (origin : Stamp) (time : ℕ) → m.body ≡ bodies.Sync origin → IsOfKind kinds m time → kinds.Sync m time
  sync_kind m origin time body (OfSync other is known) = known
  sync_kind m origin time body (OfRequest other is known) = let same : bodies.Sync origin ≡ bodies.DelayReq other = sym body ∙ is in cc
  sync_kind m origin time body (OfResponse receive requesting is known) =
      let same : bodies.Sync origin ≡ bodies.DelayResp receive requesting = sym body ∙ is in cc

  pub request_kind : (m : Contents) (time : ℕ) → is_delay_req m.body ≡ true → IsOfKind kinds m time → kinds.Request m time
  request_kind m time body (OfSync other is known) = absurd (true≢false (sym body ∙ ap is_delay_req is))
  request_kind m time body (OfRequest other is known) = known
  request_kind m time body (OfResponse receive requesting is known) = absurd (true≢false (sym body ∙ ap is_delay_req is))

  pub response_kind : (m : Contents) (time : ℕ) → is_general m.body ≡ true → IsOfKind kinds m time → kinds.Response m time
  response_kind m time body (OfSync other is known) = absurd (true≢false (sym body ∙ ap is_general is))
  response_kind m time body (OfRequest other is known) = absurd (true≢false (sym body ∙ ap is_general is))
  response_kind m time body (OfResponse receive requesting is known) = known

  module _ (x : Recorded) (says : Says kinds x) where
    of_kind : (m : Contents) → x.said ≡ Ok m → IsOfKind kinds m x.time
    of_kind m said = let same : says.m ≡ m = cc in subst (λ (m : Contents). IsOfKind kinds m x.time) same says.kind

    left_at : (m : Contents) → x.said ≡ Ok m → is_own_request w m ≡ true → Left m.header.sequence.0 x.time
    left_at m said own = (
      m,
      request_kind m x.time (and_parts (is_of w w.slave m.header) (is_delay_req m.body) own).1 (of_kind m said),
      own,
      refl,
    )

    -- it is heard by a port of which this is known
    heard_known : (counts : Bool) (call : Call) (o : Option Listening) (l : Listening)
        → ((r : Listening) → o ≡ Some r → Known r → IsKnownBy (setup_in w r) r.calls call)
        → Known l → ((r : Listening) → o ≡ Some r → Known r) → Known (hears_ready counts call o l)
    heard_known counts call None l known are each = are
    heard_known false call (Some r) l known are each = (known r refl (each r refl), each r refl)
    heard_known true call (Some r) l known are each = by (r.syncs + 1 == ticks_every) (known r refl (each r refl), each r refl)
      where
        by : (full : Bool) → EachCall (IsKnownBy (setup_in w r)) (call ∷ r.calls)
            → Known (if full then record r { calls = calls.Tick ∷ call ∷ r.calls; syncs = 0 }
            else record r { calls = call ∷ r.calls; syncs = r.syncs + 1 })
        by true are = (tt, are)
        by false are = are

    asked_known : (m : Contents) → x.said ≡ Ok m → is_own_request w m ≡ true → (l : Listening) → Known l
        → Known (asks w x.line x.time m.header.sequence.0 l)
    asked_known m said own l are = (
      left_at m said own,
      draws_known (IsKnownBy (setup_in w l)) (ahead m.header.sequence.0 (next_number (setup_in w l) l.calls) + 1) x.line
          l.calls (λ earlier. tt) are,
    )

    request_known : (m : Contents) → x.said ≡ Ok m → is_own_request w m ≡ true → (l : Listening) → Known l
        → Known (hears_request w x.line x.time m.header.sequence.0 l)
    request_known m said own l are =
        by (not l.asked || nat_lt (ahead m.header.sequence.0 (next_number (setup_in w l) l.calls)) table_capacity)
        (ahead m.header.sequence.0 (next_number (setup_in w l) l.calls) == 65535)
      where
        by : (near same : Bool) → Known (if near then asks w x.line x.time m.header.sequence.0 l else if same then l
            else asks w x.line x.time m.header.sequence.0 (anew w x.line m.header.sequence.0 l))
        by true same = asked_known m said own l are
        by false true = are
        by false false = asked_known m said own (anew w x.line m.header.sequence.0 l) (refl, tt)

    -- where of a Delay_Resp, too, something is known by the port that hears it
    module _ (l : Listening) (responds : (m : Contents) → x.said ≡ Ok m → kinds.Response m x.time → (r : Listening)
        → ready w x.line x.time m m.body l ≡ Some r → R (setup_in w r) r.calls m) where
      general_known : (m : Contents) (body : Body) → x.said ≡ Ok m → m.body ≡ body → is_general body ≡ true → (r : Listening)
          → ready w x.line x.time m body l ≡ Some r → R (setup_in w r) r.calls m
      general_known m body said is general r is_ready = responds m said (response_kind m x.time (ap is_general is ∙ general) (of_kind m said)) r
          (ap (λ (b : Body). ready w x.line x.time m b l) is ∙ is_ready)

      hears_known : (m : Contents) → x.said ≡ Ok m → (body : Body) → m.body ≡ body → Known l → Known (hears w x.line x.time m body l)
      hears_known m said (bodies.Sync origin) is are =
          heard_known (is_of w w.master m.header) (calls.Event (Ok m) x.time x.line) (ready_sync w x.line x.time m l) l
          (λ r is_ready known. sync_kind m origin x.time is (of_kind m said)) are (sync_ready_known m x.line x.time l are)
      hears_known m said (bodies.DelayReq origin) is are = by (is_of w w.slave m.header) refl
        where
          by : (own : Bool) → is_of w w.slave m.header ≡ own
              → Known (if own then hears_request w x.line x.time m.header.sequence.0 l else l)
          by true own = request_known m said
              (ap (λ (b : Body). is_of w w.slave m.header && is_delay_req b) is ∙ ap (λ (b : Bool). b && true) own) l are
          by false own = are
      hears_known m said (bodies.FollowUp precise) is are =
          heard_known false (calls.General (Ok m) x.line) (ready_follow_up w x.time m l) l
          (λ r is_ready known. general_known m (bodies.FollowUp precise) said is refl r is_ready) are (follow_up_ready_known m x.time l are)
      hears_known m said (bodies.DelayResp receive requesting) is are =
          heard_known false (calls.General (Ok m) x.line) (ready_response w x.time m requesting l) l
          (λ r is_ready known. general_known m (bodies.DelayResp receive requesting) said is refl r is_ready) are
          (response_ready_known m x.time requesting l are)

      -- so something is known of all calls after it
      pub hear_known : Known l → Known (hear w x l)
      hear_known are = subst
          (λ (said : Reading). Known (option_map_or (λ m. hears w x.line x.time m m.body l) (result_ok said) l))
          (sym says.said) (hears_known says.m says.said says.m.body refl are)

      -- and of the call by which it is heard
      pub known_call : (m : Contents) (r : Listening) (call : Call) → Known l → x.said ≡ Ok m
          → hearing x.line x.time m m.body ≡ Some call → ready w x.line x.time m m.body l ≡ Some r
          → EachCall (IsKnownBy (setup_in w r)) (call ∷ r.calls)
      known_call m r call are said is is_ready = by m.body refl is is_ready
        where
          by : (body : Body) → m.body ≡ body → hearing x.line x.time m body ≡ Some call → ready w x.line x.time m body l ≡ Some r
              → EachCall (IsKnownBy (setup_in w r)) (call ∷ r.calls)
          by (bodies.Sync origin) body is is_ready =
              let same : calls.Event (Ok m) x.time x.line ≡ call = cc in
              subst (λ (c : Call). EachCall (IsKnownBy (setup_in w r)) (c ∷ r.calls)) same
              (sync_kind m origin x.time body (of_kind m said), sync_ready_known m x.line x.time l are r is_ready)
          by (bodies.DelayReq origin) body is is_ready = cc
          by (bodies.FollowUp precise) body is is_ready =
              let same : calls.General (Ok m) x.line ≡ call = cc in
              subst (λ (c : Call). EachCall (IsKnownBy (setup_in w r)) (c ∷ r.calls)) same
              (general_known m (bodies.FollowUp precise) said body refl r is_ready, follow_up_ready_known m x.time l are r is_ready)
          by (bodies.DelayResp receive requesting) body is is_ready =
              let same : calls.General (Ok m) x.line ≡ call = cc in
              subst (λ (c : Call). EachCall (IsKnownBy (setup_in w r)) (c ∷ r.calls)) same
              (general_known m (bodies.DelayResp receive requesting) said body refl r is_ready, response_ready_known m x.time requesting l are r is_ready)
