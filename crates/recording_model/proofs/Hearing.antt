-- What holds of a listening port goes on holding over a datagram, where all that may come of it keeps it.
use Rattle.std.proofs.Common.{◌≡◌, ◌∙◌, ℕ, ◌+◌, Bool, true, false, ◌∷◌, Option, Some, None}
use Rattle.std.proofs.Common.{Ok, Err, refl, ap, subst, is_some, option_map, option_and_then, if◌then◌else◌}
use Rattle.std.specs.Prelude.{◌==◌, ◌&&◌, ◌||◌, not, nat_lt}
use Rattle.std.specs.Option.{option_map_or}
use Rattle.std.specs.Result.{result_ok}
use Rattle.std.proofs.lemmas.Bool.{and_parts, and_left, and_right, or_from, eqb-true, eqb-false}
use Rattle.ptp_units.specs.Moment.{Stamp}
use Rattle.ptp_units.specs.Sequence.{ahead}
use Rattle.event_codec.specs.declared.message.Body.{Body}
use Rattle.event_codec.specs.declared.message.Body.TheVariants as bodies
use Rattle.event_codec.specs.declared.port.PortIdentity.{PortIdentity}
use Rattle.event_codec.specs.Packet.{Contents}
use Rattle.event_codec.specs.Port.{is_same_port}
use Rattle.event_codec.specs.Reading.{Reading}
use Rattle.pairing.specs.Marked.{entry}
use Rattle.sync_watch.specs.declared.judgement.Judgement.{Judgement}
use Rattle.sync_watch.specs.declared.judgement.Judgement.TheVariants.{Newer, Repeated, BeganAnew}
use Rattle.sync_watch.specs.Told.{Sync, FollowUp, known}
use Rattle.sync_watch.specs.Judged.{judged_sync, judged_follow_up}
use Rattle.slave_port.specs.History as calls
use Rattle.slave_port.specs.History.{Call, next_number}
use Rattle.recording_model.specs.declared.watched.Watched.{Watched}
use Rattle.recording_model.specs.Recorded.{Recorded}
use Rattle.recording_model.specs.Listening.{Listening, setup_in, table_capacity, is_of, ticks_every}
use Rattle.recording_model.specs.Listening.{answer_in, arrival_of, with_master_anew}
use Rattle.recording_model.specs.Listening.{ready_judged, ready_sync, ready_followed, ready_follow_up, ready_response}
use Rattle.recording_model.specs.Listening.{ready, hears_ready, asks, anew, hears_request, hears, hear}
use Rattle.recording_model.specs.Listening.{answered, answered_to, hearing}
use Rattle.recording_model.specs.Told.{is_general}
use Rattle.recording_model.specs.Told.{is_sync}
use Rattle.recording_model.specs.Finds.{is_own_request, is_master_sync, is_follow_up, is_master_follow_up, is_response_to}
use Rattle.recording_model.specs.Finds.{is_own_response}
use Rattle.recording_model.specs.Copies.{is_own_message}

-- the number of the Delay_Req of the slave that a message is
abbrev pub asked_number : Watched → Contents → Option ℕ
asked_number w m = if is_own_request w m then Some m.header.sequence.0 else None

abbrev pub asked_by : Watched → Recorded → Option ℕ
asked_by w d = option_and_then (asked_number w) (result_ok d.said)

-- a new port of a slave that began anew, which was asked for this request
abbrev pub asks_anew : Watched → (line time number : ℕ) → Listening → Listening
asks_anew w line time number l = asks w line time number (anew w line number l)

-- the slave's Delay_Req is asked for, by a port that knows none or one near to it
abbrev pub is_near : Watched → (number : ℕ) → Listening → Bool
is_near w number l = not l.asked || nat_lt (ahead number (next_number (setup_in w l) l.calls)) table_capacity

-- what is heard of a general message
pub general-hearing : (line time : ℕ) (m : Contents) (body : Body) → is_general body ≡ true
    → hearing line time m body ≡ Some (calls.General (Ok m) line)
general-hearing line time m (bodies.FollowUp precise) is = refl
general-hearing line time m (bodies.DelayResp receive requesting) is = refl
general-hearing line time m _ is = cc

module _ (w : Watched) (x : Recorded) (l : Listening) (P R Q : Listening → Type 0) where
  -- What may come of a datagram: it isn't heard; its number and time become known, or that the master
  -- began anew, which leaves P of the port; and it is heard or asked for, which makes it Q.
  pub record Keeps : Type 0 where
    pub unheard : answered_to w x l ≡ None → asked_by w x ≡ None → (r : Listening) → P r → Q r
    pub as_is : (m : Contents) → x.said ≡ Ok m → is_own_message w m ≡ false → (r : Listening) → P r → R r
    pub sync : (m : Contents) (origin : Stamp) → x.said ≡ Ok m → m.body ≡ bodies.Sync origin
        → is_of w w.master m.header ≡ true → (r : Listening) → P r
        → R (record r { heard = Sync (arrival_of m.header x.time) ∷ r.heard })
    pub master : (m : Contents) (origin : Stamp) → x.said ≡ Ok m → m.body ≡ bodies.Sync origin
        → is_of w w.master m.header ≡ true → (r : Listening) → P r
        → R (with_master_anew w x.line (arrival_of m.header x.time) r)
    pub follow : (m : Contents) (precise : Stamp) → x.said ≡ Ok m → m.body ≡ bodies.FollowUp precise
        → is_of w w.master m.header ≡ true → (r : Listening) → P r
        → R (record r { heard = FollowUp (arrival_of m.header x.time) ∷ r.heard })
    pub response : (m : Contents) (receive : Stamp) (requesting : PortIdentity) → x.said ≡ Ok m
        → m.body ≡ bodies.DelayResp receive requesting → is_of w w.master m.header ≡ true
        → is_same_port requesting w.slave ≡ true → (r : Listening) → P r
        → R (record r { responses = entry m.header.sequence.0 x.time ∷ r.responses })
    pub other : (m : Contents) (origin : Stamp) → x.said ≡ Ok m → m.body ≡ bodies.Sync origin
        → is_of w w.master m.header ≡ false → (r : Listening) → ready w x.line x.time m m.body l ≡ Some r → R r
        → Q (record r { calls = calls.Event (Ok m) x.time x.line ∷ r.calls })
    pub counted : (m : Contents) (origin : Stamp) → x.said ≡ Ok m → m.body ≡ bodies.Sync origin
        → is_of w w.master m.header ≡ true → (r : Listening) → (r.syncs + 1 ≡ ticks_every → ⊥)
        → ready w x.line x.time m m.body l ≡ Some r → R r
        → Q (record r { calls = calls.Event (Ok m) x.time x.line ∷ r.calls; syncs = r.syncs + 1 })
    pub ticked : (m : Contents) (origin : Stamp) → x.said ≡ Ok m → m.body ≡ bodies.Sync origin
        → is_of w w.master m.header ≡ true → (r : Listening) → r.syncs + 1 ≡ ticks_every
        → ready w x.line x.time m m.body l ≡ Some r → R r
        → Q (record r { calls = calls.Tick ∷ calls.Event (Ok m) x.time x.line ∷ r.calls; syncs = 0 })
    pub general : (m : Contents) → x.said ≡ Ok m → is_general m.body ≡ true → (r : Listening)
        → ready w x.line x.time m m.body l ≡ Some r → R r
        → Q (record r { calls = calls.General (Ok m) x.line ∷ r.calls })
    pub again : (m : Contents) → x.said ≡ Ok m → is_own_request w m ≡ true → (r : Listening)
        → ahead m.header.sequence.0 (next_number (setup_in w r) r.calls) ≡ 65535 → P r → Q r
    pub asked : (m : Contents) → x.said ≡ Ok m → is_own_request w m ≡ true → (r : Listening)
        → is_near w m.header.sequence.0 r ≡ true → P r → Q (asks w x.line x.time m.header.sequence.0 r)
    pub begun : (m : Contents) → x.said ≡ Ok m → is_own_request w m ≡ true → (r : Listening)
        → P r → Q (asks_anew w x.line x.time m.header.sequence.0 r)

  module _ (keeps : Keeps) (holds : P l) where
    -- what says no Delay_Req of the slave
    asks-none : (m : Contents) (body : Body) → x.said ≡ Ok m → m.body ≡ body
        → is_own_request w (record { header = m.header; body = body; suffix = m.suffix }) ≡ false
        → asked_by w x ≡ None
    asks-none m body said body_is none =
        let same : is_own_request w m ≡ false =
        ap (λ (b : Body). is_own_request w (record { header = m.header; body = b; suffix = m.suffix })) body_is ∙ none in
        ap (λ (r : Reading). option_and_then (asked_number w) (result_ok r)) said
        ∙ ap (λ (own : Bool). if own then Some m.header.sequence.0 else None) same

    module _ (m : Contents) (said : x.said ≡ Ok m) where
      answered-by : (body : Body) → m.body ≡ body → answered_to w x l ≡ answered w x.line x.time m body l
      answered-by body is =
          ap (λ (r : Reading). option_and_then (λ m. answered w x.line x.time m m.body l) (result_ok r)) said
          ∙ ap (λ (b : Body). answered w x.line x.time m b l) is

      answered-none : (body : Body) → m.body ≡ body → (call : Call) → hearing x.line x.time m body ≡ Some call
          → ready w x.line x.time m body l ≡ None → answered_to w x l ≡ None
      answered-none body is call is_call none =
          answered-by body is
          ∙ ap (λ (c : Option Call). option_and_then
          (λ call. option_map (λ l. answer_in w l call) (ready w x.line x.time m body l)) c) is_call
          ∙ ap (λ (o : Option Listening). option_map (λ l. answer_in w l call) o) none

      -- the port that is to hear a Sync
      module _ (origin : Stamp) (body : m.body ≡ bodies.Sync origin) where
        judged_holds : is_of w w.master m.header ≡ true → (j : Judgement) (r : Listening)
            → ready_judged j w x.line (arrival_of m.header x.time) l ≡ Some r → R r
        judged_holds of_master Newer r same =
            let one : record l { heard = Sync (arrival_of m.header x.time) ∷ l.heard } ≡ r = cc in
            subst R one (keeps.sync m origin said body of_master l holds)
        judged_holds of_master Repeated r same = cc
        judged_holds of_master BeganAnew r same =
            let one : with_master_anew w x.line (arrival_of m.header x.time) l ≡ r = cc in
            subst R one (keeps.master m origin said body of_master l holds)

        pub sync_ready : (r : Listening) → ready_sync w x.line x.time m l ≡ Some r → R r
        sync_ready r same = by (is_of w w.master m.header) refl same
          where
            by : (of_master : Bool) → is_of w w.master m.header ≡ of_master
                → (if of_master
                then ready_judged (judged_sync (arrival_of m.header x.time) table_capacity l.heard) w x.line
                (arrival_of m.header x.time) l
                else Some l) ≡ Some r
                → R r
            by true is same =
                judged_holds is (judged_sync (arrival_of m.header x.time) table_capacity l.heard) r same
            by false is same =
                let one : l ≡ r = cc in
                subst R one
                (keeps.as_is m said
                (or_from (is_master_sync w m) (is_master_follow_up w m || is_own_response w m)
                (and_left (is_of w w.master m.header) (is_sync m.body) is)
                (or_from (is_master_follow_up w m) (is_own_response w m)
                (and_left (is_of w w.master m.header) (is_follow_up m.body) is)
                (and_left (is_of w w.master m.header) (is_response_to w.slave m.body) is))) l holds)

        -- a Sync of the master counts
        counted_holds : is_of w w.master m.header ≡ true → (r : Listening)
            → ready w x.line x.time m m.body l ≡ Some r → R r
            → Q (hears_ready true (calls.Event (Ok m) x.time x.line) (Some r) l)
        counted_holds of_master r is_ready is = by (r.syncs + 1 == ticks_every) refl
          where
            by : (full : Bool) → (r.syncs + 1 == ticks_every) ≡ full
                → Q (if full then record r {
                  calls = calls.Tick ∷ calls.Event (Ok m) x.time x.line ∷ r.calls;
                  syncs = 0;
                } else record r { calls = calls.Event (Ok m) x.time x.line ∷ r.calls; syncs = r.syncs + 1 })
            by true full = keeps.ticked m origin said body of_master r (eqb-true (r.syncs + 1) ticks_every full) is_ready is
            by false full = keeps.counted m origin said body of_master r
                (eqb-false (r.syncs + 1) ticks_every full) is_ready is

        sync_heard : Q (hears_ready (is_of w w.master m.header) (calls.Event (Ok m) x.time x.line)
            (ready_sync w x.line x.time m l) l)
        sync_heard = by (is_of w w.master m.header) refl (ready_sync w x.line x.time m l)
            (answered-none (bodies.Sync origin) body (calls.Event (Ok m) x.time x.line) refl)
            (λ r same. (ap (λ (b : Body). ready w x.line x.time m b l) body ∙ same, sync_ready r same))
          where
            by : (of_master : Bool) → is_of w w.master m.header ≡ of_master → (o : Option Listening)
                → (o ≡ None → answered_to w x l ≡ None)
                → ((r : Listening) → o ≡ Some r → (ready w x.line x.time m m.body l ≡ Some r) × R r)
                → Q (hears_ready of_master (calls.Event (Ok m) x.time x.line) o l)
            by of_master is None gone each =
                keeps.unheard (gone refl)
                (asks-none m (bodies.Sync origin) said body (and_right (is_of w w.slave m.header) false refl)) l
                holds
            by true is (Some r) gone each = let one = each r refl in counted_holds is r one.0 one.1
            by false is (Some r) gone each = let one = each r refl in keeps.other m origin said body is r one.0 one.1

      -- the port that is to hear a Follow_Up
      module _ (precise : Stamp) (body : m.body ≡ bodies.FollowUp precise) where
        followed_holds : is_of w w.master m.header ≡ true → (j : Judgement) (r : Listening)
            → ready_followed j (arrival_of m.header x.time) l ≡ Some r → R r
        followed_holds of_master Newer r same =
            let one : record l { heard = FollowUp (arrival_of m.header x.time) ∷ l.heard } ≡ r = cc in
            subst R one (keeps.follow m precise said body of_master l holds)
        followed_holds of_master _ r same = cc

        pub follow_up_ready : (r : Listening) → ready_follow_up w x.time m l ≡ Some r → R r
        follow_up_ready r same = by (is_of w w.master m.header) refl same
          where
            by : (of_master : Bool) → is_of w w.master m.header ≡ of_master
                → (if of_master
                then ready_followed (judged_follow_up (arrival_of m.header x.time) table_capacity l.heard)
                (arrival_of m.header x.time) l
                else Some l) ≡ Some r
                → R r
            by true is same =
                followed_holds is (judged_follow_up (arrival_of m.header x.time) table_capacity l.heard) r same
            by false is same =
                let one : l ≡ r = cc in
                subst R one
                (keeps.as_is m said
                (or_from (is_master_sync w m) (is_master_follow_up w m || is_own_response w m)
                (and_left (is_of w w.master m.header) (is_sync m.body) is)
                (or_from (is_master_follow_up w m) (is_own_response w m)
                (and_left (is_of w w.master m.header) (is_follow_up m.body) is)
                (and_left (is_of w w.master m.header) (is_response_to w.slave m.body) is))) l holds)

      -- the port that is to hear a Delay_Resp
      module _ (receive : Stamp) (requesting : PortIdentity) (body : m.body ≡ bodies.DelayResp receive requesting) where
        pub response_ready : (r : Listening) → ready_response w x.time m requesting l ≡ Some r → R r
        response_ready r same =
            by (is_of w w.master m.header && is_same_port requesting w.slave) refl
            (is_some (known table_capacity m.header.sequence.0 l.responses)) same
          where
            by : (to : Bool) → (is_of w w.master m.header && is_same_port requesting w.slave) ≡ to → (again : Bool)
                → (if not to then Some l else if again then None
                else Some (record l { responses = entry m.header.sequence.0 x.time ∷ l.responses })) ≡ Some r
                → R r
            by false is again same =
                let one : l ≡ r = cc in
                subst R one
                (keeps.as_is m said
                (or_from (is_master_sync w m) (is_master_follow_up w m || is_own_response w m)
                (and_right (is_of w w.master m.header) (is_sync m.body) (ap is_sync body))
                (or_from (is_master_follow_up w m) (is_own_response w m)
                (and_right (is_of w w.master m.header) (is_follow_up m.body) (ap is_follow_up body))
                (ap (λ (b : Body). is_of w w.master m.header && is_response_to w.slave b) body ∙ is))) l holds)
            by true is true same = cc
            by true is false same =
                let one : record l { responses = entry m.header.sequence.0 x.time ∷ l.responses } ≡ r = cc in
                let parts = and_parts (is_of w w.master m.header) (is_same_port requesting w.slave) is in
                subst R one (keeps.response m receive requesting said body parts.0 parts.1 l holds)

      general_heard : (body : Body) → m.body ≡ body → is_general body ≡ true → (o : Option Listening)
          → ready w x.line x.time m body l ≡ o → ((r : Listening) → o ≡ Some r → R r)
          → is_own_request w (record { header = m.header; body = body; suffix = m.suffix }) ≡ false
          → Q (hears_ready false (calls.General (Ok m) x.line) o l)
      general_heard body body_is kind None is_ready each none =
          keeps.unheard
          (answered-none body body_is (calls.General (Ok m) x.line) (general-hearing x.line x.time m body kind) is_ready)
          (asks-none m body said body_is none) l holds
      general_heard body body_is kind (Some r) is_ready each none =
          keeps.general m said (ap is_general body_is ∙ kind) r
          (ap (λ (b : Body). ready w x.line x.time m b l) body_is ∙ is_ready) (each r refl)

      -- a Delay_Req of the slave
      request_heard : is_own_request w m ≡ true → Q (hears_request w x.line x.time m.header.sequence.0 l)
      request_heard own =
          by (is_near w m.header.sequence.0 l) refl
          (ahead m.header.sequence.0 (next_number (setup_in w l) l.calls) == 65535) refl
        where
          by : (near : Bool) → is_near w m.header.sequence.0 l ≡ near → (same : Bool)
              → (ahead m.header.sequence.0 (next_number (setup_in w l) l.calls) == 65535) ≡ same
              → Q (if near then asks w x.line x.time m.header.sequence.0 l else if same then l
              else asks w x.line x.time m.header.sequence.0 (anew w x.line m.header.sequence.0 l))
          by true near same is = keeps.asked m said own l near holds
          by false near true is =
              keeps.again m said own l
              (eqb-true (ahead m.header.sequence.0 (next_number (setup_in w l) l.calls)) 65535 is) holds
          by false near false is = keeps.begun m said own l holds

      hears_holds : (body : Body) → m.body ≡ body → Q (hears w x.line x.time m body l)
      hears_holds (bodies.Sync origin) is = sync_heard origin is
      hears_holds (bodies.DelayReq origin) is = by (is_of w w.slave m.header) refl
        where
          by : (own : Bool) → is_of w w.slave m.header ≡ own
              → Q (if own then hears_request w x.line x.time m.header.sequence.0 l else l)
          by true own =
              request_heard
              (ap (λ (b : Body). is_own_request w (record { header = m.header; body = b; suffix = m.suffix })) is
              ∙ ap (λ (b : Bool). b && true) own)
          by false own =
              keeps.unheard (answered-by (bodies.DelayReq origin) is)
              (asks-none m (bodies.DelayReq origin) said is (ap (λ (b : Bool). b && true) own)) l holds
      hears_holds (bodies.FollowUp precise) is =
          general_heard (bodies.FollowUp precise) is refl (ready_follow_up w x.time m l) refl (follow_up_ready precise is)
          (and_right (is_of w w.slave m.header) false refl)
      hears_holds (bodies.DelayResp receive requesting) is =
          general_heard (bodies.DelayResp receive requesting) is refl (ready_response w x.time m requesting l) refl
          (response_ready receive requesting is) (and_right (is_of w w.slave m.header) false refl)

      -- the port that is to hear a message
      ready_by : (body : Body) → m.body ≡ body → (r : Listening) → ready w x.line x.time m body l ≡ Some r → R r
      ready_by (bodies.Sync origin) is r same = sync_ready origin is r same
      ready_by (bodies.DelayReq origin) is r same = cc
      ready_by (bodies.FollowUp precise) is r same = follow_up_ready precise is r same
      ready_by (bodies.DelayResp receive requesting) is r same = response_ready receive requesting is r same

      pub ready_holds : (r : Listening) → ready w x.line x.time m m.body l ≡ Some r → R r
      ready_holds r same = ready_by m.body refl r same

    -- the port after it
    pub hear_holds : Q (hear w x l)
    hear_holds = by x.said refl
      where
        by : (said : Reading) → x.said ≡ said
            → Q (option_map_or (λ m. hears w x.line x.time m m.body l) (result_ok said) l)
        by (Ok m) is = hears_holds m is m.body refl
        by (Err refusal) is =
            keeps.unheard
            (ap (λ (r : Reading). option_and_then (λ m. answered w x.line x.time m m.body l) (result_ok r)) is)
            (ap (λ (r : Reading). option_and_then (asked_number w) (result_ok r)) is) l holds

-- what is answered to a message that a port is to hear
pub answered-ready : (w : Watched) (x : Recorded) (m : Contents) (call : Call) (l r : Listening) → x.said ≡ Ok m
    → hearing x.line x.time m m.body ≡ Some call → ready w x.line x.time m m.body l ≡ Some r
    → answered_to w x l ≡ Some (answer_in w r call)
answered-ready w x m call l r said is_call is_ready =
    ap (λ (s : Reading). option_and_then (λ m. answered w x.line x.time m m.body l) (result_ok s)) said
    ∙ ap (λ (c : Option Call). option_and_then
    (λ call. option_map (λ l. answer_in w l call) (ready w x.line x.time m m.body l)) c) is_call
    ∙ ap (λ (o : Option Listening). option_map (λ l. answer_in w l call) o) is_ready
