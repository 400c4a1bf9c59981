-- What a listening port knows are the last messages of a kind that it heard, and what it holds was said within so many of
-- the Syncs that it heard.
use Rattle.std.proofs.Common.{◌≡◌, ◌∙◌, ℕ, zero, suc, Bool, true, false, List, [], ◌∷◌, Some}
use Rattle.std.proofs.Common.{None, Ok, refl, sym, ap, subst, take, is_some, if◌then◌else◌}
use Rattle.std.specs.Prelude.{◌==◌, ◌&&◌, ◌||◌, nat_eq}
use Rattle.std.specs.Bool.{beq}
use Rattle.std.specs.List.{All}
use Rattle.std.proofs.lemmas.Bool.{and_from, and_left, and_right, and_parts, or_parts, eq-eqb, eqb-true}
use Rattle.std.proofs.lemmas.Bool.{both_ways}
use Rattle.std.proofs.lemmas.List.Elements.{All-head, All-tail}
use Rattle.ptp_units.specs.Moment.{Stamp}
use Rattle.event_codec.specs.declared.message.Body.{Body}
use Rattle.event_codec.specs.declared.message.Body.TheVariants as bodies
use Rattle.event_codec.specs.Packet.{Contents}
use Rattle.pairing.specs.Marked.{Entry, entry, first_value}
use Rattle.sync_watch.specs.Told.{Told, Sync, of_flag, syncs, follow_ups}
use Rattle.sync_watch.specs.Life.{is_apart}
use Rattle.slave_port.specs.History as calls
use Rattle.slave_port.specs.History.{Call}
use Rattle.recording_model.specs.declared.watched.Watched.{Watched}
use Rattle.recording_model.specs.Recorded.{Recorded}
use Rattle.recording_model.specs.Listening.{Listening, is_of, is_unicast, arrival_of, ready, after_all}
use Rattle.recording_model.specs.Listening.{hearing}
use Rattle.recording_model.specs.Pairs.{is_heard}
use Rattle.recording_model.specs.Told.{is_sync}
use Rattle.recording_model.specs.Finds.{is_master_sync, is_follow_up, is_master_follow_up, is_response_to}
use Rattle.recording_model.specs.Finds.{is_own_response}
use Rattle.recording_model.specs.Finds.{is_delay_req, is_own_request, with_number, says, NoneSays, with_flag, heard_of}
use Rattle.recording_model.proofs.Newest.{first-cons}
use Rattle.recording_model.specs.Copies.{is_own_message}
use Rattle.recording_model.proofs.Hearing.{Keeps, hear_holds, answered-ready, general-hearing}
use Rattle.recording_model.proofs.Said.{says-of}

-- the entry of a message of a kind that a datagram says
pub record IsEntry (kind : Contents → Bool) (d : Recorded) (e : Entry ℕ) : Type 0 where
  pub m : Contents
  pub said : d.said ≡ Ok m
  pub kind_is : kind m ≡ true
  pub number : e.number ≡ m.header.sequence.0
  pub time : e.value ≡ d.time

-- each is of one of these, in their order
abbrev pub AreOf : (kind : Contents → Bool) → List (Entry ℕ) → List Recorded → Type 0
AreOf kind [] ds = Unit {0}
AreOf kind (e ∷ es) [] = ⊥
AreOf kind (e ∷ es) (d ∷ ds) = IsEntry kind d e × AreOf kind es ds

-- among the first few of them none has a number that none says
pub entry-none : (kind : Contents → Bool) (number c : ℕ) (es : List (Entry ℕ)) (ds : List Recorded) → AreOf kind es ds
    → NoneSays (with_number kind number) (take c ds) → first_value number (take c es) ≡ None
entry-none kind number zero es ds are none = refl
entry-none kind number (suc c) [] ds are none = refl
entry-none kind number (suc c) (e ∷ es) [] are none = absurd are
entry-none kind number (suc c) (e ∷ es) (d ∷ ds) are none =
    first-cons c number e es
    ∙ by (nat_eq e.number number) refl
    (entry-none kind number c es ds are.1
    (All-tail (λ (d : Recorded). says (with_number kind number) d ≡ false) d (take c ds) none))
  where
    unlike_it : e.number ≡ number → ⊥
    unlike_it same =
        let one = are.0 in
        both_ways (with_number kind number one.m)
        (sym (says-of (with_number kind number) d one.m one.said)
        ∙ All-head (λ (d : Recorded). says (with_number kind number) d ≡ false) d (take c ds) none)
        (and_from (kind one.m) (one.m.header.sequence.0 == number) one.kind_is
        (eq-eqb one.m.header.sequence.0 number (sym one.number ∙ same)))

    by : (same : Bool) → nat_eq e.number number ≡ same → first_value number (take c es) ≡ None
        → (if same then Some e.value else first_value number (take c es)) ≡ None
    by true same rest = absurd (unlike_it (eqb-true e.number number same))
    by false same rest = rest

-- and what has it is near, where all is that says it
abbrev pub IsNearBy : (kind : Contents → Bool) → (number time : ℕ) → Recorded → Type 0
IsNearBy kind number time d =
    says (λ m. kind m && (m.header.sequence.0 == number && is_apart time d.time)) d ≡ false

pub entry-near : (kind : Contents → Bool) (number time c other : ℕ) (es : List (Entry ℕ)) (ds : List Recorded)
    → AreOf kind es ds → All (IsNearBy kind number time) (take c ds) → first_value number (take c es) ≡ Some other
    → is_apart time other ≡ false
entry-near kind number time zero other es ds are near found = cc
entry-near kind number time (suc c) other [] ds are near found = cc
entry-near kind number time (suc c) other (e ∷ es) [] are near found = absurd are
entry-near kind number time (suc c) other (e ∷ es) (d ∷ ds) are near found =
    by (nat_eq e.number number) refl (sym (first-cons c number e es) ∙ found)
    (entry-near kind number time c other es ds are.1
    (All-tail (IsNearBy kind number time) d (take c ds) near))
  where
    near_it : e.number ≡ number → is_apart time e.value ≡ false
    near_it same =
        let one = are.0 in
        let test : Contents → Bool =
        λ m. kind m && (m.header.sequence.0 == number && is_apart time d.time) in
        let none : test one.m ≡ false =
        sym (says-of test d one.m one.said) ∙ All-head (IsNearBy kind number time) d (take c ds) near in
        subst (λ (t : ℕ). is_apart time t ≡ false) (sym one.time)
        (sym (ap (λ (b : Bool). b && (one.m.header.sequence.0 == number && is_apart time d.time)) one.kind_is
        ∙ ap (λ (b : Bool). b && is_apart time d.time)
        (eq-eqb one.m.header.sequence.0 number (sym one.number ∙ same)))
        ∙ none)

    by : (same : Bool) → nat_eq e.number number ≡ same
        → (if same then Some e.value else first_value number (take c es)) ≡ Some other
        → (first_value number (take c es) ≡ Some other → is_apart time other ≡ false) → is_apart time other ≡ false
    by true same found rest =
        let one : e.value ≡ other = cc in
        subst (λ (t : ℕ). is_apart time t ≡ false) one (near_it (eqb-true e.number number same))
    by false same found rest = rest found

module _ (w : Watched) where
  -- the lists that a port knows
  pub record AreLatest (ds : List Recorded) (heard : List Told) (responses : List (Entry ℕ)) : Type 0 where
    pub syncs_of : (flag : Bool)
        → AreOf (is_master_sync w) (syncs flag heard) (heard_of w (with_flag (is_master_sync w) flag) ds)
    pub follow_ups_of : (flag : Bool)
        → AreOf (is_master_follow_up w) (follow_ups flag heard)
        (heard_of w (with_flag (is_master_follow_up w) flag) ds)
    pub responses_of : AreOf (is_own_response w) responses (heard_of w (is_own_response w) ds)

  abbrev pub Knows : List Recorded → Listening → Type 0
  Knows ds l = AreLatest ds l.heard l.responses

  module _ (x : Recorded) (ds : List Recorded) where
    -- one that doesn't pass, or isn't heard, isn't one of them, and one that does is the first
    heard-same : (test : Contents → Bool) → (says test x && is_heard w ds x) ≡ false
        → heard_of w test ds ≡ heard_of w test (x ∷ ds)
    heard-same test none =
        sym (ap (λ (b : Bool). if b then x ∷ heard_of w test ds else heard_of w test ds) none)

    heard-more : (test : Contents → Bool) → (says test x && is_heard w ds x) ≡ true
        → x ∷ heard_of w test ds ≡ heard_of w test (x ∷ ds)
    heard-more test is =
        sym (ap (λ (b : Bool). if b then x ∷ heard_of w test ds else heard_of w test ds) is)

    unsaid : (test : Contents → Bool) (m : Contents) → x.said ≡ Ok m → test m ≡ false
        → (says test x && is_heard w ds x) ≡ false
    unsaid test m said none = and_left (says test x) (is_heard w ds x) (says-of test x m said ∙ none)

    -- all lists stay, where none has it
    all-same : (heard : List Told) (responses : List (Entry ℕ))
        → ((flag : Bool) → (says (with_flag (is_master_sync w) flag) x && is_heard w ds x) ≡ false)
        → ((flag : Bool) → (says (with_flag (is_master_follow_up w) flag) x && is_heard w ds x) ≡ false)
        → (says (is_own_response w) x && is_heard w ds x) ≡ false
        → AreLatest ds heard responses → AreLatest (x ∷ ds) heard responses
    all-same heard responses no_sync no_follow no_response are = record {
      syncs_of = λ flag.
          subst (AreOf (is_master_sync w) (syncs flag heard))
          (heard-same (with_flag (is_master_sync w) flag) (no_sync flag)) (are.syncs_of flag);
      follow_ups_of = λ flag.
          subst (AreOf (is_master_follow_up w) (follow_ups flag heard))
          (heard-same (with_flag (is_master_follow_up w) flag) (no_follow flag)) (are.follow_ups_of flag);
      responses_of = subst (AreOf (is_own_response w) responses) (heard-same (is_own_response w) no_response)
          are.responses_of;
    }

    all-unlike : (m : Contents) → x.said ≡ Ok m → is_own_message w m ≡ false → (l : Listening) → Knows ds l
        → Knows (x ∷ ds) l
    all-unlike m said none l are =
        let first = or_parts (is_master_sync w m) (is_master_follow_up w m || is_own_response w m) none in
        let second = or_parts (is_master_follow_up w m) (is_own_response w m) first.1 in
        all-same l.heard l.responses
        (λ flag. unsaid (with_flag (is_master_sync w) flag) m said
        (and_left (is_master_sync w m) (beq (is_unicast m.header) flag) first.0))
        (λ flag. unsaid (with_flag (is_master_follow_up w) flag) m said
        (and_left (is_master_follow_up w m) (beq (is_unicast m.header) flag) second.0))
        (unsaid (is_own_response w) m said second.1) are

    -- one arrival more
    arrived-of : (kind : Contents → Bool) (m : Contents) → x.said ≡ Ok m → kind m ≡ true → is_heard w ds x ≡ true
        → (flag : Bool) (es : List (Entry ℕ)) → AreOf kind es (heard_of w (with_flag kind flag) ds)
        → AreOf kind (of_flag flag (arrival_of m.header x.time) es) (heard_of w (with_flag kind flag) (x ∷ ds))
    arrived-of kind m said kind_is heard flag es are = by flag (is_unicast m.header) refl are
      where
        one : IsEntry kind x (entry m.header.sequence.0 x.time)
        one = record { m = m; said = said; kind_is = kind_is; number = refl; time = refl }

        counts : (flag unicast : Bool) → is_unicast m.header ≡ unicast
            → (says (with_flag kind flag) x && is_heard w ds x) ≡ beq unicast flag
        counts flag unicast is =
            ap (λ (b : Bool). b && is_heard w ds x)
            (says-of (with_flag kind flag) x m said
            ∙ ap (λ (b : Bool). b && beq (is_unicast m.header) flag) kind_is
            ∙ ap (λ (b : Bool). beq b flag) is)
            ∙ ap (λ (b : Bool). beq unicast flag && b) heard
            ∙ and-true (beq unicast flag)
          where
            and-true : (b : Bool) → (b && true) ≡ b
            and-true true = refl
            and-true false = refl

        by : (flag unicast : Bool) → is_unicast m.header ≡ unicast
            → AreOf kind es (heard_of w (with_flag kind flag) ds)
            → AreOf kind
            (of_flag flag (record { number = m.header.sequence; is_unicast = unicast; log = m.header.log; time = x.time }) es)
            (heard_of w (with_flag kind flag) (x ∷ ds))
        by true true is are =
            subst (AreOf kind (entry m.header.sequence.0 x.time ∷ es))
            (heard-more (with_flag kind true) (counts true true is)) (one, are)
        by true false is are =
            subst (AreOf kind es) (heard-same (with_flag kind true) (counts true false is)) are
        by false true is are =
            subst (AreOf kind es) (heard-same (with_flag kind false) (counts false true is)) are
        by false false is are =
            subst (AreOf kind (entry m.header.sequence.0 x.time ∷ es))
            (heard-more (with_flag kind false) (counts false false is)) (one, are)

    sync-no_follow : (m : Contents) (origin : Stamp) → m.body ≡ bodies.Sync origin → is_master_follow_up w m ≡ false
    sync-no_follow m origin body = and_right (is_of w w.master m.header) (is_follow_up m.body) (ap is_follow_up body)

    sync-no_response : (m : Contents) (origin : Stamp) → m.body ≡ bodies.Sync origin → is_own_response w m ≡ false
    sync-no_response m origin body =
        and_right (is_of w w.master m.header) (is_response_to w.slave m.body) (ap (is_response_to w.slave) body)

    -- none of any kind but one
    no-flagged : (kind : Contents → Bool) (m : Contents) → x.said ≡ Ok m → kind m ≡ false → (flag : Bool)
        → heard_of w (with_flag kind flag) ds ≡ heard_of w (with_flag kind flag) (x ∷ ds)
    no-flagged kind m said none flag =
        heard-same (with_flag kind flag)
        (unsaid (with_flag kind flag) m said (and_left (kind m) (beq (is_unicast m.header) flag) none))

    -- a Delay_Req of the slave is none of them
    request-none : (m : Contents) → is_own_request w m ≡ true → is_own_message w m ≡ false
    request-none m own = by m.body (and_parts (is_of w w.slave m.header) (is_delay_req m.body) own).1
      where
        by : (body : Body) → is_delay_req body ≡ true
            → (is_of w w.master m.header && is_sync body
            || (is_of w w.master m.header && is_follow_up body
            || is_of w w.master m.header && is_response_to w.slave body)) ≡ false
        by (bodies.Sync origin) is = cc
        by (bodies.DelayReq origin) is = all_no (is_of w w.master m.header)
          where
            all_no : (b : Bool) → (b && false || (b && false || b && false)) ≡ false
            all_no true = refl
            all_no false = refl
        by (bodies.FollowUp precise) is = cc
        by (bodies.DelayResp receive requesting) is = cc

    is_heard-ready : (m : Contents) (call : Call) (r : Listening) → x.said ≡ Ok m
        → hearing x.line x.time m m.body ≡ Some call → ready w x.line x.time m m.body (after_all w ds) ≡ Some r
        → is_heard w ds x ≡ true
    is_heard-ready m call r said is_call is_ready =
        ap is_some (answered-ready w x m call (after_all w ds) r said is_call is_ready)

    -- once it is heard
    abbrev KnowsHeard : Listening → Type 0
    KnowsHeard l = is_heard w ds x ≡ true → Knows (x ∷ ds) l

    anew-knows : (m : Contents) (origin : Stamp) → x.said ≡ Ok m → m.body ≡ bodies.Sync origin
        → is_of w w.master m.header ≡ true → is_heard w ds x ≡ true
        → AreLatest (x ∷ ds) (Sync (arrival_of m.header x.time) ∷ []) []
    anew-knows m origin said body of_master heard = record {
      syncs_of = λ flag.
          arrived-of (is_master_sync w) m said
          (and_from (is_of w w.master m.header) (is_sync m.body) of_master (ap is_sync body)) heard flag [] tt;
      follow_ups_of = λ flag. tt;
      responses_of = tt;
    }

    event-hearing : (m : Contents) (origin : Stamp) → m.body ≡ bodies.Sync origin
        → hearing x.line x.time m m.body ≡ Some (calls.Event (Ok m) x.time x.line)
    event-hearing m origin body = ap (λ (b : Body). hearing x.line x.time m b) body

    keeps-known : Keeps w x (after_all w ds) (Knows ds) KnowsHeard (Knows (x ∷ ds))
    keeps-known = record {
      unheard = λ gone none l is.
          let unheard : is_heard w ds x ≡ false = ap is_some gone in
          all-same l.heard l.responses
          (λ flag. and_right (says (with_flag (is_master_sync w) flag) x) (is_heard w ds x) unheard)
          (λ flag. and_right (says (with_flag (is_master_follow_up w) flag) x) (is_heard w ds x) unheard)
          (and_right (says (is_own_response w) x) (is_heard w ds x) unheard) is;
      as_is = λ m said none l is heard. all-unlike m said none l is;
      sync = λ m origin said body of_master l is heard. record {
        syncs_of = λ flag.
            arrived-of (is_master_sync w) m said
            (and_from (is_of w w.master m.header) (is_sync m.body) of_master (ap is_sync body)) heard flag
            (syncs flag l.heard) (is.syncs_of flag);
        follow_ups_of = λ flag.
            subst (AreOf (is_master_follow_up w) (follow_ups flag l.heard))
            (no-flagged (is_master_follow_up w) m said (sync-no_follow m origin body) flag) (is.follow_ups_of flag);
        responses_of = subst (AreOf (is_own_response w) l.responses)
            (heard-same (is_own_response w) (unsaid (is_own_response w) m said (sync-no_response m origin body)))
            is.responses_of;
      };
      master = λ m origin said body of_master l is heard. anew-knows m origin said body of_master heard;
      follow = λ m precise said body of_master l is heard. record {
        syncs_of = λ flag.
            subst (AreOf (is_master_sync w) (syncs flag l.heard))
            (no-flagged (is_master_sync w) m said
            (and_right (is_of w w.master m.header) (is_sync m.body) (ap is_sync body)) flag) (is.syncs_of flag);
        follow_ups_of = λ flag.
            arrived-of (is_master_follow_up w) m said
            (and_from (is_of w w.master m.header) (is_follow_up m.body) of_master (ap is_follow_up body)) heard flag
            (follow_ups flag l.heard) (is.follow_ups_of flag);
        responses_of = subst (AreOf (is_own_response w) l.responses)
            (heard-same (is_own_response w)
            (unsaid (is_own_response w) m said
            (and_right (is_of w w.master m.header) (is_response_to w.slave m.body)
            (ap (is_response_to w.slave) body)))) is.responses_of;
      };
      response = λ m receive requesting said body of_master to_slave l is heard. record {
        syncs_of = λ flag.
            subst (AreOf (is_master_sync w) (syncs flag l.heard))
            (no-flagged (is_master_sync w) m said
            (and_right (is_of w w.master m.header) (is_sync m.body) (ap is_sync body)) flag) (is.syncs_of flag);
        follow_ups_of = λ flag.
            subst (AreOf (is_master_follow_up w) (follow_ups flag l.heard))
            (no-flagged (is_master_follow_up w) m said
            (and_right (is_of w w.master m.header) (is_follow_up m.body) (ap is_follow_up body)) flag)
            (is.follow_ups_of flag);
        responses_of =
            let kind_is : is_own_response w m ≡ true =
            and_from (is_of w w.master m.header) (is_response_to w.slave m.body) of_master
            (ap (is_response_to w.slave) body ∙ to_slave) in
            let one : IsEntry (is_own_response w) x (entry m.header.sequence.0 x.time) = record {
              m = m;
              said = said;
              kind_is = kind_is;
              number = refl;
              time = refl;
            } in
            subst (AreOf (is_own_response w) (entry m.header.sequence.0 x.time ∷ l.responses))
            (heard-more (is_own_response w)
            (and_from (says (is_own_response w) x) (is_heard w ds x)
            (says-of (is_own_response w) x m said ∙ kind_is) heard)) (one, is.responses_of);
      };
      other = λ m origin said body other l is_ready is.
          is (is_heard-ready m (calls.Event (Ok m) x.time x.line) l said (event-hearing m origin body) is_ready);
      counted = λ m origin said body of_master l room is_ready is.
          is (is_heard-ready m (calls.Event (Ok m) x.time x.line) l said (event-hearing m origin body) is_ready);
      ticked = λ m origin said body of_master l full is_ready is.
          is (is_heard-ready m (calls.Event (Ok m) x.time x.line) l said (event-hearing m origin body) is_ready);
      general = λ m said kind l is_ready is.
          is (is_heard-ready m (calls.General (Ok m) x.line) l said (general-hearing x.line x.time m m.body kind)
          is_ready);
      again = λ m said own l same is. all-unlike m said (request-none m own) l is;
      asked = λ m said own l near is. all-unlike m said (request-none m own) l is;
      begun = λ m said own l is.
          let all = all-unlike m said (request-none m own) l is in
          record { syncs_of = all.syncs_of; follow_ups_of = all.follow_ups_of; responses_of = tt };
    }

  pub after-known : (ds : List Recorded) → Knows ds (after_all w ds)
  after-known [] = record { syncs_of = λ flag. tt; follow_ups_of = λ flag. tt; responses_of = tt }
  after-known (x ∷ ds) =
      hear_holds w x (after_all w ds) (Knows ds) (KnowsHeard x ds) (Knows (x ∷ ds)) (keeps-known x ds) (after-known ds)
