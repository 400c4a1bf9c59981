-- The Follow_Ups that a listening port holds were said by the datagrams before, and the last Delay_Req that it knows is
-- the last that they say.
use Rattle.std.proofs.Common.{◌≡◌, ◌∙◌, ℕ, zero, suc, ◌+◌, Bool, true, false, List, [], ◌∷◌, Option, Some, None, Ok}
use Rattle.std.proofs.Common.{Err}
use Rattle.std.proofs.Common.{refl, sym, ap, subst, arith, option_and_then, if◌then◌else◌}
use Rattle.std.specs.Prelude.{◌==◌, ◌&&◌, ◌⊎◌}
use Rattle.std.proofs.Common.{inl, inr}
use Rattle.std.specs.Option.{option_map_or, option_or}
use Rattle.std.specs.Result.{result_ok}
use Rattle.std.specs.List.{All}
use Rattle.std.proofs.lemmas.Bool.{and_from, and_right, eq-eqb, both_ways}
use Rattle.std.proofs.lemmas.List.Elements.{All-nil, All-head, All-tail, All-weaker}
use Rattle.ptp_units.specs.Sequence.{next, ahead}
use Rattle.event_codec.specs.declared.message.Body.{Body}
use Rattle.event_codec.specs.declared.message.Body.TheVariants as bodies
use Rattle.event_codec.specs.declared.message.Header.{Header}
use Rattle.event_codec.specs.declared.port.PortIdentity.{PortIdentity}
use Rattle.event_codec.specs.Packet.{Contents}
use Rattle.event_codec.specs.Port.{is_same_port}
use Rattle.event_codec.specs.Reading.{Reading}
use Rattle.pairing.specs.Marked.{Entry, first_value}
use Rattle.slave_port.specs.History as calls
use Rattle.slave_port.specs.History.{Call, Setup, present_master, next_number}
use Rattle.slave_port.specs.Usable.{is_two_step}
use Rattle.slave_port.specs.Values.{SyncValue, FollowValue}
use Rattle.slave_port.specs.Completion.{SyncCompletion, DelayCompletion}
use Rattle.slave_port.specs.Window.{with_brought}
use Rattle.slave_port.specs.Kept.{Kept, kept, criteria, delay_completions, held_follows, usable_two_step_sync}
use Rattle.slave_port.specs.Kept.{usable_follow_up, sync_completion, delay_completion}
use Rattle.slave_port.proofs.Uses.{Passes, HeardSync, HeardFollowUp, HeardDelayResp, two_step_entry, follow_entry}
use Rattle.slave_port.proofs.Uses.{sync_completion_of, delay_completion_of, IsSyncCompletion, BySync, Alone, ByFollowUp}
use Rattle.recording_model.specs.declared.watched.Watched.{Watched}
use Rattle.recording_model.specs.Recorded.{Recorded}
use Rattle.recording_model.specs.Listening.{Listening, setup_with, setup_in, is_of}
use Rattle.recording_model.specs.Listening.{draws, asks, anew, after_all}
use Rattle.recording_model.specs.Told.{is_sync, is_general}
use Rattle.recording_model.specs.Finds.{is_master_sync, is_follow_up, is_master_follow_up}
use Rattle.recording_model.specs.Finds.{is_response_to, is_own_response, is_delay_req, is_own_request, with_number, says}
use Rattle.recording_model.specs.Finds.{NoneSays}
use Rattle.recording_model.proofs.Near.{All-brought}
use Rattle.recording_model.proofs.Requests.{drawn-draws}
use Rattle.recording_model.proofs.Steps.{same_identity}
use Rattle.recording_model.proofs.Tags.{AllIn}
use Rattle.recording_model.proofs.Hearing.{Keeps, hear_holds, asked_number, asked_by}

-- the number of the last Delay_Req of the slave that these say
abbrev pub last_number : Watched → List Recorded → Option ℕ
last_number w [] = None
last_number w (d ∷ earlier) =
    option_or (option_and_then (λ m. if is_own_request w m then Some m.header.sequence.0 else None) (result_ok d.said))
    (last_number w earlier)

-- what a datagram says
pub says-of : (test : Contents → Bool) (d : Recorded) (m : Contents) → d.said ≡ Ok m → says test d ≡ test m
says-of test d m said = ap (λ (r : Reading). option_map_or test (result_ok r) false) said

-- the number isn't this one, where it passes no test that asks for it
pub unlike : (test : Contents → Bool) (number : ℕ) (m : Contents) → with_number test number m ≡ false
    → test m ≡ true → m.header.sequence.0 ≡ number → ⊥
unlike test number m none is same =
    both_ways (with_number test number m) none
    (and_from (test m) (m.header.sequence.0 == number) is (eq-eqb m.header.sequence.0 number same))

module _ (kind : Contents → Bool) where
  -- a number that a message of a kind has, which one of these says: no test passes it that none of them passes
  abbrev pub SaidIn : List Recorded → (number : ℕ) → Type 0
  SaidIn ds number =
      (test : ℕ → Bool) → NoneSays (λ (m : Contents). kind m && test m.header.sequence.0) ds → test number ≡ false

  module _ (x : Recorded) (ds : List Recorded) where
    pub said-later : (number : ℕ) → SaidIn ds number → SaidIn (x ∷ ds) number
    said-later number is test none =
        is test
        (All-tail (λ (d : Recorded). says (λ (m : Contents). kind m && test m.header.sequence.0) d ≡ false) x ds none)

    module _ (m : Contents) (said : x.said ≡ Ok m) (kind_is : kind m ≡ true) where
      pub said-now : SaidIn (x ∷ ds) m.header.sequence.0
      said-now test none =
          sym (ap (λ (b : Bool). b && test m.header.sequence.0) kind_is)
          ∙ sym (says-of (λ (m : Contents). kind m && test m.header.sequence.0) x m said)
          ∙ All-head (λ (d : Recorded). says (λ (m : Contents). kind m && test m.header.sequence.0) d ≡ false) x ds none

-- what is of a kind is of a wider one
pub said-wider : (kind other : Contents → Bool) → ((m : Contents) → kind m ≡ true → other m ≡ true)
    → (ds : List Recorded) (number : ℕ) → SaidIn kind ds number → SaidIn other ds number
said-wider kind other wider ds number is test none =
    is test
    (All-weaker (λ (d : Recorded). says (λ (m : Contents). other m && test m.header.sequence.0) d ≡ false)
    (λ (d : Recorded). says (λ (m : Contents). kind m && test m.header.sequence.0) d ≡ false) each ds none)
  where
    at : (m : Contents) (b : Bool) → kind m ≡ b → (other m && test m.header.sequence.0) ≡ false
        → (b && test m.header.sequence.0) ≡ false
    at m false same none = refl
    at m true same none = sym (ap (λ (b : Bool). b && test m.header.sequence.0) (wider m same)) ∙ none

    by : (said : Reading) → option_map_or (λ m. other m && test m.header.sequence.0) (result_ok said) false ≡ false
        → option_map_or (λ m. kind m && test m.header.sequence.0) (result_ok said) false ≡ false
    by (Ok m) none = at m (kind m) refl none
    by (Err refusal) none = refl

    each : (d : Recorded) → says (λ (m : Contents). other m && test m.header.sequence.0) d ≡ false
        → says (λ (m : Contents). kind m && test m.header.sequence.0) d ≡ false
    each d none = by d.said none

module _ (w : Watched) (first : ℕ) (history : List Call) (follows : present_master history ≡ Some w.master) where
  abbrev setup : Setup
  setup = setup_with w first

  -- a message that can be used is of the master
  of_master : (header : Header) → Passes (criteria setup history) header → is_of w w.master header ≡ true
  of_master header passes =
      let masters : Some passes.master ≡ Some w.master = sym passes.present ∙ follows in
      let one : passes.master ≡ w.master = cc in
      let source : header.source ≡ w.master = passes.source ∙ one in
      and_from (header.domain == w.domain) (is_same_port header.source w.master)
      (eq-eqb header.domain w.domain passes.domain)
      (ap (λ (p : PortIdentity). is_same_port p w.master) source ∙ same_identity w.master)

  module _ (m : Contents) (time line : ℕ) where
    abbrev at_event : Call
    at_event = calls.Event (Ok m) time line

    abbrev at_general : Call
    at_general = calls.General (Ok m) line

    -- the message is that of the call
    sync-message : (h : HeardSync (criteria setup history) at_event) → m ≡ h.m
    sync-message h = let same : calls.Event (Ok m) time line ≡ calls.Event (Ok h.m) h.t2 h.tag = h.call_is in cc

    follow-message : (h : HeardFollowUp (criteria setup history) at_general) → m ≡ h.m
    follow-message h = let same : calls.General (Ok m) line ≡ calls.General (Ok h.m) h.tag = h.call_is in cc

    response-message : (h : HeardDelayResp (criteria setup history) at_general) → m ≡ h.m
    response-message h = let same : calls.General (Ok m) line ≡ calls.General (Ok h.m) h.tag = h.call_is in cc

    no-sync : {A : Type 0} → HeardSync (criteria setup history) at_general → A
    no-sync h = let same : calls.General (Ok m) line ≡ calls.Event (Ok h.m) h.t2 h.tag = h.call_is in cc

    no-follow_up : {A : Type 0} → HeardFollowUp (criteria setup history) at_event → A
    no-follow_up h = let same : calls.Event (Ok m) time line ≡ calls.General (Ok h.m) h.tag = h.call_is in cc

    no-response : {A : Type 0} → HeardDelayResp (criteria setup history) at_event → A
    no-response h = let same : calls.Event (Ok m) time line ≡ calls.General (Ok h.m) h.tag = h.call_is in cc

    sync-of_master : (h : HeardSync (criteria setup history) at_event) → is_master_sync w m ≡ true
    sync-of_master h =
        subst (λ (m : Contents). is_master_sync w m ≡ true) (sym (sync-message h))
        (and_from (is_of w w.master h.m.header) (is_sync h.m.body) (of_master h.m.header h.passes)
        (ap is_sync h.body))

    follow-of_master : (h : HeardFollowUp (criteria setup history) at_general) → is_master_follow_up w m ≡ true
    follow-of_master h =
        subst (λ (m : Contents). is_master_follow_up w m ≡ true) (sym (follow-message h))
        (and_from (is_of w w.master h.m.header) (is_follow_up h.m.body) (of_master h.m.header h.passes)
        (ap is_follow_up h.body))

    -- the two-step Sync and the Follow_Up that it brings
    pub sync_brought : (e : Entry SyncValue) → usable_two_step_sync setup history at_event ≡ Some e
        → (is_master_sync w m ≡ true) × (e.number ≡ m.header.sequence.0)
    sync_brought e is =
        let one = two_step_entry setup history at_event e is in (
          sync-of_master one.h,
          ap (λ (e : Entry SyncValue). e.number) one.is
              ∙ ap (λ (m : Contents). m.header.sequence.0) (sym (sync-message one.h)),
        )

    pub no_sync_brought : {A : Type 0} (e : Entry SyncValue) → usable_two_step_sync setup history at_general ≡ Some e → A
    no_sync_brought e is = let one = two_step_entry setup history at_general e is in no-sync one.h

    pub follow_brought : (e : Entry FollowValue) → usable_follow_up setup history at_general ≡ Some e
        → (is_master_follow_up w m ≡ true) × (e.number ≡ m.header.sequence.0)
    follow_brought e is =
        let one = follow_entry setup history at_general e is in (
          follow-of_master one.h,
          ap (λ (e : Entry FollowValue). e.number) one.is
              ∙ ap (λ (m : Contents). m.header.sequence.0) (sym (follow-message one.h)),
        )

    pub no_follow_brought : {A : Type 0} (e : Entry FollowValue) → usable_follow_up setup history at_event ≡ Some e → A
    no_follow_brought e is = let one = follow_entry setup history at_event e is in no-follow_up one.h

    -- what it completes: a Sync of its number, which is one-step or whose Follow_Up is held
    pub event_completes : (c : SyncCompletion) → sync_completion setup history at_event ≡ Some c
        → (is_master_sync w m ≡ true) × (c.number ≡ m.header.sequence.0)
        × ((is_two_step m.header ≡ false)
        ⊎ ((value : FollowValue) × (first_value m.header.sequence.0 (held_follows setup history) ≡ Some value)))
    event_completes c is = by (sync_completion_of setup history at_event c is).0
      where
        by : IsSyncCompletion setup history at_event c
            → (is_master_sync w m ≡ true) × (c.number ≡ m.header.sequence.0)
            × ((is_two_step m.header ≡ false)
            ⊎ ((value : FollowValue) × (first_value m.header.sequence.0 (held_follows setup history) ≡ Some value)))
        by (BySync h follow flag found same) = (
          sync-of_master h,
          ap (λ (c : SyncCompletion). c.number) same ∙ ap (λ (m : Contents). m.header.sequence.0) (sym (sync-message h)),
          inr (
            follow,
            ap (λ (m : Contents). first_value m.header.sequence.0 (held_follows setup history))
                (sync-message h) ∙ found,
          ),
        )
        by (Alone h flag same) = (
          sync-of_master h,
          ap (λ (c : SyncCompletion). c.number) same ∙ ap (λ (m : Contents). m.header.sequence.0) (sym (sync-message h)),
          inl (ap (λ (m : Contents). is_two_step m.header) (sync-message h) ∙ flag),
        )
        by (ByFollowUp h sync found same) = no-follow_up h

    pub general_completes : (c : SyncCompletion) → sync_completion setup history at_general ≡ Some c
        → (is_master_follow_up w m ≡ true) × (c.number ≡ m.header.sequence.0)
    general_completes c is = by (sync_completion_of setup history at_general c is).0
      where
        by : IsSyncCompletion setup history at_general c
            → (is_master_follow_up w m ≡ true) × (c.number ≡ m.header.sequence.0)
        by (BySync h follow flag found same) = no-sync h
        by (Alone h flag same) = no-sync h
        by (ByFollowUp h sync found same) = (
          follow-of_master h,
          ap (λ (c : SyncCompletion). c.number) same
              ∙ ap (λ (m : Contents). m.header.sequence.0) (sym (follow-message h)),
        )

    -- what request it completes: it is a Delay_Resp to the slave
    pub general_answers : (c : DelayCompletion) → delay_completion setup history at_general ≡ Some c
        → is_own_response w m ≡ true
    general_answers c is =
        let h = (delay_completion_of setup history at_general c is).h in
        subst (λ (m : Contents). is_own_response w m ≡ true) (sym (response-message h))
        (and_from (is_of w w.master h.m.header) (is_response_to w.slave h.m.body) (of_master h.m.header h.passes)
        (ap (is_response_to w.slave) h.body
        ∙ ap (λ (p : PortIdentity). is_same_port p w.slave) h.own ∙ same_identity w.slave))

    pub event_answers_none : {A : Type 0} (c : DelayCompletion) → delay_completion setup history at_event ≡ Some c → A
    event_answers_none c is = no-response (delay_completion_of setup history at_event c is).h

-- requests that are drawn leave all else as it was
pub drawn-kept : (given : Setup) (history : List Call) (count tag : ℕ)
    → (present_master (draws count tag history) ≡ present_master history)
    × (kept given (draws count tag history) ≡ kept given history)
    × (delay_completions given (draws count tag history) ≡ delay_completions given history)
drawn-kept given history zero tag = (refl, refl, refl)
drawn-kept given history (suc count) tag = drawn-kept given history count tag

module _ (w : Watched) where
  -- a port follows the master, and the Follow_Ups that it holds were said by these
  pub record IsSaid (ds : List Recorded) (first : ℕ) (history : List Call) : Type 0 where
    pub follows_master : present_master history ≡ Some w.master
    pub follows_said : AllIn (λ (e : Entry FollowValue). SaidIn (is_master_follow_up w) ds e.number)
        (kept (setup_with w first) history).follows

  abbrev pub IsOf : List Recorded → Listening → Type 0
  IsOf ds l = IsSaid ds l.first l.calls

  module _ (x : Recorded) (ds : List Recorded) where
    abbrev IsFollow : Entry FollowValue → Type 0
    IsFollow e = SaidIn (is_master_follow_up w) (x ∷ ds) e.number

    pub is_of-later : (l : Listening) → IsOf ds l → IsOf (x ∷ ds) l
    is_of-later l is = record {
      follows_master = is.follows_master;
      follows_said = (
        follows_of (kept (setup_in w l) l.calls).follows.since is.follows_said.0,
        follows_of (kept (setup_in w l) l.calls).follows.before is.follows_said.1,
      );
    }
      where
        follows_of : (es : List (Entry FollowValue))
            → All (λ (e : Entry FollowValue). SaidIn (is_master_follow_up w) ds e.number) es → All IsFollow es
        follows_of es are =
            All-weaker (λ (e : Entry FollowValue). SaidIn (is_master_follow_up w) ds e.number) IsFollow
            (λ e. said-later (is_master_follow_up w) x ds e.number) es are

    -- with what a call brings
    follows-brought : (first : ℕ) (history : List Call) (brings : Option (Entry FollowValue))
        → ((e : Entry FollowValue) → brings ≡ Some e → IsFollow e)
        → AllIn IsFollow (kept (setup_with w first) history).follows
        → AllIn IsFollow (with_brought brings (kept (setup_with w first) history).follows)
    follows-brought first history brings each are =
        (All-brought IsFollow brings (kept (setup_with w first) history).follows.since each are.0, are.1)

    -- with a message, or a tick
    module _ (m : Contents) (said : x.said ≡ Ok m) (l : Listening) (is : IsOf (x ∷ ds) l) where
      event-is_of : IsOf (x ∷ ds) (record l { calls = calls.Event (Ok m) x.time x.line ∷ l.calls })
      event-is_of = record {
        follows_master = is.follows_master;
        follows_said = follows-brought l.first l.calls
            (usable_follow_up (setup_in w l) l.calls (calls.Event (Ok m) x.time x.line))
            (λ e. no_follow_brought w l.first l.calls is.follows_master m x.time x.line e) is.follows_said;
      }

      general-is_of : IsOf (x ∷ ds) (record l { calls = calls.General (Ok m) x.line ∷ l.calls })
      general-is_of = record {
        follows_master = is.follows_master;
        follows_said = follows-brought l.first l.calls
            (usable_follow_up (setup_in w l) l.calls (calls.General (Ok m) x.line))
            (λ e same.
            let one = follow_brought w l.first l.calls is.follows_master m x.time x.line e same in
            subst (SaidIn (is_master_follow_up w) (x ∷ ds)) (sym one.1)
            (said-now (is_master_follow_up w) x ds m said one.0)) is.follows_said;
      }

    ticked-is_of : (l : Listening) → IsOf (x ∷ ds) l
        → IsOf (x ∷ ds) (record l { calls = calls.Tick ∷ l.calls; syncs = 0 })
    ticked-is_of l is = record {
      follows_master = is.follows_master;
      follows_said = (All-nil IsFollow, is.follows_said.0);
    }

    asked-is_of : (l : Listening) (line time number : ℕ) → IsOf (x ∷ ds) l → IsOf (x ∷ ds) (asks w line time number l)
    asked-is_of l line time number is =
        let count : ℕ = ahead number (next_number (setup_in w l) l.calls) + 1 in
        let same = drawn-kept (setup_in w l) l.calls count line in
        record {
          follows_master = same.0 ∙ is.follows_master;
          follows_said = subst (λ (k : Kept). AllIn IsFollow k.follows) (sym same.1) is.follows_said;
        }

    -- a port that is told its master holds nothing
    told-is_of : (first : ℕ) (history : List Call) → IsSaid (x ∷ ds) first (calls.SetMaster w.master ∷ history)
    told-is_of first history = record {
      follows_master = refl;
      follows_said = (All-nil IsFollow, All-nil IsFollow);
    }

    pub keeps-is_of : (before : Listening) → Keeps w x before (IsOf (x ∷ ds)) (IsOf (x ∷ ds)) (IsOf (x ∷ ds))
    keeps-is_of before = record {
      unheard = λ gone none l is. is;
      as_is = λ m said none l is. is;
      sync = λ m origin said body of_master l is. is;
      master = λ m origin said body of_master l is. told-is_of l.first l.calls;
      follow = λ m precise said body of_master l is. is;
      response = λ m receive requesting said body of_master to_slave l is. is;
      other = λ m origin said body other l is_ready is. event-is_of m said l is;
      counted = λ m origin said body of_master l room is_ready is. event-is_of m said l is;
      ticked = λ m origin said body of_master l full is_ready is.
          ticked-is_of (record l { calls = calls.Event (Ok m) x.time x.line ∷ l.calls }) (event-is_of m said l is);
      general = λ m said kind l is_ready is. general-is_of m said l is;
      again = λ m said own l same is. is;
      asked = λ m said own l near is. asked-is_of l x.line x.time m.header.sequence.0 is;
      begun = λ m said own l is.
          asked-is_of (anew w x.line m.header.sequence.0 l) x.line x.time m.header.sequence.0
          (told-is_of m.header.sequence.0 []);
    }

  -- so it is after all
  pub after-is_of : (ds : List Recorded) → IsOf ds (after_all w ds)
  after-is_of [] = record {
    follows_master = refl;
    follows_said = (
      All-nil (λ (e : Entry FollowValue). SaidIn (is_master_follow_up w) [] e.number),
      All-nil (λ (e : Entry FollowValue). SaidIn (is_master_follow_up w) [] e.number),
    );
  }
  after-is_of (x ∷ ds) =
      hear_holds w x (after_all w ds) (IsOf (x ∷ ds)) (IsOf (x ∷ ds)) (IsOf (x ∷ ds)) (keeps-is_of x ds (after_all w ds))
      (is_of-later x ds (after_all w ds) (after-is_of ds))

  -- the port knows the last Delay_Req of the slave where it was asked for one
  pub record IsAsked (ds : List Recorded) (next_is : ℕ) (asked : Bool) : Type 0 where
    pub last : asked ≡ true → (number : ℕ) × (last_number w ds ≡ Some number) × (next_is ≡ next number)

  abbrev pub KnowsLast : List Recorded → Listening → Type 0
  KnowsLast ds l = IsAsked ds (next_number (setup_in w l) l.calls) l.asked

  module _ (x : Recorded) (ds : List Recorded) where
    -- the last Delay_Req of the slave stays so, or is this one
    last-same : asked_by w x ≡ None → last_number w (x ∷ ds) ≡ last_number w ds
    last-same none = ap (λ (o : Option ℕ). option_or o (last_number w ds)) none

    last-now : (m : Contents) → x.said ≡ Ok m → is_own_request w m ≡ true
        → last_number w (x ∷ ds) ≡ Some m.header.sequence.0
    last-now m said own =
        ap (λ (o : Option ℕ). option_or o (last_number w ds))
        (ap (λ (r : Reading). option_and_then (asked_number w) (result_ok r)) said
        ∙ ap (λ (b : Bool). if b then Some m.header.sequence.0 else None) own)

    -- what isn't its Delay_Req changes nothing
    last-later : asked_by w x ≡ None → (next_is : ℕ) (asked : Bool) → IsAsked ds next_is asked
        → IsAsked (x ∷ ds) next_is asked
    last-later none next_is asked is = record {
      last = λ e. let one = is.last e in (one.0, last-same none ∙ one.1, one.2);
    }

    -- a message of another kind isn't one
    no-request : (kind : Body → Bool) (m : Contents) → x.said ≡ Ok m → kind m.body ≡ true
        → ((body : Body) → kind body ≡ true → is_delay_req body ≡ false) → asked_by w x ≡ None
    no-request kind m said is apart =
        ap (λ (r : Reading). option_and_then (asked_number w) (result_ok r)) said
        ∙ ap (λ (b : Bool). if b then Some m.header.sequence.0 else None)
        (and_right (is_of w w.slave m.header) (is_delay_req m.body) (apart m.body is))

    sync-apart : (body : Body) → is_sync body ≡ true → is_delay_req body ≡ false
    sync-apart (bodies.Sync origin) is = refl
    sync-apart _ is = cc

    general-apart : (body : Body) → is_general body ≡ true → is_delay_req body ≡ false
    general-apart (bodies.FollowUp precise) is = refl
    general-apart (bodies.DelayResp receive requesting) is = refl
    general-apart _ is = cc

    -- requests are drawn up to its number
    next-asked : (l : Listening) (line time number : ℕ)
        → next_number (setup_in w (asks w line time number l)) (asks w line time number l).calls ≡ next number
    next-asked l line time number =
        let count : ℕ = ahead number (next_number (setup_in w l) l.calls) in
        omega (arith, drawn-draws (count + 1) line l.calls)

    keeps-last : (before : Listening) → Keeps w x before (KnowsLast ds) (KnowsLast ds) (KnowsLast (x ∷ ds))
    keeps-last before = record {
      as_is = λ m said none l is. is;
      unheard = λ gone none l is. last-later none (next_number (setup_in w l) l.calls) l.asked is;
      sync = λ m origin said body of_master l is. is;
      master = λ m origin said body of_master l is. is;
      follow = λ m precise said body of_master l is. is;
      response = λ m receive requesting said body of_master to_slave l is. is;
      other = λ m origin said body other l is_ready is.
          last-later (no-request is_sync m said (ap is_sync body) sync-apart) (next_number (setup_in w l) l.calls) l.asked
          is;
      counted = λ m origin said body of_master l room is_ready is.
          last-later (no-request is_sync m said (ap is_sync body) sync-apart) (next_number (setup_in w l) l.calls) l.asked
          is;
      ticked = λ m origin said body of_master l full is_ready is.
          last-later (no-request is_sync m said (ap is_sync body) sync-apart) (next_number (setup_in w l) l.calls) l.asked
          is;
      general = λ m said kind l is_ready is.
          last-later (no-request is_general m said kind general-apart) (next_number (setup_in w l) l.calls) l.asked is;
      again = λ m said own l same is. record {
        last = λ e. (m.header.sequence.0, last-now m said own, omega (arith, same));
      };
      asked = λ m said own l near is. record {
        last = λ e. (m.header.sequence.0, last-now m said own, next-asked l x.line x.time m.header.sequence.0);
      };
      begun = λ m said own l is. record {
        last = λ e. (
          m.header.sequence.0,
          last-now m said own,
          next-asked (anew w x.line m.header.sequence.0 l) x.line x.time m.header.sequence.0,
        );
      };
    }

  pub after-last : (ds : List Recorded) → KnowsLast ds (after_all w ds)
  after-last [] = record { last = λ e. cc }
  after-last (x ∷ ds) =
      hear_holds w x (after_all w ds) (KnowsLast ds) (KnowsLast ds) (KnowsLast (x ∷ ds)) (keeps-last x ds (after_all w ds))
      (after-last ds)
