-- What a listening port holds and what completed was said within so many of the Syncs that it heard: since a Follow_Up is
-- held, and a completion counts, for two ticks at the most.
use Rattle.std.proofs.Common.{◌≡◌, ◌∙◌, ℕ, zero, suc, ◌+◌, ◌<◌, ◌≤◌, Bool, true, false, List, [], ◌∷◌, Some}
use Rattle.std.proofs.Common.{Ok, refl, sym, ap, subst, arith, is_some, if◌then◌else◌}
use Rattle.std.specs.Prelude.{◌&&◌, not, ◌⊎◌}
use Rattle.std.proofs.Common.{inl, inr}
use Rattle.std.specs.List.{All}
use Rattle.std.proofs.lemmas.Bool.{and_from, and_left, and_right, and_parts, or_left, or_right}
use Rattle.std.proofs.lemmas.List.Elements.{All-nil, All-cons, All-head, All-tail, All-append, All-weaker, All-take}
use Rattle.ptp_units.specs.Sequence.{ahead}
use Rattle.event_codec.specs.declared.message.Body.{Body}
use Rattle.event_codec.specs.declared.message.Body.TheVariants as bodies
use Rattle.event_codec.specs.Packet.{Contents}
use Rattle.pairing.specs.Marked.{Entry, first_value}
use Rattle.slave_port.specs.History as calls
use Rattle.slave_port.specs.History.{Call, next_number}
use Rattle.slave_port.specs.Usable.{is_two_step}
use Rattle.slave_port.specs.Values.{FollowValue}
use Rattle.slave_port.specs.Completion.{SyncCompletion}
use Rattle.slave_port.specs.Window.{all}
use Rattle.slave_port.specs.Kept.{Kept, kept, held_follows, usable_follow_up, sync_completion}
use Rattle.network_model.proofs.Pairing.{found_in}
use Rattle.recording_model.specs.declared.watched.Watched.{Watched}
use Rattle.recording_model.specs.Recorded.{Recorded}
use Rattle.recording_model.specs.Listening.{Listening, setup_with, setup_in, is_of, ticks_every, draws, anew, after_all}
use Rattle.recording_model.specs.Pairs.{is_heard}
use Rattle.recording_model.specs.Told.{is_sync, is_general}
use Rattle.recording_model.specs.Finds.{is_master_sync, is_master_follow_up, tells_departure, is_delay_req}
use Rattle.recording_model.specs.Finds.{is_own_request}
use Rattle.recording_model.specs.Finds.{says, within_syncs}
use Rattle.recording_model.proofs.Near.{All-brought}
use Rattle.recording_model.proofs.Hearing.{Keeps, hear_holds}
use Rattle.recording_model.proofs.Said.{SaidIn, said-now, said-wider, says-of, IsOf, is_of-later, keeps-is_of}
use Rattle.recording_model.proofs.Said.{after-is_of}
use Rattle.recording_model.proofs.Said.{follow_brought, no_follow_brought, event_completes, general_completes, drawn-kept}

-- what holds within more holds within fewer
pub within-fewer : (w : Watched) (P : Recorded → Type 0) (ds : List Recorded) (a b : ℕ) → a ≤ b
    → All P (within_syncs w ds b) → All P (within_syncs w ds a)
within-fewer w P [] a b low are = All-nil P
within-fewer w P (d ∷ ds) zero b low are = All-nil P
within-fewer w P (d ∷ ds) (suc a) zero low are = absurd (omega arith)
within-fewer w P (d ∷ ds) (suc a) (suc b) low are =
    All-cons P d
    (within_syncs w ds (if says (is_master_sync w) d && is_heard w ds d then a else suc a))
    (All-head P d (within_syncs w ds (if says (is_master_sync w) d && is_heard w ds d then b else suc b)) are)
    (within-fewer w P ds (if says (is_master_sync w) d && is_heard w ds d then a else suc a)
    (if says (is_master_sync w) d && is_heard w ds d then b else suc b)
    (by (says (is_master_sync w) d && is_heard w ds d))
    (All-tail P d (within_syncs w ds (if says (is_master_sync w) d && is_heard w ds d then b else suc b)) are))
  where
    by : (counts : Bool) → (if counts then a else suc a) ≤ (if counts then b else suc b)
    by true = omega arith
    by false = omega arith

module _ (w : Watched) (x : Recorded) (ds : List Recorded) where
  -- how many Syncs it adds at the most
  pub record Adds (more : ℕ) : Type 0 where
    pub least : (k : ℕ) → suc k ≤ (if says (is_master_sync w) x && is_heard w ds x then k else suc k) + more

  adds-one : Adds 1
  adds-one = record { least = λ k. by k (says (is_master_sync w) x && is_heard w ds x) }
    where
      by : (k : ℕ) (counts : Bool) → suc k ≤ (if counts then k else suc k) + 1
      by k true = omega arith
      by k false = omega arith

  adds-none : (says (is_master_sync w) x && is_heard w ds x) ≡ false → Adds 0
  adds-none none = record {
    least = λ k. subst (λ (b : Bool). suc k ≤ (if b then k else suc k) + 0) (sym none) (omega arith);
  }

  module _ (more : ℕ) (adds : Adds more) where
    lift : (kind : Contents → Bool) (c d number : ℕ) → c + more ≤ d → 1 ≤ d → SaidIn kind (within_syncs w ds c) number
        → SaidIn kind (within_syncs w (x ∷ ds) d) number
    lift kind c zero number low some is = absurd (omega arith)
    lift kind c (suc k) number low some is = λ test none.
        let P : Recorded → Type 0 = λ d. says (λ (m : Contents). kind m && test m.header.sequence.0) d ≡ false in
        let room : suc k ≤ (if says (is_master_sync w) x && is_heard w ds x then k else suc k) + more = adds.least k in
        is test
        (within-fewer w P ds c (if says (is_master_sync w) x && is_heard w ds x then k else suc k) (omega arith)
        (All-tail P x
        (within_syncs w ds (if says (is_master_sync w) x && is_heard w ds x then k else suc k)) none))

  now : (kind : Contents → Bool) (m : Contents) (d : ℕ) → x.said ≡ Ok m → kind m ≡ true → 1 ≤ d
      → SaidIn kind (within_syncs w (x ∷ ds) d) m.header.sequence.0
  now kind m zero said is some = absurd (omega arith)
  now kind m (suc k) said is some =
      said-now kind x (within_syncs w ds (if says (is_master_sync w) x && is_heard w ds x then k else suc k)) m said is

module _ (w : Watched) where
  -- so many Syncs after the last tick
  pub record AreWithin (ds : List Recorded) (first : ℕ) (history : List Call) (bound : ℕ) : Type 0 where
    pub follows_since : All (λ (e : Entry FollowValue). SaidIn (is_master_follow_up w)
        (within_syncs w ds (bound + 1)) e.number) (kept (setup_with w first) history).follows.since
    pub follows_before : All (λ (e : Entry FollowValue). SaidIn (is_master_follow_up w)
        (within_syncs w ds (bound + 4097)) e.number) (kept (setup_with w first) history).follows.before
    pub completions_since : All (λ (c : SyncCompletion). SaidIn (tells_departure w)
        (within_syncs w ds (bound + 4097)) c.number) (kept (setup_with w first) history).completions.since
    pub completions_before : All (λ (c : SyncCompletion). SaidIn (tells_departure w)
        (within_syncs w ds (bound + 8193)) c.number) (kept (setup_with w first) history).completions.before

  pub record AreRecent (ds : List Recorded) (first : ℕ) (history : List Call) (syncs : ℕ) : Type 0 where
    pub within : AreWithin ds first history syncs
    pub low : syncs < ticks_every

  abbrev pub RecentOf : List Recorded → Listening → Type 0
  RecentOf ds l = AreRecent ds l.first l.calls l.syncs

  module _ (x : Recorded) (ds : List Recorded) where
    abbrev FollowsWithin : (c : ℕ) → Entry FollowValue → Type 0
    FollowsWithin c e = SaidIn (is_master_follow_up w) (within_syncs w (x ∷ ds) c) e.number

    abbrev CompletesWithin : (c : ℕ) → SyncCompletion → Type 0
    CompletesWithin c e = SaidIn (tells_departure w) (within_syncs w (x ∷ ds) c) e.number

    -- a port that holds nothing
    none-within : (first : ℕ) (history : List Call) (bound : ℕ)
        → AreWithin (x ∷ ds) first (calls.SetMaster w.master ∷ history) bound
    none-within first history bound = record {
      follows_since = All-nil (FollowsWithin (bound + 1));
      follows_before = All-nil (FollowsWithin (bound + 4097));
      completions_since = All-nil (CompletesWithin (bound + 4097));
      completions_before = All-nil (CompletesWithin (bound + 8193));
    }

    nothing-within : (first : ℕ) (history : List Call) (bound : ℕ)
        → AreWithin ds first (calls.SetMaster w.master ∷ history) bound
    nothing-within first history bound = record {
      follows_since = All-nil (λ (e : Entry FollowValue). SaidIn (is_master_follow_up w)
          (within_syncs w ds (bound + 1)) e.number);
      follows_before = All-nil (λ (e : Entry FollowValue). SaidIn (is_master_follow_up w)
          (within_syncs w ds (bound + 4097)) e.number);
      completions_since = All-nil (λ (c : SyncCompletion). SaidIn (tells_departure w)
          (within_syncs w ds (bound + 4097)) c.number);
      completions_before = All-nil (λ (c : SyncCompletion). SaidIn (tells_departure w)
          (within_syncs w ds (bound + 8193)) c.number);
    }

    module _ (more : ℕ) (adds : Adds w x ds more) (first : ℕ) (history : List Call) (bound later : ℕ)
        (room : bound + more ≤ later) (are : AreWithin ds first history bound) where
      lifted : AreWithin (x ∷ ds) first history later
      lifted = record {
        follows_since =
            All-weaker (λ (e : Entry FollowValue). SaidIn (is_master_follow_up w) (within_syncs w ds (bound + 1)) e.number)
            (FollowsWithin (later + 1))
            (λ e. lift w x ds more adds (is_master_follow_up w) (bound + 1) (later + 1) e.number (omega arith)
            (omega arith)) (kept (setup_with w first) history).follows.since are.follows_since;
        follows_before =
            All-weaker
            (λ (e : Entry FollowValue). SaidIn (is_master_follow_up w) (within_syncs w ds (bound + 4097)) e.number)
            (FollowsWithin (later + 4097))
            (λ e. lift w x ds more adds (is_master_follow_up w) (bound + 4097) (later + 4097) e.number (omega arith)
            (omega arith)) (kept (setup_with w first) history).follows.before are.follows_before;
        completions_since =
            All-weaker
            (λ (c : SyncCompletion). SaidIn (tells_departure w) (within_syncs w ds (bound + 4097)) c.number)
            (CompletesWithin (later + 4097))
            (λ c. lift w x ds more adds (tells_departure w) (bound + 4097) (later + 4097) c.number (omega arith)
            (omega arith)) (kept (setup_with w first) history).completions.since are.completions_since;
        completions_before =
            All-weaker
            (λ (c : SyncCompletion). SaidIn (tells_departure w) (within_syncs w ds (bound + 8193)) c.number)
            (CompletesWithin (later + 8193))
            (λ c. lift w x ds more adds (tells_departure w) (bound + 8193) (later + 8193) c.number (omega arith)
            (omega arith)) (kept (setup_with w first) history).completions.before are.completions_before;
      }

    departs-by_follow : (m : Contents) → is_master_follow_up w m ≡ true → tells_departure w m ≡ true
    departs-by_follow m is = or_left (is_master_follow_up w m) (is_master_sync w m && not (is_two_step m.header)) is

    -- with what a Sync completes
    module _ (m : Contents) (said : x.said ≡ Ok m) (l : Listening) (is : IsOf w (x ∷ ds) l) (bound : ℕ)
        (are : AreWithin (x ∷ ds) l.first l.calls bound) where
      event-number : (c : SyncCompletion)
          → sync_completion (setup_in w l) l.calls (calls.Event (Ok m) x.time x.line) ≡ Some c
          → CompletesWithin (bound + 4097) c
      event-number c same =
          let one = event_completes w l.first l.calls is.follows_master m x.time x.line c same in
          subst (SaidIn (tells_departure w) (within_syncs w (x ∷ ds) (bound + 4097))) (sym one.1) (by one.0 one.2)
        where
          by : is_master_sync w m ≡ true
              → ((is_two_step m.header ≡ false)
              ⊎ ((value : FollowValue)
              × (first_value m.header.sequence.0 (held_follows (setup_in w l) l.calls) ≡ Some value)))
              → SaidIn (tells_departure w) (within_syncs w (x ∷ ds) (bound + 4097)) m.header.sequence.0
          by sync (inl one_step) =
              now w x ds (tells_departure w) m (bound + 4097) said
              (or_right (is_master_follow_up w m) (is_master_sync w m && not (is_two_step m.header))
              (and_from (is_master_sync w m) (not (is_two_step m.header)) sync (ap not one_step))) (omega arith)
          by sync (inr found) =
              let P : Entry FollowValue → Type 0 = FollowsWithin (bound + 4097) in
              let since : All P (kept (setup_in w l) l.calls).follows.since =
              All-weaker (FollowsWithin (bound + 1)) P
              (λ e near test none.
              near test (within-fewer w (λ d. says (λ (m : Contents). is_master_follow_up w m
              && test m.header.sequence.0) d ≡ false) (x ∷ ds) (bound + 1) (bound + 4097) (omega arith) none))
              (kept (setup_in w l) l.calls).follows.since are.follows_since in
              let held = found_in P (held_follows (setup_in w l) l.calls) m.header.sequence.0 found.0
              (All-take P 256 (all (kept (setup_in w l) l.calls).follows)
              (All-append P (kept (setup_in w l) l.calls).follows.since (kept (setup_in w l) l.calls).follows.before
              since are.follows_before)) found.1 in
              said-wider (is_master_follow_up w) (tells_departure w) departs-by_follow
              (within_syncs w (x ∷ ds) (bound + 4097)) m.header.sequence.0
              (subst (SaidIn (is_master_follow_up w) (within_syncs w (x ∷ ds) (bound + 4097))) held.2 held.1)

      event-within : AreWithin (x ∷ ds) l.first (calls.Event (Ok m) x.time x.line ∷ l.calls) bound
      event-within = record {
        follows_since = All-brought (FollowsWithin (bound + 1))
            (usable_follow_up (setup_in w l) l.calls (calls.Event (Ok m) x.time x.line))
            (kept (setup_in w l) l.calls).follows.since
            (λ e. no_follow_brought w l.first l.calls is.follows_master m x.time x.line e) are.follows_since;
        follows_before = are.follows_before;
        completions_since = All-brought (CompletesWithin (bound + 4097))
            (sync_completion (setup_in w l) l.calls (calls.Event (Ok m) x.time x.line))
            (kept (setup_in w l) l.calls).completions.since event-number are.completions_since;
        completions_before = are.completions_before;
      }

      general-within : AreWithin (x ∷ ds) l.first (calls.General (Ok m) x.line ∷ l.calls) bound
      general-within = record {
        follows_since = All-brought (FollowsWithin (bound + 1))
            (usable_follow_up (setup_in w l) l.calls (calls.General (Ok m) x.line))
            (kept (setup_in w l) l.calls).follows.since
            (λ e same.
            let one = follow_brought w l.first l.calls is.follows_master m x.time x.line e same in
            subst (SaidIn (is_master_follow_up w) (within_syncs w (x ∷ ds) (bound + 1))) (sym one.1)
            (now w x ds (is_master_follow_up w) m (bound + 1) said one.0 (omega arith))) are.follows_since;
        follows_before = are.follows_before;
        completions_since = All-brought (CompletesWithin (bound + 4097))
            (sync_completion (setup_in w l) l.calls (calls.General (Ok m) x.line))
            (kept (setup_in w l) l.calls).completions.since
            (λ c same.
            let one = general_completes w l.first l.calls is.follows_master m x.time x.line c same in
            subst (SaidIn (tells_departure w) (within_syncs w (x ∷ ds) (bound + 4097))) (sym one.1)
            (now w x ds (tells_departure w) m (bound + 4097) said (departs-by_follow m one.0) (omega arith)))
            are.completions_since;
        completions_before = are.completions_before;
      }

    -- a tick after 4,096
    ticked-within : (first : ℕ) (history : List Call) → AreWithin (x ∷ ds) first history ticks_every
        → AreWithin (x ∷ ds) first (calls.Tick ∷ history) 0
    ticked-within first history are = record {
      follows_since = All-nil (FollowsWithin (0 + 1));
      follows_before = are.follows_since;
      completions_since = All-nil (CompletesWithin (0 + 4097));
      completions_before = are.completions_since;
    }

    asked-within : (first : ℕ) (history : List Call) (count line number t3 bound : ℕ)
        → AreWithin (x ∷ ds) first history bound
        → AreWithin (x ∷ ds) first (calls.RequestLeft number t3 ∷ draws count line history) bound
    asked-within first history count line number t3 bound are =
        let same = (drawn-kept (setup_with w first) history count line).1 in
        record {
          follows_since = subst (λ (k : Kept). All (FollowsWithin (bound + 1)) k.follows.since) (sym same)
              are.follows_since;
          follows_before = subst (λ (k : Kept). All (FollowsWithin (bound + 4097)) k.follows.before) (sym same)
              are.follows_before;
          completions_since = subst (λ (k : Kept). All (CompletesWithin (bound + 4097)) k.completions.since) (sym same)
              are.completions_since;
          completions_before = subst (λ (k : Kept). All (CompletesWithin (bound + 8193)) k.completions.before) (sym same)
              are.completions_before;
        }

    -- what isn't a Sync of the master counts none
    unsaid-none : (m : Contents) → x.said ≡ Ok m → is_master_sync w m ≡ false → Adds w x ds 0
    unsaid-none m said none =
        adds-none w x ds (and_left (says (is_master_sync w) x) (is_heard w ds x)
        (says-of (is_master_sync w) x m said ∙ none))

    general-unsaid : (m : Contents) → is_general m.body ≡ true → is_master_sync w m ≡ false
    general-unsaid m kind = and_right (is_of w w.master m.header) (is_sync m.body) (by m.body kind)
      where
        by : (body : Body) → is_general body ≡ true → is_sync body ≡ false
        by (bodies.Sync origin) is = cc
        by (bodies.DelayReq origin) is = refl
        by (bodies.FollowUp precise) is = refl
        by (bodies.DelayResp receive requesting) is = refl

    request-unsaid : (m : Contents) → is_own_request w m ≡ true → is_master_sync w m ≡ false
    request-unsaid m own =
        and_right (is_of w w.master m.header) (is_sync m.body)
        (by m.body (and_parts (is_of w w.slave m.header) (is_delay_req m.body) own).1)
      where
        by : (body : Body) → is_delay_req body ≡ true → is_sync body ≡ false
        by (bodies.Sync origin) is = cc
        by (bodies.DelayReq origin) is = refl
        by (bodies.FollowUp precise) is = refl
        by (bodies.DelayResp receive requesting) is = refl

    abbrev Before : Listening → Type 0
    Before l = IsOf w (x ∷ ds) l × RecentOf ds l

    abbrev Behind : Listening → Type 0
    Behind l = IsOf w (x ∷ ds) l × RecentOf (x ∷ ds) l

    requested-recent : (m : Contents) → x.said ≡ Ok m → is_own_request w m ≡ true → (l : Listening) → RecentOf ds l
        → AreWithin (x ∷ ds) l.first l.calls l.syncs
    requested-recent m said own l is =
        lifted 0 (unsaid-none m said (request-unsaid m own)) l.first l.calls l.syncs l.syncs (omega arith) is.within

    keeps-recent : Keeps w x (after_all w ds) Before Before Behind
    keeps-recent = record {
      unheard = λ gone none l is. (
        known.unheard gone none l is.0,
        record {
          within = lifted 0
              (adds-none w x ds (and_right (says (is_master_sync w) x) (is_heard w ds x) (ap is_some gone))) l.first
              l.calls l.syncs l.syncs (omega arith) is.1.within;
          low = is.1.low;
        },
      );
      as_is = λ m said none l is. is;
      sync = λ m origin said body of_master l is. (known.sync m origin said body of_master l is.0, is.1);
      master = λ m origin said body of_master l is. (
        known.master m origin said body of_master l is.0,
        record { within = nothing-within l.first l.calls l.syncs; low = is.1.low },
      );
      follow = λ m precise said body of_master l is. (known.follow m precise said body of_master l is.0, is.1);
      response = λ m receive requesting said body of_master to_slave l is. (
        known.response m receive requesting said body of_master to_slave l is.0,
        is.1,
      );
      other = λ m origin said body other l is_ready is. (
        known.other m origin said body other l is_ready is.0,
        record {
          within = event-within m said l is.0 l.syncs
              (lifted 0
              (unsaid-none m said (and_left (is_of w w.master m.header) (is_sync m.body) other)) l.first l.calls l.syncs
              l.syncs (omega arith) is.1.within);
          low = is.1.low;
        },
      );
      counted = λ m origin said body of_master l room is_ready is. (
        known.counted m origin said body of_master l room is_ready is.0,
        record {
          within = event-within m said l is.0 (l.syncs + 1)
              (lifted 1 (adds-one w x ds) l.first l.calls l.syncs (l.syncs + 1) (omega arith) is.1.within);
          low = let low = is.1.low in not-full l.syncs low room;
        },
      );
      ticked = λ m origin said body of_master l full is_ready is. (
        known.ticked m origin said body of_master l full is_ready is.0,
        record {
          within = ticked-within l.first (calls.Event (Ok m) x.time x.line ∷ l.calls)
              (event-within m said l is.0 ticks_every
              (lifted 1 (adds-one w x ds) l.first l.calls l.syncs ticks_every (omega (arith, full)) is.1.within));
          low = omega arith;
        },
      );
      general = λ m said kind l is_ready is. (
        known.general m said kind l is_ready is.0,
        record {
          within = general-within m said l is.0 l.syncs
              (lifted 0 (unsaid-none m said (general-unsaid m kind)) l.first l.calls l.syncs l.syncs (omega arith)
              is.1.within);
          low = is.1.low;
        },
      );
      again = λ m said own l same is. (
        known.again m said own l same is.0,
        record { within = requested-recent m said own l is.1; low = is.1.low },
      );
      asked = λ m said own l near is. (
        known.asked m said own l near is.0,
        record {
          within = asked-within l.first l.calls
              (ahead m.header.sequence.0 (next_number (setup_in w l) l.calls) + 1) x.line m.header.sequence.0 x.time
              l.syncs (requested-recent m said own l is.1);
          low = is.1.low;
        },
      );
      begun = λ m said own l is. (
        known.begun m said own l is.0,
        record {
          within = asked-within m.header.sequence.0 (calls.SetMaster w.master ∷ [])
              (ahead m.header.sequence.0
              (next_number (setup_in w (anew w x.line m.header.sequence.0 l))
              (anew w x.line m.header.sequence.0 l).calls) + 1) x.line m.header.sequence.0 x.time l.syncs
              (none-within m.header.sequence.0 [] l.syncs);
          low = is.1.low;
        },
      );
    }
      where
        known : Keeps w x (after_all w ds) (IsOf w (x ∷ ds)) (IsOf w (x ∷ ds)) (IsOf w (x ∷ ds))
        known = keeps-is_of w x ds (after_all w ds)

        not-full : (syncs : ℕ) → syncs < ticks_every → (syncs + 1 ≡ ticks_every → ⊥) → syncs + 1 < ticks_every
        not-full syncs low room = omega arith

  pub after-recent : (ds : List Recorded) → RecentOf ds (after_all w ds)
  after-recent [] = record {
    within = record {
      follows_since = All-nil (λ (e : Entry FollowValue). SaidIn (is_master_follow_up w)
          (within_syncs w [] (0 + 1)) e.number);
      follows_before = All-nil (λ (e : Entry FollowValue). SaidIn (is_master_follow_up w)
          (within_syncs w [] (0 + 4097)) e.number);
      completions_since = All-nil (λ (c : SyncCompletion). SaidIn (tells_departure w)
          (within_syncs w [] (0 + 4097)) c.number);
      completions_before = All-nil (λ (c : SyncCompletion). SaidIn (tells_departure w)
          (within_syncs w [] (0 + 8193)) c.number);
    };
    low = omega arith;
  }
  after-recent (x ∷ ds) =
      (hear_holds w x (after_all w ds) (Before x ds) (Before x ds) (Behind x ds) (keeps-recent x ds)
      (is_of-later w x ds (after_all w ds) (after-is_of w ds), after-recent ds)).1
