-- What a listening port takes: the messages that it hears and uses, since nothing that was recorded before keeps it from
-- that, or since its answer says so; and what they leave of it.
use Rattle.std.proofs.Common.{◌≡◌, ◌∙◌, ℕ, ◌+◌, ◌<◌, ◌≤◌, Bool, true, false, List, [], ◌∷◌, ◌++◌, Option, Some}
use Rattle.std.proofs.Common.{None, Ok, Err, refl, sym, ap, arith, is_some, is_none, if◌then◌else◌, option_map}
use Rattle.std.proofs.Common.{option_and_then, int_lt}
use Rattle.std.specs.Prelude.{◌==◌, ◌&&◌, ◌||◌, not, ◌⊎◌}
use Rattle.std.proofs.Common.{inl, inr}
use Rattle.std.specs.Option.{option_map_or, option_or}
use Rattle.std.specs.Result.{result_ok}
use Rattle.std.specs.List.{All}
use Rattle.std.proofs.lemmas.Bool.{and_from, and_parts, eqb-true}
use Rattle.std.proofs.lemmas.Bool.{not_from_true}
use Rattle.std.proofs.lemmas.List.Elements.{All-append, All-head, All-tail, All-weaker}
use Rattle.ptp_units.specs.Interval.{too_big}
use Rattle.ptp_units.specs.Moment.{Stamp}
use Rattle.event_codec.specs.declared.message.Body.{Body}
use Rattle.event_codec.specs.declared.message.Body.TheVariants as bodies
use Rattle.event_codec.specs.declared.message.Header.{Header}
use Rattle.event_codec.specs.declared.port.PortIdentity.{PortIdentity}
use Rattle.event_codec.specs.Packet.{Contents}
use Rattle.event_codec.specs.Port.{is_same_port}
use Rattle.event_codec.specs.Reading.{Reading}
use Rattle.pairing.specs.Marked.{Entry, entry}
use Rattle.sync_watch.specs.declared.arrival.Arrival.{Arrival}
use Rattle.sync_watch.specs.declared.judgement.Judgement.{Judgement}
use Rattle.sync_watch.specs.declared.judgement.Judgement.TheVariants.{Newer, Repeated, BeganAnew}
use Rattle.sync_watch.specs.Told.{Sync, FollowUp, known, syncs, follow_ups}
use Rattle.sync_watch.specs.Life.{is_apart, is_far, is_of_life, newest}
use Rattle.sync_watch.specs.Judged.{by_newest, sync_judgement, is_repeat, judged_sync, judged_follow_up}
use Rattle.sync_watch.specs.Judged.{is_repeated}
use Rattle.slave_port.specs.declared.reason.Reason.{Reason}
use Rattle.slave_port.specs.declared.reason.Reason.TheVariants as reasons
use Rattle.slave_port.specs.History as calls
use Rattle.slave_port.specs.History.{Call, Setup}
use Rattle.slave_port.specs.Usable.{Criteria, Test, first_reason, is_two_step, is_other, is_too_big, is_not_newer}
use Rattle.slave_port.specs.Usable.{common_tests, sync_reason, response_reason}
use Rattle.slave_port.specs.Window.{all, last}
use Rattle.slave_port.specs.Completion.{SyncCompletion, alone as completed_alone}
use Rattle.slave_port.specs.Kept.{kept, criteria, unusable}
use Rattle.slave_port.specs.Kept.{usable_two_step_sync, usable_follow_up, usable_delay_resp, sync_completion}
use Rattle.slave_port.specs.Answer.{answer, used, unanswerable, unless_ignored}
use Rattle.network_model.specs.Premises.{is_of_use}
use Rattle.network_model.proofs.Reports.{first_of}
use Rattle.recording_model.specs.declared.watched.Watched.{Watched}
use Rattle.recording_model.specs.Recorded.{Recorded}
use Rattle.recording_model.specs.Listening.{Listening, setup_with, setup_in, table_capacity, ticks_every, is_of}
use Rattle.recording_model.specs.Listening.{is_unicast}
use Rattle.recording_model.specs.Listening.{with_count, told, answer_in, arrival_of, with_master_anew, ready_judged}
use Rattle.recording_model.specs.Listening.{ready_sync, ready_followed, ready_follow_up, ready_response}
use Rattle.recording_model.specs.Listening.{ready, hears_ready, hears, hear, after_all, answered}
use Rattle.recording_model.specs.Told.{AreNumbered}
use Rattle.recording_model.specs.Listening.{is_used}
use Rattle.recording_model.specs.Finds.{is_master_sync, is_master_follow_up, tells_departure}
use Rattle.recording_model.specs.Finds.{is_own_response, with_number, says, NoneSays}
use Rattle.recording_model.specs.Finds.{with_flag, heard_of, last_heard, within_syncs, IsNotBehind}
use Rattle.recording_model.proofs.Latest.{AreLatest, IsNearBy, entry-none, entry-near, after-known}
use Rattle.recording_model.proofs.Recent.{AreRecent, within-fewer, after-recent}
use Rattle.recording_model.proofs.Lines.{numbered-below}
use Rattle.recording_model.proofs.Said.{SaidIn, IsSaid, IsOf, after-is_of}

-- what holds of each of two lists joined holds of each of the second
pub all-right : {X : Type 0} (P : X → Type 0) (xs ys : List X) → All P (xs ++ ys) → All P ys
all-right P [] ys are = are
all-right P (x ∷ xs) ys are = all-right P xs ys (All-tail P x (xs ++ ys) are)

-- no message passes a test that none passes of which it is a part
pub says-weaker : (test other : Contents → Bool) → ((m : Contents) → test m ≡ false → other m ≡ false) → (d : Recorded)
    → says test d ≡ false → says other d ≡ false
says-weaker test other weaker d none = by d.said none
  where
    by : (said : Reading) → option_map_or test (result_ok said) false ≡ false
        → option_map_or other (result_ok said) false ≡ false
    by (Ok m) none = weaker m none
    by (Err refusal) none = refl

-- a line behind which others stand has a lower number than each of these
pub first-below : (x first : Recorded) (between before : List Recorded)
    → AreNumbered (x ∷ (between ++ first ∷ before)) → first.line < x.line
first-below x first between before numbered =
    All-head (λ (e : Recorded). e.line < x.line) first before
    (all-right (λ (e : Recorded). e.line < x.line) between (first ∷ before)
    (numbered-below x (between ++ first ∷ before) numbered))

newest-heard : (a : Arrival) (n : Option (Entry ℕ)) → (by_newest a n ≡ Newer) ⊎ (by_newest a n ≡ BeganAnew)
newest-heard a None = inl refl
newest-heard a (Some n) = by (is_of_life a n)
  where
    by : (same : Bool) → ((if same then Newer else BeganAnew) ≡ Newer) ⊎ ((if same then Newer else BeganAnew) ≡ BeganAnew)
    by true = inl refl
    by false = inr refl

-- a Sync of whose number no Sync is known is heard, in this life or in another
sync-heard : (a : Arrival) (sync follow : Option ℕ) (n : Option (Entry ℕ)) → sync ≡ None
    → (sync_judgement a sync follow n ≡ Newer) ⊎ (sync_judgement a sync follow n ≡ BeganAnew)
sync-heard a None None n none = newest-heard a n
sync-heard a None (Some follow) n none = by (is_apart a.time follow)
  where
    by : (apart : Bool)
        → ((if apart then BeganAnew else by_newest a n) ≡ Newer)
        ⊎ ((if apart then BeganAnew else by_newest a n) ≡ BeganAnew)
    by true = inr refl
    by false = newest-heard a n
sync-heard a (Some sync) follow n none = cc

-- a Follow_Up is heard of whose number no Follow_Up is known, nor a Sync that is apart, and which isn't far from the newest
newer-follow_up : (a : Arrival) (sync follow : Option ℕ) (n : Option (Entry ℕ)) → follow ≡ None
    → ((other : ℕ) → sync ≡ Some other → is_apart a.time other ≡ false)
    → option_map_or (λ n. is_far a.number.0 n.number) n false ≡ false → is_repeat a sync follow n ≡ false
newer-follow_up a None None n none near fits = fits
newer-follow_up a (Some other) None n none near fits =
    ap (λ (apart : Bool). apart || option_map_or (λ n. is_far a.number.0 n.number) n false) (near other refl) ∙ fits
newer-follow_up a sync (Some other) n none near fits = cc

-- the first test that applies is none of those that don't
pub passed : (t : Test) (tests : List Test) → t.applies ≡ false → first_reason (t ∷ tests) ≡ first_reason tests
passed t tests none = ap (λ (b : Bool). if b then Some t.reason else first_reason tests) none

module _ (w : Watched) where
  -- a message of the master passes the tests of a port that follows it
  passes-common : (judge : Criteria) (header : Header) (t : Test) → judge.config.domain ≡ w.domain
      → judge.master ≡ Some w.master → is_of w w.master header ≡ true → int_lt header.correction.0 too_big ≡ true
      → t.applies ≡ false → first_reason (common_tests judge header ++ t ∷ []) ≡ None
  passes-common judge header t domain master of_master small none =
      let parts = and_parts (header.domain == w.domain) (is_same_port header.source w.master) of_master in
      passed (record { applies = not (header.domain == judge.config.domain); reason = reasons.OtherDomain })
      (record { applies = is_none judge.master; reason = reasons.NoMaster }
      ∷ record { applies = is_other judge.master header.source; reason = reasons.OtherMaster }
      ∷ record { applies = is_too_big header; reason = reasons.TooBig } ∷ t ∷ [])
      (ap (λ (d : ℕ). not (header.domain == d)) domain ∙ not_from_true (header.domain == w.domain) parts.0)
      ∙ passed (record { applies = is_none judge.master; reason = reasons.NoMaster })
      (record { applies = is_other judge.master header.source; reason = reasons.OtherMaster }
      ∷ record { applies = is_too_big header; reason = reasons.TooBig } ∷ t ∷ [])
      (ap (λ (o : Option PortIdentity). is_none o) master)
      ∙ passed (record { applies = is_other judge.master header.source; reason = reasons.OtherMaster })
      (record { applies = is_too_big header; reason = reasons.TooBig } ∷ t ∷ [])
      (ap (λ (o : Option PortIdentity). is_other o header.source) master
      ∙ not_from_true (is_same_port header.source w.master) parts.1)
      ∙ passed (record { applies = is_too_big header; reason = reasons.TooBig }) (t ∷ [])
      (not_from_true (int_lt header.correction.0 too_big) small)
      ∙ passed t [] none

  module _ (ds : List Recorded) (first : ℕ) (history : List Call) (said : IsSaid w ds first history) (syncs : ℕ)
      (recent : AreRecent w ds first history syncs)
      (m : Contents) (of_master : is_of w w.master m.header ≡ true)
      (small : int_lt m.header.correction.0 too_big ≡ true) where
    -- a number that isn't behind is used
    not-behind : IsNotBehind w m.header.sequence.0 (within_syncs w ds 12288)
        → is_not_newer (criteria (setup_with w first) history).last m.header.sequence.0 ≡ false
    not-behind newest = by (last (kept (setup_with w first) history).completions) refl
      where
        P : SyncCompletion → Type 0
        P c = SaidIn (tells_departure w) (within_syncs w ds 12288) c.number

        wider : (bound : ℕ) → bound ≤ 12288 → (c : SyncCompletion)
            → SaidIn (tells_departure w) (within_syncs w ds bound) c.number
            → SaidIn (tells_departure w) (within_syncs w ds 12288) c.number
        wider bound low c is test none =
            is test
            (within-fewer w (λ d. says (λ (m : Contents). tells_departure w m && test m.header.sequence.0) d ≡ false) ds
            bound 12288 low none)

        all_of : All P (all (kept (setup_with w first) history).completions)
        all_of =
            let low : syncs < ticks_every = recent.low in
            All-append P (kept (setup_with w first) history).completions.since
            (kept (setup_with w first) history).completions.before
            (All-weaker (λ (c : SyncCompletion). SaidIn (tells_departure w) (within_syncs w ds (syncs + 4097)) c.number) P
            (wider (syncs + 4097) (omega arith)) (kept (setup_with w first) history).completions.since
            recent.within.completions_since)
            (All-weaker (λ (c : SyncCompletion). SaidIn (tells_departure w) (within_syncs w ds (syncs + 8193)) c.number) P
            (wider (syncs + 8193) (omega arith)) (kept (setup_with w first) history).completions.before
            recent.within.completions_before)

        by : (o : Option SyncCompletion) → last (kept (setup_with w first) history).completions ≡ o
            → is_not_newer (option_map (λ c. c.number) o) m.header.sequence.0 ≡ false
        by None is = refl
        by (Some c) is =
            first_of P (all (kept (setup_with w first) history).completions) c all_of is
            (λ n. is_not_newer (Some n) m.header.sequence.0) newest

    no-reason : IsNotBehind w m.header.sequence.0 (within_syncs w ds 12288)
        → sync_reason (criteria (setup_with w first) history) m.header ≡ None
    no-reason newest =
        passes-common (criteria (setup_with w first) history) m.header
        (record {
          applies = is_not_newer (criteria (setup_with w first) history).last m.header.sequence.0;
          reason = reasons.NotNewer;
        }) refl said.follows_master of_master small (not-behind newest)

    -- nor any after a beginning
    no-reason_anew : sync_reason (criteria (setup_with w first) (calls.SetMaster w.master ∷ history)) m.header ≡ None
    no-reason_anew =
        passes-common (criteria (setup_with w first) (calls.SetMaster w.master ∷ history)) m.header
        (record {
          applies = is_not_newer (criteria (setup_with w first) (calls.SetMaster w.master ∷ history)).last
              m.header.sequence.0;
          reason = reasons.NotNewer;
        }) refl refl of_master small refl

    no-response_reason : (requesting : PortIdentity) → is_same_port requesting w.slave ≡ true
        → response_reason (criteria (setup_with w first) history) m.header requesting ≡ None
    no-response_reason requesting to_slave =
        passes-common (criteria (setup_with w first) history) m.header
        (record { applies = not (is_same_port requesting w.slave); reason = reasons.OtherRequester }) refl
        said.follows_master of_master small (not_from_true (is_same_port requesting w.slave) to_slave)

  -- what a Sync, a Follow_Up and a Delay_Resp are used as that no reason is against
  module _ (first : ℕ) (history : List Call) (m : Contents) where
    usable_sync : (origin : Stamp) (time line : ℕ) → m.body ≡ bodies.Sync origin → is_two_step m.header ≡ true
        → sync_reason (criteria (setup_with w first) history) m.header ≡ None
        → usable_two_step_sync (setup_with w first) history (calls.Event (Ok m) time line)
        ≡ Some (entry m.header.sequence.0 (record { t2 = time; correction = m.header.correction.0; tag = line }))
    usable_sync origin time line body two_step reason = rw (body, reason, two_step)

    -- a one-step Sync completes
    one_step_completes : (origin : Stamp) (time line : ℕ) → m.body ≡ bodies.Sync origin → is_two_step m.header ≡ false
        → sync_reason (criteria (setup_with w first) history) m.header ≡ None
        → sync_completion (setup_with w first) history (calls.Event (Ok m) time line)
        ≡ Some (completed_alone m.header.sequence.0
        (record { t2 = time; origin = origin; correction = m.header.correction.0; tag = line }))
    one_step_completes origin time line body one_step reason = rw (body, reason, one_step)

    usable_follow : (precise : Stamp) (line : ℕ) → m.body ≡ bodies.FollowUp precise
        → sync_reason (criteria (setup_with w first) history) m.header ≡ None
        → usable_follow_up (setup_with w first) history (calls.General (Ok m) line)
        ≡ Some (entry m.header.sequence.0
        (record { precise = precise; correction = m.header.correction.0; tag = line }))
    usable_follow precise line body reason = rw (body, reason)

    usable_response : (receive : Stamp) (requesting : PortIdentity) (line : ℕ)
        → m.body ≡ bodies.DelayResp receive requesting
        → response_reason (criteria (setup_with w first) history) m.header requesting ≡ None
        → usable_delay_resp (setup_with w first) history (calls.General (Ok m) line)
        ≡ Some (entry m.header.sequence.0
        (record { receive = receive; correction = m.header.correction.0; tag = line }))
    usable_response receive requesting line body reason = rw (body, reason)

    -- no reason is against what is usable
    usable-no_reason : (call : Call) → unusable (setup_with w first) history call ≡ None → (reason : Option Reason)
        → ((r : Reason) → reason ≡ Some r → unusable (setup_with w first) history call ≡ Some r) → reason ≡ None
    usable-no_reason call none None each = refl
    usable-no_reason call none (Some r) each =
        let some : unusable (setup_with w first) history call ≡ Some r = each r refl in
        let both : None ≡ Some r = sym none ∙ some in
        cc

    sync-no_reason : (origin : Stamp) (time line : ℕ) → m.body ≡ bodies.Sync origin
        → unusable (setup_with w first) history (calls.Event (Ok m) time line) ≡ None
        → sync_reason (criteria (setup_with w first) history) m.header ≡ None
    sync-no_reason origin time line body none =
        usable-no_reason (calls.Event (Ok m) time line) none
        (sync_reason (criteria (setup_with w first) history) m.header) (λ r reason. rw (body, reason))

    follow-no_reason : (precise : Stamp) (line : ℕ) → m.body ≡ bodies.FollowUp precise
        → unusable (setup_with w first) history (calls.General (Ok m) line) ≡ None
        → sync_reason (criteria (setup_with w first) history) m.header ≡ None
    follow-no_reason precise line body none =
        usable-no_reason (calls.General (Ok m) line) none
        (sync_reason (criteria (setup_with w first) history) m.header) (λ r reason. rw (body, reason))

    response-no_reason : (receive : Stamp) (requesting : PortIdentity) (line : ℕ)
        → m.body ≡ bodies.DelayResp receive requesting
        → unusable (setup_with w first) history (calls.General (Ok m) line) ≡ None
        → response_reason (criteria (setup_with w first) history) m.header requesting ≡ None
    response-no_reason receive requesting line body none =
        usable-no_reason (calls.General (Ok m) line) none
        (response_reason (criteria (setup_with w first) history) m.header requesting)
        (λ r reason. rw (body, reason))

  -- an answer that is of use has no reason against it
  of_use : (setup : Setup) (history : List Call) (call : Call) → is_of_use (answer setup history call) ≡ true
      → unusable setup history call ≡ None
  of_use setup history call is = by (unusable setup history call) is
    where
      by : (o : Option Reason)
          → is_of_use (unless_ignored (option_or o (unanswerable setup history call)) (used setup history call)) ≡ true
          → o ≡ None
      by None is = refl
      by (Some reason) is = cc

  -- the datagram and the port before it
  module _ (x : Recorded) (m : Contents) (said : x.said ≡ Ok m) (l : Listening)
      (of_master : is_of w w.master m.header ≡ true) where
    -- a Sync, by what its number says
    sync-is_ready : (j : Judgement) → judged_sync (arrival_of m.header x.time) table_capacity l.heard ≡ j
        → ready_sync w x.line x.time m l ≡ ready_judged j w x.line (arrival_of m.header x.time) l
    sync-is_ready j judged =
        ap (λ (b : Bool). if b
        then ready_judged (judged_sync (arrival_of m.header x.time) table_capacity l.heard) w x.line
        (arrival_of m.header x.time) l
        else Some l) of_master
        ∙ ap (λ (j : Judgement). ready_judged j w x.line (arrival_of m.header x.time) l) judged

    follow-is_ready : is_repeated (arrival_of m.header x.time) table_capacity l.heard ≡ false
        → ready_follow_up w x.time m l ≡ Some (record l { heard = FollowUp (arrival_of m.header x.time) ∷ l.heard })
    follow-is_ready new =
        ap (λ (b : Bool). if b
        then ready_followed (judged_follow_up (arrival_of m.header x.time) table_capacity l.heard)
        (arrival_of m.header x.time) l
        else Some l) of_master
        ∙ ap (λ (b : Bool). ready_followed (if b then Repeated else Newer) (arrival_of m.header x.time) l) new

    response-is_ready : (requesting : PortIdentity) → is_same_port requesting w.slave ≡ true
        → known table_capacity m.header.sequence.0 l.responses ≡ None
        → ready_response w x.time m requesting l
        ≡ Some (record l { responses = entry m.header.sequence.0 x.time ∷ l.responses })
    response-is_ready requesting to_slave none =
        let r : Listening = record l { responses = entry m.header.sequence.0 x.time ∷ l.responses } in
        ap (λ (b : Bool). if not b then Some l
        else if is_some (known table_capacity m.header.sequence.0 l.responses) then None else Some r)
        (and_from (is_of w w.master m.header) (is_same_port requesting w.slave) of_master to_slave)
        ∙ ap (λ (o : Option ℕ). if is_some o then None else Some r) none

    -- what it leaves, where it is heard
    hears_it : (body : Body) → m.body ≡ body → hear w x l ≡ hears w x.line x.time m body l
    hears_it body is =
        ap (λ (r : Reading). option_map_or (λ m. hears w x.line x.time m m.body l) (result_ok r) l) said
        ∙ ap (λ (b : Body). hears w x.line x.time m b l) is

    pub hears-sync : (origin : Stamp) → m.body ≡ bodies.Sync origin → (r : Listening)
        → ready_sync w x.line x.time m l ≡ Some r
        → hear w x l ≡ with_count (told (calls.Event (Ok m) x.time x.line) r)
    hears-sync origin body r is_ready =
        let call : Call = calls.Event (Ok m) x.time x.line in
        hears_it (bodies.Sync origin) body
        ∙ ap (λ (b : Bool). hears_ready b call (ready_sync w x.line x.time m l) l) of_master
        ∙ ap (λ (o : Option Listening). hears_ready true call o l) is_ready

    pub hears-follow_up : (precise : Stamp) → m.body ≡ bodies.FollowUp precise → (r : Listening)
        → ready_follow_up w x.time m l ≡ Some r → hear w x l ≡ told (calls.General (Ok m) x.line) r
    hears-follow_up precise body r is_ready =
        hears_it (bodies.FollowUp precise) body
        ∙ ap (λ (o : Option Listening). hears_ready false (calls.General (Ok m) x.line) o l) is_ready

    pub hears-response : (receive : Stamp) (requesting : PortIdentity) → m.body ≡ bodies.DelayResp receive requesting
        → (r : Listening) → ready_response w x.time m requesting l ≡ Some r
        → hear w x l ≡ told (calls.General (Ok m) x.line) r
    hears-response receive requesting body r is_ready =
        hears_it (bodies.DelayResp receive requesting) body
        ∙ ap (λ (o : Option Listening). hears_ready false (calls.General (Ok m) x.line) o l) is_ready

-- a port that was counted a Sync: what holds of it with and without a tick
pub counted-so : (Q : Listening → Type 0) (r : Listening) → Q (record r { syncs = r.syncs + 1 })
    → (r.syncs + 1 ≡ ticks_every → Q (record r { calls = calls.Tick ∷ r.calls; syncs = 0 })) → Q (with_count r)
counted-so Q r counted ticked = by (r.syncs + 1 == ticks_every) refl
  where
    by : (full : Bool) → (r.syncs + 1 == ticks_every) ≡ full
        → Q (if full then record r { calls = calls.Tick ∷ r.calls; syncs = 0 } else record r { syncs = r.syncs + 1 })
    by true full = ticked (eqb-true (r.syncs + 1) ticks_every full)
    by false full = counted

-- the port takes a Sync, a Follow_Up, or a Delay_Resp: it hears it, and uses it
pub record TakesSync (w : Watched) (ds : List Recorded) (x : Recorded) (m : Contents) : Type 0 where
  pub port : Listening
  pub ready_is : ready_sync w x.line x.time m (after_all w ds) ≡ Some port
  pub use_is : usable_two_step_sync (setup_in w port) port.calls (calls.Event (Ok m) x.time x.line)
      ≡ Some (entry m.header.sequence.0 (record { t2 = x.time; correction = m.header.correction.0; tag = x.line }))

pub record TakesOneStep (w : Watched) (ds : List Recorded) (x : Recorded) (m : Contents) (origin : Stamp) : Type 0 where
  pub port : Listening
  pub ready_is : ready_sync w x.line x.time m (after_all w ds) ≡ Some port
  pub completes : sync_completion (setup_in w port) port.calls (calls.Event (Ok m) x.time x.line)
      ≡ Some (completed_alone m.header.sequence.0
      (record { t2 = x.time; origin = origin; correction = m.header.correction.0; tag = x.line }))

pub record TakesFollow (w : Watched) (ds : List Recorded) (x : Recorded) (m : Contents) (precise : Stamp) : Type 0 where
  pub port : Listening
  pub ready_is : ready_follow_up w x.time m (after_all w ds) ≡ Some port
  pub use_is : usable_follow_up (setup_in w port) port.calls (calls.General (Ok m) x.line)
      ≡ Some (entry m.header.sequence.0
      (record { precise = precise; correction = m.header.correction.0; tag = x.line }))

pub record TakesResponse (w : Watched) (ds : List Recorded) (x : Recorded) (m : Contents) (receive : Stamp)
    (requesting : PortIdentity) : Type 0 where
  pub port : Listening
  pub ready_is : ready_response w x.time m requesting (after_all w ds) ≡ Some port
  pub use_is : usable_delay_resp (setup_in w port) port.calls (calls.General (Ok m) x.line)
      ≡ Some (entry m.header.sequence.0
      (record { receive = receive; correction = m.header.correction.0; tag = x.line }))

module _ (w : Watched) (ds : List Recorded) (x : Recorded) (m : Contents) (said : x.said ≡ Ok m) where
  -- by what was recorded before
  module _ (of_master : is_of w w.master m.header ≡ true) (small : int_lt m.header.correction.0 too_big ≡ true) where
    is_said : IsOf w ds (after_all w ds)
    is_said = after-is_of w ds

    is_recent : AreRecent w ds (after_all w ds).first (after_all w ds).calls (after_all w ds).syncs
    is_recent = after-recent w ds

    is_latest : AreLatest w ds (after_all w ds).heard (after_all w ds).responses
    is_latest = after-known w ds

    -- the port that hears a Sync of whose number none is known, and that no reason is against
    record HearsSync : Type 0 where
      port : Listening
      ready_is : ready_sync w x.line x.time m (after_all w ds) ≡ Some port
      no_reason : sync_reason (criteria (setup_with w port.first) port.calls) m.header ≡ None

    hears-new : IsNotBehind w m.header.sequence.0 (within_syncs w ds 12288)
        → NoneSays (with_number (is_master_sync w) m.header.sequence.0)
        (last_heard w (with_flag (is_master_sync w) (is_unicast m.header)) ds)
        → HearsSync
    hears-new newest_is alone =
        by (sync-heard (arrival_of m.header x.time)
        (known table_capacity m.header.sequence.0 (syncs (is_unicast m.header) (after_all w ds).heard))
        (known table_capacity m.header.sequence.0 (follow_ups (is_unicast m.header) (after_all w ds).heard))
        (newest (syncs (is_unicast m.header) (after_all w ds).heard))
        (entry-none (is_master_sync w) m.header.sequence.0 table_capacity
        (syncs (is_unicast m.header) (after_all w ds).heard)
        (heard_of w (with_flag (is_master_sync w) (is_unicast m.header)) ds)
        (is_latest.syncs_of (is_unicast m.header)) alone))
      where
        by : (judged_sync (arrival_of m.header x.time) table_capacity (after_all w ds).heard ≡ Newer)
            ⊎ (judged_sync (arrival_of m.header x.time) table_capacity (after_all w ds).heard ≡ BeganAnew)
            → HearsSync
        by (inl newer) = record {
          port = record (after_all w ds) { heard = Sync (arrival_of m.header x.time) ∷ (after_all w ds).heard };
          ready_is = sync-is_ready w x m said (after_all w ds) of_master Newer newer;
          no_reason = no-reason w ds (after_all w ds).first (after_all w ds).calls is_said (after_all w ds).syncs is_recent m
              of_master small newest_is;
        }
        by (inr anew) = record {
          port = with_master_anew w x.line (arrival_of m.header x.time) (after_all w ds);
          ready_is = sync-is_ready w x m said (after_all w ds) of_master BeganAnew anew;
          no_reason = no-reason_anew w ds (after_all w ds).first (after_all w ds).calls is_said (after_all w ds).syncs
              is_recent m of_master small;
        }

    pub takes-sync : (origin : Stamp) → m.body ≡ bodies.Sync origin → is_two_step m.header ≡ true
        → IsNotBehind w m.header.sequence.0 (within_syncs w ds 12288)
        → NoneSays (with_number (is_master_sync w) m.header.sequence.0)
        (last_heard w (with_flag (is_master_sync w) (is_unicast m.header)) ds)
        → TakesSync w ds x m
    takes-sync origin body two_step newest_is alone =
        let heard = hears-new newest_is alone in
        record {
          port = heard.port;
          ready_is = heard.ready_is;
          use_is = usable_sync w heard.port.first heard.port.calls m origin x.time x.line body two_step heard.no_reason;
        }

    pub takes-one_step : (origin : Stamp) → m.body ≡ bodies.Sync origin → is_two_step m.header ≡ false
        → IsNotBehind w m.header.sequence.0 (within_syncs w ds 12288)
        → NoneSays (with_number (is_master_sync w) m.header.sequence.0)
        (last_heard w (with_flag (is_master_sync w) (is_unicast m.header)) ds)
        → TakesOneStep w ds x m origin
    takes-one_step origin body one_step newest_is alone =
        let heard = hears-new newest_is alone in
        record {
          port = heard.port;
          ready_is = heard.ready_is;
          completes = one_step_completes w heard.port.first heard.port.calls m origin x.time x.line body one_step
              heard.no_reason;
        }

    pub takes-follow : (precise : Stamp) → m.body ≡ bodies.FollowUp precise
        → IsNotBehind w m.header.sequence.0 (within_syncs w ds 12288)
        → NoneSays (with_number (is_master_follow_up w) m.header.sequence.0)
        (last_heard w (with_flag (is_master_follow_up w) (is_unicast m.header)) ds)
        → All (IsNearBy (is_master_sync w) m.header.sequence.0 x.time)
        (last_heard w (with_flag (is_master_sync w) (is_unicast m.header)) ds)
        → option_map_or (λ n. is_far m.header.sequence.0 n.number)
        (newest (syncs (is_unicast m.header) (after_all w ds).heard)) false ≡ false
        → TakesFollow w ds x m precise
    takes-follow precise body newest_is alone near fits = record {
      port = record (after_all w ds) { heard = FollowUp (arrival_of m.header x.time) ∷ (after_all w ds).heard };
      ready_is = follow-is_ready w x m said (after_all w ds) of_master
          (newer-follow_up (arrival_of m.header x.time)
          (known table_capacity m.header.sequence.0 (syncs (is_unicast m.header) (after_all w ds).heard))
          (known table_capacity m.header.sequence.0 (follow_ups (is_unicast m.header) (after_all w ds).heard))
          (newest (syncs (is_unicast m.header) (after_all w ds).heard))
          (entry-none (is_master_follow_up w) m.header.sequence.0 table_capacity
          (follow_ups (is_unicast m.header) (after_all w ds).heard)
          (heard_of w (with_flag (is_master_follow_up w) (is_unicast m.header)) ds)
          (is_latest.follow_ups_of (is_unicast m.header)) alone)
          (λ other. entry-near (is_master_sync w) m.header.sequence.0 x.time table_capacity other
          (syncs (is_unicast m.header) (after_all w ds).heard)
          (heard_of w (with_flag (is_master_sync w) (is_unicast m.header)) ds)
          (is_latest.syncs_of (is_unicast m.header)) near) fits);
      use_is = usable_follow w (after_all w ds).first (after_all w ds).calls m precise x.line body
          (no-reason w ds (after_all w ds).first (after_all w ds).calls is_said (after_all w ds).syncs is_recent m
          of_master small newest_is);
    }

    pub takes-response : (receive : Stamp) (requesting : PortIdentity) → m.body ≡ bodies.DelayResp receive requesting
        → is_same_port requesting w.slave ≡ true
        → NoneSays (with_number (is_own_response w) m.header.sequence.0) (last_heard w (is_own_response w) ds)
        → TakesResponse w ds x m receive requesting
    takes-response receive requesting body to_slave alone = record {
      port = record (after_all w ds) { responses = entry m.header.sequence.0 x.time ∷ (after_all w ds).responses };
      ready_is = response-is_ready w x m said (after_all w ds) of_master requesting to_slave
          (entry-none (is_own_response w) m.header.sequence.0 table_capacity (after_all w ds).responses
          (heard_of w (is_own_response w) ds) is_latest.responses_of alone);
      use_is = usable_response w (after_all w ds).first (after_all w ds).calls m receive requesting x.line body
          (no-response_reason w ds (after_all w ds).first (after_all w ds).calls is_said (after_all w ds).syncs is_recent
          m of_master small requesting to_slave);
    }

  -- by its answer
  used-answer : (body : Body) → m.body ≡ body
      → is_used w ds x ≡ option_map_or is_of_use (answered w x.line x.time m body (after_all w ds)) false
  used-answer body is =
      ap (λ (r : Reading). option_map_or is_of_use
      (option_and_then (λ m. answered w x.line x.time m m.body (after_all w ds)) (result_ok r)) false) said
      ∙ ap (λ (b : Body). option_map_or is_of_use (answered w x.line x.time m b (after_all w ds)) false) is

  pub takes-used_sync : (origin : Stamp) → m.body ≡ bodies.Sync origin → is_two_step m.header ≡ true
      → is_used w ds x ≡ true → TakesSync w ds x m
  takes-used_sync origin body two_step is =
      by (ready_sync w x.line x.time m (after_all w ds)) refl (sym (used-answer (bodies.Sync origin) body) ∙ is)
    where
      call : Call
      call = calls.Event (Ok m) x.time x.line

      by : (o : Option Listening) → ready_sync w x.line x.time m (after_all w ds) ≡ o
          → option_map_or is_of_use (option_map (λ l. answer_in w l (calls.Event (Ok m) x.time x.line)) o) false ≡ true
          → TakesSync w ds x m
      by None ready of = cc
      by (Some r) ready of = record {
        port = r;
        ready_is = ready;
        use_is = usable_sync w r.first r.calls m origin x.time x.line body two_step
            (sync-no_reason w r.first r.calls m origin x.time x.line body (of_use w (setup_in w r) r.calls call of));
      }

  pub takes-used_one_step : (origin : Stamp) → m.body ≡ bodies.Sync origin → is_two_step m.header ≡ false
      → is_used w ds x ≡ true → TakesOneStep w ds x m origin
  takes-used_one_step origin body one_step is =
      by (ready_sync w x.line x.time m (after_all w ds)) refl (sym (used-answer (bodies.Sync origin) body) ∙ is)
    where
      call : Call
      call = calls.Event (Ok m) x.time x.line

      by : (o : Option Listening) → ready_sync w x.line x.time m (after_all w ds) ≡ o
          → option_map_or is_of_use (option_map (λ l. answer_in w l (calls.Event (Ok m) x.time x.line)) o) false ≡ true
          → TakesOneStep w ds x m origin
      by None ready of = cc
      by (Some r) ready of = record {
        port = r;
        ready_is = ready;
        completes = one_step_completes w r.first r.calls m origin x.time x.line body one_step
            (sync-no_reason w r.first r.calls m origin x.time x.line body (of_use w (setup_in w r) r.calls call of));
      }

  pub takes-used_follow : (precise : Stamp) → m.body ≡ bodies.FollowUp precise → is_used w ds x ≡ true
      → TakesFollow w ds x m precise
  takes-used_follow precise body is =
      by (ready_follow_up w x.time m (after_all w ds)) refl (sym (used-answer (bodies.FollowUp precise) body) ∙ is)
    where
      call : Call
      call = calls.General (Ok m) x.line

      by : (o : Option Listening) → ready_follow_up w x.time m (after_all w ds) ≡ o
          → option_map_or is_of_use (option_map (λ l. answer_in w l (calls.General (Ok m) x.line)) o) false ≡ true
          → TakesFollow w ds x m precise
      by None ready of = cc
      by (Some r) ready of = record {
        port = r;
        ready_is = ready;
        use_is = usable_follow w r.first r.calls m precise x.line body
            (follow-no_reason w r.first r.calls m precise x.line body (of_use w (setup_in w r) r.calls call of));
      }

  pub takes-used_response : (receive : Stamp) (requesting : PortIdentity)
      → m.body ≡ bodies.DelayResp receive requesting → is_used w ds x ≡ true → TakesResponse w ds x m receive requesting
  takes-used_response receive requesting body is =
      by (ready_response w x.time m requesting (after_all w ds)) refl
      (sym (used-answer (bodies.DelayResp receive requesting) body) ∙ is)
    where
      call : Call
      call = calls.General (Ok m) x.line

      by : (o : Option Listening) → ready_response w x.time m requesting (after_all w ds) ≡ o
          → option_map_or is_of_use (option_map (λ l. answer_in w l (calls.General (Ok m) x.line)) o) false ≡ true
          → TakesResponse w ds x m receive requesting
      by None ready of = cc
      by (Some r) ready of = record {
        port = r;
        ready_is = ready;
        use_is = usable_response w r.first r.calls m receive requesting x.line body
            (response-no_reason w r.first r.calls m receive requesting x.line body
            (of_use w (setup_in w r) r.calls call of));
      }
