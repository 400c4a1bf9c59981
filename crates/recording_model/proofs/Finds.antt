-- An exchange that stands in a recording is reported: its messages are heard and used, what came first is held until what
-- completes it comes, and what completed is the last until the other half completes.
use Rattle.std.proofs.Common.{◌≡◌, ◌∙◌, ℕ, zero, suc, ◌+◌, ◌<◌, ◌≤◌, Bool, true, false, List, [], ◌∷◌, ◌++◌, Option}
use Rattle.std.proofs.Common.{Some}
use Rattle.std.proofs.Common.{None, Ok, take, refl, sym, ap, subst, arith, is_none, if◌then◌else◌, option_map}
use Rattle.std.proofs.Common.{option_and_then, inl, inr}
use Rattle.std.specs.Prelude.{◌==◌, ◌&&◌, ◌||◌, ◌-◌, not, nat_le, nat_lt, count_by, IfSome, ◌⊎◌, IsTrue}
use Rattle.std.specs.Option.{option_map_or}
use Rattle.std.specs.Result.{result_ok}
use Rattle.std.specs.List.{All}
use Rattle.std.proofs.lemmas.Bool.{and_left, and_right, and_parts, or_right, or_parts, or_from, eq-eqb, eqb-true}
use Rattle.std.proofs.lemmas.Bool.{and_from, not-false, both_ways}
use Rattle.std.proofs.lemmas.List.Elements.{All-nil, All-cons, All-head, All-tail, All-weaker}
use Rattle.ptp_units.specs.Moment.{Stamp}
use Rattle.ptp_units.specs.Sequence.{of_count, next, ahead}
use Rattle.event_codec.specs.declared.message.Body.{Body}
use Rattle.event_codec.specs.declared.message.Body.TheVariants as bodies
use Rattle.event_codec.specs.declared.port.PortIdentity.{PortIdentity}
use Rattle.event_codec.specs.Packet.{Contents}
use Rattle.event_codec.specs.Reading.{Reading}
use Rattle.pairing.specs.Marked.{Entry, entry, first_value}
use Rattle.sync_watch.specs.Told.{Told, syncs}
use Rattle.sync_watch.specs.Life.{second, is_apart, is_far, newest}
use Rattle.slave_port.specs.History as calls
use Rattle.slave_port.specs.History.{Call, Setup, present_master, next_number}
use Rattle.slave_port.specs.Usable.{is_not_newer}
use Rattle.slave_port.specs.Values.{SyncValue, FollowValue, ResponseValue, RequestValue}
use Rattle.slave_port.specs.Window.{last, with_brought}
use Rattle.slave_port.specs.Requests.{requests, stamped, held_requests}
use Rattle.slave_port.specs.Completion.{SyncCompletion, DelayCompletion, pair, responded, answered as answered_by}
use Rattle.slave_port.specs.Kept.{kept, delay_completions, held_syncs, held_follows}
use Rattle.slave_port.specs.Kept.{sync_completion, delay_completion, last_sync_completion}
use Rattle.slave_port.specs.Kept.{last_delay_completion}
use Rattle.slave_port.specs.Answer.{report_of}
use Rattle.recording_model.specs.declared.watched.Watched.{Watched}
use Rattle.recording_model.specs.Recorded.{Recorded}
use Rattle.recording_model.specs.Listening.{Listening, setup_in, table_capacity, ticks_every, is_of, told, with_count}
use Rattle.recording_model.specs.Listening.{ready, ready_sync, hears, hears_request, asks, draws, anew, hear, after_all}
use Rattle.recording_model.specs.Listening.{hearing}
use Rattle.recording_model.specs.Listening.{report_at, is_unicast}
use Rattle.recording_model.specs.Told.{is_sync, AreNumbered}
use Rattle.recording_model.specs.Listening.{is_used}
use Rattle.recording_model.specs.Completes.{HeardAt, setup_at, report_of_both}
use Rattle.recording_model.specs.Finds.{is_master_sync, is_follow_up, is_master_follow_up, tells_departure}
use Rattle.recording_model.specs.Finds.{is_response_to}
use Rattle.recording_model.specs.Finds.{is_own_response, is_delay_req, is_own_request, with_number, says, NoneSays}
use Rattle.recording_model.specs.Finds.{AreOfOneSync, completion_of, is_of_number, NoOtherIsHeard}
use Rattle.recording_model.specs.Finds.{IsNotBehind, IsNear, is_far_from_newest, AreTaken, NoneIsKnown, recent_syncs, with_flag, heard_of}
use Rattle.recording_model.specs.Finds.{last_heard, within_syncs, IsOneStep, completion_of_one_step}
use Rattle.recording_model.specs.Finds.{IsTaken, AreInOrder, SyncFirst, FollowUpFirst, ComesTwoStep, ComesOneStep, ComesSync}
use Rattle.recording_model.specs.Finds.{AreOfOneRequest, ComesDelay, EachAfter, CompletesNoSync, CompletesNoDelay, StandsSync}
use Rattle.recording_model.specs.Finds.{StandsDelay}
use Rattle.recording_model.specs.Finds.{ComesAnExchange, EachExchangeIsFound}
use Rattle.recording_model.proofs.Lines.{numbered-below, numbered-rest}
use Rattle.recording_model.proofs.Requests.{drawn-draws, next-draws}
use Rattle.recording_model.proofs.Completes.{answered_report, report_is, sync_completes, follow_completes}
use Rattle.recording_model.proofs.Completes.{response_completes}
use Rattle.recording_model.proofs.Hearing.{ready_holds, is_near}
use Rattle.recording_model.proofs.Newest.{IsNewest, newest-now, IsHeldIn, held-now, held-ticked, held-found, IsLastIn}
use Rattle.recording_model.proofs.Newest.{last-now}
use Rattle.recording_model.proofs.Newest.{last-ticked, last-found}
use Rattle.recording_model.proofs.Said.{IsOf, is_of-later, keeps-is_of, after-is_of, says-of, last_number}
use Rattle.recording_model.proofs.Said.{after-last}
use Rattle.recording_model.proofs.Said.{event_answers_none, general_completes, general_answers}
use Rattle.recording_model.proofs.Onward.{HoldsSync, HoldsFollow, EndsWithSync, EndsWithDelay, HasRequest, count-one}
use Rattle.recording_model.proofs.Onward.{count-more, carried, goes-after, goes-sync, goes-follow, goes-last_sync}
use Rattle.recording_model.proofs.Onward.{goes-last_delay, goes-request, none_of}
use Rattle.recording_model.specs.Pairs.{is_heard}
use Rattle.recording_model.proofs.Latest.{IsNearBy}
use Rattle.recording_model.proofs.Recent.{within-fewer}
use Rattle.recording_model.proofs.Takes.{all-right, says-weaker, first-below, hears-sync}
use Rattle.recording_model.proofs.Takes.{hears-follow_up, hears-response, counted-so, TakesSync, TakesFollow}
use Rattle.recording_model.proofs.Begins.{last-same, told-same, each_beginning}
use Rattle.recording_model.proofs.Takes.{TakesResponse, TakesOneStep, takes-one_step, takes-used_one_step}
use Rattle.recording_model.proofs.Takes.{takes-sync, takes-follow, takes-response, takes-used_sync, takes-used_follow}
use Rattle.recording_model.proofs.Takes.{takes-used_response}

module _ (w : Watched) where
  -- none of a number is none of each kind
  is_of_number-sync : (number : ℕ) (m : Contents) → is_of_number w number m ≡ false
      → with_number (is_master_sync w) number m ≡ false
  is_of_number-sync number m none = by (is_master_sync w m) refl
    where
      by : (b : Bool) → is_master_sync w m ≡ b → (b && m.header.sequence.0 == number) ≡ false
      by false is = refl
      by true is = sym (ap (λ (b : Bool). (b || is_master_follow_up w m) && m.header.sequence.0 == number) is) ∙ none

  is_of_number-follow : (number : ℕ) (m : Contents) → is_of_number w number m ≡ false
      → with_number (is_master_follow_up w) number m ≡ false
  is_of_number-follow number m none = by (is_master_follow_up w m) refl
    where
      by : (b : Bool) → is_master_follow_up w m ≡ b → (b && m.header.sequence.0 == number) ≡ false
      by false is = refl
      by true is =
          sym (ap (λ (b : Bool). b && m.header.sequence.0 == number)
          (or_right (is_master_sync w m) (is_master_follow_up w m) is)) ∙ none

  -- of one that isn't another of the number, or isn't heard
  other-sync : (number : ℕ) (d : Recorded) {unheard : Type 0} → (says (is_of_number w number) d ≡ false) ⊎ unheard
      → (says (with_number (is_master_sync w) number) d ≡ false) ⊎ unheard
  other-sync number d (inl none) =
      inl (says-weaker (is_of_number w number) (with_number (is_master_sync w) number) (is_of_number-sync number) d none)
  other-sync number d (inr none) = inr none

  other-follow : (number : ℕ) (d : Recorded) {unheard : Type 0} → (says (is_of_number w number) d ≡ false) ⊎ unheard
      → (says (with_number (is_master_follow_up w) number) d ≡ false) ⊎ unheard
  other-follow number d (inl none) =
      inl (says-weaker (is_of_number w number) (with_number (is_master_follow_up w) number)
      (is_of_number-follow number) d none)
  other-follow number d (inr none) = inr none

  -- nothing of a number, or what is near
  near-one : (kind : Contents → Bool) (number time : ℕ) (d : Recorded) → says (with_number kind number) d ≡ false
      → says (λ m. kind m && (m.header.sequence.0 == number && is_apart time d.time)) d ≡ false
  near-one kind number time d none =
      says-weaker (with_number kind number)
      (λ m. kind m && (m.header.sequence.0 == number && is_apart time d.time)) each d none
    where
      each : (m : Contents) → with_number kind number m ≡ false
          → (kind m && (m.header.sequence.0 == number && is_apart time d.time)) ≡ false
      each m none = by (kind m) (m.header.sequence.0 == number) none
        where
          by : (a b : Bool) → (a && b) ≡ false → (a && (b && is_apart time d.time)) ≡ false
          by false b none = refl
          by true false none = refl
          by true true none = cc

  near-now : (kind : Contents → Bool) (number time : ℕ) (d : Recorded) (m : Contents) → d.said ≡ Ok m
      → is_apart time d.time ≡ false
      → says (λ m. kind m && (m.header.sequence.0 == number && is_apart time d.time)) d ≡ false
  near-now kind number time d m said near =
      says-of (λ m. kind m && (m.header.sequence.0 == number && is_apart time d.time)) d m said
      ∙ and_right (kind m) (m.header.sequence.0 == number && is_apart time d.time)
      (and_right (m.header.sequence.0 == number) (is_apart time d.time) near)

-- what holds of more holds of fewer
take-fewer : {X : Type 0} (P : X → Type 0) (xs : List X) (a b : ℕ) → a ≤ b → All P (take b xs) → All P (take a xs)
take-fewer P xs zero b low are = All-nil P
take-fewer P [] (suc a) b low are = All-nil P
take-fewer P (x ∷ xs) (suc a) zero low are = absurd (omega arith)
take-fewer P (x ∷ xs) (suc a) (suc b) low are =
    All-cons P x (take a xs) (All-head P x (take b xs) are)
    (take-fewer P xs a b (omega arith) (All-tail P x (take b xs) are))

-- what holds of the last that are heard holds with more of which it holds
module _ (w : Watched) (test : Contents → Bool) (P : Recorded → Type 0) where
  over-one : (x : Recorded) (ds : List Recorded) (c : ℕ) → ((says test x && is_heard w ds x) ≡ true → P x)
      → All P (take c (heard_of w test ds)) → All P (take c (heard_of w test (x ∷ ds)))
  over-one x ds c each are = by (says test x && is_heard w ds x) refl
    where
      more : (c : ℕ) → P x → All P (take c (heard_of w test ds)) → All P (take c (x ∷ heard_of w test ds))
      more zero one are = All-nil P
      more (suc k) one are =
          All-cons P x (take k (heard_of w test ds)) one
          (take-fewer P (heard_of w test ds) k (suc k) (omega arith) are)

      by : (counts : Bool) → (says test x && is_heard w ds x) ≡ counts
          → All P (take c (if counts then x ∷ heard_of w test ds else heard_of w test ds))
      by true is = more c (each is) are
      by false is = are

  over : (number c : ℕ) (first : Recorded) (before : List Recorded)
      → ((x : Recorded) (ds : List Recorded)
      → ((says (is_of_number w number) x ≡ false) ⊎ (is_heard w ds x ≡ false))
      → (says test x && is_heard w ds x) ≡ true → P x)
      → P first → All P (take c (heard_of w test before)) → (between : List Recorded)
      → NoOtherIsHeard w number between (first ∷ before) → All P (take c (heard_of w test (between ++ first ∷ before)))
  over number c first before each one are [] alone = over-one first before c (λ is. one) are
  over number c first before each one are (x ∷ between) alone =
      over-one x (between ++ first ∷ before) c (each x (between ++ first ∷ before) alone.0)
      (over number c first before each one are between alone.1)

-- a message of a kind and number is another that isn't heard
another-one : (w : Watched) (kind test : Contents → Bool) (number : ℕ) (P : Recorded → Type 0)
    → ((m : Contents) → is_of_number w number m ≡ false → with_number kind number m ≡ false)
    → ((x : Recorded) → says (with_number kind number) x ≡ false → P x) → (x : Recorded) (ds : List Recorded)
    → ((says (is_of_number w number) x ≡ false) ⊎ (is_heard w ds x ≡ false))
    → (says test x && is_heard w ds x) ≡ true → P x
another-one w kind test number P of each x ds (inl none) counts =
    each x (says-weaker (is_of_number w number) (with_number kind number) of x none)
another-one w kind test number P of each x ds (inr unheard) counts =
    absurd (both_ways (is_heard w ds x) unheard (and_parts (says test x) (is_heard w ds x) counts).1)

-- what holds within so many Syncs of a pair holds within fewer before its first message
within-before : (w : Watched) (P : Recorded → Type 0) (first : Recorded) (before between : List Recorded) (b c : ℕ)
    → count_by (says (is_master_sync w)) between + 1 + b ≤ c
    → All P (within_syncs w (between ++ first ∷ before) c) → All P (within_syncs w before b)
within-before w P first before [] b zero low are = absurd (omega arith)
within-before w P first before [] b (suc k) low are =
    within-fewer w P before b (if says (is_master_sync w) first && is_heard w before first then k else suc k)
    (by (says (is_master_sync w) first && is_heard w before first))
    (All-tail P first
    (within_syncs w before (if says (is_master_sync w) first && is_heard w before first then k else suc k)) are)
  where
    by : (counts : Bool) → b ≤ (if counts then k else suc k)
    by true = omega arith
    by false = omega arith
within-before w P first before (x ∷ between) b zero low are = absurd (omega arith)
within-before w P first before (x ∷ between) b (suc k) low are =
    within-before w P first before between b
    (if says (is_master_sync w) x && is_heard w (between ++ first ∷ before) x then k else suc k)
    (by (says (is_master_sync w) x) refl (is_heard w (between ++ first ∷ before) x))
    (All-tail P x
    (within_syncs w (between ++ first ∷ before)
    (if says (is_master_sync w) x && is_heard w (between ++ first ∷ before) x then k else suc k)) are)
  where
    by : (said : Bool) → says (is_master_sync w) x ≡ said → (heard : Bool)
        → count_by (says (is_master_sync w)) between + 1 + b ≤ (if said && heard then k else suc k)
    by true is true = omega (arith, count-one (says (is_master_sync w)) x between is)
    by true is false = omega (arith, count-more (says (is_master_sync w)) x between)
    by false is heard = omega (arith, count-more (says (is_master_sync w)) x between)

-- a pair in a recording, one of which stands behind the other
module _ (w : Watched) (first later : Recorded) (between before : List Recorded)
    (numbered : AreNumbered (later ∷ (between ++ first ∷ before))) where
  -- each of these is later than the first
  later-than : (x : Recorded) (shorter : List Recorded) → AreNumbered (x ∷ (shorter ++ first ∷ before))
      → first.line < x.line
  later-than x shorter are = first-below x first shorter before are

  -- a Sync stays held, over those that stand between
  module _ (number : ℕ) (value : SyncValue)
      (base : HoldsSync w number value 0 0 (after_all w (first ∷ before)).first (after_all w (first ∷ before)).calls
      (after_all w (first ∷ before)).syncs (after_all w (first ∷ before)).asked) where
    sync-stays : (shorter : List Recorded) → AreNumbered (shorter ++ first ∷ before)
        → NoOtherIsHeard w number shorter (first ∷ before)
        → count_by (says (is_master_sync w)) shorter < table_capacity
        → (after_all w (shorter ++ first ∷ before)).begun ≤ first.line
        → HoldsSync w number value (count_by (says (is_master_sync w)) shorter)
        (count_by (says (is_master_sync w)) shorter) (after_all w (shorter ++ first ∷ before)).first
        (after_all w (shorter ++ first ∷ before)).calls (after_all w (shorter ++ first ∷ before)).syncs
        (after_all w (shorter ++ first ∷ before)).asked
    sync-stays [] are none few low = base
    sync-stays (x ∷ shorter) are none few low =
        let ds : List Recorded = shorter ++ first ∷ before in
        let test : Recorded → Bool = says (is_master_sync w) in
        let fewer : count_by test shorter ≤ count_by test (x ∷ shorter) = count-more test x shorter in
        goes-after w x ds first.line (later-than x shorter are)
        (HoldsSync w number value (count_by test shorter) (count_by test shorter))
        (HoldsSync w number value (count_by test (x ∷ shorter)) (count_by test (x ∷ shorter)))
        (goes-sync w x ds first.line (later-than x shorter are) (count_by test shorter) (count_by test (x ∷ shorter))
        fewer (λ is. omega (arith, count-one test x shorter is)) (omega arith) (count_by test shorter)
        (count_by test (x ∷ shorter)) number value fewer (λ is. omega (arith, count-one test x shorter is))
        (other-sync w number x none.0))
        (sync-stays shorter (numbered-rest x ds are)
        none.1 (omega arith))
        low

  -- so does a Follow_Up
  module _ (number : ℕ) (value : FollowValue)
      (base : HoldsFollow w number value 0 0 (after_all w (first ∷ before)).first (after_all w (first ∷ before)).calls
      (after_all w (first ∷ before)).syncs (after_all w (first ∷ before)).asked) where
    follow-stays : (shorter : List Recorded) → AreNumbered (shorter ++ first ∷ before)
        → NoOtherIsHeard w number shorter (first ∷ before)
        → count_by (says (is_master_sync w)) shorter < ticks_every
        → count_by (says (is_master_follow_up w)) shorter < table_capacity
        → (after_all w (shorter ++ first ∷ before)).begun ≤ first.line
        → HoldsFollow w number value (count_by (says (is_master_follow_up w)) shorter)
        (count_by (says (is_master_sync w)) shorter) (after_all w (shorter ++ first ∷ before)).first
        (after_all w (shorter ++ first ∷ before)).calls (after_all w (shorter ++ first ∷ before)).syncs
        (after_all w (shorter ++ first ∷ before)).asked
    follow-stays [] are none few few_too low = base
    follow-stays (x ∷ shorter) are none few few_too low =
        let ds : List Recorded = shorter ++ first ∷ before in
        let test : Recorded → Bool = says (is_master_sync w) in
        let other : Recorded → Bool = says (is_master_follow_up w) in
        let fewer : count_by test shorter ≤ count_by test (x ∷ shorter) = count-more test x shorter in
        let fewer_too : count_by other shorter ≤ count_by other (x ∷ shorter) = count-more other x shorter in
        goes-after w x ds first.line (later-than x shorter are)
        (HoldsFollow w number value (count_by other shorter) (count_by test shorter))
        (HoldsFollow w number value (count_by other (x ∷ shorter)) (count_by test (x ∷ shorter)))
        (goes-follow w x ds first.line (later-than x shorter are) (count_by test shorter) (count_by test (x ∷ shorter))
        fewer (λ is. omega (arith, count-one test x shorter is)) (omega arith) (count_by other shorter)
        (count_by other (x ∷ shorter)) number value fewer_too (λ is. omega (arith, count-one other x shorter is))
        (other-follow w number x none.0))
        (follow-stays shorter (numbered-rest x ds are)
        none.1 (omega arith) (omega arith))
        low

-- what completed stays the last, and a request stays held, over those that come later
module _ (w : Watched) (since : ℕ) (from : List Recorded) where
  -- each is later than that line
  abbrev AreLater : List Recorded → Type 0
  AreLater later = All (λ (d : Recorded). since < d.line) later

  module _ (c : SyncCompletion)
      (base : (after_all w from).begun ≤ since
      → EndsWithSync w c 0 (after_all w from).first (after_all w from).calls (after_all w from).syncs
      (after_all w from).asked) where
    sync-is_last : (later : List Recorded) → AreLater later → EachAfter (CompletesNoSync w) later from
        → count_by (says (is_master_sync w)) later < ticks_every
        → (after_all w (later ++ from)).begun ≤ since
        → EndsWithSync w c (count_by (says (is_master_sync w)) later) (after_all w (later ++ from)).first
        (after_all w (later ++ from)).calls (after_all w (later ++ from)).syncs (after_all w (later ++ from)).asked
    sync-is_last [] are quiet few low = base low
    sync-is_last (x ∷ later) are quiet few low =
        let ds : List Recorded = later ++ from in
        let test : Recorded → Bool = says (is_master_sync w) in
        let behind : since < x.line = All-head (λ (d : Recorded). since < d.line) x later are in
        let fewer : count_by test later ≤ count_by test (x ∷ later) = count-more test x later in
        goes-after w x ds since behind (EndsWithSync w c (count_by test later))
        (EndsWithSync w c (count_by test (x ∷ later)))
        (goes-last_sync w x ds since behind (count_by test later) (count_by test (x ∷ later)) fewer
        (λ is. omega (arith, count-one test x later is)) few c quiet.0)
        (sync-is_last later (All-tail (λ (d : Recorded). since < d.line) x later are) quiet.1 (omega arith))
        low

  module _ (c : DelayCompletion)
      (base : (after_all w from).begun ≤ since
      → EndsWithDelay w c 0 (after_all w from).first (after_all w from).calls (after_all w from).syncs
      (after_all w from).asked) where
    delay-is_last : (later : List Recorded) → AreLater later → EachAfter (CompletesNoDelay w) later from
        → count_by (says (is_master_sync w)) later < ticks_every
        → (after_all w (later ++ from)).begun ≤ since
        → EndsWithDelay w c (count_by (says (is_master_sync w)) later) (after_all w (later ++ from)).first
        (after_all w (later ++ from)).calls (after_all w (later ++ from)).syncs (after_all w (later ++ from)).asked
    delay-is_last [] are quiet few low = base low
    delay-is_last (x ∷ later) are quiet few low =
        let ds : List Recorded = later ++ from in
        let test : Recorded → Bool = says (is_master_sync w) in
        let behind : since < x.line = All-head (λ (d : Recorded). since < d.line) x later are in
        let fewer : count_by test later ≤ count_by test (x ∷ later) = count-more test x later in
        goes-after w x ds since behind (EndsWithDelay w c (count_by test later))
        (EndsWithDelay w c (count_by test (x ∷ later)))
        (goes-last_delay w x ds since behind (count_by test later) (count_by test (x ∷ later)) fewer
        (λ is. omega (arith, count-one test x later is)) few c quiet.0)
        (delay-is_last later (All-tail (λ (d : Recorded). since < d.line) x later are)
        quiet.1 (omega arith))
        low

  module _ (number : ℕ) (value : RequestValue) (in_range : number < 65536)
      (base : HasRequest w number value (after_all w from).first (after_all w from).calls (after_all w from).syncs
      (after_all w from).asked) where
    -- a Delay_Req too far ahead
    abbrev leaps : Contents → Bool
    leaps m = is_own_request w m && not (nat_lt (ahead m.header.sequence.0 number) table_capacity)

    request-stays : (later : List Recorded) → AreLater later → NoneSays leaps later
        → (after_all w (later ++ from)).begun ≤ since
        → HasRequest w number value (after_all w (later ++ from)).first (after_all w (later ++ from)).calls
        (after_all w (later ++ from)).syncs (after_all w (later ++ from)).asked
    request-stays [] are near low = base
    request-stays (x ∷ later) are near low =
        let ds : List Recorded = later ++ from in
        let behind : since < x.line = All-head (λ (d : Recorded). since < d.line) x later are in
        goes-after w x ds since behind (HasRequest w number value) (HasRequest w number value)
        (goes-request w x ds since behind number value in_range
        (All-head (λ (d : Recorded). says leaps d ≡ false) x later near))
        (request-stays later (All-tail (λ (d : Recorded). since < d.line) x later are)
        (All-tail (λ (d : Recorded). says leaps d ≡ false) x later near))
        low

-- what a datagram completes, at the port that hears it
pub record CompletesSync (w : Watched) (earlier : List Recorded) (d : Recorded) (c : SyncCompletion) : Type 0 where
  pub heard : HeardAt w earlier d
  pub begun_is : (after_all w (d ∷ earlier)).begun ≡ heard.port.begun
  pub sync_is : last_sync_completion (setup_at w heard) (heard.call ∷ heard.port.calls) ≡ Some c
  pub delay_is : last_delay_completion (setup_at w heard) (heard.call ∷ heard.port.calls)
      ≡ last_delay_completion (setup_at w heard) heard.port.calls
  pub completes : is_none (sync_completion (setup_at w heard) heard.port.calls heard.call) ≡ false
  pub after : EndsWithSync w c 0 (after_all w (d ∷ earlier)).first (after_all w (d ∷ earlier)).calls
      (after_all w (d ∷ earlier)).syncs (after_all w (d ∷ earlier)).asked

pub record CompletesDelay (w : Watched) (earlier : List Recorded) (d : Recorded) (c : DelayCompletion) : Type 0 where
  pub heard : HeardAt w earlier d
  pub begun_is : (after_all w (d ∷ earlier)).begun ≡ heard.port.begun
  pub delay_is : last_delay_completion (setup_at w heard) (heard.call ∷ heard.port.calls) ≡ Some c
  pub sync_is : last_sync_completion (setup_at w heard) (heard.call ∷ heard.port.calls)
      ≡ last_sync_completion (setup_at w heard) heard.port.calls
  pub completes : is_none (delay_completion (setup_at w heard) heard.port.calls heard.call) ≡ false
  pub after : EndsWithDelay w c 0 (after_all w (d ∷ earlier)).first (after_all w (d ∷ earlier)).calls
      (after_all w (d ∷ earlier)).syncs (after_all w (d ∷ earlier)).asked

-- a port that is to hear a message follows the master
port-follows : (w : Watched) (ds : List Recorded) (x : Recorded) (m : Contents) → x.said ≡ Ok m → (r : Listening)
    → ready w x.line x.time m m.body (after_all w ds) ≡ Some r → present_master r.calls ≡ Some w.master
port-follows w ds x m said r is_ready =
    (ready_holds w x (after_all w ds) (IsOf w (x ∷ ds)) (IsOf w (x ∷ ds)) (IsOf w (x ∷ ds))
    (keeps-is_of w x ds (after_all w ds))
    (is_of-later w x ds (after_all w ds) (after-is_of w ds)) m said r is_ready).follows_master

-- a message of the master that comes after these
module _ (w : Watched) (earlier : List Recorded) (x : Recorded) (m : Contents) (said : x.said ≡ Ok m)
    (of_master : is_of w w.master m.header ≡ true) where
  abbrev at_event : Call
  at_event = calls.Event (Ok m) x.time x.line

  abbrev at_general : Call
  at_general = calls.General (Ok m) x.line

  abbrev sync_value : SyncValue
  sync_value = record { t2 = x.time; correction = m.header.correction.0; tag = x.line }

  abbrev follow_value : Stamp → FollowValue
  follow_value precise = record { precise = precise; correction = m.header.correction.0; tag = x.line }

  abbrev response_value : Stamp → ResponseValue
  response_value receive = record { receive = receive; correction = m.header.correction.0; tag = x.line }

  abbrev After : ((first : ℕ) → List Call → (syncs : ℕ) → (asked : Bool) → Type 0) → Type 0
  After G =
      G (after_all w (x ∷ earlier)).first (after_all w (x ∷ earlier)).calls (after_all w (x ∷ earlier)).syncs
      (after_all w (x ∷ earlier)).asked

  -- a Sync that the port hears
  module _ (origin : Stamp) (body : m.body ≡ bodies.Sync origin) (port : Listening)
      (is_ready : ready_sync w x.line x.time m (after_all w earlier) ≡ Some port) where
    abbrev sync_heard : HeardAt w earlier x
    sync_heard = record {
      m = m;
      said = said;
      port = port;
      ready_is = ap (λ (b : Body). ready w x.line x.time m b (after_all w earlier)) body ∙ is_ready;
      call = at_event;
      call_is = ap (λ (b : Body). hearing x.line x.time m b) body;
    }

    after-sync_is : after_all w (x ∷ earlier) ≡ with_count (told at_event port)
    after-sync_is = hears-sync w x m said (after_all w earlier) of_master origin body port is_ready

    pub sync-begun : (after_all w (x ∷ earlier)).begun ≡ port.begun
    sync-begun =
        ap (λ (l : Listening). l.begun) after-sync_is
        ∙ counted-so (λ (l : Listening). l.begun ≡ port.begun) (told at_event port) refl (λ full. refl)

    after-sync : (G : (first : ℕ) → List Call → (syncs : ℕ) → (asked : Bool) → Type 0)
        → G port.first (at_event ∷ port.calls) (port.syncs + 1) port.asked
        → (port.syncs + 1 ≡ ticks_every → G port.first (calls.Tick ∷ at_event ∷ port.calls) 0 port.asked)
        → After G
    after-sync G counted ticked =
        subst (λ (l : Listening). G l.first l.calls l.syncs l.asked) (sym after-sync_is)
        (counted-so (λ (l : Listening). G l.first l.calls l.syncs l.asked) (told at_event port) counted ticked)

    -- what it completes is the last
    pub sync-brings : (c : SyncCompletion) → sync_completion (setup_in w port) port.calls at_event ≡ Some c
        → CompletesSync w earlier x c
    sync-brings c completes = record {
      heard = sync_heard;
      begun_is = sync-begun;
      sync_is = ap
          (λ (o : Option SyncCompletion). last (with_brought o (kept (setup_in w port) port.calls).completions))
          completes;
      delay_is = ap
          (λ (o : Option DelayCompletion). last (with_brought o (delay_completions (setup_in w port) port.calls))) none;
      completes = ap (λ (o : Option SyncCompletion). is_none o) completes;
      after = after-sync (EndsWithSync w c 0) (ended (port.syncs + 1))
          (λ full. last-ticked c (kept (setup_in w port) (at_event ∷ port.calls)).completions port.syncs 0 0
          (omega arith) (ended port.syncs));
    }
      where
        follows_master : present_master port.calls ≡ Some w.master
        follows_master = port-follows w earlier x m said port
            (ap (λ (b : Body). ready w x.line x.time m b (after_all w earlier)) body ∙ is_ready)

        none : delay_completion (setup_in w port) port.calls at_event ≡ None
        none =
            none_of (delay_completion (setup_in w port) port.calls at_event)
            (λ other same. event_answers_none w port.first port.calls follows_master m x.time x.line other same)

        ended : (syncs : ℕ)
            → IsLastIn c (kept (setup_in w port) (at_event ∷ port.calls)).completions syncs 0
        ended syncs =
            subst
            (λ (o : Option SyncCompletion). IsLastIn c
            (with_brought o (kept (setup_in w port) port.calls).completions) syncs 0) (sym completes)
            (last-now c (kept (setup_in w port) port.calls).completions syncs 0)

  -- a two-step Sync that it takes
  module _ (origin : Stamp) (body : m.body ≡ bodies.Sync origin) (takes : TakesSync w earlier x m) where
    -- it is held
    pub sync-held : After (HoldsSync w m.header.sequence.0 sync_value 0 0)
    sync-held =
        after-sync origin body takes.port takes.ready_is (HoldsSync w m.header.sequence.0 sync_value 0 0)
        (held (takes.port.syncs + 1))
        (λ full. held-ticked 0 m.header.sequence.0 sync_value
        (kept (setup_in w takes.port) (at_event ∷ takes.port.calls)).syncs takes.port.syncs 0 0 (omega arith)
        (held takes.port.syncs))
      where
        held : (syncs : ℕ)
            → IsHeldIn 0 m.header.sequence.0 sync_value
            (kept (setup_in w takes.port) (at_event ∷ takes.port.calls)).syncs syncs 0
        held syncs =
            subst
            (λ (o : Option (Entry SyncValue)). IsHeldIn 0 m.header.sequence.0 sync_value
            (with_brought o (kept (setup_in w takes.port) takes.port.calls).syncs) syncs 0) (sym takes.use_is)
            (held-now m.header.sequence.0 sync_value (kept (setup_in w takes.port) takes.port.calls).syncs syncs 0)

    -- it completes with a Follow_Up that is held
    pub sync-completes : (value : FollowValue)
        → first_value m.header.sequence.0 (held_follows (setup_in w takes.port) takes.port.calls) ≡ Some value
        → CompletesSync w earlier x (pair m.header.sequence.0 sync_value value)
    sync-completes value found =
        sync-brings origin body takes.port takes.ready_is (pair m.header.sequence.0 sync_value value)
        (sync_completes (setup_in w takes.port) takes.port.calls at_event (entry m.header.sequence.0 sync_value)
        takes.use_is
        ∙ ap (option_map (pair m.header.sequence.0 sync_value)) found)

  -- a Follow_Up that it takes
  module _ (precise : Stamp) (body : m.body ≡ bodies.FollowUp precise) (takes : TakesFollow w earlier x m precise) where
    abbrev follow_heard : HeardAt w earlier x
    follow_heard = record {
      m = m;
      said = said;
      port = takes.port;
      ready_is = ap (λ (b : Body). ready w x.line x.time m b (after_all w earlier)) body ∙ takes.ready_is;
      call = at_general;
      call_is = ap (λ (b : Body). hearing x.line x.time m b) body;
    }

    after-follow_is : after_all w (x ∷ earlier) ≡ told at_general takes.port
    after-follow_is = hears-follow_up w x m said (after_all w earlier) of_master precise body takes.port takes.ready_is

    pub follow-begun : (after_all w (x ∷ earlier)).begun ≡ takes.port.begun
    follow-begun = ap (λ (l : Listening). l.begun) after-follow_is

    after-follow : (G : (first : ℕ) → List Call → (syncs : ℕ) → (asked : Bool) → Type 0)
        → G takes.port.first (at_general ∷ takes.port.calls) takes.port.syncs takes.port.asked → After G
    after-follow G is = subst (λ (l : Listening). G l.first l.calls l.syncs l.asked) (sym after-follow_is) is

    pub follow-held : After (HoldsFollow w m.header.sequence.0 (follow_value precise) 0 0)
    follow-held =
        after-follow (HoldsFollow w m.header.sequence.0 (follow_value precise) 0 0)
        (subst
        (λ (o : Option (Entry FollowValue)). IsHeldIn 0 m.header.sequence.0 (follow_value precise)
        (with_brought o (kept (setup_in w takes.port) takes.port.calls).follows) takes.port.syncs 0) (sym takes.use_is)
        (held-now m.header.sequence.0 (follow_value precise) (kept (setup_in w takes.port) takes.port.calls).follows
        takes.port.syncs 0))

    pub follow-completes : (value : SyncValue)
        → first_value m.header.sequence.0 (held_syncs (setup_in w takes.port) takes.port.calls) ≡ Some value
        → CompletesSync w earlier x (pair m.header.sequence.0 value (follow_value precise))
    follow-completes value found = record {
      heard = follow_heard;
      begun_is = follow-begun;
      sync_is = ap
          (λ (o : Option SyncCompletion). last (with_brought o (kept (setup_in w takes.port) takes.port.calls).completions))
          completes;
      delay_is = ap
          (λ (o : Option DelayCompletion). last (with_brought o (delay_completions (setup_in w takes.port)
          takes.port.calls))) none;
      completes = ap (λ (o : Option SyncCompletion). is_none o) completes;
      after = after-follow (EndsWithSync w (pair m.header.sequence.0 value (follow_value precise)) 0)
          (subst
          (λ (o : Option SyncCompletion). IsLastIn (pair m.header.sequence.0 value (follow_value precise))
          (with_brought o (kept (setup_in w takes.port) takes.port.calls).completions) takes.port.syncs 0)
          (sym completes)
          (last-now (pair m.header.sequence.0 value (follow_value precise))
          (kept (setup_in w takes.port) takes.port.calls).completions takes.port.syncs 0));
    }
      where
        completes : sync_completion (setup_in w takes.port) takes.port.calls at_general
            ≡ Some (pair m.header.sequence.0 value (follow_value precise))
        completes =
            follow_completes (setup_in w takes.port) takes.port.calls at_general
            (entry m.header.sequence.0 (follow_value precise)) takes.use_is
            ∙ ap (option_map (λ (sync : SyncValue). pair m.header.sequence.0 sync (follow_value precise))) found

        follows_master : present_master takes.port.calls ≡ Some w.master
        follows_master = port-follows w earlier x m said takes.port
            (ap (λ (b : Body). ready w x.line x.time m b (after_all w earlier)) body ∙ takes.ready_is)

        none : delay_completion (setup_in w takes.port) takes.port.calls at_general ≡ None
        none =
            none_of (delay_completion (setup_in w takes.port) takes.port.calls at_general)
            (λ other same.
            both_ways (is_own_response w m)
            (and_right (is_of w w.master m.header) (is_response_to w.slave m.body) (ap (is_response_to w.slave) body))
            (general_answers w takes.port.first takes.port.calls follows_master m x.time x.line other same))

  -- a Delay_Resp that it takes
  module _ (receive : Stamp) (requesting : PortIdentity) (body : m.body ≡ bodies.DelayResp receive requesting)
      (takes : TakesResponse w earlier x m receive requesting) where
    abbrev response_heard : HeardAt w earlier x
    response_heard = record {
      m = m;
      said = said;
      port = takes.port;
      ready_is = ap (λ (b : Body). ready w x.line x.time m b (after_all w earlier)) body ∙ takes.ready_is;
      call = at_general;
      call_is = ap (λ (b : Body). hearing x.line x.time m b) body;
    }

    after-response_is : after_all w (x ∷ earlier) ≡ told at_general takes.port
    after-response_is =
        hears-response w x m said (after_all w earlier) of_master receive requesting body takes.port takes.ready_is

    pub response-begun : (after_all w (x ∷ earlier)).begun ≡ takes.port.begun
    response-begun = ap (λ (l : Listening). l.begun) after-response_is

    pub response-completes : (t3 tag : ℕ)
        → first_value m.header.sequence.0 (held_requests (setup_in w takes.port) takes.port.calls)
        ≡ Some (record { t3 = Some t3; tag = tag })
        → CompletesDelay w earlier x
        (responded m.header.sequence.0 (response_value receive) (record { t3 = Some t3; tag = tag }) t3)
    response-completes t3 tag found = record {
      heard = response_heard;
      begun_is = response-begun;
      delay_is = ap
          (λ (o : Option DelayCompletion). last (with_brought o (delay_completions (setup_in w takes.port)
          takes.port.calls))) completes;
      sync_is = ap
          (λ (o : Option SyncCompletion). last (with_brought o (kept (setup_in w takes.port) takes.port.calls).completions))
          none;
      completes = ap (λ (o : Option DelayCompletion). is_none o) completes;
      after = subst (λ (l : Listening). EndsWithDelay w c 0 l.first l.calls l.syncs l.asked) (sym after-response_is)
          (subst
          (λ (o : Option DelayCompletion). IsLastIn c
          (with_brought o (delay_completions (setup_in w takes.port) takes.port.calls)) takes.port.syncs 0)
          (sym completes)
          (last-now c (delay_completions (setup_in w takes.port) takes.port.calls) takes.port.syncs 0));
    }
      where
        c : DelayCompletion
        c = responded m.header.sequence.0 (response_value receive) (record { t3 = Some t3; tag = tag }) t3

        completes : delay_completion (setup_in w takes.port) takes.port.calls at_general ≡ Some c
        completes =
            response_completes (setup_in w takes.port) takes.port.calls at_general
            (entry m.header.sequence.0 (response_value receive)) takes.use_is
            ∙ ap (option_and_then (answered_by m.header.sequence.0 (response_value receive))) found

        follows_master : present_master takes.port.calls ≡ Some w.master
        follows_master = port-follows w earlier x m said takes.port
            (ap (λ (b : Body). ready w x.line x.time m b (after_all w earlier)) body ∙ takes.ready_is)

        none : sync_completion (setup_in w takes.port) takes.port.calls at_general ≡ None
        none =
            none_of (sync_completion (setup_in w takes.port) takes.port.calls at_general)
            (λ other same.
            both_ways (is_master_follow_up w m)
            (and_right (is_of w w.master m.header) (is_follow_up m.body) (ap is_follow_up body))
            (general_completes w takes.port.first takes.port.calls follows_master m x.time x.line other same).0)

-- the number of a Delay_Req that is the last one's again
last-again : (number next_is last : ℕ) → number < 65536 → next_is ≡ next last → ahead number next_is ≡ 65535
    → of_count last ≡ number
last-again number next_is last low same is = omega arith

-- a Delay_Req of the slave that comes after these is asked for
module _ (w : Watched) (before : List Recorded) (x : Recorded) (m : Contents) (said : x.said ≡ Ok m)
    (own : is_own_request w m ≡ true) (in_range : m.header.sequence.0 < 65536)
    (another : IfSome (last_number w before) (λ last. (of_count last == m.header.sequence.0) ≡ false)) where
  abbrev request_value : RequestValue
  request_value = record { t3 = Some x.time; tag = x.line }

  abbrev Has : Listening → Type 0
  Has r = HasRequest w m.header.sequence.0 request_value r.first r.calls r.syncs r.asked

  -- by any port
  asked-has : (r : Listening) → Has (asks w x.line x.time m.header.sequence.0 r)
  asked-has r =
      let number : ℕ = m.header.sequence.0 in
      let setup : Setup = setup_in w r in
      let count : ℕ = ahead number (next_number setup r.calls) in
      let others : List (Entry RequestValue) = requests setup (draws count x.line r.calls) in
      let next : ℕ = next_number setup (draws count x.line r.calls) in
      let next_is : next ≡ number = next-draws setup number x.line r.calls in_range in
      let more : count + 1 ≡ suc count = omega arith in
      record {
        drawn = 0;
        newest =
            subst (λ (n : ℕ). IsNewest 0 number request_value
            (stamped number x.time (requests setup (draws n x.line r.calls)))) (sym more)
            (subst
            (λ (b : Bool). IsNewest 0 number request_value
            (if b then entry number request_value ∷ others
            else entry next (record { t3 = None; tag = x.line }) ∷ stamped number x.time others))
            (sym (eq-eqb next number next_is)) (newest-now number request_value others));
        next_is = omega (arith, drawn-draws (count + 1) x.line r.calls);
        was_asked = refl;
        few = omega arith;
      }

  pub request-held : Has (after_all w (x ∷ before))
  request-held = subst Has (sym heard_is) (by (is_near w number l) refl
      (ahead number (next_number (setup_in w l) l.calls) == 65535) refl)
    where
      l : Listening
      l = after_all w before

      number : ℕ
      number = m.header.sequence.0

      body_of : (body : Body) → m.body ≡ body → is_delay_req body ≡ true → is_of w w.slave m.header ≡ true
          → hears w x.line x.time m body l ≡ hears_request w x.line x.time number l
      body_of (bodies.DelayReq origin) is kind of_slave =
          ap (λ (b : Bool). if b then hears_request w x.line x.time number l else l) of_slave
      body_of _ is kind of_slave = cc

      heard_is : hear w x l ≡ hears_request w x.line x.time number l
      heard_is =
          let parts = and_parts (is_of w w.slave m.header) (is_delay_req m.body) own in
          ap (λ (r : Reading). option_map_or (λ m. hears w x.line x.time m m.body l) (result_ok r) l) said
          ∙ body_of m.body refl parts.1 parts.0

      -- it isn't the last one again
      not_again : {A : Type 0} → is_near w number l ≡ false → ahead number (next_number (setup_in w l) l.calls) ≡ 65535
          → A
      not_again far same =
          let parts = or_parts (not l.asked) (nat_lt (ahead number (next_number (setup_in w l) l.calls)) table_capacity)
          far in
          let one = (after-last w before).last (not-false l.asked parts.0) in
          let other : (of_count one.0 == number) ≡ false =
          subst (λ (o : Option ℕ). IfSome o (λ last. (of_count last == number) ≡ false)) one.1 another in
          let next_is : next_number (setup_in w l) l.calls ≡ next one.0 = one.2 in
          let low : number < 65536 = in_range in
          absurd (both_ways (of_count one.0 == number) other
          (eq-eqb (of_count one.0) number (last-again number (next_number (setup_in w l) l.calls) one.0 low next_is same)))

      by : (near : Bool) → is_near w number l ≡ near → (same : Bool)
          → (ahead number (next_number (setup_in w l) l.calls) == 65535) ≡ same
          → Has (if near then asks w x.line x.time number l else if same then l
          else asks w x.line x.time number (anew w x.line number l))
      by true near same is = asked-has l
      by false near true is =
          not_again near (eqb-true (ahead number (next_number (setup_in w l) l.calls)) 65535 is)
      by false near false is = asked-has (anew w x.line number l)

-- each of these is later than a line from before them
are-later : (since : ℕ) (later from : List Recorded) → AreNumbered (later ++ from)
    → ((x : Recorded) → All (λ (e : Recorded). e.line < x.line) from → since < x.line)
    → All (λ (d : Recorded). since < d.line) later
are-later since [] from numbered each = All-nil (λ (d : Recorded). since < d.line)
are-later since (x ∷ later) from numbered each =
    All-cons (λ (d : Recorded). since < d.line) x later
    (each x (all-right (λ (e : Recorded). e.line < x.line) later from (numbered-below x (later ++ from) numbered)))
    (are-later since later from (numbered-rest x (later ++ from) numbered) each)

-- the lines of a part
numbered-part : (later from : List Recorded) → AreNumbered (later ++ from) → AreNumbered from
numbered-part [] from numbered = numbered
numbered-part (x ∷ later) from numbered = numbered-part later from (numbered-rest x (later ++ from) numbered)

-- what is said by a pair
apart-other : (time other : ℕ) → is_apart time other ≡ false → is_apart other time ≡ false
apart-other time other is =
    let parts = or_parts (nat_le second (time - other)) (nat_le second (other - time)) is in
    or_from (nat_le second (other - time)) (nat_le second (time - other)) parts.1 parts.0

sync-body : (b : Body) → is_sync b ≡ true → (origin : Stamp) × (b ≡ bodies.Sync origin)
sync-body (bodies.Sync origin) is = (origin, refl)
sync-body _ is = cc

-- a message of another kind doesn't pass
other-kind : (w : Watched) (kind : Body → Bool) (number : ℕ) (d : Recorded) (m : Contents) → d.said ≡ Ok m
    → kind m.body ≡ false → says (with_number (λ m. is_of w w.master m.header && kind m.body) number) d ≡ false
other-kind w kind number d m said none =
    says-of (with_number (λ m. is_of w w.master m.header && kind m.body) number) d m said
    ∙ and_left (is_of w w.master m.header && kind m.body) (m.header.sequence.0 == number)
    (and_right (is_of w w.master m.header) (kind m.body) none)

-- a Follow_Up's number fits to the newest Sync that the port heard, where it does to the newest that is told
fits-newest : (w : Watched) (ds : List Recorded) (d : Recorded) (f : Contents) → d.said ≡ Ok f
    → is_master_follow_up w f ≡ true → IsNear w ds d
    → option_map_or (λ n. is_far f.header.sequence.0 n.number)
    (newest (syncs (is_unicast f.header) (after_all w ds).heard)) false ≡ false
fits-newest w ds d f said of_master near =
    let told : (is_master_follow_up w f && is_far_from_newest w ds f) ≡ false =
    sym (says-of (λ m. is_master_follow_up w m && is_far_from_newest w ds m) d f said) ∙ near in
    ap (λ (heard : List Told). option_map_or (λ n. is_far f.header.sequence.0 n.number)
    (newest (syncs (is_unicast f.header) heard)) false) (told-same w ds)
    ∙ sym (ap (λ (b : Bool). b && is_far_from_newest w ds f) of_master) ∙ told

-- the two messages of a Sync, one behind the other
module _ (w : Watched) (first d : Recorded) (s f : Contents) (precise : Stamp) (between before : List Recorded)
    (alone : NoOtherIsHeard w s.header.sequence.0 between (first ∷ before))
    (few : count_by (says (is_master_sync w)) between < ticks_every)
    (taken : AreTaken w s.header.sequence.0 between before first d)
    (numbered : AreNumbered (d ∷ (between ++ first ∷ before)))
    (low : (after_all w (d ∷ (between ++ first ∷ before))).begun ≤ first.line) where
  abbrev all_until : List Recorded
  all_until = between ++ first ∷ before

  abbrev n : ℕ
  n = s.header.sequence.0

  below : first.line < d.line
  below = first-below d first between before numbered

  abbrev IsBehind : Recorded → Type 0
  IsBehind e = says (λ m. tells_departure w m && is_not_newer (Some m.header.sequence.0) n) e ≡ false

  newest-of : IsNotBehind w n (within_syncs w (between ++ first ∷ before) recent_syncs)
      → IsNotBehind w n (within_syncs w before 12288)
  newest-of newest = within-before w IsBehind first before between 12288 recent_syncs (omega arith) newest

  newest-all : IsNotBehind w n (within_syncs w (between ++ first ∷ before) recent_syncs)
      → IsNotBehind w n (within_syncs w (between ++ first ∷ before) 12288)
  newest-all newest = within-fewer w IsBehind (between ++ first ∷ before) 12288 recent_syncs (omega arith) newest

  near-of : (kind test : Contents → Bool) (time : ℕ) → NoneSays (with_number kind n) (last_heard w test before)
      → All (IsNearBy kind n time) (last_heard w test before)
  near-of kind test time none =
      All-weaker (λ (e : Recorded). says (with_number kind n) e ≡ false) (IsNearBy kind n time) (near-one w kind n time)
      (last_heard w test before) none

  -- none of a kind, or what is near, up to the later one
  none-until : (kind test : Contents → Bool)
      → ((m : Contents) → is_of_number w n m ≡ false → with_number kind n m ≡ false)
      → says (with_number kind n) first ≡ false → NoneSays (with_number kind n) (last_heard w test before)
      → NoneSays (with_number kind n) (last_heard w test (between ++ first ∷ before))
  none-until kind test of one none =
      over w test (λ (e : Recorded). says (with_number kind n) e ≡ false) n table_capacity first before
      (another-one w kind test n (λ (e : Recorded). says (with_number kind n) e ≡ false) of (λ x none. none)) one none
      between alone

  near-until : (kind test : Contents → Bool) (time : ℕ)
      → ((m : Contents) → is_of_number w n m ≡ false → with_number kind n m ≡ false)
      → IsNearBy kind n time first → NoneSays (with_number kind n) (last_heard w test before)
      → All (IsNearBy kind n time) (last_heard w test (between ++ first ∷ before))
  near-until kind test time of one none =
      over w test (IsNearBy kind n time) n table_capacity first before
      (another-one w kind test n (IsNearBy kind n time) of (near-one w kind n time)) one (near-of kind test time none)
      between alone

  -- the Follow_Up comes last
  module _ (of_one : AreOfOneSync w first d s f precise) where
    sync_parts : (is_of w w.master s.header ≡ true) × (is_sync s.body ≡ true)
    sync_parts = and_parts (is_of w w.master s.header) (is_sync s.body) of_one.sync_is

    sync_origin : (origin : Stamp) × (s.body ≡ bodies.Sync origin)
    sync_origin = sync-body s.body sync_parts.1

    takes-first_sync : TakesSync w before first s
    takes-first_sync = by taken
      where
        by : ((NoneIsKnown w n before
            × IsNotBehind w n (within_syncs w (between ++ first ∷ before) recent_syncs)
            × IsNear w before first × IsNear w (between ++ first ∷ before) d)
            ⊎ (IsTrue (is_used w before first) × IsTrue (is_used w (between ++ first ∷ before) d)))
            → TakesSync w before first s
        by (inl new) =
            takes-sync w before first s of_one.sync_said sync_parts.0 of_one.small_sync sync_origin.0 sync_origin.1
            of_one.two_step (newest-of new.1) (new.0 (is_unicast s.header)).0
        by (inr used) =
            takes-used_sync w before first s of_one.sync_said sync_origin.0 sync_origin.1 of_one.two_step used.0

    follow_master : is_master_follow_up w f ≡ true
    follow_master =
        and_from (is_of w w.master f.header) (is_follow_up f.body) of_one.of_master (ap is_follow_up of_one.follow_is)

    takes-last_follow : TakesFollow w all_until d f precise
    takes-last_follow = by taken
      where
        by : ((NoneIsKnown w n before
            × IsNotBehind w n (within_syncs w (between ++ first ∷ before) recent_syncs)
            × IsNear w before first × IsNear w (between ++ first ∷ before) d)
            ⊎ (IsTrue (is_used w before first) × IsTrue (is_used w (between ++ first ∷ before) d)))
            → TakesFollow w (between ++ first ∷ before) d f precise
        by (inl new) =
            takes-follow w (between ++ first ∷ before) d f of_one.follow_said of_one.of_master of_one.small_follow precise
            of_one.follow_is
            (subst (λ (number : ℕ). IsNotBehind w number (within_syncs w (between ++ first ∷ before) 12288))
            (sym of_one.number) (newest-all new.1))
            (subst (λ (number : ℕ). NoneSays (with_number (is_master_follow_up w) number)
            (last_heard w (with_flag (is_master_follow_up w) (is_unicast f.header)) (between ++ first ∷ before)))
            (sym of_one.number)
            (none-until (is_master_follow_up w) (with_flag (is_master_follow_up w) (is_unicast f.header))
            (is_of_number-follow w n)
            (other-kind w is_follow_up n first s of_one.sync_said (ap is_follow_up sync_origin.1))
            (new.0 (is_unicast f.header)).1))
            (subst (λ (number : ℕ). All (IsNearBy (is_master_sync w) number d.time)
            (last_heard w (with_flag (is_master_sync w) (is_unicast f.header)) (between ++ first ∷ before)))
            (sym of_one.number)
            (near-until (is_master_sync w) (with_flag (is_master_sync w) (is_unicast f.header)) d.time
            (is_of_number-sync w n)
            (near-now w (is_master_sync w) n d.time first s of_one.sync_said
            (apart-other first.time d.time of_one.near)) (new.0 (is_unicast f.header)).0))
            (fits-newest w (between ++ first ∷ before) d f of_one.follow_said follow_master new.3)
        by (inr used) =
            takes-used_follow w (between ++ first ∷ before) d f of_one.follow_said precise of_one.follow_is used.1

    by-follow_up : count_by (says (is_master_sync w)) between < table_capacity
        → CompletesSync w all_until d (completion_of first d s f precise)
    by-follow_up few_syncs =
        subst (CompletesSync w all_until d) (ap (λ (number : ℕ). pair number value last_value) of_one.number)
        (follow-completes w all_until d f of_one.follow_said of_one.of_master precise of_one.follow_is takes-last_follow
        value
        (subst (λ (number : ℕ). first_value number (held_syncs (setup_in w port) port.calls) ≡ Some value)
        (sym of_one.number) found))
      where
        value : SyncValue
        value = record { t2 = first.time; correction = s.header.correction.0; tag = first.line }

        last_value : FollowValue
        last_value = record { precise = precise; correction = f.header.correction.0; tag = d.line }

        port : Listening
        port = takes-last_follow.port

        is_ready : ready w d.line d.time f f.body (after_all w (between ++ first ∷ before)) ≡ Some port
        is_ready =
            ap (λ (b : Body). ready w d.line d.time f b (after_all w (between ++ first ∷ before))) of_one.follow_is
            ∙ takes-last_follow.ready_is

        port_low : port.begun ≤ first.line
        port_low =
            subst (λ (begun : ℕ). begun ≤ first.line)
            (follow-begun w (between ++ first ∷ before) d f of_one.follow_said of_one.of_master precise of_one.follow_is
            takes-last_follow) low

        held : HoldsSync w n value (count_by (says (is_master_sync w)) between)
            (count_by (says (is_master_sync w)) between) port.first port.calls port.syncs port.asked
        held =
            carried w d first.line below
            (HoldsSync w n value (count_by (says (is_master_sync w)) between)
            (count_by (says (is_master_sync w)) between)) f of_one.follow_said
            (after_all w (between ++ first ∷ before)) port is_ready
            (sync-stays w first d between before numbered n value
            (sync-held w before first s of_one.sync_said sync_parts.0 sync_origin.0 sync_origin.1 takes-first_sync)
            between (numbered-rest d (between ++ first ∷ before) numbered) alone few_syncs)
            port_low

        found : first_value n (held_syncs (setup_in w port) port.calls) ≡ Some value
        found =
            held-found (count_by (says (is_master_sync w)) between) n value (kept (setup_in w port) port.calls).syncs
            port.syncs (count_by (says (is_master_sync w)) between) table_capacity few_syncs held

  -- the Sync comes last
  module _ (of_one : AreOfOneSync w d first s f precise) where
    last_parts : (is_of w w.master s.header ≡ true) × (is_sync s.body ≡ true)
    last_parts = and_parts (is_of w w.master s.header) (is_sync s.body) of_one.sync_is

    last_origin : (origin : Stamp) × (s.body ≡ bodies.Sync origin)
    last_origin = sync-body s.body last_parts.1

    first_follow_master : is_master_follow_up w f ≡ true
    first_follow_master =
        and_from (is_of w w.master f.header) (is_follow_up f.body) of_one.of_master (ap is_follow_up of_one.follow_is)

    takes-first_follow : TakesFollow w before first f precise
    takes-first_follow = by taken
      where
        by : ((NoneIsKnown w n before
            × IsNotBehind w n (within_syncs w (between ++ first ∷ before) recent_syncs)
            × IsNear w before first × IsNear w (between ++ first ∷ before) d)
            ⊎ (IsTrue (is_used w before first) × IsTrue (is_used w (between ++ first ∷ before) d)))
            → TakesFollow w before first f precise
        by (inl new) =
            takes-follow w before first f of_one.follow_said of_one.of_master of_one.small_follow precise of_one.follow_is
            (subst (λ (number : ℕ). IsNotBehind w number (within_syncs w before 12288)) (sym of_one.number)
            (newest-of new.1))
            (subst (λ (number : ℕ). NoneSays (with_number (is_master_follow_up w) number)
            (last_heard w (with_flag (is_master_follow_up w) (is_unicast f.header)) before)) (sym of_one.number)
            (new.0 (is_unicast f.header)).1)
            (subst (λ (number : ℕ). All (IsNearBy (is_master_sync w) number first.time)
            (last_heard w (with_flag (is_master_sync w) (is_unicast f.header)) before)) (sym of_one.number)
            (near-of (is_master_sync w) (with_flag (is_master_sync w) (is_unicast f.header)) first.time
            (new.0 (is_unicast f.header)).0))
            (fits-newest w before first f of_one.follow_said first_follow_master new.2)
        by (inr used) = takes-used_follow w before first f of_one.follow_said precise of_one.follow_is used.0

    takes-last_sync : TakesSync w all_until d s
    takes-last_sync = by taken
      where
        by : ((NoneIsKnown w n before
            × IsNotBehind w n (within_syncs w (between ++ first ∷ before) recent_syncs)
            × IsNear w before first × IsNear w (between ++ first ∷ before) d)
            ⊎ (IsTrue (is_used w before first) × IsTrue (is_used w (between ++ first ∷ before) d)))
            → TakesSync w (between ++ first ∷ before) d s
        by (inl new) =
            takes-sync w (between ++ first ∷ before) d s of_one.sync_said last_parts.0 of_one.small_sync last_origin.0
            last_origin.1 of_one.two_step (newest-all new.1)
            (none-until (is_master_sync w) (with_flag (is_master_sync w) (is_unicast s.header)) (is_of_number-sync w n)
            (other-kind w is_sync n first f of_one.follow_said (ap is_sync of_one.follow_is))
            (new.0 (is_unicast s.header)).0)
        by (inr used) =
            takes-used_sync w (between ++ first ∷ before) d s of_one.sync_said last_origin.0 last_origin.1 of_one.two_step
            used.1

    by-sync : count_by (says (is_master_follow_up w)) between < table_capacity
        → CompletesSync w all_until d (completion_of d first s f precise)
    by-sync few_follow_ups =
        sync-completes w all_until d s of_one.sync_said last_parts.0 last_origin.0 last_origin.1 takes-last_sync value
        found
      where
        value : FollowValue
        value = record { precise = precise; correction = f.header.correction.0; tag = first.line }

        port : Listening
        port = takes-last_sync.port

        is_ready : ready w d.line d.time s s.body (after_all w (between ++ first ∷ before)) ≡ Some port
        is_ready =
            ap (λ (b : Body). ready w d.line d.time s b (after_all w (between ++ first ∷ before))) last_origin.1
            ∙ takes-last_sync.ready_is

        port_low : port.begun ≤ first.line
        port_low =
            subst (λ (begun : ℕ). begun ≤ first.line)
            (sync-begun w (between ++ first ∷ before) d s of_one.sync_said last_parts.0 last_origin.0 last_origin.1
            takes-last_sync.port takes-last_sync.ready_is) low

        base : HoldsFollow w n value 0 0 (after_all w (first ∷ before)).first (after_all w (first ∷ before)).calls
            (after_all w (first ∷ before)).syncs (after_all w (first ∷ before)).asked
        base =
            subst (λ (number : ℕ). HoldsFollow w number value 0 0 (after_all w (first ∷ before)).first
            (after_all w (first ∷ before)).calls (after_all w (first ∷ before)).syncs
            (after_all w (first ∷ before)).asked) of_one.number
            (follow-held w before first f of_one.follow_said of_one.of_master precise of_one.follow_is
            takes-first_follow)

        held : HoldsFollow w n value (count_by (says (is_master_follow_up w)) between)
            (count_by (says (is_master_sync w)) between) port.first port.calls port.syncs port.asked
        held =
            carried w d first.line below
            (HoldsFollow w n value (count_by (says (is_master_follow_up w)) between)
            (count_by (says (is_master_sync w)) between)) s of_one.sync_said (after_all w (between ++ first ∷ before))
            port is_ready
            (follow-stays w first d between before numbered n value base between
            (numbered-rest d (between ++ first ∷ before) numbered) alone few few_follow_ups)
            port_low

        found : first_value n (held_follows (setup_in w port) port.calls) ≡ Some value
        found =
            held-found (count_by (says (is_master_follow_up w)) between) n value
            (kept (setup_in w port) port.calls).follows port.syncs (count_by (says (is_master_sync w)) between)
            table_capacity few_follow_ups held

-- the line of the first message of a Sync's half
abbrev first_line : {w : Watched} {begun : ℕ} {earlier : List Recorded} {d : Recorded} {c : SyncCompletion}
    → ComesSync w begun earlier d c → ℕ
first_line (inl comes) = comes.first.line
first_line {d = d} (inr comes) = d.line

-- it isn't from before the line at which the port began
one-life : {w : Watched} {begun : ℕ} {earlier : List Recorded} {d : Recorded} {c : SyncCompletion}
    → (comes : ComesSync w begun earlier d c) → begun ≤ first_line comes
one-life (inl comes) = comes.one_life
one-life (inr comes) = comes.one_life

-- what is behind all of these is behind it
behind-first : {w : Watched} {begun : ℕ} {earlier : List Recorded} {d : Recorded} {c : SyncCompletion}
    → (comes : ComesSync w begun earlier d c) → (x : Recorded)
    → All (λ (e : Recorded). e.line < x.line) (d ∷ earlier) → first_line comes < x.line
behind-first {earlier = earlier} {d = d} (inl comes) x are =
    let P : Recorded → Type 0 = λ e. e.line < x.line in
    All-head P comes.first comes.before
    (all-right P comes.between (comes.first ∷ comes.before) (subst (All P) comes.there (All-tail P d earlier are)))
behind-first {earlier = earlier} {d = d} (inr comes) x are = All-head (λ (e : Recorded). e.line < x.line) d earlier are

-- what comes completes
module _ (w : Watched) (earlier : List Recorded) (d : Recorded) (begun : ℕ) (numbered : AreNumbered (d ∷ earlier))
  where
    comes-one_step : (c : SyncCompletion) → ComesOneStep w begun earlier d c → CompletesSync w earlier d c
    comes-one_step c comes =
        subst (CompletesSync w earlier d) (sym comes.is)
        (sync-brings w earlier d comes.s one.said one.of_master comes.origin one.sync_is takes.port takes.ready_is
        (completion_of_one_step d comes.s comes.origin) takes.completes)
      where
        one : IsOneStep w d comes.s comes.origin
        one = comes.one_step

        by : IsTaken w comes.s.header earlier d → TakesOneStep w earlier d comes.s comes.origin
        by (inl new) =
            takes-one_step w earlier d comes.s one.said one.of_master one.small comes.origin one.sync_is one.one_step
            (within-fewer w
            (λ (e : Recorded). says (λ (m : Contents). tells_departure w m
            && is_not_newer (Some m.header.sequence.0) comes.s.header.sequence.0) e ≡ false) earlier 12288 recent_syncs
            (omega arith) new.1) new.0.0
        by (inr used) =
            takes-used_one_step w earlier d comes.s one.said comes.origin one.sync_is one.one_step used

        takes : TakesOneStep w earlier d comes.s comes.origin
        takes = by comes.taken

    comes-two_step : (c : SyncCompletion) → (comes : ComesTwoStep w begun earlier d c)
        → (after_all w (d ∷ earlier)).begun ≤ comes.first.line → CompletesSync w earlier d c
    comes-two_step c comes low =
        subst (λ (ds : List Recorded). CompletesSync w ds d c) (sym comes.there)
        (subst (CompletesSync w (comes.between ++ comes.first ∷ comes.before) d) (sym comes.is) (by comes.order))
      where
        numbered_so : AreNumbered (d ∷ (comes.between ++ comes.first ∷ comes.before))
        numbered_so = subst (λ (ds : List Recorded). AreNumbered (d ∷ ds)) comes.there numbered

        low_so : (after_all w (d ∷ (comes.between ++ comes.first ∷ comes.before))).begun ≤ comes.first.line
        low_so = subst (λ (ds : List Recorded). (after_all w (d ∷ ds)).begun ≤ comes.first.line) comes.there low

        by : AreInOrder w comes.sync comes.follow comes.first d comes.between
            → CompletesSync w (comes.between ++ comes.first ∷ comes.before) d
            (completion_of comes.sync comes.follow comes.s comes.f comes.precise)
        by (SyncFirst first_is last_is few_syncs) =
            let of_one : AreOfOneSync w comes.first d comes.s comes.f comes.precise =
            subst (λ (x : Recorded). AreOfOneSync w x d comes.s comes.f comes.precise) (sym first_is)
            (subst (λ (x : Recorded). AreOfOneSync w comes.sync x comes.s comes.f comes.precise) (sym last_is)
            comes.of_one) in
            subst (CompletesSync w (comes.between ++ comes.first ∷ comes.before) d)
            (λ i. completion_of (first_is i) (last_is i) comes.s comes.f comes.precise)
            (by-follow_up w comes.first d comes.s comes.f comes.precise comes.between comes.before comes.alone
            (omega arith) comes.taken numbered_so low_so of_one few_syncs)
        by (FollowUpFirst first_is last_is few_follow_ups few) =
            let of_one : AreOfOneSync w d comes.first comes.s comes.f comes.precise =
            subst (λ (x : Recorded). AreOfOneSync w x comes.first comes.s comes.f comes.precise) (sym last_is)
            (subst (λ (x : Recorded). AreOfOneSync w comes.sync x comes.s comes.f comes.precise) (sym first_is)
            comes.of_one) in
            subst (CompletesSync w (comes.between ++ comes.first ∷ comes.before) d)
            (λ i. completion_of (last_is i) (first_is i) comes.s comes.f comes.precise)
            (by-sync w comes.first d comes.s comes.f comes.precise comes.between comes.before comes.alone few
            comes.taken numbered_so low_so of_one few_follow_ups)

    comes-sync : (c : SyncCompletion) → (comes : ComesSync w begun earlier d c)
        → (after_all w (d ∷ earlier)).begun ≤ first_line comes → CompletesSync w earlier d c
    comes-sync c (inl comes) low = comes-two_step c comes low
    comes-sync c (inr comes) low = comes-one_step c comes

    comes-delay : (c : DelayCompletion) → (comes : ComesDelay w begun earlier d c)
        → (after_all w (d ∷ earlier)).begun ≤ comes.request.line → CompletesDelay w earlier d c
    comes-delay c comes low =
        subst (λ (ds : List Recorded). CompletesDelay w ds d c) (sym comes.there)
        (subst (CompletesDelay w until d) (sym comes.is)
        (subst (CompletesDelay w until d)
        (ap (λ (number : ℕ). responded number response_is request_is comes.request.time) of_one.number)
        (response-completes w until d comes.r of_one.response_said of_one.of_master comes.receive of_one.requesting
        of_one.response_is takes comes.request.time comes.request.line
        (subst (λ (number : ℕ). first_value number (held_requests (setup_in w takes.port) takes.port.calls)
        ≡ Some request_is) (sym of_one.number) found))))
      where
        of_one : AreOfOneRequest w comes.request d comes.q comes.r comes.receive
        of_one = comes.of_one

        until : List Recorded
        until = comes.between ++ comes.request ∷ comes.before

        request_is : RequestValue
        request_is = record { t3 = Some comes.request.time; tag = comes.request.line }

        response_is : ResponseValue
        response_is = record { receive = comes.receive; correction = comes.r.header.correction.0; tag = d.line }

        numbered_so : AreNumbered (d ∷ (comes.between ++ comes.request ∷ comes.before))
        numbered_so = subst (λ (ds : List Recorded). AreNumbered (d ∷ ds)) comes.there numbered

        low_so : (after_all w (d ∷ (comes.between ++ comes.request ∷ comes.before))).begun ≤ comes.request.line
        low_so = subst (λ (ds : List Recorded). (after_all w (d ∷ ds)).begun ≤ comes.request.line) comes.there low

        takes : TakesResponse w (comes.between ++ comes.request ∷ comes.before) d comes.r comes.receive of_one.requesting
        takes = by comes.taken
          where
            by : (NoneSays (with_number (is_own_response w) comes.q.header.sequence.0)
                (last_heard w (is_own_response w) (comes.between ++ comes.request ∷ comes.before))
                ⊎ IsTrue (is_used w (comes.between ++ comes.request ∷ comes.before) d))
                → TakesResponse w (comes.between ++ comes.request ∷ comes.before) d comes.r comes.receive of_one.requesting
            by (inl alone) =
                takes-response w (comes.between ++ comes.request ∷ comes.before) d comes.r of_one.response_said
                of_one.of_master of_one.small comes.receive of_one.requesting of_one.response_is of_one.to_slave
                (subst (λ (number : ℕ). NoneSays (with_number (is_own_response w) number)
                (last_heard w (is_own_response w) (comes.between ++ comes.request ∷ comes.before))) (sym of_one.number)
                alone)
            by (inr used) =
                takes-used_response w (comes.between ++ comes.request ∷ comes.before) d comes.r of_one.response_said
                comes.receive of_one.requesting of_one.response_is used

        port_low : takes.port.begun ≤ comes.request.line
        port_low =
            subst (λ (begun : ℕ). begun ≤ comes.request.line)
            (response-begun w (comes.between ++ comes.request ∷ comes.before) d comes.r of_one.response_said
            of_one.of_master comes.receive of_one.requesting of_one.response_is takes) low_so

        held : HasRequest w comes.q.header.sequence.0
            (record { t3 = Some comes.request.time; tag = comes.request.line }) takes.port.first takes.port.calls
            takes.port.syncs takes.port.asked
        held =
            carried w d comes.request.line (first-below d comes.request comes.between comes.before numbered_so)
            (HasRequest w comes.q.header.sequence.0
            (record { t3 = Some comes.request.time; tag = comes.request.line })) comes.r of_one.response_said
            (after_all w (comes.between ++ comes.request ∷ comes.before)) takes.port
            (ap (λ (b : Body). ready w d.line d.time comes.r b
            (after_all w (comes.between ++ comes.request ∷ comes.before))) of_one.response_is ∙ takes.ready_is)
            (request-stays w comes.request.line (comes.request ∷ comes.before) comes.q.header.sequence.0
            (record { t3 = Some comes.request.time; tag = comes.request.line }) of_one.in_range
            (request-held w comes.before comes.request comes.q of_one.request_said of_one.request_is of_one.in_range
            (subst (λ (o : Option ℕ). IfSome o (λ last. (of_count last == comes.q.header.sequence.0) ≡ false))
            (last-same w comes.before) comes.another))
            comes.between
            (are-later comes.request.line comes.between (comes.request ∷ comes.before)
            (numbered-rest d (comes.between ++ comes.request ∷ comes.before) numbered_so)
            (λ x below. All-head (λ (e : Recorded). e.line < x.line) comes.request comes.before below))
            comes.few)
            port_low

        found : first_value comes.q.header.sequence.0 (held_requests (setup_in w takes.port) takes.port.calls)
            ≡ Some (record { t3 = Some comes.request.time; tag = comes.request.line })
        found = held.newest table_capacity held.few

-- what stands is the last
module _ (w : Watched) (begun : ℕ) (earlier : List Recorded) (numbered : AreNumbered earlier) where
  stands-sync : (c : SyncCompletion) → (stands : StandsSync w begun earlier c)
      → (after_all w earlier).begun ≤ first_line stands.comes
      → EndsWithSync w c (count_by (says (is_master_sync w)) stands.later) (after_all w earlier).first
      (after_all w earlier).calls (after_all w earlier).syncs (after_all w earlier).asked
  stands-sync c stands low =
      subst (λ (ds : List Recorded). EndsWithSync w c (count_by (says (is_master_sync w)) stands.later)
      (after_all w ds).first (after_all w ds).calls (after_all w ds).syncs (after_all w ds).asked) (sym stands.there)
      (sync-is_last w (first_line stands.comes) from c base stands.later
      (are-later (first_line stands.comes) stands.later from numbered_so (behind-first stands.comes)) stands.quiet stands.few
      (subst (λ (ds : List Recorded). (after_all w ds).begun ≤ first_line stands.comes) stands.there low))
    where
      from : List Recorded
      from = stands.last ∷ stands.before

      numbered_so : AreNumbered (stands.later ++ stands.last ∷ stands.before)
      numbered_so = subst AreNumbered stands.there numbered

      base : (after_all w (stands.last ∷ stands.before)).begun ≤ first_line stands.comes
          → EndsWithSync w c 0 (after_all w (stands.last ∷ stands.before)).first
          (after_all w (stands.last ∷ stands.before)).calls (after_all w (stands.last ∷ stands.before)).syncs
          (after_all w (stands.last ∷ stands.before)).asked
      base low_there =
          (comes-sync w stands.before stands.last begun
          (numbered-part stands.later (stands.last ∷ stands.before) numbered_so) c stands.comes low_there).after

  stands-delay : (c : DelayCompletion) → (stands : StandsDelay w begun earlier c)
      → (after_all w earlier).begun ≤ stands.comes.request.line
      → EndsWithDelay w c (count_by (says (is_master_sync w)) stands.later) (after_all w earlier).first
      (after_all w earlier).calls (after_all w earlier).syncs (after_all w earlier).asked
  stands-delay c stands low =
      subst (λ (ds : List Recorded). EndsWithDelay w c (count_by (says (is_master_sync w)) stands.later)
      (after_all w ds).first (after_all w ds).calls (after_all w ds).syncs (after_all w ds).asked) (sym stands.there)
      (delay-is_last w stands.comes.request.line from c base stands.later
      (are-later stands.comes.request.line stands.later from numbered_so below_of) stands.quiet stands.few
      (subst (λ (ds : List Recorded). (after_all w ds).begun ≤ stands.comes.request.line) stands.there low))
    where
      from : List Recorded
      from = stands.last ∷ stands.before

      numbered_so : AreNumbered (stands.later ++ stands.last ∷ stands.before)
      numbered_so = subst AreNumbered stands.there numbered

      base : (after_all w (stands.last ∷ stands.before)).begun ≤ stands.comes.request.line
          → EndsWithDelay w c 0 (after_all w (stands.last ∷ stands.before)).first
          (after_all w (stands.last ∷ stands.before)).calls (after_all w (stands.last ∷ stands.before)).syncs
          (after_all w (stands.last ∷ stands.before)).asked
      base low_there =
          (comes-delay w stands.before stands.last begun
          (numbered-part stands.later (stands.last ∷ stands.before) numbered_so) c stands.comes low_there).after

      below_of : (x : Recorded) → All (λ (e : Recorded). e.line < x.line) (stands.last ∷ stands.before)
          → stands.comes.request.line < x.line
      below_of x are =
          All-head (λ (e : Recorded). e.line < x.line) stands.comes.request stands.comes.before
          (all-right (λ (e : Recorded). e.line < x.line) stands.comes.between
          (stands.comes.request ∷ stands.comes.before)
          (subst (All (λ (e : Recorded). e.line < x.line)) stands.comes.there
          (All-tail (λ (e : Recorded). e.line < x.line) stands.last stands.before are)))

-- the law
pub each_exchange : EachExchangeIsFound
each_exchange w earlier d sync delay numbered exchange =
    by (subst (λ (begun : ℕ). ComesAnExchange w begun earlier d sync delay) (sym (each_beginning w (d ∷ earlier))) exchange)
  where
    -- the report of what is answered
    reported : (heard : HeardAt w earlier d)
        → (is_none (sync_completion (setup_at w heard) heard.port.calls heard.call)
        && is_none (delay_completion (setup_at w heard) heard.port.calls heard.call)) ≡ false
        → last_sync_completion (setup_at w heard) (heard.call ∷ heard.port.calls) ≡ Some sync
        → last_delay_completion (setup_at w heard) (heard.call ∷ heard.port.calls) ≡ Some delay
        → report_at w earlier d ≡ Some (report_of sync delay)
    reported heard completes sync_is delay_is =
        report_is w earlier d heard
        ∙ answered_report (setup_at w heard) heard.port.calls heard.call
        ∙ ap (λ (b : Bool). if b then None else report_of_both
        (last_sync_completion (setup_at w heard) (heard.call ∷ heard.port.calls))
        (last_delay_completion (setup_at w heard) (heard.call ∷ heard.port.calls))) completes
        ∙ (λ i. report_of_both (sync_is i) (delay_is i))

    -- it is behind all of a part
    all-below : (later part : List Recorded) → earlier ≡ later ++ part → All (λ (e : Recorded). e.line < d.line) part
    all-below later part there =
        let P : Recorded → Type 0 = λ e. e.line < d.line in
        all-right P later part (subst (All P) there (numbered-below d earlier numbered))

    by-delay_stands : ComesSync w (after_all w (d ∷ earlier)).begun earlier d sync
        → StandsDelay w (after_all w (d ∷ earlier)).begun earlier delay
        → report_at w earlier d ≡ Some (report_of sync delay)
    by-delay_stands comes stands =
        reported done.heard
        (and_left (is_none (sync_completion (setup_at w done.heard) done.heard.port.calls done.heard.call))
        (is_none (delay_completion (setup_at w done.heard) done.heard.port.calls done.heard.call)) done.completes)
        done.sync_is
        (done.delay_is
        ∙ last-found delay (delay_completions (setup_at w done.heard) done.heard.port.calls) done.heard.port.syncs
        (count_by (says (is_master_sync w)) stands.later)
        (carried w d stands.comes.request.line behind
        (EndsWithDelay w delay (count_by (says (is_master_sync w)) stands.later)) done.heard.m done.heard.said
        (after_all w earlier) done.heard.port done.heard.ready_is
        (stands-delay w (after_all w (d ∷ earlier)).begun earlier (numbered-rest d earlier numbered) delay stands)
        (subst (λ (begun : ℕ). begun ≤ stands.comes.request.line) done.begun_is stands.comes.one_life)))
      where
        done : CompletesSync w earlier d sync
        done = comes-sync w earlier d (after_all w (d ∷ earlier)).begun numbered sync comes (one-life comes)

        behind : stands.comes.request.line < d.line
        behind =
            let P : Recorded → Type 0 = λ e. e.line < d.line in
            All-head P stands.comes.request stands.comes.before
            (all-right P stands.comes.between (stands.comes.request ∷ stands.comes.before)
            (subst (All P) stands.comes.there
            (All-tail P stands.last stands.before
            (all-below stands.later (stands.last ∷ stands.before) stands.there))))

    by-sync_stands : StandsSync w (after_all w (d ∷ earlier)).begun earlier sync
        → ComesDelay w (after_all w (d ∷ earlier)).begun earlier d delay
        → report_at w earlier d ≡ Some (report_of sync delay)
    by-sync_stands stands comes =
        reported done.heard
        (and_right (is_none (sync_completion (setup_at w done.heard) done.heard.port.calls done.heard.call))
        (is_none (delay_completion (setup_at w done.heard) done.heard.port.calls done.heard.call)) done.completes)
        (done.sync_is
        ∙ last-found sync (kept (setup_at w done.heard) done.heard.port.calls).completions done.heard.port.syncs
        (count_by (says (is_master_sync w)) stands.later)
        (carried w d (first_line stands.comes) behind
        (EndsWithSync w sync (count_by (says (is_master_sync w)) stands.later)) done.heard.m done.heard.said
        (after_all w earlier) done.heard.port done.heard.ready_is
        (stands-sync w (after_all w (d ∷ earlier)).begun earlier (numbered-rest d earlier numbered) sync stands)
        (subst (λ (begun : ℕ). begun ≤ first_line stands.comes) done.begun_is (one-life stands.comes))))
        done.delay_is
      where
        done : CompletesDelay w earlier d delay
        done = comes-delay w earlier d (after_all w (d ∷ earlier)).begun numbered delay comes comes.one_life

        behind : first_line stands.comes < d.line
        behind =
            behind-first stands.comes d (all-below stands.later (stands.last ∷ stands.before) stands.there)

    by : (ComesSync w (after_all w (d ∷ earlier)).begun earlier d sync
        × StandsDelay w (after_all w (d ∷ earlier)).begun earlier delay)
        ⊎ (StandsSync w (after_all w (d ∷ earlier)).begun earlier sync
        × ComesDelay w (after_all w (d ∷ earlier)).begun earlier d delay)
        → report_at w earlier d ≡ Some (report_of sync delay)
    by (inl both) = by-delay_stands both.0 both.1
    by (inr both) = by-sync_stands both.0 both.1
