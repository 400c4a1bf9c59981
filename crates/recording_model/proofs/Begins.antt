-- A listening port begins anew exactly where a recording tells that the slave or the master did.
use Rattle.std.proofs.Common.{◌≡◌, ◌∙◌, ℕ, Bool, true, false, List, [], ◌∷◌, Option, Some, None, Ok, Err}
use Rattle.std.proofs.Common.{refl, sym, ap, subst, is_some, if◌then◌else◌, option_and_then}
use Rattle.std.specs.Prelude.{◌==◌, ◌&&◌, ◌||◌, not, nat_lt}
use Rattle.std.specs.Option.{option_map_or, option_or}
use Rattle.std.specs.Result.{result_ok}
use Rattle.std.proofs.lemmas.Bool.{and_right, or_parts, not-false}
use Rattle.ptp_units.specs.Sequence.{next, ahead}
use Rattle.event_codec.specs.declared.message.Body.{Body}
use Rattle.event_codec.specs.declared.message.Body.TheVariants as bodies
use Rattle.event_codec.specs.Packet.{Contents}
use Rattle.event_codec.specs.Port.{is_same_port}
use Rattle.event_codec.specs.Reading.{Reading}
use Rattle.pairing.specs.Marked.{entry}
use Rattle.sync_watch.specs.declared.judgement.Judgement.{Judgement}
use Rattle.sync_watch.specs.declared.judgement.Judgement.TheVariants.{Newer, Repeated, BeganAnew}
use Rattle.sync_watch.specs.declared.arrival.Arrival.{Arrival}
use Rattle.sync_watch.specs.Told.{Told, Sync, FollowUp, known}
use Rattle.sync_watch.specs.Judged.{judged_sync, is_repeated, after, after_sync, after_follow_up}
use Rattle.slave_port.specs.History as calls
use Rattle.slave_port.specs.History.{Call, next_number}
use Rattle.recording_model.specs.declared.watched.Watched.{Watched}
use Rattle.recording_model.specs.Recorded.{Recorded}
use Rattle.recording_model.specs.Listening.{Listening, setup_in, table_capacity, is_of}
use Rattle.recording_model.specs.Listening.{with_count, told, arrival_of, ready_judged, ready_followed}
use Rattle.recording_model.specs.Listening.{hears_ready, asks, anew, hears_request, hears, hear, after_all}
use Rattle.recording_model.specs.Told.{own_request, last_request}
use Rattle.recording_model.specs.Finds.{is_delay_req, is_own_request}
use Rattle.recording_model.specs.Begins.{is_leap, told_with, told_of_master}
use Rattle.recording_model.specs.Begins.{is_beginning, begins_with, begun_at, EachBeginningIsTold}
use Rattle.recording_model.proofs.Said.{last_number, after-last}
use Rattle.recording_model.proofs.Takes.{counted-so}

-- what a port was told of the master, at which line it began, and whether it was asked for a request
abbrev Is : List Told → (begun : ℕ) → (asked : Bool) → Listening → Type 0
Is heard begun asked l = (l.heard ≡ heard) × (l.begun ≡ begun) × (l.asked ≡ asked)

-- a Sync that counts changes nothing of it
is-counted : (heard : List Told) (begun : ℕ) (asked : Bool) (r : Listening) → Is heard begun asked r
    → Is heard begun asked (with_count r)
is-counted heard begun asked r is = counted-so (Is heard begun asked) r is (λ full. is)

-- the last Delay_Req of the slave, by either definition
module _ (w : Watched) where
  number-of : (m : Contents) (body : Body)
      → own_request w m.header body
      ≡ (if is_of w w.slave m.header && is_delay_req body then Some m.header.sequence.0 else None)
  number-of m (bodies.Sync origin) =
      sym (ap (λ (b : Bool). if b then Some m.header.sequence.0 else None)
      (and_right (is_of w w.slave m.header) false refl))
  number-of m (bodies.DelayReq origin) = by (is_of w w.slave m.header)
    where
      by : (own : Bool)
          → (if own then Some m.header.sequence.0 else None)
          ≡ (if own && true then Some m.header.sequence.0 else None)
      by true = refl
      by false = refl
  number-of m (bodies.FollowUp precise) =
      sym (ap (λ (b : Bool). if b then Some m.header.sequence.0 else None)
      (and_right (is_of w w.slave m.header) false refl))
  number-of m (bodies.DelayResp receive requesting) =
      sym (ap (λ (b : Bool). if b then Some m.header.sequence.0 else None)
      (and_right (is_of w w.slave m.header) false refl))

  pub last-same : (ds : List Recorded) → last_request w ds ≡ last_number w ds
  last-same [] = refl
  last-same (d ∷ ds) = λ i. option_or (by d.said i) (last-same ds i)
    where
      by : (said : Reading)
          → option_and_then (λ m. own_request w m.header m.body) (result_ok said)
          ≡ option_and_then (λ m. if is_own_request w m then Some m.header.sequence.0 else None) (result_ok said)
      by (Ok m) = number-of m m.body
      by (Err refusal) = refl

-- a datagram after these
module _ (w : Watched) (x : Recorded) (ds : List Recorded) where
  abbrev l : Listening
  l = after_all w ds

  -- a Sync of the master, by what its number says
  module _ (m : Contents) where
    abbrev call : Call
    call = calls.Event (Ok m) x.time x.line

    abbrev a : Arrival
    a = arrival_of m.header x.time

    judged-is : (j : Judgement)
        → Is (after j a (Sync a) l.heard) (if is_beginning j then x.line else l.begun) l.asked
        (hears_ready true call (ready_judged j w x.line a l) l)
    judged-is Newer =
        is-counted (Sync a ∷ l.heard) l.begun l.asked
        (told call (record (after_all w ds) { heard = Sync (arrival_of m.header x.time) ∷ (after_all w ds).heard }))
        (refl, refl, refl)
    judged-is Repeated = (refl, refl, refl)
    judged-is BeganAnew =
        is-counted (Sync a ∷ []) x.line l.asked
        (told call (record (after_all w ds) {
          calls = calls.SetMaster w.master ∷ (after_all w ds).calls;
          heard = Sync (arrival_of m.header x.time) ∷ [];
          responses = [];
          begun = x.line;
        })) (refl, refl, refl)

    sync-is : (of_master : Bool)
        → Is (if of_master then after_sync a table_capacity l.heard else l.heard)
        (if of_master && is_beginning (judged_sync a table_capacity l.heard) then x.line else l.begun) l.asked
        (hears_ready of_master call
        (if of_master then ready_judged (judged_sync a table_capacity l.heard) w x.line a l else Some l) l)
    sync-is true = judged-is (judged_sync a table_capacity l.heard)
    sync-is false = (refl, refl, refl)

    -- a Follow_Up
    follow-is : (of_master : Bool)
        → Is (if of_master then after_follow_up a table_capacity l.heard else l.heard) l.begun l.asked
        (hears_ready false (calls.General (Ok m) x.line)
        (if of_master then ready_followed (if is_repeated a table_capacity l.heard then Repeated else Newer) a l
        else Some l) l)
    follow-is true = by (is_repeated a table_capacity l.heard)
      where
        by : (again : Bool)
            → Is (if again then l.heard else FollowUp a ∷ l.heard) l.begun l.asked
            (hears_ready false (calls.General (Ok m) x.line)
            (ready_followed (if again then Repeated else Newer) a l) l)
        by true = (refl, refl, refl)
        by false = (refl, refl, refl)
    follow-is false = (refl, refl, refl)

    -- a Delay_Resp
    response-is : (own again : Bool)
        → Is l.heard l.begun l.asked
        (hears_ready false (calls.General (Ok m) x.line)
        (if not own then Some l else if again then None
        else Some (record (after_all w ds) {
          responses = entry m.header.sequence.0 x.time ∷ (after_all w ds).responses;
        })) l)
    response-is false again = (refl, refl, refl)
    response-is true true = (refl, refl, refl)
    response-is true false = (refl, refl, refl)

  -- a Delay_Req of the slave
  module _ (number : ℕ) where
    abbrev distance : ℕ
    distance = ahead number (next_number (setup_in w (after_all w ds)) (after_all w ds).calls)

    request-is : (near same : Bool) → (near ≡ false → l.asked ≡ true)
        → Is l.heard (if not near && not same then x.line else l.begun) true
        (if near then asks w x.line x.time number l else if same then l
        else asks w x.line x.time number (anew w x.line number l))
    request-is true same asked = (refl, refl, refl)
    request-is false true asked = (refl, refl, asked refl)
    request-is false false asked = (refl, refl, refl)

    asked-where_far : (not l.asked || nat_lt distance table_capacity) ≡ false → l.asked ≡ true
    asked-where_far far = not-false l.asked (or_parts (not l.asked) (nat_lt distance table_capacity) far).0

    hears-is : Is l.heard
        (if not (not l.asked || nat_lt distance table_capacity) && not (distance == 65535) then x.line else l.begun)
        true (hears_request w x.line x.time number l)
    hears-is = request-is (not l.asked || nat_lt distance table_capacity) (distance == 65535) asked-where_far

    -- by the last one before
    asked-is : (last : Option ℕ) → last_number w ds ≡ last → l.asked ≡ is_some last
        → Is l.heard (if option_map_or (λ last. is_leap last number) last false then x.line else l.begun) true
        (hears_request w x.line x.time number l)
    asked-is None last asked =
        subst (λ (b : Bool). Is l.heard (if b then x.line else l.begun) true (hears_request w x.line x.time number l))
        (ap (λ (b : Bool). not (not b || nat_lt distance table_capacity) && not (distance == 65535)) asked) hears-is
    asked-is (Some before) last asked =
        let one = (after-last w ds).last asked in
        let both : Some before ≡ Some one.0 = sym last ∙ one.1 in
        let same : one.0 ≡ before = cc in
        let next_is : next_number (setup_in w (after_all w ds)) (after_all w ds).calls ≡ next before =
        one.2 ∙ ap next same in
        subst (λ (b : Bool). Is l.heard (if b then x.line else l.begun) true (hears_request w x.line x.time number l))
        (λ i. not (not (asked i) || nat_lt (ahead number (next_is i)) table_capacity)
        && not (ahead number (next_is i) == 65535)) hears-is

  -- whatever it says
  module _ (is : Is (told_of_master w ds) (begun_at w ds) (is_some (last_request w ds)) l) where
    -- of what the port was told, what is told
    moved : (change : List Told → List Told) (value : List Told → ℕ → ℕ) (asked : Bool → Bool) (r : Listening)
        → Is (change l.heard) (value l.heard l.begun) (asked l.asked) r
        → Is (change (told_of_master w ds)) (value (told_of_master w ds) (begun_at w ds))
        (asked (is_some (last_request w ds))) r
    moved change value asked r one =
        (one.0 ∙ ap change is.0, one.1 ∙ (λ i. value (is.0 i) (is.1 i)), one.2 ∙ ap asked is.2)

    body-is : (m : Contents) (body : Body)
        → Is (told_with w x m body (told_of_master w ds))
        (if begins_with w ds x m body then x.line else begun_at w ds)
        (is_some (option_or (own_request w m.header body) (last_request w ds)))
        (hears w x.line x.time m body l)
    body-is m (bodies.Sync origin) =
        moved
        (λ h. if is_of w w.master m.header then after_sync (arrival_of m.header x.time) table_capacity h else h)
        (λ h b. if is_of w w.master m.header && is_beginning (judged_sync (arrival_of m.header x.time) table_capacity h)
        then x.line else b)
        (λ k. k) (hears w x.line x.time m (bodies.Sync origin) l) (sync-is m (is_of w w.master m.header))
    body-is m (bodies.DelayReq origin) = by (is_of w w.slave m.header)
      where
        by : (own : Bool)
            → Is (told_of_master w ds)
            (if own && option_map_or (λ last. is_leap last m.header.sequence.0) (last_request w ds) false then x.line
            else begun_at w ds)
            (is_some (option_or (if own then Some m.header.sequence.0 else None) (last_request w ds)))
            (if own then hears_request w x.line x.time m.header.sequence.0 l else l)
        by true =
            moved (λ h. h)
            (λ h b. if option_map_or (λ last. is_leap last m.header.sequence.0) (last_request w ds) false then x.line
            else b)
            (λ k. true) (hears_request w x.line x.time m.header.sequence.0 l)
            (asked-is m.header.sequence.0 (last_request w ds) (sym (last-same w ds)) is.2)
        by false = is
    body-is m (bodies.FollowUp precise) =
        moved
        (λ h. if is_of w w.master m.header then after_follow_up (arrival_of m.header x.time) table_capacity h else h)
        (λ h b. b) (λ k. k) (hears w x.line x.time m (bodies.FollowUp precise) l)
        (follow-is m (is_of w w.master m.header))
    body-is m (bodies.DelayResp receive requesting) =
        moved (λ h. h) (λ h b. b) (λ k. k) (hears w x.line x.time m (bodies.DelayResp receive requesting) l)
        (response-is m (is_of w w.master m.header && is_same_port requesting w.slave)
        (is_some (known table_capacity m.header.sequence.0 l.responses)))

    step : Is (told_of_master w (x ∷ ds)) (begun_at w (x ∷ ds)) (is_some (last_request w (x ∷ ds))) (hear w x l)
    step = by x.said
      where
        by : (said : Reading)
            → Is (option_map_or (λ m. told_with w x m m.body (told_of_master w ds)) (result_ok said)
            (told_of_master w ds))
            (if option_map_or (λ m. begins_with w ds x m m.body) (result_ok said) false then x.line
            else begun_at w ds)
            (is_some (option_or (option_and_then (λ m. own_request w m.header m.body) (result_ok said))
            (last_request w ds)))
            (option_map_or (λ m. hears w x.line x.time m m.body l) (result_ok said) l)
        by (Ok m) = body-is m m.body
        by (Err refusal) = is

-- after all
after-told : (w : Watched) (ds : List Recorded)
    → Is (told_of_master w ds) (begun_at w ds) (is_some (last_request w ds)) (after_all w ds)
after-told w [] = (refl, refl, refl)
after-told w (x ∷ ds) = step w x ds (after-told w ds)

-- what it was told of the master
pub told-same : (w : Watched) (ds : List Recorded) → (after_all w ds).heard ≡ told_of_master w ds
told-same w ds = (after-told w ds).0

-- the law
pub each_beginning : EachBeginningIsTold
each_beginning w ds = (after-told w ds).1
