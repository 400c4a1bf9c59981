-- What completed stays in the window until a port begins anew, or 4,096 Syncs of the master came.
use Rattle.std.proofs.Common.{◌≡◌, ◌∙◌, ℕ, zero, suc, ◌+◌, ◌<◌, ◌≤◌, Bool, true, false, true≢false, List, [], ◌∷◌, ◌++◌, Option, Some, None, Ok, Err, refl, sym, ap, subst, arith}
use Rattle.std.specs.Prelude.{not, ◌&&◌, ◌||◌, ◌==◌, nat_lt, option_to_list, slice_get, is_some, if◌then◌else◌}
use Rattle.std.specs.Option.{option_map_or}
use Rattle.std.specs.Result.{result_ok}
use Rattle.std.proofs.lemmas.Bool.{eqb-true}
use Rattle.ptp_units.specs.Sequence.{ahead}
use Rattle.event_codec.specs.declared.message.Body.{Body}
use Rattle.event_codec.specs.declared.message.Body.TheVariants as bodies
use Rattle.event_codec.specs.declared.port.PortIdentity.{PortIdentity}
use Rattle.event_codec.specs.Packet.{Contents}
use Rattle.event_codec.specs.Port.{is_same_port}
use Rattle.event_codec.specs.Reading.{Reading}
use Rattle.pairing.specs.Marked.{entry}
use Rattle.sync_watch.specs.declared.judgement.Judgement.{Judgement}
use Rattle.sync_watch.specs.declared.judgement.Judgement.TheVariants.{Newer, Repeated, BeganAnew}
use Rattle.sync_watch.specs.Judged.{judged_sync, judged_follow_up}
use Rattle.sync_watch.specs.Told as told
use Rattle.sync_watch.specs.Told.{known}
use Rattle.slave_port.specs.History as calls
use Rattle.slave_port.specs.History.{Call, Setup, next_number}
use Rattle.slave_port.specs.Window.{Window, after, last}
use Rattle.recording_model.specs.declared.watched.Watched.{Watched}
use Rattle.recording_model.specs.Begins.{is_beginning}
use Rattle.recording_model.specs.Finds.{is_master_sync, says}
use Rattle.recording_model.specs.Listening.{Listening, arrival_of, setup_in, is_of, table_capacity, ticks_every, draws, asks, anew, hears_request, hears_ready, hears, hear}
use Rattle.recording_model.specs.Listening.{ready_judged, ready_sync, ready_follow_up, ready_followed, ready_response}
use Rattle.recording_model.specs.Told.{is_sync}
use Rattle.recording_model.specs.Recorded.{Recorded}
use Rattle.recording_laws.specs.OwnReported.{begins_at, begins_by}

-- something came
pub data IsThere {E : Type 0} : List E → Type 0 where
  There : (e : E) (es : List E) → IsThere (e ∷ es)

there-more : {E : Type 0} (brings : Option E) (es : List E) → IsThere es → IsThere (option_to_list brings ++ es)
there-more None es there = there
there-more (Some e) es there = There e es

-- something is in the window, before whose tick at most so many Syncs came
pub data Holds {E : Type 0} (syncs most : ℕ) (window : Window E) : Type 0 where
  Since : IsThere window.since → Holds syncs most window
  Before : IsThere window.before → syncs ≤ most → Holds syncs most window

-- so it is there
first-there : {E : Type 0} (es : List E) → IsThere es → (e : E) × (slice_get es 0 ≡ Some e)
first-there _ (There e es) = (e, refl)

first-behind : {E : Type 0} (newer es : List E) → IsThere es → (e : E) × (slice_get (newer ++ es) 0 ≡ Some e)
first-behind [] es there = first-there es there
first-behind (e ∷ newer) es there = (e, refl)

first-front : {E : Type 0} (es older : List E) → IsThere es → (e : E) × (slice_get (es ++ older) 0 ≡ Some e)
first-front _ older (There e es) = (e, refl)

pub holds-last : {E : Type 0} (syncs most : ℕ) (window : Window E) → Holds syncs most window → (e : E) × (last window ≡ Some e)
holds-last syncs most window (Since there) = first-front window.since window.before there
holds-last syncs most window (Before there few) = first-behind window.since window.before there

holds-more : {E : Type 0} (syncs most more : ℕ) (window : Window E) → most ≤ more → Holds syncs most window → Holds syncs more window
holds-more syncs most more window less (Since there) = Since there
holds-more syncs most more window less (Before there few) = Before there (omega (arith, few, less))

-- what calls leave in a window
module _ {E : Type 0} (F : Setup → List Call → Window E) (B : Setup → List Call → Call → Option E)
    (step : (setup : Setup) (call : Call) (earlier : List Call) → F setup (call ∷ earlier) ≡ after call (B setup earlier call) (F setup earlier))
    (w : Watched) where
  pub holds-event : (setup : Setup) (said : Reading) (t2 tag : ℕ) (earlier : List Call) (syncs most : ℕ) → Holds syncs most (F setup earlier)
      → Holds syncs most (F setup (calls.Event said t2 tag ∷ earlier))
  holds-event setup said t2 tag earlier syncs most holds =
      subst (Holds syncs most) (sym (step setup (calls.Event said t2 tag) earlier)) (by holds)
    where
      by : Holds syncs most (F setup earlier)
          → Holds syncs most (after (calls.Event said t2 tag) (B setup earlier (calls.Event said t2 tag)) (F setup earlier))
      by (Since there) = Since (there-more (B setup earlier (calls.Event said t2 tag)) (F setup earlier).since there)
      by (Before there few) = Before there few

  pub holds-general : (setup : Setup) (said : Reading) (tag : ℕ) (earlier : List Call) (syncs most : ℕ) → Holds syncs most (F setup earlier)
      → Holds syncs most (F setup (calls.General said tag ∷ earlier))
  holds-general setup said tag earlier syncs most holds =
      subst (Holds syncs most) (sym (step setup (calls.General said tag) earlier)) (by holds)
    where
      by : Holds syncs most (F setup earlier)
          → Holds syncs most (after (calls.General said tag) (B setup earlier (calls.General said tag)) (F setup earlier))
      by (Since there) = Since (there-more (B setup earlier (calls.General said tag)) (F setup earlier).since there)
      by (Before there few) = Before there few

  holds-draws : (setup : Setup) (count tag : ℕ) (earlier : List Call) (syncs most : ℕ) → Holds syncs most (F setup earlier)
      → Holds syncs most (F setup (draws count tag earlier))
  holds-draws setup zero tag earlier syncs most holds = holds
  holds-draws setup (suc count) tag earlier syncs most holds =
      subst (Holds syncs most) (sym (step setup (calls.NextRequest tag) (draws count tag earlier)))
      (holds-draws setup count tag earlier syncs most holds)

  holds-tick : (setup : Setup) (earlier : List Call) (syncs most more : ℕ) → syncs + 1 ≡ ticks_every → most < more → more < ticks_every
      → Holds syncs most (F setup earlier) → Holds 0 more (F setup (calls.Tick ∷ earlier))
  holds-tick setup earlier syncs most more full less few holds = subst (Holds 0 more) (sym (step setup calls.Tick earlier)) (by holds)
    where
      by : Holds syncs most (F setup earlier) → Holds 0 more (after calls.Tick (B setup earlier calls.Tick) (F setup earlier))
      by (Since there) = Before there (omega arith)
      by (Before there low) = absurd (omega (arith, low, full, less, few))

  -- the window of a port
  abbrev pub In : (most : ℕ) → Listening → Type 0
  In most l = Holds l.syncs most (F (setup_in w l) l.calls)

  asked_in : (line time number most : ℕ) (l : Listening) → In most l → In most (asks w line time number l)
  asked_in line time number most l holds =
      subst (Holds l.syncs most) (sym (step (setup_in w l) (calls.RequestLeft number time)
      (draws (ahead number (next_number (setup_in w l) l.calls) + 1) line l.calls)))
      (holds-draws (setup_in w l) (ahead number (next_number (setup_in w l) l.calls) + 1) line l.calls l.syncs most holds)

  -- a Sync of the master counts
  counted_in : (m : Contents) (line time most more : ℕ) (r : Listening) → most < more → more < ticks_every → In most r
      → In more (hears_ready true (calls.Event (Ok m) time line) (Some r) r)
  counted_in m line time most more r less few holds = by (r.syncs + 1 == ticks_every) refl
    where
      event : Holds r.syncs most (F (setup_in w r) (calls.Event (Ok m) time line ∷ r.calls))
      event = holds-event (setup_in w r) (Ok m) time line r.calls r.syncs most holds

      counted : Holds r.syncs most (F (setup_in w r) (calls.Event (Ok m) time line ∷ r.calls))
          → Holds (r.syncs + 1) more (F (setup_in w r) (calls.Event (Ok m) time line ∷ r.calls))
      counted (Since there) = Since there
      counted (Before there low) = Before there (omega (arith, low, less))

      by : (full : Bool) → (r.syncs + 1 == ticks_every) ≡ full
          → In more (if full then record r { calls = calls.Tick ∷ calls.Event (Ok m) time line ∷ r.calls; syncs = 0 }
          else record r { calls = calls.Event (Ok m) time line ∷ r.calls; syncs = r.syncs + 1 })
      by true full = holds-tick (setup_in w r) (calls.Event (Ok m) time line ∷ r.calls) r.syncs most more
          (eqb-true (r.syncs + 1) ticks_every full) less few event
      by false full = counted event

  -- how many Syncs of the master these are
  abbrev pub Counts : Recorded → (most more : ℕ) → Type 0
  Counts d most more = (most ≤ more) × (says (is_master_sync w) d ≡ true → most < more) × (more < ticks_every)

  -- a port that is to hear a message holds as much
  module _ (d : Recorded) (l : Listening) (most : ℕ) (holds : In most l) where
    as_in : (a b : Listening) → In most a → Some a ≡ Some b → In most b
    as_in a b holds is = let same : a ≡ b = cc in subst (In most) same holds

    followed_in : (m : Contents) (r : Listening) → ready_follow_up w d.time m l ≡ Some r → In most r
    followed_in m r is = by (is_of w w.master m.header) (judged_follow_up (arrival_of m.header d.time) table_capacity l.heard) is
      where
        by : (of_master : Bool) (j : Judgement)
            → (if of_master then ready_followed j (arrival_of m.header d.time) l else Some l) ≡ Some r → In most r
        by true Newer is = as_in (record l { heard = told.FollowUp (arrival_of m.header d.time) ∷ l.heard }) r holds is
        by true Repeated is = cc
        by true BeganAnew is = cc
        by false j is = as_in l r holds is

    pub response_in : (m : Contents) (requesting : PortIdentity) (r : Listening) → ready_response w d.time m requesting l ≡ Some r → In most r
    response_in m requesting r is = by (not (is_of w w.master m.header && is_same_port requesting w.slave))
        (is_some (known table_capacity m.header.sequence.0 l.responses)) is
      where
        by : (other again : Bool) → (if other then Some l else if again then None
            else Some (record l { responses = entry m.header.sequence.0 d.time ∷ l.responses })) ≡ Some r → In most r
        by true again is = as_in l r holds is
        by false true is = cc
        by false false is = as_in (record l { responses = entry m.header.sequence.0 d.time ∷ l.responses }) r holds is

    -- the port that is to hear a Sync, where that isn't the first of another life
    pub ready_sync_in : (m : Contents) (r : Listening) → (is_of w w.master m.header
        && is_beginning (judged_sync (arrival_of m.header d.time) table_capacity l.heard)) ≡ false
        → ready_sync w d.line d.time m l ≡ Some r → In most r
    ready_sync_in m r goes_on is =
        by (is_of w w.master m.header) (judged_sync (arrival_of m.header d.time) table_capacity l.heard) goes_on is
      where
        by : (of_master : Bool) (j : Judgement) → (of_master && is_beginning j) ≡ false
            → (if of_master then ready_judged j w d.line (arrival_of m.header d.time) l else Some l) ≡ Some r → In most r
        by false j goes_on is = as_in l r holds is
        by true Newer goes_on is = as_in (record l { heard = told.Sync (arrival_of m.header d.time) ∷ l.heard }) r holds is
        by true Repeated goes_on is = cc
        by true BeganAnew goes_on is = absurd (true≢false goes_on)

  module _ (d : Recorded) (l : Listening) (most more : ℕ) (counts : Counts d most more) (holds : In most l) where
    sync_in : (m : Contents) → (is_of w w.master m.header ≡ true → most < more) → (of_master : Bool) (j : Judgement)
        → is_of w w.master m.header ≡ of_master → (of_master && is_beginning j) ≡ false
        → In more (hears_ready of_master (calls.Event (Ok m) d.time d.line)
        (if of_master then ready_judged j w d.line (arrival_of m.header d.time) l else Some l) l)
    sync_in m less false j is goes_on =
        holds-more l.syncs most more (F (setup_in w l) (calls.Event (Ok m) d.time d.line ∷ l.calls)) counts.0
        (holds-event (setup_in w l) (Ok m) d.time d.line l.calls l.syncs most holds)
    sync_in m less true Newer is goes_on = counted_in m d.line d.time most more _ (less is) counts.2 holds
    sync_in m less true Repeated is goes_on = holds-more l.syncs most more (F (setup_in w l) l.calls) counts.0 holds
    sync_in m less true BeganAnew is goes_on = absurd (true≢false goes_on)

    request_in : (m : Contents) → (near same : Bool) → not (near || same) ≡ false
        → In more (if near then asks w d.line d.time m.header.sequence.0 l else if same then l
        else asks w d.line d.time m.header.sequence.0 (anew w d.line m.header.sequence.0 l))
    request_in m true same goes_on =
        asked_in d.line d.time m.header.sequence.0 more l (holds-more l.syncs most more (F (setup_in w l) l.calls) counts.0 holds)
    request_in m false true goes_on = holds-more l.syncs most more (F (setup_in w l) l.calls) counts.0 holds
    request_in m false false goes_on = absurd (true≢false goes_on)

    general_in : (m : Contents) (o : Option Listening) → ((r : Listening) → o ≡ Some r → In most r)
        → In more (hears_ready false (calls.General (Ok m) d.line) o l)
    general_in m None each = holds-more l.syncs most more (F (setup_in w l) l.calls) counts.0 holds
    general_in m (Some r) each = holds-more r.syncs most more (F (setup_in w r) (calls.General (Ok m) d.line ∷ r.calls)) counts.0
        (holds-general (setup_in w r) (Ok m) d.line r.calls r.syncs most (each r refl))

    hears_in : (m : Contents) (body : Body) → d.said ≡ Ok m → m.body ≡ body → begins_by w d.time m body l ≡ false
        → In more (hears w d.line d.time m body l)
    hears_in m (bodies.Sync origin) said is goes_on =
        sync_in m (λ of_master. counts.1 (
        ap (λ (s : Reading). option_map_or (is_master_sync w) (result_ok s) false) said
        ∙ ap (λ (b : Bool). b && is_sync m.body) of_master ∙ ap (λ (b : Body). is_sync b) is))
        (is_of w w.master m.header) (judged_sync (arrival_of m.header d.time) table_capacity l.heard) refl goes_on
    hears_in m (bodies.DelayReq origin) said is goes_on = by (is_of w w.slave m.header) goes_on
      where
        by : (own : Bool) → (own && not ((not l.asked || nat_lt (ahead m.header.sequence.0 (next_number (setup_in w l) l.calls)) table_capacity)
            || ahead m.header.sequence.0 (next_number (setup_in w l) l.calls) == 65535)) ≡ false
            → In more (if own then hears_request w d.line d.time m.header.sequence.0 l else l)
        by true goes_on = request_in m (not l.asked || nat_lt (ahead m.header.sequence.0 (next_number (setup_in w l) l.calls)) table_capacity)
            (ahead m.header.sequence.0 (next_number (setup_in w l) l.calls) == 65535) goes_on
        by false goes_on = holds-more l.syncs most more (F (setup_in w l) l.calls) counts.0 holds
    hears_in m (bodies.FollowUp precise) said is goes_on = general_in m (ready_follow_up w d.time m l) (followed_in d l most holds m)
    hears_in m (bodies.DelayResp receive requesting) said is goes_on =
        general_in m (ready_response w d.time m requesting l) (response_in d l most holds m requesting)

    -- it goes on holding what it did
    pub hear_in : begins_at w d l ≡ false → In more (hear w d l)
    hear_in goes_on = by d.said refl goes_on
      where
        by : (said : Reading) → d.said ≡ said → option_map_or (λ m. begins_by w d.time m m.body l) (result_ok said) false ≡ false
            → In more (option_map_or (λ m. hears w d.line d.time m m.body l) (result_ok said) l)
        by (Ok m) said goes_on = hears_in m m.body said refl goes_on
        by (Err refusal) said goes_on = holds-more l.syncs most more (F (setup_in w l) l.calls) counts.0 holds
