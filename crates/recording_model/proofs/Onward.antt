-- What a listening port holds, and what completed last, stays while no beginning and nothing of its number comes, and not
-- too many messages of its kind.
use Rattle.std.proofs.Common.{◌≡◌, ◌∙◌, ℕ, zero, suc, ◌+◌, ◌%◌, ◌<◌, ◌≤◌, Bool, true, false, List, ◌∷◌, Option, Some}
use Rattle.std.proofs.Common.{None}
use Rattle.std.proofs.Common.{Ok, refl, sym, ap, subst, arith, is_some, if◌then◌else◌}
use Rattle.std.specs.Option.{option_map_or}
use Rattle.std.specs.Prelude.{◌==◌, ◌&&◌, ◌||◌, not, nat_lt, count_by, ◌⊎◌}
use Rattle.std.proofs.Common.{inl, inr}
use Rattle.std.proofs.lemmas.Bool.{and_from, and_left, or_left, or_right, or_parts, eq-eqb, ltb-true, not-false}
use Rattle.std.proofs.lemmas.Bool.{both_ways}
use Rattle.std.proofs.lemmas.List.Elements.{All-cons, All-take}
use Rattle.std.proofs.lemmas.List.Sums.{sum_by-cons}
use Rattle.ptp_units.specs.Moment.{Stamp}
use Rattle.ptp_units.specs.Sequence.{ahead}
use Rattle.event_codec.specs.declared.message.Body.{Body}
use Rattle.event_codec.specs.declared.message.Body.TheVariants as bodies
use Rattle.event_codec.specs.Packet.{Contents}
use Rattle.pairing.specs.Marked.{Entry, entry, first_value}
use Rattle.slave_port.specs.declared.heard.Heard.{Heard}
use Rattle.slave_port.specs.History as calls
use Rattle.slave_port.specs.History.{Call, Setup, next_number}
use Rattle.slave_port.specs.Usable.{is_two_step}
use Rattle.slave_port.specs.Values.{SyncValue, FollowValue, RequestValue}
use Rattle.slave_port.specs.Completion.{SyncCompletion, DelayCompletion}
use Rattle.slave_port.specs.Requests.{requests}
use Rattle.slave_port.specs.Window.{Window, all}
use Rattle.slave_port.specs.Kept.{Kept, kept, delay_completions, held_follows, usable_two_step_sync, usable_follow_up}
use Rattle.slave_port.specs.Kept.{sync_completion, delay_completion}
use Rattle.network_model.proofs.Pairing.{found_in}
use Rattle.recording_model.specs.declared.watched.Watched.{Watched}
use Rattle.recording_model.specs.Recorded.{Recorded}
use Rattle.recording_model.specs.Listening.{Listening, setup_with, setup_in, table_capacity, is_of, ticks_every, draws}
use Rattle.recording_model.specs.Listening.{ready, after_all, answer_in, answered_to, hearing}
use Rattle.recording_model.specs.Pairs.{is_heard}
use Rattle.recording_model.proofs.Completes.{sync-is_completion, delay-is_completion}
use Rattle.recording_model.specs.Told.{is_sync, is_general}
use Rattle.recording_model.specs.Finds.{is_master_sync, is_master_follow_up, tells_departure, is_own_response}
use Rattle.recording_model.specs.Finds.{is_own_request, with_number, says, NoneSays, is_completion, completes}
use Rattle.recording_model.specs.Finds.{CompletesNoSync, CompletesNoDelay}
use Rattle.recording_model.proofs.Requests.{drawn-draws}
use Rattle.recording_model.proofs.Tags.{all-in}
use Rattle.recording_model.proofs.Newest.{IsNewest, newest-more, newest-fewer, newest-stamped, IsHeldIn, held-later}
use Rattle.recording_model.proofs.Newest.{held-ticked, held-brought, IsLastIn, last-later, last-ticked, last-brought}
use Rattle.recording_model.proofs.Hearing.{Keeps, hear_holds, ready_holds, asked_by, is_near, answered-ready}
use Rattle.recording_model.proofs.Hearing.{general-hearing}
use Rattle.recording_model.proofs.Said.{IsOf, is_of-later, keeps-is_of, after-is_of, says-of, unlike, sync_brought}
use Rattle.recording_model.proofs.Said.{no_sync_brought, follow_brought}
use Rattle.recording_model.proofs.Said.{no_follow_brought, event_completes, general_completes, general_answers}
use Rattle.recording_model.proofs.Said.{event_answers_none, drawn-kept, SaidIn}

-- how many of these pass, with one more
pub count-one : (test : Recorded → Bool) (x : Recorded) (ds : List Recorded) → test x ≡ true
    → count_by test (x ∷ ds) ≡ count_by test ds + 1
count-one test x ds is =
    omega (arith, sum_by-cons (λ d. if test d then 1 else 0) x ds, ap {B = ℕ} (λ b. if b then 1 else 0) is)

pub count-more : (test : Recorded → Bool) (x : Recorded) (ds : List Recorded)
    → count_by test ds ≤ count_by test (x ∷ ds)
count-more test x ds = omega (arith, sum_by-cons (λ d. if test d then 1 else 0) x ds)

-- nothing, where it can't be something
pub none_of : {C : Type 0} (o : Option C) → ((c : C) → o ≡ Some c → ⊥) → o ≡ None
none_of None each = refl
none_of (Some c) each = absurd (each c refl)

module _ (w : Watched) where
  -- a two-step Sync, or a Follow_Up, is held that is the newest of its number
  abbrev pub HoldsSync : (number : ℕ) → SyncValue → (count came first : ℕ) → List Call → (syncs : ℕ) → (asked : Bool)
      → Type 0
  HoldsSync number value count came first history syncs asked =
      IsHeldIn count number value (kept (setup_with w first) history).syncs syncs came

  abbrev pub HoldsFollow : (number : ℕ) → FollowValue → (count came first : ℕ) → List Call → (syncs : ℕ)
      → (asked : Bool) → Type 0
  HoldsFollow number value count came first history syncs asked =
      IsHeldIn count number value (kept (setup_with w first) history).follows syncs came

  -- these completed last
  abbrev pub EndsWithSync : SyncCompletion → (came first : ℕ) → List Call → (syncs : ℕ) → (asked : Bool) → Type 0
  EndsWithSync c came first history syncs asked =
      IsLastIn c (kept (setup_with w first) history).completions syncs came

  abbrev pub EndsWithDelay : DelayCompletion → (came first : ℕ) → List Call → (syncs : ℕ) → (asked : Bool) → Type 0
  EndsWithDelay c came first history syncs asked =
      IsLastIn c (delay_completions (setup_with w first) history) syncs came

  -- a request is the newest of its number, and so many were drawn since
  pub record IsRequested (number : ℕ) (value : RequestValue) (es : List (Entry RequestValue)) (next : ℕ) (asked : Bool)
      : Type 0 where
    pub drawn : ℕ
    pub newest : IsNewest drawn number value es
    pub next_is : next ≡ (number + 1 + drawn) % 65536
    pub was_asked : asked ≡ true
    pub few : drawn < table_capacity

  abbrev pub HasRequest : (number : ℕ) → RequestValue → (first : ℕ) → List Call → (syncs : ℕ) → (asked : Bool) → Type 0
  HasRequest number value first history syncs asked =
      IsRequested number value (requests (setup_with w first) history) (next_number (setup_with w first) history) asked

module _ (w : Watched) (x : Recorded) (ds : List Recorded) (since : ℕ) (later : since < x.line)
    (H J : (first : ℕ) → List Call → (syncs : ℕ) → (asked : Bool) → Type 0) where
  -- of a port that hasn't begun behind a line
  abbrev pub Stands : ((first : ℕ) → List Call → (syncs : ℕ) → (asked : Bool) → Type 0) → Listening → Type 0
  Stands G l = IsOf w (x ∷ ds) l × (l.begun ≤ since → G l.first l.calls l.syncs l.asked)

  -- what may come of a later datagram but a beginning
  pub record Goes : Type 0 where
    pub unheard : asked_by w x ≡ None → (l : Listening) → H l.first l.calls l.syncs l.asked
        → J l.first l.calls l.syncs l.asked
    pub other : (m : Contents) (origin : Stamp) → x.said ≡ Ok m → m.body ≡ bodies.Sync origin
        → is_of w w.master m.header ≡ false → (l : Listening) → ready w x.line x.time m m.body (after_all w ds) ≡ Some l
        → IsOf w (x ∷ ds) l
        → H l.first l.calls l.syncs l.asked
        → J l.first (calls.Event (Ok m) x.time x.line ∷ l.calls) l.syncs l.asked
    pub counted : (m : Contents) (origin : Stamp) → x.said ≡ Ok m → m.body ≡ bodies.Sync origin
        → is_of w w.master m.header ≡ true → (l : Listening)
        → ready w x.line x.time m m.body (after_all w ds) ≡ Some l
        → IsOf w (x ∷ ds) l
        → H l.first l.calls l.syncs l.asked
        → J l.first (calls.Event (Ok m) x.time x.line ∷ l.calls) (l.syncs + 1) l.asked
    pub ticked : (m : Contents) (origin : Stamp) → x.said ≡ Ok m → m.body ≡ bodies.Sync origin
        → is_of w w.master m.header ≡ true → (l : Listening)
        → ready w x.line x.time m m.body (after_all w ds) ≡ Some l
        → IsOf w (x ∷ ds) l → l.syncs + 1 ≡ ticks_every
        → H l.first l.calls l.syncs l.asked
        → J l.first (calls.Tick ∷ calls.Event (Ok m) x.time x.line ∷ l.calls) 0 l.asked
    pub general : (m : Contents) → x.said ≡ Ok m → is_general m.body ≡ true → (l : Listening)
        → ready w x.line x.time m m.body (after_all w ds) ≡ Some l
        → IsOf w (x ∷ ds) l
        → H l.first l.calls l.syncs l.asked
        → J l.first (calls.General (Ok m) x.line ∷ l.calls) l.syncs l.asked
    pub again : (m : Contents) → x.said ≡ Ok m → is_own_request w m ≡ true → (l : Listening)
        → H l.first l.calls l.syncs l.asked → J l.first l.calls l.syncs l.asked
    pub asked : (m : Contents) → x.said ≡ Ok m → is_own_request w m ≡ true → (l : Listening)
        → is_near w m.header.sequence.0 l ≡ true → H l.first l.calls l.syncs l.asked
        → J l.first
        (calls.RequestLeft m.header.sequence.0 x.time
        ∷ draws (ahead m.header.sequence.0 (next_number (setup_in w l) l.calls) + 1) x.line l.calls) l.syncs true

  pub onward : Goes → Keeps w x (after_all w ds) (Stands H) (Stands H) (Stands J)
  onward goes = record {
    as_is = λ m said none l is. is;
    unheard = λ gone none l is. (known.unheard gone none l is.0, λ low. goes.unheard none l (is.1 low));
    sync = λ m origin said body of_master l is. (known.sync m origin said body of_master l is.0, is.1);
    master = λ m origin said body of_master l is. (
      known.master m origin said body of_master l is.0,
      λ low. let early : x.line ≤ since = low in absurd (omega arith),
    );
    follow = λ m precise said body of_master l is. (known.follow m precise said body of_master l is.0, is.1);
    response = λ m receive requesting said body of_master to_slave l is. (
      known.response m receive requesting said body of_master to_slave l is.0,
      is.1,
    );
    other = λ m origin said body other l is_ready is. (
      known.other m origin said body other l is_ready is.0,
      λ low. goes.other m origin said body other l is_ready is.0 (is.1 low),
    );
    counted = λ m origin said body of_master l room is_ready is. (
      known.counted m origin said body of_master l room is_ready is.0,
      λ low. goes.counted m origin said body of_master l is_ready is.0 (is.1 low),
    );
    ticked = λ m origin said body of_master l full is_ready is. (
      known.ticked m origin said body of_master l full is_ready is.0,
      λ low. goes.ticked m origin said body of_master l is_ready is.0 full (is.1 low),
    );
    general = λ m said kind l is_ready is. (
      known.general m said kind l is_ready is.0,
      λ low. goes.general m said kind l is_ready is.0 (is.1 low),
    );
    again = λ m said own l same is. (known.again m said own l same is.0, λ low. goes.again m said own l (is.1 low));
    asked = λ m said own l near is. (
      known.asked m said own l near is.0,
      λ low. goes.asked m said own l near (is.1 low),
    );
    begun = λ m said own l is. (
      known.begun m said own l is.0,
      λ low. let early : x.line ≤ since = low in absurd (omega arith),
    );
  }
    where
      known : Keeps w x (after_all w ds) (IsOf w (x ∷ ds)) (IsOf w (x ∷ ds)) (IsOf w (x ∷ ds))
      known = keeps-is_of w x ds (after_all w ds)

  -- what holds after it, and after all
  pub goes-after : Goes
      → ((after_all w ds).begun ≤ since
      → H (after_all w ds).first (after_all w ds).calls (after_all w ds).syncs (after_all w ds).asked)
      → (after_all w (x ∷ ds)).begun ≤ since
      → J (after_all w (x ∷ ds)).first (after_all w (x ∷ ds)).calls (after_all w (x ∷ ds)).syncs
      (after_all w (x ∷ ds)).asked
  goes-after goes is low =
      (hear_holds w x (after_all w ds) (Stands H) (Stands H) (Stands J) (onward goes)
      (is_of-later w x ds (after_all w ds) (after-is_of w ds), is)).1 low

module _ (w : Watched) (x : Recorded) (since : ℕ) (later : since < x.line)
    (H : (first : ℕ) → List Call → (syncs : ℕ) → (asked : Bool) → Type 0) where
  -- what holds of a port that hasn't begun behind a line
  abbrev Since : Listening → Type 0
  Since l = l.begun ≤ since → H l.first l.calls l.syncs l.asked

  keeps-ready : (before : Listening) → Keeps w x before Since Since (λ l. Unit {0})
  keeps-ready before = record {
    as_is = λ m said none l is. is;
    unheard = λ gone none l is. tt;
    sync = λ m origin said body of_master l is. is;
    master = λ m origin said body of_master l is low. let early : x.line ≤ since = low in absurd (omega arith);
    follow = λ m precise said body of_master l is. is;
    response = λ m receive requesting said body of_master to_slave l is. is;
    other = λ m origin said body other l is_ready is. tt;
    counted = λ m origin said body of_master l room is_ready is. tt;
    ticked = λ m origin said body of_master l full is_ready is. tt;
    general = λ m said kind l is_ready is. tt;
    again = λ m said own l same is. tt;
    asked = λ m said own l near is. tt;
    begun = λ m said own l is. tt;
  }

  -- it holds of the port that is to hear a later datagram
  pub carried : (m : Contents) → x.said ≡ Ok m → (l r : Listening) → ready w x.line x.time m m.body l ≡ Some r
      → Since l → r.begun ≤ since → H r.first r.calls r.syncs r.asked
  carried m said l r is_ready is low =
      ready_holds w x l Since Since (λ l. Unit {0}) (keeps-ready l) is m said r is_ready low

module _ (w : Watched) (x : Recorded) (ds : List Recorded) (since : ℕ) (later : since < x.line) where
  -- requests leave what is held of messages as it is
  kept-asked : (first : ℕ) (history : List Call) (count line number t3 : ℕ)
      → kept (setup_with w first) (calls.RequestLeft number t3 ∷ draws count line history)
      ≡ kept (setup_with w first) history
  kept-asked first history count line number t3 = (drawn-kept (setup_with w first) history count line).1

  delays-asked : (first : ℕ) (history : List Call) (count line number t3 : ℕ)
      → delay_completions (setup_with w first) (calls.RequestLeft number t3 ∷ draws count line history)
      ≡ delay_completions (setup_with w first) history
  delays-asked first history count line number t3 = (drawn-kept (setup_with w first) history count line).2

  is_master : (m : Contents) (origin : Stamp) → x.said ≡ Ok m → m.body ≡ bodies.Sync origin
      → is_of w w.master m.header ≡ true → says (is_master_sync w) x ≡ true
  is_master m origin said body of_master =
      says-of (is_master_sync w) x m said
      ∙ and_from (is_of w w.master m.header) (is_sync m.body) of_master (ap is_sync body)

  -- what the port answers that is to hear it
  event-answered : (m : Contents) (origin : Stamp) → x.said ≡ Ok m → m.body ≡ bodies.Sync origin → (l : Listening)
      → ready w x.line x.time m m.body (after_all w ds) ≡ Some l
      → answered_to w x (after_all w ds) ≡ Some (answer_in w l (calls.Event (Ok m) x.time x.line))
  event-answered m origin said body l is_ready =
      answered-ready w x m (calls.Event (Ok m) x.time x.line) (after_all w ds) l said
      (ap (λ (b : Body). hearing x.line x.time m b) body) is_ready

  general-answered : (m : Contents) → x.said ≡ Ok m → is_general m.body ≡ true → (l : Listening)
      → ready w x.line x.time m m.body (after_all w ds) ≡ Some l
      → answered_to w x (after_all w ds) ≡ Some (answer_in w l (calls.General (Ok m) x.line))
  general-answered m said kind l is_ready =
      answered-ready w x m (calls.General (Ok m) x.line) (after_all w ds) l said
      (general-hearing x.line x.time m m.body kind) is_ready

  -- a message of another number, or that isn't heard
  another : (kind : Contents → Bool) (number : ℕ) (m : Contents) (answer : Heard) → x.said ≡ Ok m
      → answered_to w x (after_all w ds) ≡ Some answer
      → (says (with_number kind number) x ≡ false) ⊎ (is_heard w ds x ≡ false)
      → kind m ≡ true → m.header.sequence.0 ≡ number → ⊥
  another kind number m answer said answered (inl apart) is same =
      unlike kind number m (sym (says-of (with_number kind number) x m said) ∙ apart) is same
  another kind number m answer said answered (inr unheard) is same =
      both_ways (is_heard w ds x) unheard (ap (λ (o : Option Heard). is_some o) answered)

  -- an answer that nothing completed
  no-completion : (answer : Heard) → answered_to w x (after_all w ds) ≡ Some answer → completes w ds x ≡ false
      → is_completion answer ≡ false
  no-completion answer answered none =
      sym (ap (λ (o : Option Heard). option_map_or is_completion o false) answered) ∙ none

  -- how many Syncs came until this datagram, and with it
  module _ (came grown : ℕ) (wider : came ≤ grown)
      (one_more : says (is_master_sync w) x ≡ true → came + 1 ≤ grown)
      (few : grown < ticks_every) where
    -- a two-step Sync that is held
    module _ (count more number : ℕ) (value : SyncValue) (room : count ≤ more)
        (one_newer : says (is_master_sync w) x ≡ true → count + 1 ≤ more)
        (apart : (says (with_number (is_master_sync w) number) x ≡ false) ⊎ (is_heard w ds x ≡ false)) where
      sync_event : (m : Contents) (origin : Stamp) → x.said ≡ Ok m → m.body ≡ bodies.Sync origin → (l : Listening)
          → ready w x.line x.time m m.body (after_all w ds) ≡ Some l → IsOf w (x ∷ ds) l
          → HoldsSync w number value count came l.first l.calls l.syncs l.asked
          → HoldsSync w number value more came l.first (calls.Event (Ok m) x.time x.line ∷ l.calls) l.syncs l.asked
      sync_event m origin said body l is_ready known is =
          held-brought count more number value
          (usable_two_step_sync (setup_in w l) l.calls (calls.Event (Ok m) x.time x.line))
          (kept (setup_in w l) l.calls).syncs l.syncs came room each is
        where
          each : (e : Entry SyncValue)
              → usable_two_step_sync (setup_in w l) l.calls (calls.Event (Ok m) x.time x.line) ≡ Some e
              → (e.number ≡ number → ⊥) × (count + 1 ≤ more)
          each e same =
              let one = sync_brought w l.first l.calls known.follows_master m x.time x.line e same in (
                λ is. another (is_master_sync w) number m (answer_in w l (calls.Event (Ok m) x.time x.line)) said
                    (event-answered m origin said body l is_ready) apart one.0 (sym one.1 ∙ is),
                one_newer (says-of (is_master_sync w) x m said ∙ one.0),
              )

      pub goes-sync : Goes w x ds since later (HoldsSync w number value count came) (HoldsSync w number value more grown)
      goes-sync = record {
        unheard = λ none l is. widened l is;
        other = λ m origin said body other l is_ready known is.
            grown-to m l (sync_event m origin said body l is_ready known is);
        counted = λ m origin said body of_master l is_ready known is.
            held-later more more number value
            (kept (setup_in w l) (calls.Event (Ok m) x.time x.line ∷ l.calls)).syncs l.syncs came (l.syncs + 1) grown
            (omega arith) (λ low. let one = one_more (is_master m origin said body of_master) in omega arith)
            (sync_event m origin said body l is_ready known is);
        ticked = λ m origin said body of_master l is_ready known full is.
            let one = one_more (is_master m origin said body of_master) in
            held-ticked more number value (kept (setup_in w l) (calls.Event (Ok m) x.time x.line ∷ l.calls)).syncs l.syncs
            came grown (omega arith) (sync_event m origin said body l is_ready known is);
        general = λ m said kind l is_ready known is.
            held-later more more number value
            (kept (setup_in w l) (calls.General (Ok m) x.line ∷ l.calls)).syncs l.syncs came l.syncs grown (omega arith)
            (λ low. omega arith)
            (held-brought count more number value
            (usable_two_step_sync (setup_in w l) l.calls (calls.General (Ok m) x.line))
            (kept (setup_in w l) l.calls).syncs l.syncs came room
            (λ e same. no_sync_brought w l.first l.calls known.follows_master m x.time x.line e same) is);
        again = λ m said own l is. widened l is;
        asked = λ m said own l near is.
            subst (λ (k : Kept). IsHeldIn more number value k.syncs l.syncs grown)
            (sym (kept-asked l.first l.calls
            (ahead m.header.sequence.0 (next_number (setup_in w l) l.calls) + 1) x.line m.header.sequence.0 x.time))
            (widened l is);
      }
        where
          widened : (l : Listening) → HoldsSync w number value count came l.first l.calls l.syncs l.asked
              → HoldsSync w number value more grown l.first l.calls l.syncs l.asked
          widened l is =
              held-later count more number value (kept (setup_in w l) l.calls).syncs l.syncs came l.syncs grown room
              (λ low. omega arith) is

          grown-to : (m : Contents) (l : Listening)
              → HoldsSync w number value more came l.first (calls.Event (Ok m) x.time x.line ∷ l.calls) l.syncs l.asked
              → HoldsSync w number value more grown l.first (calls.Event (Ok m) x.time x.line ∷ l.calls) l.syncs l.asked
          grown-to m l is =
              held-later more more number value
              (kept (setup_in w l) (calls.Event (Ok m) x.time x.line ∷ l.calls)).syncs l.syncs came l.syncs grown
              (omega arith) (λ low. omega arith) is

    -- a Follow_Up that is held
    module _ (count more number : ℕ) (value : FollowValue) (room : count ≤ more)
        (one_newer : says (is_master_follow_up w) x ≡ true → count + 1 ≤ more)
        (apart : (says (with_number (is_master_follow_up w) number) x ≡ false) ⊎ (is_heard w ds x ≡ false)) where
      follow_event : (m : Contents) → (l : Listening) → IsOf w (x ∷ ds) l
          → HoldsFollow w number value count came l.first l.calls l.syncs l.asked
          → HoldsFollow w number value more came l.first (calls.Event (Ok m) x.time x.line ∷ l.calls) l.syncs l.asked
      follow_event m l known is =
          held-brought count more number value
          (usable_follow_up (setup_in w l) l.calls (calls.Event (Ok m) x.time x.line))
          (kept (setup_in w l) l.calls).follows l.syncs came room
          (λ e same. no_follow_brought w l.first l.calls known.follows_master m x.time x.line e same) is

      pub goes-follow : Goes w x ds since later (HoldsFollow w number value count came)
          (HoldsFollow w number value more grown)
      goes-follow = record {
        unheard = λ none l is. widened l is;
        other = λ m origin said body other l is_ready known is.
            held-later more more number value
            (kept (setup_in w l) (calls.Event (Ok m) x.time x.line ∷ l.calls)).follows l.syncs came l.syncs grown
            (omega arith) (λ low. omega arith) (follow_event m l known is);
        counted = λ m origin said body of_master l is_ready known is.
            held-later more more number value
            (kept (setup_in w l) (calls.Event (Ok m) x.time x.line ∷ l.calls)).follows l.syncs came (l.syncs + 1) grown
            (omega arith) (λ low. let one = one_more (is_master m origin said body of_master) in omega arith)
            (follow_event m l known is);
        ticked = λ m origin said body of_master l is_ready known full is.
            let one = one_more (is_master m origin said body of_master) in
            held-ticked more number value (kept (setup_in w l) (calls.Event (Ok m) x.time x.line ∷ l.calls)).follows
            l.syncs came grown (omega arith) (follow_event m l known is);
        general = λ m said kind l is_ready known is.
            held-later more more number value
            (kept (setup_in w l) (calls.General (Ok m) x.line ∷ l.calls)).follows l.syncs came l.syncs grown (omega arith)
            (λ low. omega arith)
            (held-brought count more number value
            (usable_follow_up (setup_in w l) l.calls (calls.General (Ok m) x.line))
            (kept (setup_in w l) l.calls).follows l.syncs came room (each m said kind l is_ready known) is);
        again = λ m said own l is. widened l is;
        asked = λ m said own l near is.
            subst (λ (k : Kept). IsHeldIn more number value k.follows l.syncs grown)
            (sym (kept-asked l.first l.calls
            (ahead m.header.sequence.0 (next_number (setup_in w l) l.calls) + 1) x.line m.header.sequence.0 x.time))
            (widened l is);
      }
        where
          widened : (l : Listening) → HoldsFollow w number value count came l.first l.calls l.syncs l.asked
              → HoldsFollow w number value more grown l.first l.calls l.syncs l.asked
          widened l is =
              held-later count more number value (kept (setup_in w l) l.calls).follows l.syncs came l.syncs grown room
              (λ low. omega arith) is

          each : (m : Contents) → x.said ≡ Ok m → is_general m.body ≡ true → (l : Listening)
              → ready w x.line x.time m m.body (after_all w ds) ≡ Some l → IsOf w (x ∷ ds) l → (e : Entry FollowValue)
              → usable_follow_up (setup_in w l) l.calls (calls.General (Ok m) x.line) ≡ Some e
              → (e.number ≡ number → ⊥) × (count + 1 ≤ more)
          each m said kind l is_ready known e same =
              let one = follow_brought w l.first l.calls known.follows_master m x.time x.line e same in (
                λ is. another (is_master_follow_up w) number m (answer_in w l (calls.General (Ok m) x.line)) said
                    (general-answered m said kind l is_ready) apart one.0 (sym one.1 ∙ is),
                one_newer (says-of (is_master_follow_up w) x m said ∙ one.0),
              )

    -- the last completion of a Sync
    module _ (tells_none : says (tells_departure w) x ≡ false)
        (unpaired : (m : Contents) → x.said ≡ Ok m → is_master_sync w m ≡ true
        → NoneSays (with_number (is_master_follow_up w) m.header.sequence.0) ds) where
      -- what says when a Sync left isn't here
      tells-no : {A : Type 0} (m : Contents) → x.said ≡ Ok m → tells_departure w m ≡ true → A
      tells-no m said is =
          absurd (both_ways (tells_departure w m) (sym (says-of (tells_departure w) x m said) ∙ tells_none) is)

      event-unsaid : (m : Contents) → x.said ≡ Ok m → (l : Listening) → IsOf w (x ∷ ds) l
          → sync_completion (setup_in w l) l.calls (calls.Event (Ok m) x.time x.line) ≡ None
      event-unsaid m said l known =
          none_of (sync_completion (setup_in w l) l.calls (calls.Event (Ok m) x.time x.line)) each
        where
          P : Entry FollowValue → Type 0
          P e = SaidIn (is_master_follow_up w) (x ∷ ds) e.number

          no_follow_up : with_number (is_master_follow_up w) m.header.sequence.0 m ≡ false
          no_follow_up =
              let parts = or_parts (is_master_follow_up w m) (is_master_sync w m && not (is_two_step m.header))
              (sym (says-of (tells_departure w) x m said) ∙ tells_none) in
              and_left (is_master_follow_up w m) (m.header.sequence.0 == m.header.sequence.0) parts.0

          by : is_master_sync w m ≡ true
              → ((is_two_step m.header ≡ false)
              ⊎ ((value : FollowValue)
              × (first_value m.header.sequence.0 (held_follows (setup_in w l) l.calls) ≡ Some value)))
              → ⊥
          by sync (inl one_step) =
              tells-no m said
              (or_right (is_master_follow_up w m) (is_master_sync w m && not (is_two_step m.header))
              (and_from (is_master_sync w m) (not (is_two_step m.header)) sync (ap not one_step)))
          by sync (inr found) =
              let number : ℕ = m.header.sequence.0 in
              let held = found_in P (held_follows (setup_in w l) l.calls) number found.0
              (All-take P 256 (all (kept (setup_in w l) l.calls).follows)
              (all-in P (kept (setup_in w l) l.calls).follows known.follows_said)) found.1 in
              let none : (held.0.number == number) ≡ false =
              held.1 (λ n. n == number)
              (All-cons (λ (d : Recorded). says (with_number (is_master_follow_up w) number) d ≡ false) x ds
              (says-of (with_number (is_master_follow_up w) number) x m said ∙ no_follow_up) (unpaired m said sync)) in
              both_ways (held.0.number == number) none (eq-eqb held.0.number number held.2)

          each : (other : SyncCompletion)
              → sync_completion (setup_in w l) l.calls (calls.Event (Ok m) x.time x.line) ≡ Some other → ⊥
          each other same =
              let one = event_completes w l.first l.calls known.follows_master m x.time x.line other same in
              by one.0 one.2

      general-unsaid : (m : Contents) → x.said ≡ Ok m → (l : Listening) → IsOf w (x ∷ ds) l
          → sync_completion (setup_in w l) l.calls (calls.General (Ok m) x.line) ≡ None
      general-unsaid m said l known =
          none_of (sync_completion (setup_in w l) l.calls (calls.General (Ok m) x.line))
          (λ other same.
          let one = general_completes w l.first l.calls known.follows_master m x.time x.line other same in
          tells-no m said
          (or_left (is_master_follow_up w m) (is_master_sync w m && not (is_two_step m.header)) one.0))

    module _ (c : SyncCompletion) (quiet : CompletesNoSync w ds x) where
      event-none : (m : Contents) (origin : Stamp) → x.said ≡ Ok m → m.body ≡ bodies.Sync origin → (l : Listening)
          → ready w x.line x.time m m.body (after_all w ds) ≡ Some l → IsOf w (x ∷ ds) l
          → sync_completion (setup_in w l) l.calls (calls.Event (Ok m) x.time x.line) ≡ None
      event-none m origin said body l is_ready known = by quiet
        where
          by : CompletesNoSync w ds x
              → sync_completion (setup_in w l) l.calls (calls.Event (Ok m) x.time x.line) ≡ None
          by (inl none) = event-unsaid none.0 none.1 m said l known
          by (inr none) =
              none_of (sync_completion (setup_in w l) l.calls (calls.Event (Ok m) x.time x.line))
              (λ other same.
              both_ways (is_completion (answer_in w l (calls.Event (Ok m) x.time x.line)))
              (no-completion (answer_in w l (calls.Event (Ok m) x.time x.line))
              (event-answered m origin said body l is_ready) none)
              (sync-is_completion (setup_in w l) l.calls (calls.Event (Ok m) x.time x.line) other same))

      general-none : (m : Contents) → x.said ≡ Ok m → is_general m.body ≡ true → (l : Listening)
          → ready w x.line x.time m m.body (after_all w ds) ≡ Some l → IsOf w (x ∷ ds) l
          → sync_completion (setup_in w l) l.calls (calls.General (Ok m) x.line) ≡ None
      general-none m said kind l is_ready known = by quiet
        where
          by : CompletesNoSync w ds x → sync_completion (setup_in w l) l.calls (calls.General (Ok m) x.line) ≡ None
          by (inl none) = general-unsaid none.0 none.1 m said l known
          by (inr none) =
              none_of (sync_completion (setup_in w l) l.calls (calls.General (Ok m) x.line))
              (λ other same.
              both_ways (is_completion (answer_in w l (calls.General (Ok m) x.line)))
              (no-completion (answer_in w l (calls.General (Ok m) x.line)) (general-answered m said kind l is_ready)
              none)
              (sync-is_completion (setup_in w l) l.calls (calls.General (Ok m) x.line) other same))

      last-event : (m : Contents) (origin : Stamp) → x.said ≡ Ok m → m.body ≡ bodies.Sync origin → (l : Listening)
          → ready w x.line x.time m m.body (after_all w ds) ≡ Some l → IsOf w (x ∷ ds) l
          → EndsWithSync w c came l.first l.calls l.syncs l.asked
          → EndsWithSync w c came l.first (calls.Event (Ok m) x.time x.line ∷ l.calls) l.syncs l.asked
      last-event m origin said body l is_ready known is =
          last-brought c (sync_completion (setup_in w l) l.calls (calls.Event (Ok m) x.time x.line))
          (kept (setup_in w l) l.calls).completions l.syncs came (event-none m origin said body l is_ready known) is

      pub goes-last_sync : Goes w x ds since later (EndsWithSync w c came) (EndsWithSync w c grown)
      goes-last_sync = record {
        unheard = λ none l is. widened l is;
        other = λ m origin said body other l is_ready known is.
            last-later c (kept (setup_in w l) (calls.Event (Ok m) x.time x.line ∷ l.calls)).completions l.syncs came
            l.syncs grown (λ low. omega arith) (last-event m origin said body l is_ready known is);
        counted = λ m origin said body of_master l is_ready known is.
            last-later c (kept (setup_in w l) (calls.Event (Ok m) x.time x.line ∷ l.calls)).completions l.syncs came
            (l.syncs + 1) grown (λ low. let one = one_more (is_master m origin said body of_master) in omega arith)
            (last-event m origin said body l is_ready known is);
        ticked = λ m origin said body of_master l is_ready known full is.
            let one = one_more (is_master m origin said body of_master) in
            last-ticked c (kept (setup_in w l) (calls.Event (Ok m) x.time x.line ∷ l.calls)).completions l.syncs came
            grown (omega arith) (last-event m origin said body l is_ready known is);
        general = λ m said kind l is_ready known is.
            last-later c (kept (setup_in w l) (calls.General (Ok m) x.line ∷ l.calls)).completions l.syncs came l.syncs
            grown (λ low. omega arith)
            (last-brought c (sync_completion (setup_in w l) l.calls (calls.General (Ok m) x.line))
            (kept (setup_in w l) l.calls).completions l.syncs came (general-none m said kind l is_ready known) is);
        again = λ m said own l is. widened l is;
        asked = λ m said own l near is.
            subst (λ (k : Kept). IsLastIn c k.completions l.syncs grown)
            (sym (kept-asked l.first l.calls
            (ahead m.header.sequence.0 (next_number (setup_in w l) l.calls) + 1) x.line m.header.sequence.0 x.time))
            (widened l is);
      }
        where
          widened : (l : Listening) → EndsWithSync w c came l.first l.calls l.syncs l.asked
              → EndsWithSync w c grown l.first l.calls l.syncs l.asked
          widened l is =
              last-later c (kept (setup_in w l) l.calls).completions l.syncs came l.syncs grown (λ low. omega arith) is

    -- the last completion of a request
    module _ (c : DelayCompletion) (quiet : CompletesNoDelay w ds x) where
      delay-event : (m : Contents) → (l : Listening) → IsOf w (x ∷ ds) l
          → EndsWithDelay w c came l.first l.calls l.syncs l.asked
          → EndsWithDelay w c came l.first (calls.Event (Ok m) x.time x.line ∷ l.calls) l.syncs l.asked
      delay-event m l known is =
          last-brought c (delay_completion (setup_in w l) l.calls (calls.Event (Ok m) x.time x.line))
          (delay_completions (setup_in w l) l.calls) l.syncs came
          (none_of (delay_completion (setup_in w l) l.calls (calls.Event (Ok m) x.time x.line))
          (λ other same. event_answers_none w l.first l.calls known.follows_master m x.time x.line other same)) is

      delay-none : (m : Contents) → x.said ≡ Ok m → is_general m.body ≡ true → (l : Listening)
          → ready w x.line x.time m m.body (after_all w ds) ≡ Some l → IsOf w (x ∷ ds) l
          → delay_completion (setup_in w l) l.calls (calls.General (Ok m) x.line) ≡ None
      delay-none m said kind l is_ready known =
          none_of (delay_completion (setup_in w l) l.calls (calls.General (Ok m) x.line)) (by quiet)
        where
          by : CompletesNoDelay w ds x → (other : DelayCompletion)
              → delay_completion (setup_in w l) l.calls (calls.General (Ok m) x.line) ≡ Some other → ⊥
          by (inl none) other same =
              both_ways (is_own_response w m) (sym (says-of (is_own_response w) x m said) ∙ none)
              (general_answers w l.first l.calls known.follows_master m x.time x.line other same)
          by (inr none) other same =
              both_ways (is_completion (answer_in w l (calls.General (Ok m) x.line)))
              (no-completion (answer_in w l (calls.General (Ok m) x.line)) (general-answered m said kind l is_ready)
              none)
              (delay-is_completion (setup_in w l) l.calls (calls.General (Ok m) x.line) other same)

      pub goes-last_delay : Goes w x ds since later (EndsWithDelay w c came) (EndsWithDelay w c grown)
      goes-last_delay = record {
        unheard = λ none l is. widened l is;
        other = λ m origin said body other l is_ready known is.
            last-later c (delay_completions (setup_in w l) (calls.Event (Ok m) x.time x.line ∷ l.calls)) l.syncs came
            l.syncs grown (λ low. omega arith) (delay-event m l known is);
        counted = λ m origin said body of_master l is_ready known is.
            last-later c (delay_completions (setup_in w l) (calls.Event (Ok m) x.time x.line ∷ l.calls)) l.syncs came
            (l.syncs + 1) grown (λ low. let one = one_more (is_master m origin said body of_master) in omega arith)
            (delay-event m l known is);
        ticked = λ m origin said body of_master l is_ready known full is.
            let one = one_more (is_master m origin said body of_master) in
            last-ticked c (delay_completions (setup_in w l) (calls.Event (Ok m) x.time x.line ∷ l.calls)) l.syncs came
            grown (omega arith) (delay-event m l known is);
        general = λ m said kind l is_ready known is.
            last-later c (delay_completions (setup_in w l) (calls.General (Ok m) x.line ∷ l.calls)) l.syncs came l.syncs
            grown (λ low. omega arith)
            (last-brought c (delay_completion (setup_in w l) l.calls (calls.General (Ok m) x.line))
            (delay_completions (setup_in w l) l.calls) l.syncs came (delay-none m said kind l is_ready known) is);
        again = λ m said own l is. widened l is;
        asked = λ m said own l near is.
            subst (λ (d : Window DelayCompletion). IsLastIn c d l.syncs grown)
            (sym (delays-asked l.first l.calls
            (ahead m.header.sequence.0 (next_number (setup_in w l) l.calls) + 1) x.line m.header.sequence.0 x.time))
            (widened l is);
      }
        where
          widened : (l : Listening) → EndsWithDelay w c came l.first l.calls l.syncs l.asked
              → EndsWithDelay w c grown l.first l.calls l.syncs l.asked
          widened l is =
              last-later c (delay_completions (setup_in w l) l.calls) l.syncs came l.syncs grown (λ low. omega arith) is

-- the newest request of a number stays so where others are drawn
newest-drawn : (setup : Setup) (number : ℕ) (value : RequestValue) (drawn : ℕ) (history : List Call) (count tag : ℕ)
    → number < 65536 → drawn + count < 65535 → next_number setup history ≡ (number + 1 + drawn) % 65536
    → IsNewest drawn number value (requests setup history)
    → IsNewest (drawn + count) number value (requests setup (draws count tag history))
newest-drawn setup number value drawn history zero tag low few next is =
    newest-fewer drawn (drawn + 0) number value (requests setup history) (omega arith) is
newest-drawn setup number value drawn history (suc count) tag low few next is =
    newest-fewer (drawn + count + 1) (drawn + suc count) number value
    (requests setup (draws (suc count) tag history)) (omega arith)
    (newest-more (drawn + count) number value
    (entry (next_number setup (draws count tag history)) (record { t3 = None; tag = tag }))
    (requests setup (draws count tag history))
    (λ same. omega (arith, drawn-draws count tag history))
    (newest-drawn setup number value drawn history count tag low (omega arith) next is))

-- as many as were drawn since is a later number ahead
drawn-ahead : (other next number drawn : ℕ) → number < 65536 → next ≡ (number + 1 + drawn) % 65536
    → drawn < 256 → ahead other next < 256 → ahead other number < 256
    → drawn + (ahead other next + 1) ≡ ahead other number
drawn-ahead other next number drawn low next_is few short reached = omega arith

module _ (w : Watched) (x : Recorded) (ds : List Recorded) (since : ℕ) (later : since < x.line)
    (number : ℕ) (value : RequestValue) (low : number < 65536)
    (near : says (λ m. is_own_request w m && not (nat_lt (ahead m.header.sequence.0 number) table_capacity)) x ≡ false)
  where
    pub goes-request : Goes w x ds since later (HasRequest w number value) (HasRequest w number value)
    goes-request = record {
      unheard = λ none l is. is;
      other = λ m origin said body other l is_ready known is. is;
      counted = λ m origin said body of_master l is_ready known is. is;
      ticked = λ m origin said body of_master l is_ready known full is. is;
      general = λ m said kind l is_ready known is. is;
      again = λ m said own l is. is;
      asked = λ m said own l near_it is. more m said own l near_it is;
    }
      where
        more : (m : Contents) → x.said ≡ Ok m → is_own_request w m ≡ true → (l : Listening)
            → is_near w m.header.sequence.0 l ≡ true → HasRequest w number value l.first l.calls l.syncs l.asked
            → HasRequest w number value l.first
            (calls.RequestLeft m.header.sequence.0 x.time
            ∷ draws (ahead m.header.sequence.0 (next_number (setup_in w l) l.calls) + 1) x.line l.calls) l.syncs true
        more m said own l near_it is =
            let other : ℕ = m.header.sequence.0 in
            let next : ℕ = next_number (setup_in w l) l.calls in
            let count : ℕ = ahead other next in
            let within : nat_lt count table_capacity ≡ true =
            sym (ap (λ (b : Bool). not b || nat_lt count table_capacity) is.was_asked) ∙ near_it in
            let short : count < table_capacity = ltb-true count table_capacity within in
            let reached : nat_lt (ahead other number) table_capacity ≡ true =
            not-false (nat_lt (ahead other number) table_capacity)
            (sym (ap (λ (b : Bool). b && not (nat_lt (ahead other number) table_capacity)) own)
            ∙ sym (says-of (λ m. is_own_request w m && not (nat_lt (ahead m.header.sequence.0 number) table_capacity)) x m
            said)
            ∙ near) in
            let ahead_of : ahead other number < table_capacity = ltb-true (ahead other number) table_capacity reached in
            let next_is : next ≡ (number + 1 + is.drawn) % 65536 = is.next_is in
            let few : is.drawn < table_capacity = is.few in
            let sum : is.drawn + (count + 1) ≡ ahead other number = drawn-ahead other next number is.drawn low next_is few
            short ahead_of in
            record {
              drawn = is.drawn + (count + 1);
              newest = newest-stamped number value other x.time (λ same. omega (arith, sum, same))
                  (is.drawn + (count + 1)) (requests (setup_in w l) (draws (count + 1) x.line l.calls))
                  (newest-drawn (setup_in w l) number value is.drawn l.calls (count + 1) x.line low (omega arith) next_is
                  is.newest);
              next_is = omega (arith, drawn-draws (count + 1) x.line l.calls, next_is);
              was_asked = refl;
              few = omega (arith, sum);
            }
