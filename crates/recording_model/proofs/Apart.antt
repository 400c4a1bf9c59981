-- No report joins a Sync of one life of the master and an exchange of another, where their Syncs are told apart.
use Rattle.std.proofs.Common.{◌≡◌, ◌∙◌, ℕ, zero, suc, ◌+◌, ◌-◌, ◌%◌, ◌≤◌, Bool, true, false, List, [], ◌∷◌, ◌++◌}
use Rattle.std.proofs.Common.{Option, Some, None, refl, sym, ap, subst, arith, if◌then◌else◌}
use Rattle.std.specs.Prelude.{◌&&◌, ◌||◌, not, nat_eq, nat_le, nat_lt}
use Rattle.std.specs.Option.{option_map_or}
use Rattle.std.specs.Result.{result_ok}
use Rattle.std.specs.List.{All}
use Rattle.std.proofs.lemmas.Bool.{and_from, and_parts, eqb-true}
use Rattle.std.proofs.lemmas.List.Elements.{All-head, All-tail, All-weaker}
use Rattle.event_codec.specs.declared.message.Body.{Body}
use Rattle.event_codec.specs.declared.message.Body.TheVariants as bodies
use Rattle.event_codec.specs.Packet.{Contents}
use Rattle.event_codec.specs.Reading.{Reading}
use Rattle.pairing.specs.Marked.{Entry, entry}
use Rattle.sync_watch.specs.declared.arrival.Arrival.{Arrival}
use Rattle.sync_watch.specs.declared.judgement.Judgement.TheVariants.{Newer, Repeated, BeganAnew}
use Rattle.sync_watch.specs.Told.{syncs, follow_ups, known}
use Rattle.sync_watch.specs.Judged.{by_newest, sync_judgement, judged_sync}
use Rattle.sync_watch.specs.Life.{is_apart, is_ahead, is_behind, is_far, comes_too_soon, newest, newer_of}
use Rattle.slave_port.specs.declared.heard.Report.{Report}
use Rattle.recording_model.specs.declared.watched.Watched.{Watched}
use Rattle.recording_model.specs.Recorded.{Recorded}
use Rattle.recording_model.specs.Listening.{table_capacity, is_of, is_unicast, arrival_of, after_all, report_at}
use Rattle.recording_model.specs.Told.{is_sync, AreNumbered}
use Rattle.recording_model.specs.Lives.{lines_of}
use Rattle.recording_model.specs.Begins.{told_of_master, is_beginning, begins_with, tells_beginning, begun_at}
use Rattle.recording_model.specs.Apart.{IsToldApart, NoReportJoinsTwoLives}
use Rattle.recording_model.proofs.Known.{known-cons}
use Rattle.recording_model.proofs.Lines.{numbered-rest}
use Rattle.recording_model.proofs.Takes.{first-below}
use Rattle.recording_model.proofs.Lives.{no_report}
use Rattle.recording_model.proofs.Begins.{each_beginning}

-- what holds of each entry holds of the one that is known, and of the newest
known-in : (P : Entry ℕ → Type 0) (c number value : ℕ) (es : List (Entry ℕ)) → All P es
    → known c number es ≡ Some value → P (entry number value)
known-in P zero number value es are is = cc
known-in P (suc c) number value [] are is = cc
known-in P (suc c) number value (e ∷ es) are is =
    by (nat_eq e.number number) refl (sym (known-cons c number e es) ∙ is)
    (known-in P c number value es (All-tail P e es are))
  where
    by : (same : Bool) → nat_eq e.number number ≡ same
        → (if same then Some e.value else known c number es) ≡ Some value
        → (known c number es ≡ Some value → P (entry number value)) → P (entry number value)
    by true same is rest =
        let value_is : e.value ≡ value = cc in
        let number_is : e.number ≡ number = eqb-true e.number number same in
        subst (λ (n : ℕ). P (entry n value)) number_is
        (subst (λ (v : ℕ). P (entry e.number v)) value_is (All-head P e es are))
    by false same is rest = rest is

newest-in : (P : Entry ℕ → Type 0) (es : List (Entry ℕ)) (n : Entry ℕ) → All P es → newest es ≡ Some n → P n
newest-in P [] n are is = cc
newest-in P (e ∷ es) n are is = by (newest es) is (λ m. newest-in P es m (All-tail P e es are))
  where
    choose : (newer : Bool) (m : Entry ℕ) → P m → Some (if newer then e else m) ≡ Some n → P n
    choose true m it is = let one : e ≡ n = cc in subst P one (All-head P e es are)
    choose false m it is = let one : m ≡ n = cc in subst P one it

    by : (o : Option (Entry ℕ)) → Some (newer_of e o) ≡ Some n → ((m : Entry ℕ) → o ≡ Some m → P m) → P n
    by None is rest = let one : e ≡ n = cc in subst P one (All-head P e es are)
    by (Some m) is rest = choose (is_ahead e.number m.number) m (rest m refl) is

-- a number isn't far from itself
not-far : (number : ℕ) → is_far number number ≡ false
not-far number =
    let whole : number + 65536 - number ≡ 65536 = omega arith in
    ap (λ (n : ℕ). not (nat_le 1 (n % 65536) && nat_le (n % 65536) 256) && not (nat_lt (n % 65536) 256)) whole

newest-anew : (a : Arrival) (n : Option (Entry ℕ)) → option_map_or (λ n. is_ahead a.number.0 n.number) n true ≡ false
    → ((e : Entry ℕ) → n ≡ Some e → (is_far a.number.0 e.number || is_apart a.time e.value) ≡ true)
    → by_newest a n ≡ BeganAnew
newest-anew a None ahead_is each = cc
newest-anew a (Some e) ahead_is each =
    by (is_ahead a.number.0 e.number) (is_behind a.number.0 e.number) (is_apart a.time e.value) ahead_is (each e refl)
  where
    by : (in_front behind apart : Bool) → in_front ≡ false → ((not in_front && not behind) || apart) ≡ true
        → (if (if in_front then not (comes_too_soon a e) else behind && not apart) then Newer else BeganAnew) ≡ BeganAnew
    by true behind apart front one = cc
    by false true true front one = refl
    by false true false front one = cc
    by false false apart front one = refl

judged-anew : (a : Arrival) (sync follow : Option ℕ) (n : Option (Entry ℕ))
    → ((time : ℕ) → sync ≡ Some time → is_apart a.time time ≡ true)
    → option_map_or (λ n. is_ahead a.number.0 n.number) n true ≡ false
    → ((e : Entry ℕ) → n ≡ Some e → (is_far a.number.0 e.number || is_apart a.time e.value) ≡ true)
    → sync_judgement a sync follow n ≡ BeganAnew
judged-anew a (Some sync) follow n apart ahead_is each =
    ap (λ (b : Bool). if b then BeganAnew else Repeated) (apart sync refl)
judged-anew a None None n apart ahead_is each = newest-anew a n ahead_is each
judged-anew a None (Some follow) n apart ahead_is each = by (is_apart a.time follow)
  where
    by : (far : Bool) → (if far then BeganAnew else by_newest a n) ≡ BeganAnew
    by true = refl
    by false = newest-anew a n ahead_is each

module _ (w : Watched) (before : List Recorded) (d : Recorded) (m : Contents) (is : IsToldApart w before d m) where
  abbrev a : Arrival
  a = arrival_of m.header d.time

  abbrev IsApartFrom : Entry ℕ → Type 0
  IsApartFrom e = (is_far m.header.sequence.0 e.number || is_apart d.time e.value) ≡ true

  judged : judged_sync a table_capacity (told_of_master w before) ≡ BeganAnew
  judged =
      judged-anew a (known table_capacity m.header.sequence.0 (syncs (is_unicast m.header) (told_of_master w before)))
      (known table_capacity m.header.sequence.0 (follow_ups (is_unicast m.header) (told_of_master w before)))
      (newest (syncs (is_unicast m.header) (told_of_master w before)))
      (λ time found.
      sym (ap (λ (b : Bool). b || is_apart d.time time) (not-far m.header.sequence.0))
      ∙ known-in IsApartFrom table_capacity m.header.sequence.0 time
      (syncs (is_unicast m.header) (told_of_master w before)) is.apart found)
      is.not_ahead
      (λ e one. newest-in IsApartFrom (syncs (is_unicast m.header) (told_of_master w before)) e is.apart one)

  told_beginning : tells_beginning w before d ≡ true
  told_beginning =
      ap (λ (r : Reading). option_map_or (λ m. begins_with w before d m m.body) (result_ok r) false) is.said
      ∙ by m.body (and_parts (is_of w w.master m.header) (is_sync m.body) is.sync_is).1
    where
      by : (body : Body) → is_sync body ≡ true → begins_with w before d m body ≡ true
      by (bodies.Sync origin) sync =
          and_from (is_of w w.master m.header)
          (is_beginning (judged_sync a table_capacity (told_of_master w before)))
          (and_parts (is_of w w.master m.header) (is_sync m.body) is.sync_is).0 (ap is_beginning judged)
      by _ sync = cc

-- a beginning stays behind all that comes
begun-behind : (w : Watched) (later before : List Recorded) (d : Recorded) → AreNumbered (later ++ d ∷ before)
    → tells_beginning w before d ≡ true → d.line ≤ begun_at w (later ++ d ∷ before)
begun-behind w [] before d numbered tells =
    let is : begun_at w (d ∷ before) ≡ d.line = ap (λ (b : Bool). if b then d.line else begun_at w before) tells in
    omega (arith, is)
begun-behind w (x ∷ later) before d numbered tells =
    by (tells_beginning w (later ++ d ∷ before) x)
    (begun-behind w later before d (numbered-rest x (later ++ d ∷ before) numbered) tells)
  where
    by : (another : Bool) → d.line ≤ begun_at w (later ++ d ∷ before)
        → d.line ≤ (if another then x.line else begun_at w (later ++ d ∷ before))
    by true rest = let low = first-below x d later before numbered in omega (arith, low)
    by false rest = rest

-- what a report rests on, where the port began last at a line or behind it
rests-behind : (w : Watched) (earlier : List Recorded) (x : Recorded) (report : Report) (line : ℕ)
    → AreNumbered (x ∷ earlier) → line ≤ begun_at w (x ∷ earlier) → report_at w earlier x ≡ Some report
    → All (λ n. line ≤ n) (lines_of report)
rests-behind w earlier x report line numbered low is =
    let begun : (after_all w (x ∷ earlier)).begun ≡ begun_at w (x ∷ earlier) = each_beginning w (x ∷ earlier) in
    All-weaker (λ (n : ℕ). (after_all w (x ∷ earlier)).begun ≤ n) (λ (n : ℕ). line ≤ n)
    (λ (n : ℕ) (above : (after_all w (x ∷ earlier)).begun ≤ n). omega (arith, begun, low)) (lines_of report)
    (no_report w earlier x report numbered is)

-- the law
pub no_joining : NoReportJoinsTwoLives
no_joining = record {
  told = told_beginning;
  at_once = λ w before d report numbered tells is.
      rests-behind w before d report d.line numbered (begun-behind w [] before d numbered tells) is;
  from_then_on = λ w later before d x report numbered tells is.
      rests-behind w (later ++ d ∷ before) x report d.line numbered
      (begun-behind w (x ∷ later) before d numbered tells) is;
}
