-- The newest message of a number is known until as many of its like came as are kept. What is known, how many lines are
-- heard, and which line has a number, as a recording grows.
use Rattle.std.proofs.Common.{◌≡◌, ◌∙◌, ℕ, zero, suc, ◌+◌, ◌<◌, ◌≤◌, Bool, true, false, List, [], ◌∷◌, Some, None}
use Rattle.std.proofs.Common.{refl, sym, ap, subst, arith, take, if◌then◌else◌, option_map}
use Rattle.std.specs.Prelude.{◌==◌, ◌&&◌, nat_eq, nat_lt, find}
use Rattle.std.specs.List.{All}
use Rattle.std.proofs.lemmas.Bool.{false≢true, and_parts, and_from, and_right, ne_eqb, eq-eqb, eqb-true, lt-ltb}
use Rattle.std.proofs.lemmas.List.Elements.{All-head, All-tail, All-weaker}
use Rattle.pairing.specs.Marked.{Entry, entry}
use Rattle.sync_watch.specs.declared.arrival.Arrival.{Arrival}
use Rattle.sync_watch.specs.Told.{known, of_flag}
use Rattle.recording_model.specs.declared.watched.Watched.{Watched}
use Rattle.recording_model.specs.Recorded.{Recorded}
use Rattle.recording_model.specs.Listening.{table_capacity}
use Rattle.recording_model.specs.Pairs.{at_line, says_like, is_heard, heard_count, heard_between}

-- the one of a number is known where at most so many came after it
abbrev pub IsKnown : (count number time : ℕ) → List (Entry ℕ) → Type 0
IsKnown count number time es = (c : ℕ) → count < c → c ≤ table_capacity → known c number es ≡ Some time

-- one more
pub known-cons : (c number : ℕ) (e : Entry ℕ) (es : List (Entry ℕ))
    → known (suc c) number (e ∷ es) ≡ (if nat_eq e.number number then Some e.value else known c number es)
known-cons c number e es = by (nat_eq e.number number)
  where
    by : (same : Bool)
        → option_map (λ (e : Entry ℕ). e.value)
        (if same then Some e else find (λ (e : Entry ℕ). nat_eq e.number number) (take c es))
        ≡ (if same then Some e.value else known c number es)
    by true = refl
    by false = refl

-- the one that came last
pub known-first : (count number time : ℕ) (es : List (Entry ℕ)) → IsKnown count number time (entry number time ∷ es)
known-first count number time es zero low fits = absurd (omega arith)
known-first count number time es (suc c) low fits =
    known-cons c number (entry number time) es
    ∙ ap (λ (same : Bool). if same then Some time else known c number es) (eq-eqb number number refl)

-- another came, whose number wasn't known
pub known-more : (count number time : ℕ) (e : Entry ℕ) (es : List (Entry ℕ))
    → known table_capacity e.number es ≡ None → IsKnown count number time es
    → IsKnown (count + 1) number time (e ∷ es)
known-more count number time e es none is zero low fits = absurd (omega arith)
known-more count number time e es none is (suc c) low fits =
    known-cons c number e es ∙ by (nat_eq e.number number) refl
  where
    by : (same : Bool) → nat_eq e.number number ≡ same
        → (if same then Some e.value else known c number es) ≡ Some time
    by true same =
        let one : e.number ≡ number = eqb-true e.number number same in
        let found : known table_capacity number es ≡ Some time = is table_capacity (omega arith) (omega arith) in
        let missing : known table_capacity number es ≡ None =
        subst (λ (n : ℕ). known table_capacity n es ≡ None) one none in
        let both : Some time ≡ None = sym found ∙ missing in cc
    by false same = is c (omega arith) (omega arith)

-- it is known where fewer came
pub known-fewer : (count more number time : ℕ) (es : List (Entry ℕ)) → count ≤ more → IsKnown count number time es
    → IsKnown more number time es
known-fewer count more number time es grown is c low fits = is c (omega arith) fits

-- the last one of its flag
pub known-arrival : (a : Arrival) (es : List (Entry ℕ)) → IsKnown 0 a.number.0 a.time (of_flag a.is_unicast a es)
known-arrival a es = by a.is_unicast refl
  where
    by : (flag : Bool) → a.is_unicast ≡ flag → IsKnown 0 a.number.0 a.time (of_flag flag a es)
    by true is = subst (λ (b : Bool). IsKnown 0 a.number.0 a.time (if b then entry a.number.0 a.time ∷ es else es)) (sym is)
        (known-first 0 a.number.0 a.time es)
    by false is = subst (λ (b : Bool). IsKnown 0 a.number.0 a.time (if b then es else entry a.number.0 a.time ∷ es)) (sym is)
        (known-first 0 a.number.0 a.time es)

-- the line of a number is one of them
pub at_line-in : (P : Recorded → Type 0) (number : ℕ) (ds : List Recorded) (d : Recorded) → All P ds
    → at_line number ds ≡ Some d → P d × (d.line ≡ number)
at_line-in P number [] d all is = cc
at_line-in P number (e ∷ ds) d all is =
    by (e.line == number) refl is (at_line-in P number ds d (All-tail P e ds all))
  where
    by : (same : Bool) → (e.line == number) ≡ same → (if same then Some e else at_line number ds) ≡ Some d
        → (at_line number ds ≡ Some d → P d × (d.line ≡ number)) → P d × (d.line ≡ number)
    by true same is rest =
        let one : e ≡ d = cc in
        subst (λ (e : Recorded). P e × (e.line ≡ number)) one (All-head P e ds all, eqb-true e.line number same)
    by false same is rest = rest is

-- it stays so where another line comes, which has a greater number
pub at_line-later : (number : ℕ) (x : Recorded) (ds : List Recorded) (d : Recorded)
    → All (λ (e : Recorded). e.line < x.line) ds → at_line number ds ≡ Some d → at_line number (x ∷ ds) ≡ Some d
at_line-later number x ds d below is =
    let found = at_line-in (λ (e : Recorded). e.line < x.line) number ds d below is in
    let lower : d.line < x.line = found.0 in
    let same : d.line ≡ number = found.1 in
    ap (λ (b : Bool). if b then Some x else at_line number ds)
    (ne_eqb x.line number (λ (e : x.line ≡ number). omega arith))
    ∙ is

-- the line that came last
pub at_line-now : (x : Recorded) (ds : List Recorded) → at_line x.line (x ∷ ds) ≡ Some x
at_line-now x ds = ap (λ (b : Bool). if b then Some x else at_line x.line ds) (eq-eqb x.line x.line refl)

module _ (w : Watched) where
  -- one line more
  pub count-grows : (passes : Recorded → Bool) (d : Recorded) (ds : List Recorded)
      → heard_count w passes ds ≤ heard_count w passes (d ∷ ds)
  count-grows passes d ds = by (passes d && is_heard w ds d)
    where
      by : (one : Bool)
          → heard_count w passes ds ≤ (if one then heard_count w passes ds + 1 else heard_count w passes ds)
      by true = omega arith
      by false = omega arith

  count-one : (passes : Recorded → Bool) (d : Recorded) (ds : List Recorded) → passes d ≡ true
      → is_heard w ds d ≡ true → heard_count w passes (d ∷ ds) ≡ heard_count w passes ds + 1
  count-one passes d ds is heard =
      ap (λ (b : Bool). if b then heard_count w passes ds + 1 else heard_count w passes ds)
      (and_from (passes d) (is_heard w ds d) is heard)

  count-none : (passes : Recorded → Bool) (d : Recorded) (ds : List Recorded) → passes d ≡ false
      → heard_count w passes (d ∷ ds) ≡ heard_count w passes ds
  count-none passes d ds is =
      ap (λ (b : Bool). if b && is_heard w ds d then heard_count w passes ds + 1 else heard_count w passes ds) is

  -- more pass
  count-weaker : (passes other : Recorded → Bool) (ds : List Recorded)
      → All (λ (d : Recorded). passes d ≡ true → other d ≡ true) ds
      → heard_count w passes ds ≤ heard_count w other ds
  count-weaker passes other [] are = omega arith
  count-weaker passes other (d ∷ ds) are =
      by (passes d) (other d) (is_heard w ds d)
      (All-head (λ (d : Recorded). passes d ≡ true → other d ≡ true) d ds are)
      (count-weaker passes other ds
      (All-tail (λ (d : Recorded). passes d ≡ true → other d ≡ true) d ds are))
    where
      by : (one two heard : Bool) → (one ≡ true → two ≡ true)
          → heard_count w passes ds ≤ heard_count w other ds
          → (if one && heard then heard_count w passes ds + 1 else heard_count w passes ds)
          ≤ (if two && heard then heard_count w other ds + 1 else heard_count w other ds)
      by true true true each rest = omega arith
      by true true false each rest = omega arith
      by true false heard each rest = absurd (false≢true (each refl))
      by false true true each rest = omega arith
      by false true false each rest = omega arith
      by false false heard each rest = omega arith

  -- a message like the first, behind it
  abbrev pub is_behind : Recorded → Recorded → Bool
  is_behind first d = nat_lt first.line d.line && says_like w first.said d.said

  -- how many of them are heard
  abbrev pub heard_behind : Recorded → List Recorded → ℕ
  heard_behind first ds = heard_count w (is_behind first) ds

  pub behind-one : (first d : Recorded) (ds : List Recorded) → first.line < d.line
      → says_like w first.said d.said ≡ true → is_heard w ds d ≡ true
      → heard_behind first (d ∷ ds) ≡ heard_behind first ds + 1
  behind-one first d ds lower like heard =
      count-one (is_behind first) d ds
      (and_from (nat_lt first.line d.line) (says_like w first.said d.said) (lt-ltb first.line d.line lower) like) heard

  -- those that stand between it and a later one, which isn't like it
  pub behind-between : (first later : Recorded) (ds : List Recorded)
      → All (λ (e : Recorded). e.line < later.line) ds → says_like w first.said later.said ≡ false
      → heard_behind first (later ∷ ds) ≤ heard_between w first later (later ∷ ds)
  behind-between first later ds below unlike =
      let between : Recorded → Bool = λ (d : Recorded). nat_lt first.line d.line && (nat_lt d.line later.line
      && says_like w first.said d.said) in
      let none = count-none (is_behind first) later ds
      (and_right (nat_lt first.line later.line) (says_like w first.said later.said) unlike) in
      let all = count-weaker (is_behind first) between ds
      (All-weaker (λ (e : Recorded). e.line < later.line)
      (λ (d : Recorded). is_behind first d ≡ true → between d ≡ true) each ds below) in
      let grows = count-grows between later ds in
      omega (arith, none, all, grows)
    where
      each : (d : Recorded) → d.line < later.line → is_behind first d ≡ true
          → (nat_lt first.line d.line && (nat_lt d.line later.line && says_like w first.said d.said)) ≡ true
      each d lower is =
          let parts = and_parts (nat_lt first.line d.line) (says_like w first.said d.said) is in
          and_from (nat_lt first.line d.line) (nat_lt d.line later.line && says_like w first.said d.said) parts.0
          (and_from (nat_lt d.line later.line) (says_like w first.said d.said)
          (lt-ltb d.line later.line lower) parts.1)
