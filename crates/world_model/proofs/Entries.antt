-- Entries after one more event.
use Rattle.std.proofs.Common.{◌≡◌, ◌≢◌, ◌∙◌, ℕ, zero, suc, ◌<◌, ◌≤◌, ◌==◌, Bool, true, false, List, [], ◌∷◌, ◌++◌, length, map, reverse, slice_get, if◌then◌else◌, Option, Some, None, IsOk, is_ok, option_map, option_and_then, refl, sym, ap, subst, arith}
use Rattle.std.specs.Prelude.{◌||◌}
use Rattle.std.specs.List.{list_any}
use Rattle.std.proofs.lemmas.Bool.Decides.{nat_tests}
use Rattle.std.proofs.lemmas.List.{map-append, reverse-append, length-append}
use Rattle.network_model.specs.declared.event.Event.{Event}
use Rattle.network_model.specs.declared.event.Event.TheVariants.{Leave}
use Rattle.network_model.specs.Network.{Network}
use Rattle.network_model.specs.Run.{Run, Place, place, place_at}
use Rattle.network_model.specs.Kinds.{is_leave_of}
use Rattle.network_model.specs.Clock.{reading}
use Rattle.network_model.specs.Truth.{TellsTruth, copy_of, copy_made}
use Rattle.network_model.specs.Outcome.{outcome_of, IsRun}
use Rattle.network_model.proofs.LeftOnce.{leave_before, not_left}
use Rattle.world_model.specs.Inner.Stands.{Entry}
use Rattle.world_model.specs.declared.entry.Left.{Left}
use Rattle.world_model.specs.declared.entry.Left.TheVariants.{Copy}
use Rattle.world_model.specs.declared.entry.Happened.{Happened}
use Rattle.world_model.specs.Inner.Stands.{run_of, octets_in, stay_in, event_at, octets_at, stay_at, ended, left_stay, entering, open_stay, Keeps}
use Rattle.world_model.specs.Inner.Acts.{Brings, entries_after}
use Rattle.world_model.proofs.Own.{same_if}

-- numbers that are tested for equality
same_number : (m n : ℕ) → (m == n) ≡ true → m ≡ n
same_number m n test = grind (arith, nat_tests)

is_same : (m n : ℕ) → m ≡ n → (m == n) ≡ true
is_same m n same = grind (arith, nat_tests)

not_same : (m n : ℕ) → m ≢ n → (m == n) ≡ false
not_same m n differ = by_test (m == n) refl
  where
    by_test : (b : Bool) → (m == n) ≡ b → b ≡ false
    by_test true test = absurd (differ (same_number m n test))
    by_test false test = refl

one_less : (m n : ℕ) → (suc m == suc n) ≡ (m == n)
one_less m n = by_test (m == n) refl
  where
    by_test : (b : Bool) → (m == n) ≡ b → (suc m == suc n) ≡ b
    by_test true test = is_same (suc m) (suc n) (ap suc (same_number m n test))
    by_test false test = not_same (suc m) (suc n) (λ same. let e : (m == n) ≡ true = is_same m n (omega arith) in cc)

-- what is at a place after one more was put last
pub get-push : {X : Type 0} (xs : List X) (x : X) (i : ℕ) → slice_get (xs ++ x ∷ []) i ≡ (if length xs == i then Some x else slice_get xs i)
get-push [] x zero = refl
get-push [] x (suc i) = sym (ap (λ b. if b then Some x else None) (not_same 0 (suc i) (omega arith)))
get-push (y ∷ ys) x zero = sym (ap (λ b. if b then Some x else Some y) (not_same (suc (length ys)) 0 (omega arith)))
get-push (y ∷ ys) x (suc i) = get-push ys x i ∙ sym (ap (λ b. if b then Some x else slice_get ys i) (one_less (length ys) i))

-- a stay that ends changes no event and no copy
left_stay-length : (transit : ℕ) (entries : List Entry) → length (left_stay transit entries) ≡ length entries
left_stay-length transit [] = refl
left_stay-length zero (entry ∷ entries) = refl
left_stay-length (suc transit) (entry ∷ entries) = ap suc (left_stay-length transit entries)

left_stay-events : (transit : ℕ) (entries : List Entry) → map (λ (e : Entry). e.event) (left_stay transit entries) ≡ map (λ (e : Entry). e.event) entries
left_stay-events transit [] = refl
left_stay-events zero (entry ∷ entries) = refl
left_stay-events (suc transit) (entry ∷ entries) = ap (λ rest. entry.event ∷ rest) (left_stay-events transit entries)

left_stay-event_at : (transit : ℕ) (entries : List Entry) (tag : ℕ) → event_at (left_stay transit entries) tag ≡ event_at entries tag
left_stay-event_at transit [] tag = refl
left_stay-event_at zero (entry ∷ entries) zero = refl
left_stay-event_at zero (entry ∷ entries) (suc tag) = refl
left_stay-event_at (suc transit) (entry ∷ entries) zero = refl
left_stay-event_at (suc transit) (entry ∷ entries) (suc tag) = left_stay-event_at transit entries tag

ended-octets : (left : Left) → octets_in (ended left) ≡ octets_in left
ended-octets (Copy octets) = refl
ended-octets _ = refl

left_stay-octets_at : (transit : ℕ) (entries : List Entry) (tag : ℕ) → octets_at (left_stay transit entries) tag ≡ octets_at entries tag
left_stay-octets_at transit [] tag = refl
left_stay-octets_at zero (entry ∷ entries) zero = ended-octets entry.left
left_stay-octets_at zero (entry ∷ entries) (suc tag) = refl
left_stay-octets_at (suc transit) (entry ∷ entries) zero = refl
left_stay-octets_at (suc transit) (entry ∷ entries) (suc tag) = left_stay-octets_at transit entries tag

ended-stay : (left : Left) → stay_in (ended left) ≡ None
ended-stay (Copy octets) = refl
ended-stay _ = refl

left_stay-stay_at : (transit : ℕ) (entries : List Entry) (tag : ℕ) → stay_at (left_stay transit entries) tag ≡ (if transit == tag then None else stay_at entries tag)
left_stay-stay_at transit [] tag = sym (same_if (transit == tag) None)
left_stay-stay_at zero (entry ∷ entries) zero = ended-stay entry.left
left_stay-stay_at zero (entry ∷ entries) (suc tag) = sym (ap (λ b. if b then None else stay_at entries tag) (not_same 0 (suc tag) (omega arith)))
left_stay-stay_at (suc transit) (entry ∷ entries) zero = sym (ap (λ b. if b then None else stay_in entry.left) (not_same (suc transit) 0 (omega arith)))
left_stay-stay_at (suc transit) (entry ∷ entries) (suc tag) =
    left_stay-stay_at transit entries tag ∙ sym (ap (λ b. if b then None else stay_at entries tag) (one_less transit tag))

-- the same of the entries after an event
pub after-length : (event : Event) (entries : List Entry) → length (entries_after event entries) ≡ length entries
after-length (Leave node transit at) entries = left_stay-length transit entries
after-length _ entries = refl

after-events : (event : Event) (entries : List Entry) → map (λ (e : Entry). e.event) (entries_after event entries) ≡ map (λ (e : Entry). e.event) entries
after-events (Leave node transit at) entries = left_stay-events transit entries
after-events _ entries = refl

after-event_at : (event : Event) (entries : List Entry) (tag : ℕ) → event_at (entries_after event entries) tag ≡ event_at entries tag
after-event_at (Leave node transit at) entries tag = left_stay-event_at transit entries tag
after-event_at _ entries tag = refl

after-octets_at : (event : Event) (entries : List Entry) (tag : ℕ) → octets_at (entries_after event entries) tag ≡ octets_at entries tag
after-octets_at (Leave node transit at) entries tag = left_stay-octets_at transit entries tag
after-octets_at _ entries tag = refl

after-stay_at : (event : Event) (entries : List Entry) (tag : ℕ)
    → stay_at (entries_after event entries) tag ≡ (if is_leave_of tag event then None else stay_at entries tag)
after-stay_at (Leave node transit at) entries tag = left_stay-stay_at transit entries tag
after-stay_at _ entries tag = refl

-- an event comes in front of the run where its entry comes last
pub run_of-after : (event : Event) (entries : List Entry) (left : Left)
    → run_of (entries_after event entries ++ (record { event = event; left = left }) ∷ []) ≡ event ∷ run_of entries
run_of-after event entries left =
    ap reverse (map-append (λ (e : Entry). e.event) (entries_after event entries) ((record { event = event; left = left }) ∷ []))
    ∙ reverse-append (map (λ (e : Entry). e.event) (entries_after event entries)) (event ∷ [])
    ∙ ap (λ (events : List Event). event ∷ reverse events) (after-events event entries)

-- an accepted event leaves no stay that isn't there
not_left_by : (network : Network) (run : Run) (event : Event) (tag : ℕ) → IsRun network (event ∷ run) → length run ≤ tag → is_leave_of tag event ≡ false
not_left_by network run (Leave node transit at) tag accepted late =
    let before : transit < length run = leave_before network run node transit at accepted.0 in grind (arith, nat_tests)
not_left_by network run _ tag accepted late = refl

-- the stay of an event, unless it was left
abbrev open_if : Bool → Option Place → Option ℕ
open_if b p = option_map reading (if b then None else option_and_then entering p)

module _ (network : Network) (run : Run) (event : Event) (entries : List Entry) (After : Type 0) (happened : Happened)
    (keeps : Keeps network run entries) (brings : Brings network run event After happened) where
  abbrev entry : Entry
  entry = record { event = event; left = happened.left }

  put : {Y : Type 0} (of : Entry → Option Y) (tag : ℕ) → option_and_then of (slice_get (entries_after event entries ++ entry ∷ []) tag)
      ≡ option_and_then of (if length run == tag then Some entry else slice_get (entries_after event entries) tag)
  put of tag =
      ap (option_and_then of) (get-push (entries_after event entries) entry tag)
      ∙ ap (λ n. option_and_then of (if n == tag then Some entry else slice_get (entries_after event entries) tag)) (after-length event entries ∙ sym keeps.count)

  accepted : IsOk (outcome_of network run event)
  accepted = ap is_ok brings.outcome

  events : (tag : ℕ) → event_at (entries_after event entries ++ entry ∷ []) tag ≡ option_map (λ (p : Place). p.event) (place_at (event ∷ run) tag)
  events tag =
      ap (option_map (λ (e : Entry). e.event)) (get-push (entries_after event entries) entry tag)
      ∙ ap (λ n. option_map (λ (e : Entry). e.event) (if n == tag then Some entry else slice_get (entries_after event entries) tag)) (after-length event entries ∙ sym keeps.count)
      ∙ by_test (length run == tag)
    where
      by_test : (b : Bool) → option_map (λ (e : Entry). e.event) (if b then Some entry else slice_get (entries_after event entries) tag)
          ≡ option_map (λ (p : Place). p.event) (if b then Some (place event run) else place_at run tag)
      by_test true = refl
      by_test false = after-event_at event entries tag ∙ keeps.events tag

  copies : (tag : ℕ) → TellsTruth (copy_of network (event ∷ run) tag) (octets_at (entries_after event entries ++ entry ∷ []) tag)
  copies tag = subst (TellsTruth (copy_of network (event ∷ run) tag)) (sym (put (λ (e : Entry). octets_in e.left) tag)) (by_test (length run == tag))
    where
      by_test : (b : Bool) → TellsTruth (if b then copy_made network event run (copy_of network run) else copy_of network run tag)
          (option_and_then (λ (e : Entry). octets_in e.left) (if b then Some entry else slice_get (entries_after event entries) tag))
      by_test true = brings.copy
      by_test false = subst (TellsTruth (copy_of network run tag)) (sym (after-octets_at event entries tag)) (keeps.copies tag)

  none_left : (tag : ℕ) → (length run == tag) ≡ true → (is_leave_of tag event || list_any (is_leave_of tag) run) ≡ false
  none_left tag same =
      let e : length run ≡ tag = grind (arith, nat_tests) in
      ap (λ b. b || list_any (is_leave_of tag) run) (not_left_by network run event tag (accepted, keeps.accepted) (omega arith)) ∙ not_left network run tag keeps.accepted (omega arith)

  stays : (tag : ℕ) → stay_at (entries_after event entries ++ entry ∷ []) tag ≡ option_map reading (open_stay (event ∷ run) tag)
  stays tag = put (λ (e : Entry). stay_in e.left) tag ∙ by_test (length run == tag) refl
    where
      kept : (b : Bool) → (if b then None else stay_at entries tag) ≡ open_if (b || list_any (is_leave_of tag) run) (place_at run tag)
      kept true = refl
      kept false = keeps.stays tag

      by_test : (b : Bool) → (length run == tag) ≡ b
          → option_and_then (λ (e : Entry). stay_in e.left) (if b then Some entry else slice_get (entries_after event entries) tag)
          ≡ open_if (is_leave_of tag event || list_any (is_leave_of tag) run) (if b then Some (place event run) else place_at run tag)
      by_test true same = brings.stay ∙ sym (ap (λ b. open_if b (Some (place event run))) (none_left tag same))
      by_test false same = after-stay_at event entries tag ∙ kept (is_leave_of tag event)

  -- the entries keep the run after one more event
  pub Keeps-after : Keeps network (event ∷ run) (entries_after event entries ++ entry ∷ [])
  Keeps-after = record {
    accepted = (accepted, keeps.accepted);
    count = omega (arith, length-append (entries_after event entries) (entry ∷ []), after-length event entries, keeps.count);
    events = events;
    copies = copies;
    stays = stays;
  }
