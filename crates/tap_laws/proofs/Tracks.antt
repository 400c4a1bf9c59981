-- Which record each message came to, and that a record that is told takes no more.
use Rattle.std.proofs.Common.{◌≡◌, ◌∙◌, ◌<◌, ◌≤◌, ℕ, zero, suc, refl, sym, ap, subst, arith, Bool, true, false, if◌then◌else◌, ◌&&◌, nat_eq, List, [], ◌∷◌, ◌++◌, length, take, map, Option, Some, None, option_map, unwrap_or, length-append, append_assoc}
use Rattle.std.specs.Prelude.{⊤, IfSome, is_some, option_to_list, option_and_then, find as first_passing}
use Rattle.std.proofs.lemmas.Bool.{false≢true}
use Rattle.std.proofs.lemmas.Bool.Decides.{nat_tests}
use Rattle.pairing.specs.Marked.{Entry, entry, first_value as newest, replace_first}
use Rattle.tap_choice.specs.declared.met.Met.{Met}
use Rattle.tap_crossing.specs.declared.sighting.Kind.{Kind}
use Rattle.tap_crossing.specs.declared.sighting.Kind.TheVariants as kinds
use Rattle.tap_crossing.specs.declared.sighting.Place.{Place}
use Rattle.tap_crossing.specs.declared.sighting.Place.TheVariants as places
use Rattle.tap_crossing.specs.declared.sighting.Placed.{Placed}
use Rattle.tap_crossing.specs.declared.sighting.Sighting.{Sighting}
use Rattle.tap_crossing.specs.declared.places.Places.{Places}
use Rattle.tap_crossing.specs.declared.places.Record.{Record}
use Rattle.tap_crossing.specs.declared.places.Record.TheVariants as standings
use Rattle.tap_crossing.specs.declared.crossing.Crossing.{Crossing}
use Rattle.tap_crossing.specs.declared.crossing.NoCrossing.{NoCrossing}
use Rattle.tap_crossing.specs.declared.crossing.MessageOutcome.TheVariants as outcomes
use Rattle.tap_crossing.specs.Crossing.{crossing, no_crossing}
use Rattle.tap_crossing.specs.Record.{place_in, with_place, complete, after}
use Rattle.tap_crossing.specs.Records.{unclosed, with, new_record, joined, open_record, is_same_kind, records}
use Rattle.tap_crossing.specs.Told.{crossed_unless, closes_or_waits, comes_to, told}
use Rattle.tap_follow.specs.declared.followed.Followed.{Followed}
use Rattle.tap_follow.specs.Written.{records_most, placed_at, placed_in, crossing_in, crossings_in}
use Rattle.tap_laws.specs.Sound.{crossings_of, TheseAreTold, WasMet, EachWasMet, IsOneOf, IsMadeOf, EachCrossingIsMade}

pub these_told : TheseAreTold
these_told f [] = refl
these_told f (m ∷ earlier) = at (placed_at f m earlier) (these_told f earlier)
  where
    at : (o : Option Placed) → crossings_in f earlier ≡ crossings_of records_most (placed_in f earlier)
        → option_to_list (option_and_then (λ p. crossing_in (told records_most p (placed_in f earlier))) o) ++ crossings_in f earlier
        ≡ crossings_of records_most (option_to_list o ++ placed_in f earlier)
    at None same = same
    at (Some p) same = ap (λ xs. option_to_list (crossing_in (told records_most p (placed_in f earlier))) ++ xs) same

-- one more message was met
met_too : (f : Followed) (m : Met) (met : List Met) (p : Placed) (earlier : List Placed) → WasMet f met p earlier → WasMet f (m ∷ met) p earlier
met_too f m met p earlier was = record {
  m = was.m;
  met_later = m ∷ was.met_later;
  met_earlier = was.met_earlier;
  parts = ap (λ ms. m ∷ ms) was.parts;
  placed_is = was.placed_is;
  before = was.before;
}

met_here : (f : Followed) (m : Met) (met : List Met) (o : Option Placed) → placed_at f m met ≡ o
    → (later earlier : List Placed) (p : Placed) → option_to_list o ++ placed_in f met ≡ later ++ p ∷ earlier
    → ((later : List Placed) → placed_in f met ≡ later ++ p ∷ earlier → WasMet f met p earlier) → WasMet f (m ∷ met) p earlier
met_here f m met None placed later earlier p parts before = met_too f m met p earlier (before later parts)
met_here f m met (Some q) placed [] earlier p parts before = record {
  m = m;
  met_later = [];
  met_earlier = met;
  parts = refl;
  placed_is = placed ∙ (let is : q ≡ p = cc in ap Some is);
  before = cc;
}
met_here f m met (Some q) placed (l ∷ later) earlier p parts before = met_too f m met p earlier (before later cc)

pub each_met : EachWasMet
each_met f [] [] earlier p parts = absurd (let e : 0 ≡ suc (length earlier) = ap length parts in omega (arith, e))
each_met f [] (l ∷ later) earlier p parts = absurd (let e : 0 ≡ suc (length (later ++ p ∷ earlier)) = ap length parts in omega (arith, e))
each_met f (m ∷ met) later earlier p parts =
    met_here f m met (placed_at f m met) refl later earlier p parts (λ later parts. each_met f met later earlier p parts)

-- a record of a kind, and how many messages came before the one that opened it
pub record Track : Type 0 where
  pub number : ℕ
  pub opened : ℕ
  pub stands : Record

abbrev entries : List Track → List (Entry Record)
entries ts = map (λ (t : Track). entry t.number t.stands) ts

-- the newest of a number
abbrev newest_of : ℕ → List Track → Option Track
newest_of number [] = None
newest_of number (t ∷ ts) = if nat_eq t.number number then Some t else newest_of number ts

-- the same where that stands so
abbrev with_track : ℕ → Record → List Track → List Track
with_track number r [] = []
with_track number r (t ∷ ts) = if nat_eq t.number number then record { number = number; opened = t.opened; stands = r } ∷ ts else t ∷ with_track number r ts

-- it isn't closed
abbrev open_as : Record → Track → Option Track
open_as (standings.Open met) t = Some t
open_as standings.Spoiled t = Some t
open_as standings.Closed t = None

abbrev open_track : Option Track → Option Track
open_track None = None
open_track (Some t) = open_as t.stands t

abbrev joins : Placed → ℕ → List Track → Option Track → List Track
joins p place ts None = record { number = p.number.0; opened = place; stands = with p new_record } ∷ ts
joins p place ts (Some t) = with_track p.number.0 (with p t.stands) ts

module _ (capacity : ℕ) where
  -- to which record a message of this number comes
  abbrev comes : ℕ → List Track → Option Track
  comes number ts = open_track (newest_of number (take capacity ts))

  abbrev tracks : Kind → List Placed → List Track
  tracks kind [] = []
  tracks kind (p ∷ earlier) =
      if is_same_kind kind p.kind then joins p (length earlier) (tracks kind earlier) (comes p.number.0 (tracks kind earlier)) else tracks kind earlier

  newest_entries : (number n : ℕ) (ts : List Track)
      → newest number (take n (entries ts)) ≡ option_map (λ (t : Track). t.stands) (newest_of number (take n ts))
  newest_entries number zero [] = refl
  newest_entries number zero (t ∷ ts) = refl
  newest_entries number (suc n) [] = refl
  newest_entries number (suc n) (t ∷ ts) = at (nat_eq t.number number) (newest_entries number n ts)
    where
      at : (same : Bool) → newest number (take n (entries ts)) ≡ option_map (λ (t : Track). t.stands) (newest_of number (take n ts))
          → option_map (λ (e : Entry Record). e.value) (if same then Some (entry t.number t.stands) else first_passing (λ (e : Entry Record). nat_eq e.number number) (take n (entries ts)))
          ≡ option_map (λ (t : Track). t.stands) (if same then Some t else newest_of number (take n ts))
      at true rest = refl
      at false rest = rest

  replaced : (number : ℕ) (r : Record) (ts : List Track) → replace_first number r (entries ts) ≡ entries (with_track number r ts)
  replaced number r [] = refl
  replaced number r (t ∷ ts) = at (nat_eq t.number number) (replaced number r ts)
    where
      at : (same : Bool) → replace_first number r (entries ts) ≡ entries (with_track number r ts)
          → (if same then entry number r ∷ entries ts else entry t.number t.stands ∷ replace_first number r (entries ts))
          ≡ entries (if same then record { number = number; opened = t.opened; stands = r } ∷ ts else t ∷ with_track number r ts)
      at true rest = refl
      at false rest = ap (λ es. entry t.number t.stands ∷ es) rest

  open_entries : (o : Option Track) → unclosed (option_map (λ (t : Track). t.stands) o) ≡ option_map (λ (t : Track). t.stands) (open_track o)
  open_entries None = refl
  open_entries (Some t) = at t.stands refl
    where
      at : (r : Record) → t.stands ≡ r → unclosed (Some r) ≡ option_map (λ (t : Track). t.stands) (open_as r t)
      at (standings.Open met) is = ap Some (sym is)
      at standings.Spoiled is = ap Some (sym is)
      at standings.Closed is = refl

  -- the record that a message comes to
  opens_as : (number : ℕ) (ts : List Track) → open_record capacity number (entries ts) ≡ option_map (λ (t : Track). t.stands) (comes number ts)
  opens_as number ts = ap unclosed (newest_entries number capacity ts) ∙ open_entries (newest_of number (take capacity ts))

  joined_as : (p : Placed) (place : ℕ) (ts : List Track) (o : Option Track)
      → joined p (option_map (λ (t : Track). t.stands) o) (entries ts) ≡ entries (joins p place ts o)
  joined_as p place ts None = refl
  joined_as p place ts (Some t) = replaced p.number.0 (with p t.stands) ts

  -- the records stand so
  records_are : (kind : Kind) (ps : List Placed) → records capacity kind ps ≡ entries (tracks kind ps)
  records_are kind [] = refl
  records_are kind (p ∷ earlier) = at (is_same_kind kind p.kind) (records_are kind earlier)
    where
      at : (same : Bool) → records capacity kind earlier ≡ entries (tracks kind earlier)
          → (if same then joined p (open_record capacity p.number.0 (records capacity kind earlier)) (records capacity kind earlier) else records capacity kind earlier)
          ≡ entries (if same then joins p (length earlier) (tracks kind earlier) (comes p.number.0 (tracks kind earlier)) else tracks kind earlier)
      at true are =
          ap (λ rs. joined p (open_record capacity p.number.0 rs) rs) are
          ∙ ap (λ o. joined p o (entries (tracks kind earlier))) (opens_as p.number.0 (tracks kind earlier))
          ∙ joined_as p (length earlier) (tracks kind earlier) (comes p.number.0 (tracks kind earlier))
      at false are = are

-- this holds of each
abbrev Each : (Track → Type 0) → List Track → Type 0
Each P [] = ⊤
Each P (t ∷ ts) = P t × Each P ts

each_more : (P Q : Track → Type 0) → ((t : Track) → P t → Q t) → (ts : List Track) → Each P ts → Each Q ts
each_more P Q more [] all = tt
each_more P Q more (t ∷ ts) all = (more t all.0, each_more P Q more ts all.1)

-- of one that is found, too
each_found : (P : Track → Type 0) (number n : ℕ) (ts : List Track) (t : Track) → newest_of number (take n ts) ≡ Some t → Each P ts → P t
each_found P number zero [] t found all = cc
each_found P number zero (u ∷ ts) t found all = cc
each_found P number (suc n) [] t found all = cc
each_found P number (suc n) (u ∷ ts) t found all = at (nat_eq u.number number) found (λ found. each_found P number n ts t found all.1)
  where
    at : (b : Bool) → (if b then Some u else newest_of number (take n ts)) ≡ Some t → (newest_of number (take n ts) ≡ Some t → P t) → P t
    at true found rest = let is : u ≡ t = cc in subst P is all.0
    at false found rest = rest found

-- and where the one that is found stands otherwise, and that does too
each_with : (P : Track → Type 0) (number n : ℕ) (r : Record) (ts : List Track) (t : Track) → newest_of number (take n ts) ≡ Some t → Each P ts
    → P (record { number = number; opened = t.opened; stands = r }) → Each P (with_track number r ts)
each_with P number zero r [] t found all it = tt
each_with P number zero r (u ∷ ts) t found all it = cc
each_with P number (suc n) r [] t found all it = tt
each_with P number (suc n) r (u ∷ ts) t found all it = at (nat_eq u.number number) found (λ found. each_with P number n r ts t found all.1 it)
  where
    at : (b : Bool) → (if b then Some u else newest_of number (take n ts)) ≡ Some t → (newest_of number (take n ts) ≡ Some t → Each P (with_track number r ts))
        → Each P (if b then record { number = number; opened = u.opened; stands = r } ∷ ts else u ∷ with_track number r ts)
    at true found rest =
        let is : t ≡ u = cc in
        (subst (λ (v : Track). P (record { number = number; opened = v.opened; stands = r })) is it, all.1)
    at false found rest = (all.0, rest found)

-- each was opened before the one in front of it
abbrev IsFalling : ℕ → List Track → Type 0
IsFalling bound [] = ⊤
IsFalling bound (t ∷ ts) = (t.opened < bound) × IsFalling t.opened ts

falling_with : (bound number : ℕ) (r : Record) (ts : List Track) → IsFalling bound ts → IsFalling bound (with_track number r ts)
falling_with bound number r [] falls = tt
falling_with bound number r (t ∷ ts) falls = at (nat_eq t.number number) (falling_with t.opened number r ts falls.1)
  where
    at : (b : Bool) → IsFalling t.opened (with_track number r ts)
        → IsFalling bound (if b then record { number = number; opened = t.opened; stands = r } ∷ ts else t ∷ with_track number r ts)
    at true rest = falls
    at false rest = (falls.0, rest)

falling_more : (bound more : ℕ) (ts : List Track) → bound ≤ more → IsFalling bound ts → IsFalling more ts
falling_more bound more [] up falls = tt
falling_more bound more (t ∷ ts) up falls = (let n = falls.0 in omega (arith, n, up), falls.1)

below : (bound : ℕ) (ts : List Track) → IsFalling bound ts → Each (λ t. t.opened < bound) ts
below bound [] falls = tt
below bound (t ∷ ts) falls = (falls.0, below bound ts (falling_more t.opened bound ts (let n = falls.0 in omega (arith, n)) falls.1))

-- those that were opened with this one are closed
abbrev AreClosed : ℕ → Track → Type 0
AreClosed opened t = t.opened ≡ opened → t.stands ≡ standings.Closed

-- once the one that is found is closed, all that were opened with it are: there is no other
closed_with : (bound number n : ℕ) (ts : List Track) (t : Track) → newest_of number (take n ts) ≡ Some t → IsFalling bound ts
    → Each (AreClosed t.opened) (with_track number standings.Closed ts)
closed_with bound number zero [] t found falls = tt
closed_with bound number zero (u ∷ ts) t found falls = cc
closed_with bound number (suc n) [] t found falls = tt
closed_with bound number (suc n) (u ∷ ts) t found falls =
    at (nat_eq u.number number) found (λ found. closed_with u.opened number n ts t found falls.1)
  where
    at : (b : Bool) → (if b then Some u else newest_of number (take n ts)) ≡ Some t
        → (newest_of number (take n ts) ≡ Some t → Each (AreClosed t.opened) (with_track number standings.Closed ts))
        → Each (AreClosed t.opened) (if b then record { number = number; opened = u.opened; stands = standings.Closed } ∷ ts else u ∷ with_track number standings.Closed ts)
    at true found rest =
        let is : t ≡ u = cc in (
          λ same. refl,
          each_more (λ v. v.opened < u.opened) (AreClosed t.opened)
              (λ v less same. absurd (let e : t.opened ≡ u.opened = ap (λ (w : Track). w.opened) is in omega (arith, e, same, less))) ts (below u.opened ts falls.1),
        )
    at false found rest =
        (λ same. absurd (let less = each_found (λ v. v.opened < u.opened) number n ts t found (below u.opened ts falls.1) in omega (arith, less, same)), rest found)

-- a record that isn't closed is the one that was found
is_open : (o : Option Track) (t : Track) → open_track o ≡ Some t → (o ≡ Some t) × (t.stands ≡ standings.Closed → ⊥)
is_open None t is = cc
is_open (Some u) t is = at u.stands refl is
  where
    at : (r : Record) → u.stands ≡ r → open_as r u ≡ Some t → (Some u ≡ Some t) × (t.stands ≡ standings.Closed → ⊥)
    at (standings.Open met) stands is = (is, λ closed. let same : u ≡ t = cc in let e : standings.Open met ≡ standings.Closed = sym stands ∙ ap (λ (v : Track). v.stands) same ∙ closed in cc)
    at standings.Spoiled stands is = (is, λ closed. let same : u ≡ t = cc in let e : standings.Spoiled ≡ standings.Closed = sym stands ∙ ap (λ (v : Track). v.stands) same ∙ closed in cc)
    at standings.Closed stands is = cc

found_number : (number n : ℕ) (ts : List Track) (t : Track) → newest_of number (take n ts) ≡ Some t → t.number ≡ number
found_number number zero [] t found = cc
found_number number zero (u ∷ ts) t found = cc
found_number number (suc n) [] t found = cc
found_number number (suc n) (u ∷ ts) t found = at (nat_eq u.number number) refl found (found_number number n ts t)
  where
    at : (b : Bool) → nat_eq u.number number ≡ b → (if b then Some u else newest_of number (take n ts)) ≡ Some t
        → (newest_of number (take n ts) ≡ Some t → t.number ≡ number) → t.number ≡ number
    at true same found rest =
        let is : t ≡ u = cc in
        let named : u.number ≡ number = grind (arith, nat_tests, same) in
        ap (λ (v : Track). v.number) is ∙ named
    at false other found rest = rest found

same_kind : (a b : Kind) → is_same_kind a b ≡ true → b ≡ a
same_kind kinds.Sync kinds.Sync is = refl
same_kind kinds.Sync kinds.DelayReq is = absurd (false≢true is)
same_kind kinds.DelayReq kinds.Sync is = absurd (false≢true is)
same_kind kinds.DelayReq kinds.DelayReq is = refl

pub kind_is_same : (a : Kind) → is_same_kind a a ≡ true
kind_is_same kinds.Sync = refl
kind_is_same kinds.DelayReq = refl

-- which message opened the record that it comes to
abbrev id_by : ℕ → Option Track → ℕ
id_by place None = place
id_by place (Some t) = t.opened

-- how that record stands before
abbrev stands_of : Option Track → Record
stands_of None = new_record
stands_of (Some t) = t.stands

abbrev joined_track : Placed → ℕ → Option Track → Track
joined_track p place o = record { number = p.number.0; opened = id_by place o; stands = with p (stands_of o) }

-- what is kept of a message that was met
pub record Made (here : Placed → List Placed → ℕ) (ps : List Placed) (kind : Kind) (number opened : ℕ) (place : Place) (s : Sighting) : Type 0 where
  pub later : List Placed
  pub earlier : List Placed
  pub p : Placed
  pub parts : ps ≡ later ++ p ∷ earlier
  pub kind_is : p.kind ≡ kind
  pub number_is : p.number.0 ≡ number
  pub place_is : p.place ≡ place
  pub sighting_is : p.sighting ≡ s
  pub opened_is : here p earlier ≡ opened

module _ (here : Placed → List Placed → ℕ) where
  made_more : (q : Placed) (ps : List Placed) (kind : Kind) (number opened : ℕ) (place : Place) (s : Sighting)
      → Made here ps kind number opened place s → Made here (q ∷ ps) kind number opened place s
  made_more q ps kind number opened place s made = record {
    later = q ∷ made.later;
    earlier = made.earlier;
    p = made.p;
    parts = ap (λ ms. q ∷ ms) made.parts;
    kind_is = made.kind_is;
    number_is = made.number_is;
    place_is = made.place_is;
    sighting_is = made.sighting_is;
    opened_is = made.opened_is;
  }

  abbrev MadeIn : List Placed → Kind → (number opened : ℕ) → Place → Option Sighting → Type 0
  MadeIn ps kind number opened place None = ⊤
  MadeIn ps kind number opened place (Some s) = Made here ps kind number opened place s

  -- all that a record holds is
  abbrev AreMet : List Placed → Kind → (number opened : ℕ) → Places → Type 0
  AreMet ps kind number opened met =
      MadeIn ps kind number opened places.First met.first × MadeIn ps kind number opened places.Second met.second
      × MadeIn ps kind number opened places.AtFrom met.at_from × MadeIn ps kind number opened places.AtTo met.at_to

  abbrev StandsMet : List Placed → Kind → (number opened : ℕ) → Record → Type 0
  StandsMet ps kind number opened (standings.Open met) = AreMet ps kind number opened met
  StandsMet ps kind number opened standings.Spoiled = ⊤
  StandsMet ps kind number opened standings.Closed = ⊤

  in_more : (q : Placed) (ps : List Placed) (kind : Kind) (number opened : ℕ) (place : Place) (o : Option Sighting)
      → MadeIn ps kind number opened place o → MadeIn (q ∷ ps) kind number opened place o
  in_more q ps kind number opened place None made = tt
  in_more q ps kind number opened place (Some s) made = made_more q ps kind number opened place s made

  met_more : (q : Placed) (ps : List Placed) (kind : Kind) (number opened : ℕ) (met : Places) → AreMet ps kind number opened met → AreMet (q ∷ ps) kind number opened met
  met_more q ps kind number opened met (first, second, at_from, at_to) = (
    in_more q ps kind number opened places.First met.first first,
    in_more q ps kind number opened places.Second met.second second,
    in_more q ps kind number opened places.AtFrom met.at_from at_from,
    in_more q ps kind number opened places.AtTo met.at_to at_to,
  )

  stands_more : (q : Placed) (ps : List Placed) (kind : Kind) (number opened : ℕ) (r : Record) → StandsMet ps kind number opened r → StandsMet (q ∷ ps) kind number opened r
  stands_more q ps kind number opened (standings.Open met) made = met_more q ps kind number opened met made
  stands_more q ps kind number opened standings.Spoiled made = tt
  stands_more q ps kind number opened standings.Closed made = tt

  with_met : (ps : List Placed) (kind : Kind) (number opened : ℕ) (place : Place) (s : Sighting) (met : Places)
      → Made here ps kind number opened place s → AreMet ps kind number opened met → AreMet ps kind number opened (with_place place s met)
  with_met ps kind number opened places.First s met made (first, second, at_from, at_to) = (made, second, at_from, at_to)
  with_met ps kind number opened places.Second s met made (first, second, at_from, at_to) = (first, made, at_from, at_to)
  with_met ps kind number opened places.AtFrom s met made (first, second, at_from, at_to) = (first, second, made, at_to)
  with_met ps kind number opened places.AtTo s met made (first, second, at_from, at_to) = (first, second, at_from, made)

  after_met : (ps : List Placed) (kind : Kind) (number opened : ℕ) (place : Place) (s : Sighting) → Made here ps kind number opened place s
      → (r : Record) → StandsMet ps kind number opened r → StandsMet ps kind number opened (after place s r)
  after_met ps kind number opened place s made (standings.Open met) all = taken (is_some (place_in met place)) (is_some (complete (with_place place s met)))
    where
      closes : (b : Bool) → StandsMet ps kind number opened (if b then standings.Closed else standings.Open (with_place place s met))
      closes true = tt
      closes false = with_met ps kind number opened place s met made all

      taken : (b c : Bool) → StandsMet ps kind number opened (if b then standings.Spoiled else (if c then standings.Closed else standings.Open (with_place place s met)))
      taken true c = tt
      taken false c = closes c
  after_met ps kind number opened place s made standings.Spoiled all = tt
  after_met ps kind number opened place s made standings.Closed all = tt

-- a record that a message closes with a crossing
pub record Closes (p : Placed) (r : Record) (x : Crossing) : Type 0 where
  pub met : Places
  pub open_is : r ≡ standings.Open met
  pub place_is : is_some (place_in met p.place) ≡ false
  pub kind_is : p.kind ≡ x.kind
  pub number_is : p.number ≡ x.number
  pub crossing_is : option_map (crossing x.kind x.number) (complete (with_place p.place p.sighting met)) ≡ Some x
  pub no_reason : option_and_then (no_crossing x.kind) (complete (with_place p.place p.sighting met)) ≡ None
  pub closed_is : with p r ≡ standings.Closed

pub closes_by : (p : Placed) (r : Record) (x : Crossing) → comes_to p r ≡ outcomes.Crossed x → Closes p r x
closes_by p (standings.Open met) x told_is = at (is_some (place_in met p.place)) refl told_is
  where
    by : (o : Option _) → complete (with_place p.place p.sighting met) ≡ o → is_some (place_in met p.place) ≡ false
        → closes_or_waits p o ≡ outcomes.Crossed x → Closes p (standings.Open met) x
    by None is place_is told_is = cc
    by (Some c) is place_is told_is = reason (no_crossing p.kind c) refl told_is
      where
        reason : (why : Option NoCrossing) → no_crossing p.kind c ≡ why → crossed_unless why p.kind p.number c ≡ outcomes.Crossed x → Closes p (standings.Open met) x
        reason (Some w) why told_is = cc
        reason None why told_is =
            let x_is : crossing p.kind p.number c ≡ x = cc in
            let kind_is : p.kind ≡ x.kind = ap (λ (y : Crossing). y.kind) x_is in
            let number_is : p.number ≡ x.number = ap (λ (y : Crossing). y.number) x_is in
            record {
              met = met;
              open_is = refl;
              place_is = place_is;
              kind_is = kind_is;
              number_is = number_is;
              crossing_is = rw is (subst (λ (y : Crossing). Some (crossing y.kind y.number c) ≡ Some y) x_is refl);
              no_reason = rw (is, ← kind_is) why;
              closed_is = rw (place_is, is) refl;
            }

    at : (b : Bool) → is_some (place_in met p.place) ≡ b
        → (if b then outcomes.Spoils else closes_or_waits p (complete (with_place p.place p.sighting met))) ≡ outcomes.Crossed x → Closes p (standings.Open met) x
    at true place_is told_is = cc
    at false place_is told_is = by (complete (with_place p.place p.sighting met)) refl place_is told_is
closes_by p standings.Spoiled x told_is = cc
closes_by p standings.Closed x told_is = cc

module _ (capacity : ℕ) where
  abbrev here : Placed → List Placed → ℕ
  here p earlier = id_by (length earlier) (comes capacity p.number.0 (tracks capacity p.kind earlier))

  each_joined : (P : Track → Type 0) (p : Placed) (place : ℕ) (ts : List Track) (o : Option Track) → comes capacity p.number.0 ts ≡ o → Each P ts
      → P (joined_track p place o) → Each P (joins p place ts o)
  each_joined P p place ts None is all it = (it, all)
  each_joined P p place ts (Some t) is all it =
      each_with P p.number.0 capacity (with p t.stands) ts t (is_open (newest_of p.number.0 (take capacity ts)) t is).0 all it

  falls : (kind : Kind) (ps : List Placed) → IsFalling (length ps) (tracks capacity kind ps)
  falls kind [] = tt
  falls kind (p ∷ earlier) = at (is_same_kind kind p.kind) (falls kind earlier)
    where
      by : (o : Option Track) → IsFalling (length earlier) (tracks capacity kind earlier)
          → IsFalling (suc (length earlier)) (joins p (length earlier) (tracks capacity kind earlier) o)
      by None before = (omega arith, before)
      by (Some t) before =
          falling_with (suc (length earlier)) p.number.0 (with p t.stands) (tracks capacity kind earlier)
          (falling_more (length earlier) (suc (length earlier)) (tracks capacity kind earlier) (omega arith) before)

      at : (b : Bool) → IsFalling (length earlier) (tracks capacity kind earlier)
          → IsFalling (suc (length earlier)) (if b then joins p (length earlier) (tracks capacity kind earlier) (comes capacity p.number.0 (tracks capacity kind earlier)) else tracks capacity kind earlier)
      at true before = by (comes capacity p.number.0 (tracks capacity kind earlier)) before
      at false before = falling_more (length earlier) (suc (length earlier)) (tracks capacity kind earlier) (omega arith) before

  abbrev IsMet : List Placed → Kind → Track → Type 0
  IsMet ps kind t = StandsMet here ps kind t.number t.opened t.stands

  made_here : (p : Placed) (earlier : List Placed) (kind : Kind) → p.kind ≡ kind
      → Made here (p ∷ earlier) kind p.number.0 (id_by (length earlier) (comes capacity p.number.0 (tracks capacity kind earlier))) p.place p.sighting
  made_here p earlier kind is = record {
    later = [];
    earlier = earlier;
    p = p;
    parts = refl;
    kind_is = is;
    number_is = refl;
    place_is = refl;
    sighting_is = refl;
    opened_is = ap (λ k. id_by (length earlier) (comes capacity p.number.0 (tracks capacity k earlier))) is;
  }

  -- what the record holds that a message comes to
  stands_met : (p : Placed) (earlier : List Placed) (kind : Kind) → Each (IsMet earlier kind) (tracks capacity kind earlier)
      → (o : Option Track) → comes capacity p.number.0 (tracks capacity kind earlier) ≡ o
      → StandsMet here (p ∷ earlier) kind p.number.0 (id_by (length earlier) o) (stands_of o)
  stands_met p earlier kind all None is = (tt, tt, tt, tt)
  stands_met p earlier kind all (Some t) is =
      let found = (is_open (newest_of p.number.0 (take capacity (tracks capacity kind earlier))) t is).0 in
      let it = each_found (IsMet earlier kind) p.number.0 capacity (tracks capacity kind earlier) t found all in
      let named = found_number p.number.0 capacity (tracks capacity kind earlier) t found in
      stands_more here p earlier kind p.number.0 t.opened t.stands (subst (λ n. StandsMet here earlier kind n t.opened t.stands) named it)

  met : (kind : Kind) (ps : List Placed) → Each (IsMet ps kind) (tracks capacity kind ps)
  met kind [] = tt
  met kind (p ∷ earlier) = at (is_same_kind kind p.kind) refl (met kind earlier)
    where
      more : Each (IsMet earlier kind) (tracks capacity kind earlier) → Each (IsMet (p ∷ earlier) kind) (tracks capacity kind earlier)
      more all = each_more (IsMet earlier kind) (IsMet (p ∷ earlier) kind) (λ t. stands_more here p earlier kind t.number t.opened t.stands) (tracks capacity kind earlier) all

      by : p.kind ≡ kind → Each (IsMet earlier kind) (tracks capacity kind earlier) → (o : Option Track) → comes capacity p.number.0 (tracks capacity kind earlier) ≡ o
          → Each (IsMet (p ∷ earlier) kind) (joins p (length earlier) (tracks capacity kind earlier) o)
      by same all o is =
          each_joined (IsMet (p ∷ earlier) kind) p (length earlier) (tracks capacity kind earlier) o is (more all)
          (after_met here (p ∷ earlier) kind p.number.0 (id_by (length earlier) o) p.place p.sighting
          (subst (λ (u : Option Track). Made here (p ∷ earlier) kind p.number.0 (id_by (length earlier) u) p.place p.sighting) is (made_here p earlier kind same))
          (stands_of o) (stands_met p earlier kind all o is))

      at : (b : Bool) → is_same_kind kind p.kind ≡ b → Each (IsMet earlier kind) (tracks capacity kind earlier)
          → Each (IsMet (p ∷ earlier) kind) (if b then joins p (length earlier) (tracks capacity kind earlier) (comes capacity p.number.0 (tracks capacity kind earlier)) else tracks capacity kind earlier)
      at true same all = by (same_kind kind p.kind same) all (comes capacity p.number.0 (tracks capacity kind earlier)) refl
      at false other all = more all

  -- what is told of a message is what is told of the record that it comes to
  told_as : (p : Placed) (earlier : List Placed) → told capacity p earlier ≡ comes_to p (stands_of (comes capacity p.number.0 (tracks capacity p.kind earlier)))
  told_as p earlier =
      ap (λ rs. comes_to p (unwrap_or (open_record capacity p.number.0 rs) new_record)) (records_are capacity p.kind earlier)
      ∙ ap (λ o. comes_to p (unwrap_or o new_record)) (opens_as capacity p.number.0 (tracks capacity p.kind earlier))
      ∙ ap (comes_to p) (at (comes capacity p.number.0 (tracks capacity p.kind earlier)))
    where
      at : (o : Option Track) → unwrap_or (option_map (λ (t : Track). t.stands) o) new_record ≡ stands_of o
      at None = refl
      at (Some t) = refl

  abbrev AllClosed : ℕ → List Track → Type 0
  AllClosed opened ts = Each (AreClosed opened) ts

  -- once a crossing is told, its record is closed
  closed_here : (p : Placed) (earlier : List Placed) → with p (stands_of (comes capacity p.number.0 (tracks capacity p.kind earlier))) ≡ standings.Closed
      → AllClosed (here p earlier) (tracks capacity p.kind (p ∷ earlier))
  closed_here p earlier closed = rw (kind_is_same p.kind) (at (comes capacity p.number.0 (tracks capacity p.kind earlier)) refl closed)
    where
      at : (o : Option Track) → comes capacity p.number.0 (tracks capacity p.kind earlier) ≡ o → with p (stands_of o) ≡ standings.Closed
          → AllClosed (id_by (length earlier) o) (joins p (length earlier) (tracks capacity p.kind earlier) o)
      at None is closed = (
        λ same. closed,
        each_more (λ t. t.opened < length earlier) (AreClosed (length earlier)) (λ t less same. absurd (omega (arith, less, same)))
            (tracks capacity p.kind earlier) (below (length earlier) (tracks capacity p.kind earlier) (falls p.kind earlier)),
      )
      at (Some t) is closed =
          subst (λ (r : Record). AllClosed t.opened (with_track p.number.0 r (tracks capacity p.kind earlier))) (sym closed)
          (closed_with (length earlier) p.number.0 capacity (tracks capacity p.kind earlier) t
          (is_open (newest_of p.number.0 (take capacity (tracks capacity p.kind earlier))) t is).0 (falls p.kind earlier))

  -- no message comes to it any more
  apart : (opened number place : ℕ) (ts : List Track) → AllClosed opened ts → opened < place → (o : Option Track) → comes capacity number ts ≡ o → id_by place o ≡ opened → ⊥
  apart opened number place ts all less None is same = omega (arith, less, same)
  apart opened number place ts all less (Some t) is same =
      let open_it = is_open (newest_of number (take capacity ts)) t is in
      open_it.1 (each_found (AreClosed opened) number capacity ts t open_it.0 all same)

  stays_closed : (opened : ℕ) (kind : Kind) (later ps : List Placed) → opened < length ps → AllClosed opened (tracks capacity kind ps)
      → AllClosed opened (tracks capacity kind (later ++ ps))
  stays_closed opened kind [] ps less all = all
  stays_closed opened kind (q ∷ later) ps less all = at (is_same_kind kind q.kind) (stays_closed opened kind later ps less all)
    where
      far : opened < length (later ++ ps)
      far = let n = length-append later ps in omega (arith, less, n)

      at : (b : Bool) → AllClosed opened (tracks capacity kind (later ++ ps))
          → AllClosed opened (if b then joins q (length (later ++ ps)) (tracks capacity kind (later ++ ps)) (comes capacity q.number.0 (tracks capacity kind (later ++ ps)))
          else tracks capacity kind (later ++ ps))
      at true all =
          each_joined (AreClosed opened) q (length (later ++ ps)) (tracks capacity kind (later ++ ps)) (comes capacity q.number.0 (tracks capacity kind (later ++ ps))) refl all
          (λ same. absurd (apart opened q.number.0 (length (later ++ ps)) (tracks capacity kind (later ++ ps)) all far
          (comes capacity q.number.0 (tracks capacity kind (later ++ ps))) refl same))
      at false all = all

  -- the newest message that came to the record of a kind which was opened by this one
  abbrev last_of : Kind → ℕ → List Placed → ℕ
  last_of kind opened [] = 0
  last_of kind opened (p ∷ earlier) = if is_same_kind kind p.kind && nat_eq (here p earlier) opened then length earlier else last_of kind opened earlier

  eq_self : (n : ℕ) → nat_eq n n ≡ true
  eq_self n = grind (arith, nat_tests)

  last_is : (p : Placed) (later earlier : List Placed) → AllClosed (here p earlier) (tracks capacity p.kind (p ∷ earlier)) → here p earlier < suc (length earlier)
      → last_of p.kind (here p earlier) (later ++ p ∷ earlier) ≡ length earlier
  last_is p [] earlier all less = rw (kind_is_same p.kind, eq_self (here p earlier)) refl
  last_is p (q ∷ later) earlier all less =
      at (is_same_kind p.kind q.kind) refl (nat_eq (here q (later ++ p ∷ earlier)) (here p earlier)) refl (last_is p later earlier all less)
    where
      at : (b : Bool) → is_same_kind p.kind q.kind ≡ b → (c : Bool) → nat_eq (here q (later ++ p ∷ earlier)) (here p earlier) ≡ c
          → last_of p.kind (here p earlier) (later ++ p ∷ earlier) ≡ length earlier
          → (if b && c then length (later ++ p ∷ earlier) else last_of p.kind (here p earlier) (later ++ p ∷ earlier)) ≡ length earlier
      at false kind_is c same rest = rest
      at true kind_is false same rest = rest
      at true kind_is true same rest =
          let ps : List Placed = later ++ p ∷ earlier in
          let is : here q ps ≡ here p earlier = grind (arith, nat_tests, same) in
          let by : id_by (length ps) (comes capacity q.number.0 (tracks capacity p.kind ps)) ≡ here p earlier =
          ap (λ k. id_by (length ps) (comes capacity q.number.0 (tracks capacity k ps))) (sym (same_kind p.kind q.kind kind_is)) ∙ is in
          let far : here p earlier < length ps = let n = length-append later (p ∷ earlier) in omega (arith, less, n) in
          absurd (apart (here p earlier) q.number.0 (length ps) (tracks capacity p.kind ps) (stays_closed (here p earlier) p.kind later (p ∷ earlier) less all) far
          (comes capacity q.number.0 (tracks capacity p.kind ps)) refl by)

  -- of a message by its place
  abbrev kind_at : List Placed → ℕ → Kind
  kind_at [] i = kinds.Sync
  kind_at (p ∷ earlier) i = if nat_eq i (length earlier) then p.kind else kind_at earlier i

  abbrev here_at : List Placed → ℕ → ℕ
  here_at [] i = 0
  here_at (p ∷ earlier) i = if nat_eq i (length earlier) then here p earlier else here_at earlier i

  abbrev of_at : List Placed → ℕ → ℕ
  of_at ps i = last_of (kind_at ps i) (here_at ps i) ps

  it_is : (later : List Placed) (p : Placed) (earlier : List Placed)
      → (kind_at (later ++ p ∷ earlier) (length earlier) ≡ p.kind) × (here_at (later ++ p ∷ earlier) (length earlier) ≡ here p earlier)
  it_is [] p earlier = rw (eq_self (length earlier)) (refl, refl)
  it_is (q ∷ later) p earlier = rw other (it_is later p earlier)
    where
      far : length earlier < length (later ++ p ∷ earlier)
      far = let n = length-append later (p ∷ earlier) in omega (arith, n)

      other : nat_eq (length earlier) (length (later ++ p ∷ earlier)) ≡ false
      other = grind (arith, nat_tests, far)

  less_here : (p : Placed) (earlier : List Placed) → here p earlier < suc (length earlier)
  less_here p earlier = at (comes capacity p.number.0 (tracks capacity p.kind earlier)) refl
    where
      at : (o : Option Track) → comes capacity p.number.0 (tracks capacity p.kind earlier) ≡ o → id_by (length earlier) o < suc (length earlier)
      at None is = omega arith
      at (Some t) is =
          let less = each_found (λ u. u.opened < length earlier) p.number.0 capacity (tracks capacity p.kind earlier) t
          (is_open (newest_of p.number.0 (take capacity (tracks capacity p.kind earlier))) t is).0
          (below (length earlier) (tracks capacity p.kind earlier) (falls p.kind earlier)) in
          omega (arith, less)

  -- what a record holds is of its crossing
  one_of : (messages later earlier : List Placed) (p : Placed) (x : Crossing) → messages ≡ later ++ p ∷ earlier → p.kind ≡ x.kind → p.number ≡ x.number
      → AllClosed (here p earlier) (tracks capacity p.kind (p ∷ earlier))
      → (place : Place) (o : Option Sighting) → MadeIn here (p ∷ earlier) p.kind p.number.0 (here p earlier) place o
      → IfSome o (IsOneOf (of_at messages) messages (length earlier) x place)
  one_of messages later earlier p x parts kind_is number_is all place None made = tt
  one_of messages later earlier p x parts kind_is number_is all place (Some s) made = record {
    later = later ++ made.later;
    earlier = made.earlier;
    p = made.p;
    parts = whole;
    kind_is = made.kind_is ∙ kind_is;
    number_is = made.number_is ∙ ap (λ n. n.0) number_is;
    place_is = made.place_is;
    sighting_is = made.sighting_is;
    of_it =
        ap (λ ps. last_of (kind_at ps (length made.earlier)) (here_at ps (length made.earlier)) messages) whole
        ∙ ap (λ k. last_of k (here_at ((later ++ made.later) ++ made.p ∷ made.earlier) (length made.earlier)) messages)
        ((it_is (later ++ made.later) made.p made.earlier).0 ∙ made.kind_is)
        ∙ ap (λ n. last_of p.kind n messages) ((it_is (later ++ made.later) made.p made.earlier).1 ∙ made.opened_is)
        ∙ ap (last_of p.kind (here p earlier)) parts ∙ last_is p later earlier all (less_here p earlier);
  }
    where
      whole : messages ≡ (later ++ made.later) ++ made.p ∷ made.earlier
      whole = parts ∙ ap (λ ps. later ++ ps) made.parts ∙ sym (append_assoc later made.later (made.p ∷ made.earlier))

  made_of : (messages later earlier : List Placed) (p : Placed) (x : Crossing) → messages ≡ later ++ p ∷ earlier → told capacity p earlier ≡ outcomes.Crossed x
      → IsMadeOf (of_at messages) messages (length earlier) x
  made_of messages later earlier p x parts told_is =
      let r : Record = stands_of (comes capacity p.number.0 (tracks capacity p.kind earlier)) in
      let it = closes_by p r x (sym (told_as p earlier) ∙ told_is) in
      let all = closed_here p earlier it.closed_is in
      let before = subst (StandsMet here (p ∷ earlier) p.kind p.number.0 (here p earlier)) it.open_is
      (stands_met p earlier p.kind (met p.kind earlier) (comes capacity p.number.0 (tracks capacity p.kind earlier)) refl) in
      let held = with_met here (p ∷ earlier) p.kind p.number.0 (here p earlier) p.place p.sighting it.met (made_here p earlier p.kind refl) before in
      let now : Places = with_place p.place p.sighting it.met in
      let one = one_of messages later earlier p x parts it.kind_is it.number_is all in
      record {
        met = now;
        crossing_is = it.crossing_is;
        no_reason = it.no_reason;
        first = one places.First now.first held.0;
        second = one places.Second now.second held.1;
        at_from = one places.AtFrom now.at_from held.2;
        at_to = one places.AtTo now.at_to held.3;
      }

pub each_made : EachCrossingIsMade
each_made capacity messages = record {
  of = of_at capacity messages;
  each = λ later earlier p x parts told_is. made_of capacity messages later earlier p x parts told_is;
}
