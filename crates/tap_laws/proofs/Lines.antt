-- The records are those by passages, so each holds what tells its passage, and rests what that says.
use Rattle.std.proofs.Common.{◌≡◌, ◌∙◌, ℕ, zero, suc, ℤ, pos, ◌+ℤ◌, ◌-ℤ◌, Bool, true, false, List, [], ◌∷◌, ◌++◌, take, Option, Some, None, refl, sym, ap, subst, if◌then◌else◌, option_map, ◌&&◌, nat_eq, unwrap_or, map}
use Rattle.std.specs.Prelude.{◌==◌, ⊤, IfSome, is_some, option_to_list, find}
use Rattle.std.proofs.lemmas.Bool.{eq-eqb, eqb-true, and_parts}
use Rattle.pairing.specs.Marked.{Entry, entry, first_value as newest, replace_first}
use Rattle.network_model.specs.Network.{Network}
use Rattle.network_model.specs.Run.{Run}
use Rattle.network_model.specs.Level.{time_on}
use Rattle.tap_crossing.specs.declared.sighting.Kind.{Kind}
use Rattle.tap_crossing.specs.declared.sighting.Kind.TheVariants as kinds
use Rattle.tap_crossing.specs.declared.sighting.Place.{Place as RecordPlace}
use Rattle.tap_crossing.specs.declared.sighting.Place.TheVariants as places
use Rattle.tap_crossing.specs.declared.sighting.Placed.{Placed}
use Rattle.tap_crossing.specs.declared.sighting.Sighting.{Sighting}
use Rattle.tap_crossing.specs.declared.sighting.Tap.{Tap}
use Rattle.tap_crossing.specs.declared.watched.Watched.{Watched}
use Rattle.tap_crossing.specs.declared.places.Places.{Places}
use Rattle.tap_crossing.specs.declared.places.Record.{Record}
use Rattle.tap_crossing.specs.declared.places.Record.TheVariants as standings
use Rattle.tap_crossing.specs.declared.crossing.MessageOutcome.TheVariants as outcomes
use Rattle.tap_crossing.specs.Record.{no_places, place_in, with_place, complete}
use Rattle.tap_crossing.specs.Records.{unclosed, with, new_record, joined, open_record, is_same_kind, records}
use Rattle.tap_crossing.specs.Told.{closes_or_waits, comes_to, told}
use Rattle.tap_laws.specs.Told.{Passage, Tells, AreOf, Rests}
use Rattle.tap_laws.specs.Way.{cables}
use Rattle.tap_laws.specs.Record.{AreRead, AreTapped}
use Rattle.tap_laws.specs.Lines.{Met, placed_of, followed, Own, is_own, own, with_own, joins_own, joins_kind, by_passages, newest_of, waiting, FindsItsOwn, AreApart, EachIs, EachRests, IsReadAt, IsOfClock, AClockTellsWhatItDid, first_tap, second_tap, IsTappedAt, IsOfWay, WhatRestsIsCablesAndClocks}
use Rattle.tap_laws.proofs.Resting.{nothing_rests, cables_and_taps}

-- the records under their numbers
abbrev entries : List Own → List (Entry Record)
entries gs = map (λ (g : Own). entry g.number g.stands) gs

newest_entries : (number capacity : ℕ) (gs : List Own)
    → newest number (take capacity (entries gs)) ≡ option_map (λ (g : Own). g.stands) (newest_of number (take capacity gs))
newest_entries number zero [] = refl
newest_entries number zero (g ∷ gs) = refl
newest_entries number (suc capacity) [] = refl
newest_entries number (suc capacity) (g ∷ gs) = at (nat_eq g.number number) (newest_entries number capacity gs)
  where
    at : (same : Bool) → newest number (take capacity (entries gs)) ≡ option_map (λ (g : Own). g.stands) (newest_of number (take capacity gs))
        → option_map (λ (e : Entry Record). e.value) (if same then Some (entry g.number g.stands) else find (λ (e : Entry Record). nat_eq e.number number) (take capacity (entries gs)))
        ≡ option_map (λ (g : Own). g.stands) (if same then Some g else newest_of number (take capacity gs))
    at true rest = refl
    at false rest = rest

-- where the newest of a number is of the passage, it is the passage's own
pub record IsLed (passage number : ℕ) (gs : List Own) (g : Own) : Type 0 where
  pub mine : own passage number gs ≡ Some g.stands
  pub replaced : (r : Record) → entries (with_own passage number r gs) ≡ replace_first number r (entries gs)

led : (passage number capacity : ℕ) (gs : List Own) (g : Own) → newest_of number (take capacity gs) ≡ Some g → g.passage ≡ passage → IsLed passage number gs g
led passage number zero [] g found same = cc
led passage number zero (h ∷ gs) g found same = cc
led passage number (suc capacity) [] g found same = cc
led passage number (suc capacity) (h ∷ gs) g found same = at (nat_eq h.number number) refl found (led passage number capacity gs g)
  where
    at : (named : Bool) → nat_eq h.number number ≡ named → (if named then Some h else newest_of number (take capacity gs)) ≡ Some g
        → (newest_of number (take capacity gs) ≡ Some g → g.passage ≡ passage → IsLed passage number gs g) → IsLed passage number (h ∷ gs) g
    at true e found rest =
        let is : h ≡ g = cc in
        let passage_is : h.passage ≡ passage = ap (λ (o : Own). o.passage) is ∙ same in
        let mine : is_own passage number h ≡ true = ap (λ (b : Bool). b && h.passage == passage) e ∙ eq-eqb h.passage passage passage_is in
        record {
          mine = ap (λ (b : Bool). if b then Some h.stands else own passage number gs) mine ∙ ap (λ (o : Own). Some o.stands) is;
          replaced = λ r.
              ap (λ (b : Bool). entries (if b then record { passage = passage; number = number; stands = r } ∷ gs else h ∷ with_own passage number r gs)) mine
              ∙ sym (ap (λ (b : Bool). if b then entry number r ∷ entries gs else entry h.number h.stands ∷ replace_first number r (entries gs)) e);
        }
    at false e found rest =
        let is = rest found same in
        let other : is_own passage number h ≡ false = ap (λ (b : Bool). b && h.passage == passage) e in
        record {
          mine = ap (λ (b : Bool). if b then Some h.stands else own passage number gs) other ∙ is.mine;
          replaced = λ r.
              ap (λ (b : Bool). entries (if b then record { passage = passage; number = number; stands = r } ∷ gs else h ∷ with_own passage number r gs)) other
              ∙ ap (λ (es : List (Entry Record)). entry h.number h.stands ∷ es) (is.replaced r)
              ∙ sym (ap (λ (b : Bool). if b then entry number r ∷ entries gs else entry h.number h.stands ∷ replace_first number r (entries gs)) e);
        }

-- a message comes to the record that it would come to by passages
joined_is : (passage : ℕ) (p : Placed) (gs : List Own) → FindsItsOwn passage p.number.0 gs
    → joined p (open_record 256 p.number.0 (entries gs)) (entries gs) ≡ entries (joins_own passage p (own passage p.number.0 gs) gs)
joined_is passage p gs finds =
    ap (λ (r : Option Record). joined p (unclosed r) (entries gs)) (newest_entries p.number.0 256 gs)
    ∙ by (newest_of p.number.0 (take 256 gs)) refl (own passage p.number.0 gs) refl finds
  where
    own_is : (g : Own) (r : Record) → newest_of p.number.0 (take 256 gs) ≡ Some g → own passage p.number.0 gs ≡ Some r → Some g.passage ≡ Some passage
        → replace_first p.number.0 (with p g.stands) (entries gs) ≡ entries (with_own passage p.number.0 (with p r) gs)
    own_is g r found mine same =
        let is = led passage p.number.0 256 gs g found (let one : g.passage ≡ passage = cc in one) in
        let both : Some g.stands ≡ Some r = sym is.mine ∙ mine in
        let stands : g.stands ≡ r = cc in
        ap (λ (s : Record). replace_first p.number.0 (with p s) (entries gs)) stands ∙ sym (is.replaced (with p r))

    standing : (g : Own) → newest_of p.number.0 (take 256 gs) ≡ Some g → (mine : Option Record) → own passage p.number.0 gs ≡ mine
        → (stands : Record) → g.stands ≡ stands
        → option_map (λ r. g.passage) (unclosed (Some stands)) ≡ option_map (λ r. passage) mine
        → joined p (unclosed (Some stands)) (entries gs) ≡ entries (joins_own passage p mine gs)
    standing g found None e (standings.Open met) is finds = cc
    standing g found None e standings.Spoiled is finds = cc
    standing g found None e standings.Closed is finds = refl
    standing g found (Some r) e (standings.Open met) is finds =
        ap (λ (s : Record). replace_first p.number.0 (with p s) (entries gs)) (sym is) ∙ own_is g r found e finds
    standing g found (Some r) e standings.Spoiled is finds =
        ap (λ (s : Record). replace_first p.number.0 (with p s) (entries gs)) (sym is) ∙ own_is g r found e finds
    standing g found (Some r) e standings.Closed is finds = cc

    by : (found : Option Own) → newest_of p.number.0 (take 256 gs) ≡ found → (mine : Option Record) → own passage p.number.0 gs ≡ mine
        → waiting found ≡ option_map (λ r. passage) mine
        → joined p (unclosed (option_map (λ (g : Own). g.stands) found)) (entries gs) ≡ entries (joins_own passage p mine gs)
    by None e None f finds = refl
    by None e (Some r) f finds = cc
    by (Some g) e mine f finds = standing g e mine f g.stands refl finds

-- the records are those by passages
one_more : (w : Watched) (kind : Kind) (d : Met) (earlier : List Met) → ((k : Kind) → records 256 k (followed w earlier) ≡ entries (by_passages w k earlier))
    → IfSome (placed_of w d) (λ p. FindsItsOwn d.passage p.number.0 (by_passages w p.kind earlier))
    → records 256 kind (followed w (d ∷ earlier)) ≡ entries (by_passages w kind (d ∷ earlier))
one_more w kind d earlier before finds = by (placed_of w d) finds
  where
    comes : (p : Placed) (k : Kind) → FindsItsOwn d.passage p.number.0 (by_passages w k earlier)
        → joined p (open_record 256 p.number.0 (records 256 k (followed w earlier))) (records 256 k (followed w earlier))
        ≡ entries (joins_own d.passage p (own d.passage p.number.0 (by_passages w k earlier)) (by_passages w k earlier))
    comes p k finds =
        ap (λ (rs : List (Entry Record)). joined p (open_record 256 p.number.0 rs) rs) (before k) ∙ joined_is d.passage p (by_passages w k earlier) finds

    of_kind : (p : Placed) (k other : Kind) → FindsItsOwn d.passage p.number.0 (by_passages w other earlier)
        → (if is_same_kind k other then joined p (open_record 256 p.number.0 (records 256 k (followed w earlier))) (records 256 k (followed w earlier))
        else records 256 k (followed w earlier))
        ≡ entries (if is_same_kind k other then joins_own d.passage p (own d.passage p.number.0 (by_passages w k earlier)) (by_passages w k earlier)
        else by_passages w k earlier)
    of_kind p kinds.Sync kinds.Sync finds = comes p kinds.Sync finds
    of_kind p kinds.Sync kinds.DelayReq finds = before kinds.Sync
    of_kind p kinds.DelayReq kinds.Sync finds = before kinds.DelayReq
    of_kind p kinds.DelayReq kinds.DelayReq finds = comes p kinds.DelayReq finds

    by : (o : Option Placed) → IfSome o (λ p. FindsItsOwn d.passage p.number.0 (by_passages w p.kind earlier))
        → records 256 kind (option_to_list o ++ followed w earlier) ≡ entries (joins_kind kind d.passage o (by_passages w kind earlier))
    by None finds = before kind
    by (Some p) finds = of_kind p kind p.kind finds

records_are : (w : Watched) (kind : Kind) (ds : List Met) → AreApart w ds → records 256 kind (followed w ds) ≡ entries (by_passages w kind ds)
records_are w kind [] apart = refl
records_are w kind (d ∷ earlier) apart = one_more w kind d earlier (λ k. records_are w k earlier apart.1) apart.0

-- what an open record holds
abbrev Stands : (ℕ → Places → Type 0) → ℕ → Record → Type 0
Stands P passage (standings.Open met) = P passage met
Stands P passage standings.Spoiled = ⊤
Stands P passage standings.Closed = ⊤

abbrev AllStand : (ℕ → Places → Type 0) → List Own → Type 0
AllStand P [] = ⊤
AllStand P (g ∷ gs) = Stands P g.passage g.stands × AllStand P gs

-- of each record of a kind this holds while it is open, of each message that, and so each crossing has this rest
module _ (w : Watched) (P : Kind → ℕ → Places → Type 0) (Q : ℕ → Placed → Type 0) (rest : Kind → ℕ → ℤ)
    (starts : (kind : Kind) (passage : ℕ) → P kind passage no_places)
    (takes : (passage : ℕ) (p : Placed) (met : Places) → Q passage p → P p.kind passage met → P p.kind passage (with_place p.place p.sighting met))
    (closing : (passage : ℕ) (p : Placed) (met : Places) → Q passage p → P p.kind passage met
    → Rests (rest p.kind passage) (closes_or_waits p (complete met))) where
  closed_stands : (kind : Kind) (passage : ℕ) (met : Places) → P kind passage met → (closes : Bool)
      → Stands (P kind) passage (if closes then standings.Closed else standings.Open met)
  closed_stands kind passage met holds true = tt
  closed_stands kind passage met holds false = holds

  with_stands : (passage : ℕ) (p : Placed) → Q passage p → (r : Record) → Stands (P p.kind) passage r → Stands (P p.kind) passage (with p r)
  with_stands passage p is (standings.Open met) holds = at (is_some (place_in met p.place))
    where
      at : (spoils : Bool) → Stands (P p.kind) passage (if spoils then standings.Spoiled
          else if is_some (complete (with_place p.place p.sighting met)) then standings.Closed else standings.Open (with_place p.place p.sighting met))
      at true = tt
      at false = closed_stands p.kind passage (with_place p.place p.sighting met) (takes passage p met is holds)
          (is_some (complete (with_place p.place p.sighting met)))
  with_stands passage p is standings.Spoiled holds = tt
  with_stands passage p is standings.Closed holds = tt

  own_stands : (kind : Kind) (passage number : ℕ) (gs : List Own) (r : Record) → AllStand (P kind) gs → own passage number gs ≡ Some r → Stands (P kind) passage r
  own_stands kind passage number [] r all mine = absurd cc
  own_stands kind passage number (g ∷ gs) r all mine = at (is_own passage number g) refl mine (own_stands kind passage number gs r all.1)
    where
      at : (is : Bool) → is_own passage number g ≡ is → (if is then Some g.stands else own passage number gs) ≡ Some r
          → (own passage number gs ≡ Some r → Stands (P kind) passage r) → Stands (P kind) passage r
      at true e mine rest_of =
          let same : g.passage ≡ passage = eqb-true g.passage passage (and_parts (nat_eq g.number number) (g.passage == passage) e).1 in
          let stands : g.stands ≡ r = cc in
          subst (λ (n : ℕ). Stands (P kind) n r) same (subst (λ (s : Record). Stands (P kind) g.passage s) stands all.0)
      at false e mine rest_of = rest_of mine

  with_own_stands : (kind : Kind) (passage number : ℕ) (r : Record) (gs : List Own) → AllStand (P kind) gs → Stands (P kind) passage r
      → AllStand (P kind) (with_own passage number r gs)
  with_own_stands kind passage number r [] all holds = tt
  with_own_stands kind passage number r (g ∷ gs) all holds = at (is_own passage number g) (with_own_stands kind passage number r gs all.1 holds)
    where
      at : (is : Bool) → AllStand (P kind) (with_own passage number r gs)
          → AllStand (P kind) (if is then record { passage = passage; number = number; stands = r } ∷ gs else g ∷ with_own passage number r gs)
      at true others = (holds, all.1)
      at false others = (all.0, others)

  joins_stands : (passage : ℕ) (p : Placed) → Q passage p → (gs : List Own) → AllStand (P p.kind) gs
      → (mine : Option Record) → own passage p.number.0 gs ≡ mine → AllStand (P p.kind) (joins_own passage p mine gs)
  joins_stands passage p is gs all None e = (with_stands passage p is new_record (starts p.kind passage), all)
  joins_stands passage p is gs all (Some r) e =
      with_own_stands p.kind passage p.number.0 (with p r) gs all (with_stands passage p is r (own_stands p.kind passage p.number.0 gs r all e))

  one_stands : (kind : Kind) (d : Met) (earlier : List Met) → ((k : Kind) → AllStand (P k) (by_passages w k earlier)) → IfSome (placed_of w d) (Q d.passage)
      → AllStand (P kind) (by_passages w kind (d ∷ earlier))
  one_stands kind d earlier before is = by (placed_of w d) is
    where
      comes : (p : Placed) → Q d.passage p → (k : Kind) → p.kind ≡ k
          → AllStand (P k) (joins_own d.passage p (own d.passage p.number.0 (by_passages w k earlier)) (by_passages w k earlier))
      comes p is k e =
          subst (λ (x : Kind). AllStand (P x) (joins_own d.passage p (own d.passage p.number.0 (by_passages w x earlier)) (by_passages w x earlier))) e
          (joins_stands d.passage p is (by_passages w p.kind earlier) (before p.kind) (own d.passage p.number.0 (by_passages w p.kind earlier)) refl)

      of_kind : (p : Placed) → Q d.passage p → (k other : Kind) → p.kind ≡ other
          → AllStand (P k) (if is_same_kind k other then joins_own d.passage p (own d.passage p.number.0 (by_passages w k earlier)) (by_passages w k earlier)
          else by_passages w k earlier)
      of_kind p is kinds.Sync kinds.Sync e = comes p is kinds.Sync e
      of_kind p is kinds.Sync kinds.DelayReq e = before kinds.Sync
      of_kind p is kinds.DelayReq kinds.Sync e = before kinds.DelayReq
      of_kind p is kinds.DelayReq kinds.DelayReq e = comes p is kinds.DelayReq e

      by : (o : Option Placed) → IfSome o (Q d.passage) → AllStand (P kind) (joins_kind kind d.passage o (by_passages w kind earlier))
      by None is = before kind
      by (Some p) is = of_kind p is kind p.kind refl

  all_stand : (kind : Kind) (ds : List Met) → EachIs Q w ds → AllStand (P kind) (by_passages w kind ds)
  all_stand kind [] each = tt
  all_stand kind (d ∷ earlier) each = one_stands kind d earlier (λ k. all_stand k earlier each.1) each.0

  -- what is told when a message comes to a record of its passage
  comes_rests : (passage : ℕ) (p : Placed) → Q passage p → (r : Record) → Stands (P p.kind) passage r → Rests (rest p.kind passage) (comes_to p r)
  comes_rests passage p is (standings.Open met) holds = at (is_some (place_in met p.place))
    where
      at : (spoils : Bool) → Rests (rest p.kind passage) (if spoils then outcomes.Spoils else closes_or_waits p (complete (with_place p.place p.sighting met)))
      at true = tt
      at false = closing passage p (with_place p.place p.sighting met) is (takes passage p met is holds)
  comes_rests passage p is standings.Spoiled holds = tt
  comes_rests passage p is standings.Closed holds = tt

  -- the record that a message comes to
  found_stands : (kind : Kind) (passage number : ℕ) (gs : List Own) → AllStand (P kind) gs → FindsItsOwn passage number gs
      → Stands (P kind) passage (unwrap_or (open_record 256 number (entries gs)) new_record)
  found_stands kind passage number gs all finds =
      subst (λ (r : Option Record). Stands (P kind) passage (unwrap_or (unclosed r) new_record)) (sym (newest_entries number 256 gs))
      (by (newest_of number (take 256 gs)) refl (own passage number gs) refl finds)
    where
      standing : (g : Own) → newest_of number (take 256 gs) ≡ Some g → (mine : Option Record) → own passage number gs ≡ mine
          → (stands : Record) → g.stands ≡ stands → option_map (λ r. g.passage) (unclosed (Some stands)) ≡ option_map (λ r. passage) mine
          → Stands (P kind) passage (unwrap_or (unclosed (Some stands)) new_record)
      standing g found None e (standings.Open met) is finds = absurd cc
      standing g found (Some r) e (standings.Open met) is finds =
          let led_by = led passage number 256 gs g found (let one : g.passage ≡ passage = cc in one) in
          subst (Stands (P kind) passage) is (own_stands kind passage number gs g.stands all led_by.mine)
      standing g found mine e standings.Spoiled is finds = tt
      standing g found mine e standings.Closed is finds = starts kind passage

      by : (found : Option Own) → newest_of number (take 256 gs) ≡ found → (mine : Option Record) → own passage number gs ≡ mine
          → waiting found ≡ option_map (λ r. passage) mine
          → Stands (P kind) passage (unwrap_or (unclosed (option_map (λ (g : Own). g.stands) found)) new_record)
      by None e mine f finds = starts kind passage
      by (Some g) e mine f finds = standing g e mine f g.stands refl finds

  pub each_rests : (ds : List Met) → EachIs Q w ds → AreApart w ds → EachRests rest w ds
  each_rests [] each apart = tt
  each_rests (d ∷ earlier) each apart = (by (placed_of w d) each.0 apart.0, each_rests earlier each.1 apart.1)
    where
      by : (o : Option Placed) → IfSome o (Q d.passage) → IfSome o (λ p. FindsItsOwn d.passage p.number.0 (by_passages w p.kind earlier))
          → IfSome o (λ p. Rests (rest p.kind d.passage) (told 256 p (followed w earlier)))
      by None is finds = tt
      by (Some p) is finds = comes_rests d.passage p is
          (unwrap_or (open_record 256 p.number.0 (records 256 p.kind (followed w earlier))) new_record)
          (subst (λ (rs : List (Entry Record)). Stands (P p.kind) d.passage (unwrap_or (open_record 256 p.number.0 rs) new_record))
          (sym (records_are w p.kind earlier apart.1))
          (found_stands p.kind d.passage p.number.0 (by_passages w p.kind earlier) (all_stand p.kind earlier each.1) finds))

-- a place that is filled
are_with : (network : Network) (run : Run) (p : Passage) (place : RecordPlace) (s : Sighting) (met : Places) → Tells network run p place s
    → AreOf network run p met → AreOf network run p (with_place place s met)
are_with network run p places.First s met tells are = record { first = tells; second = are.second; at_from = are.at_from; at_to = are.at_to }
are_with network run p places.Second s met tells are = record { first = are.first; second = tells; at_from = are.at_from; at_to = are.at_to }
are_with network run p places.AtFrom s met tells are = record { first = are.first; second = are.second; at_from = tells; at_to = are.at_to }
are_with network run p places.AtTo s met tells are = record { first = are.first; second = are.second; at_from = are.at_from; at_to = tells }

read_with : (p : Passage) (place : RecordPlace) (s : Sighting) (met : Places) → IsReadAt p place s.time → AreRead p met → AreRead p (with_place place s met)
read_with p places.First s met is read = record { first = is; second = read.second }
read_with p places.Second s met is read = record { first = read.first; second = is }
read_with p _ s met is read = record { first = read.first; second = read.second }

tapped_with : (ahead : Tap → ℤ) (kind : Kind) (p : Passage) (place : RecordPlace) (s : Sighting) (met : Places) → IsTappedAt ahead kind p place s.time
    → AreTapped (ahead (first_tap kind)) (ahead (second_tap kind)) p met → AreTapped (ahead (first_tap kind)) (ahead (second_tap kind)) p (with_place place s met)
tapped_with ahead kind p places.First s met is tapped = record { first = is; second = tapped.second }
tapped_with ahead kind p places.Second s met is tapped = record { first = tapped.first; second = is }
tapped_with ahead kind p _ s met is tapped = record { first = tapped.first; second = tapped.second }

-- a clock tells what it did
pub a_clock_tells : AClockTellsWhatItDid
a_clock_tells network run clock passages w ds accepted each apart =
    each_rests w (λ (kind : Kind) (n : ℕ) (met : Places). AreOf network run (passages n) met × AreRead (passages n) met)
    (λ (n : ℕ) (p : Placed). IsOfClock network run clock (passages n) p) (λ (kind : Kind) (n : ℕ). pos 0)
    (λ kind n. (record { first = tt; second = tt; at_from = tt; at_to = tt }, record { first = tt; second = tt }))
    (λ n p met is holds. (
      are_with network run (passages n) p.place p.sighting met is.tells holds.0,
      read_with (passages n) p.place p.sighting met is.read holds.1,
    ))
    (λ n p met is holds. nothing_rests network run clock (passages n) met p accepted is.there is.stay is.even holds.0 holds.1)
    ds each apart

-- what rests is cables and clocks
pub what_rests : WhatRestsIsCablesAndClocks
what_rests network run ahead ways passages w ds accepted steady each apart =
    each_rests w (λ (kind : Kind) (n : ℕ) (met : Places). AreOf network run (passages n) met
    × AreTapped (ahead n (first_tap kind)) (ahead n (second_tap kind)) (passages n) met)
    (λ (n : ℕ) (p : Placed). IsOfWay network run (ahead n) (ways n) (passages n) p)
    (λ (kind : Kind) (n : ℕ). time_on (cables (ways n)) +ℤ (ahead n (second_tap kind) -ℤ ahead n (first_tap kind)))
    (λ kind n. (record { first = tt; second = tt; at_from = tt; at_to = tt }, record { first = tt; second = tt }))
    (λ n p met is holds. (
      are_with network run (passages n) p.place p.sighting met is.tells holds.0,
      tapped_with (ahead n) p.kind (passages n) p.place p.sighting met is.tapped holds.1,
    ))
    (λ n p met is holds. cables_and_taps network run (ways n) (passages n) met p (ahead n (first_tap p.kind)) (ahead n (second_tap p.kind))
    accepted steady is.there is.way is.even holds.0 holds.1)
    ds each apart
