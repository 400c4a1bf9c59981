-- When a number has no open record among the last.
use Rattle.std.proofs.Common.{◌≡◌, ◌∙◌, ◌≤◌, ℕ, zero, suc, refl, sym, ap, arith, Bool, true, false, if◌then◌else◌, ◌&&◌, nat_eq, List, [], ◌∷◌, ◌++◌, take, Option, Some, None, unwrap_or}
use Rattle.std.specs.Prelude.{is_none}
use Rattle.std.proofs.lemmas.Bool.Decides.{nat_tests}
use Rattle.pairing.specs.Marked.{Entry, entry, first_value as newest}
use Rattle.pairing.proofs.Lists.{take-nil}
use Rattle.tap_crossing.specs.declared.sighting.Kind.{Kind}
use Rattle.tap_crossing.specs.declared.sighting.Placed.{Placed}
use Rattle.tap_crossing.specs.declared.places.Record.{Record}
use Rattle.tap_crossing.specs.declared.places.Record.TheVariants as standings
use Rattle.tap_crossing.specs.Records.{unclosed, with, new_record, joined, open_record, is_same_kind, records}
use Rattle.tap_laws.specs.Complete.{is_of, AreOthers, EachBeginsFree, EachStaysFree, EachToldIsFree}
use Rattle.tap_laws.proofs.Tracks.{closes_by, kind_is_same}
use Rattle.tap_laws.proofs.Waiting.{newest_more, other_pushed, other_replaced, it_replaced, is_none_is}

pub begins_free : EachBeginsFree
begins_free capacity kind number = ap (λ (es : List (Entry Record)). is_none (unclosed (newest number es))) (take-nil capacity)

module _ (capacity : ℕ) (kind : Kind) (number : ℕ) where
  -- nor among fewer
  abbrev IsFreeIn : List (Entry Record) → Type 0
  IsFreeIn rs = (k : ℕ) → k ≤ capacity → unclosed (newest number (take k rs)) ≡ None

  free_in : (rs : List (Entry Record)) → unclosed (newest number (take capacity rs)) ≡ None → IsFreeIn rs
  free_in rs free k up = at (newest number (take k rs)) refl
    where
      at : (o : Option Record) → newest number (take k rs) ≡ o → unclosed o ≡ None
      at None is = refl
      at (Some r) is = sym (ap unclosed (newest_more number k capacity rs r up is)) ∙ free

  pushed_free : (n : ℕ) (r : Record) (rs : List (Entry Record)) → nat_eq n number ≡ false → IsFreeIn rs → IsFreeIn (entry n r ∷ rs)
  pushed_free n r rs other free zero up = refl
  pushed_free n r rs other free (suc k) up = ap unclosed (other_pushed number n k r rs other) ∙ free k (omega (arith, up))

  joined_free : (p : Placed) (o : Option Record) (rs : List (Entry Record)) → nat_eq p.number.0 number ≡ false → IsFreeIn rs → IsFreeIn (joined p o rs)
  joined_free p None rs other free = pushed_free p.number.0 (with p new_record) rs other free
  joined_free p (Some r) rs other free = λ k up. ap unclosed (other_replaced number p.number.0 k (with p r) rs other) ∙ free k up

  free_after : (p : Placed) (earlier : List Placed) → is_of kind number p ≡ false → IsFreeIn (records capacity kind earlier) → IsFreeIn (records capacity kind (p ∷ earlier))
  free_after p earlier other free = at (is_same_kind kind p.kind) refl
    where
      at : (b : Bool) → is_same_kind kind p.kind ≡ b
          → IsFreeIn (if b then joined p (open_record capacity p.number.0 (records capacity kind earlier)) (records capacity kind earlier) else records capacity kind earlier)
      at true is =
          joined_free p (open_record capacity p.number.0 (records capacity kind earlier)) (records capacity kind earlier)
          (sym (ap (λ (b : Bool). b && nat_eq p.number.0 number) is) ∙ other) free
      at false is = free

  frees : (later before : List Placed) → IsFreeIn (records capacity kind before) → AreOthers kind number later → IsFreeIn (records capacity kind (later ++ before))
  frees [] before free others = free
  frees (p ∷ later) before free others = free_after p (later ++ before) others.0 (frees later before free others.1)

pub stays_free : EachStaysFree
stays_free capacity kind number later before free others =
    ap is_none (frees capacity kind number later before
    (free_in capacity kind number (records capacity kind before) (is_none_is (open_record capacity number (records capacity kind before)) free)) others capacity (omega arith))

closed_first : (number n : ℕ) (rs : List (Entry Record)) → unclosed (newest number (take n (entry number standings.Closed ∷ rs))) ≡ None
closed_first number zero rs = refl
closed_first number (suc n) rs = rw same refl
  where
    same : nat_eq number number ≡ true
    same = grind (arith, nat_tests)

found_open : (o : Option Record) (r : Record) → unclosed o ≡ Some r → o ≡ Some r
found_open None r is = cc
found_open (Some (standings.Open met)) r is = is
found_open (Some standings.Spoiled) r is = is
found_open (Some standings.Closed) r is = cc

closed_joined : (capacity : ℕ) (p : Placed) (rs : List (Entry Record)) (o : Option Record) → open_record capacity p.number.0 rs ≡ o
    → with p (unwrap_or o new_record) ≡ standings.Closed → open_record capacity p.number.0 (joined p o rs) ≡ None
closed_joined capacity p rs None is closed =
    ap (λ r. open_record capacity p.number.0 (entry p.number.0 r ∷ rs)) closed ∙ closed_first p.number.0 capacity rs
closed_joined capacity p rs (Some r) is closed =
    ap unclosed (it_replaced p.number.0 capacity (with p r) r rs (found_open (newest p.number.0 (take capacity rs)) r is)) ∙ ap (λ r. unclosed (Some r)) closed

pub told_free : EachToldIsFree
told_free capacity p before x told_is =
    let rs : List (Entry Record) = records capacity p.kind before in
    let o : Option Record = open_record capacity p.number.0 rs in
    ap (λ (b : Bool). is_none (open_record capacity p.number.0 (if b then joined p o rs else rs))) (kind_is_same p.kind)
    ∙ ap is_none (closed_joined capacity p rs o refl (closes_by p (unwrap_or o new_record) x told_is).closed_is)
