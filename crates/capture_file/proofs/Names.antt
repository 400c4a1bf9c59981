-- The names of interfaces, and the set of them that is kept.
use Rattle.std.proofs.Common.{◌≡◌, ℕ, List, [], ◌∷◌, ◌++◌, Bool, true, false, Option, Some, None, Result, Ok, Err, refl, sym, ap, ◌∙◌}
use Rattle.std.specs.Prelude.{◌||◌, option_map, MatchResult}
use Rattle.std.specs.List.{list_any}
use Rattle.std.specs.Option.{option_map_or}
use Rattle.std.specs.Str.{bytes_eq}
use Rattle.std.specs.BTreeSet.{BTreeSet, insert_key}
use Rattle.std.specs.Cmp.Lexicographic.{slice_cmp}
use Rattle.std.specs.declared.cmp.Ordering.{Ordering}
use Rattle.std.specs.declared.cmp.Ordering.TheVariants.{Less, Equal, Greater}
use Rattle.std.specs.declared.vec.Vec.{Vec}
use Rattle.std.specs.Ordering.{nat_cmp, is_eq, match_ordering}
use Rattle.std.proofs.lemmas.Map.Text.{is_eq-slice_cmp}
use Rattle.std.proofs.lemmas.Map.Lookups.{exact_bytes}
use Rattle.capture_file.specs.declared.section.Described.{Described}
use Rattle.capture_file.specs.Section.{has_name}
use Rattle.capture_file.specs.Inner.Described.{described_in, descriptions_in, is_among}

or_same : (a b : Bool) → (a || b) ≡ (a || (a || b))
or_same true b = refl
or_same false b = refl

or_swap : (a b c : Bool) → (a || (b || c)) ≡ (b || (a || c))
or_swap true true c = refl
or_swap true false c = refl
or_swap false b c = refl

-- one more key, where a test doesn't tell equal ones apart
insert_any : {K : Type 0} (cmp : K → K → Ordering) (p : K → Bool) (k : K) → ((x : K) → cmp k x ≡ Equal → p k ≡ p x) → (xs : List K)
    → list_any p (insert_key cmp xs k) ≡ (p k || list_any p xs)
insert_any cmp p k alike [] = refl
insert_any {K} cmp p k alike (x ∷ xs) =
    go (cmp k x) refl (insert_any cmp p k alike xs)
  where
    go : (r : Ordering) → cmp k x ≡ r → list_any p (insert_key cmp xs k) ≡ (p k || list_any p xs)
        → list_any p (match_ordering r (k ∷ x ∷ xs) (x ∷ xs) (x ∷ insert_key cmp xs k)) ≡ (p k || (p x || list_any p xs))
    go Less is more = refl
    go Equal is more = rw (alike x is) (or_same (p x) (list_any p xs))
    go Greater is more = rw more (or_swap (p x) (p k) (list_any p xs))

-- one more name
among_more : {Z : Type 0} (name : List ℕ) (old new : BTreeSet (Vec ℕ Z)) (key : Vec ℕ Z) → new.keys ≡ insert_key (λ x y. slice_cmp nat_cmp x.items y.items) old.keys key
    → is_among name new ≡ (bytes_eq name key.items || is_among name old)
among_more {Z} name old new key keys =
    ap (list_any test) keys
    ∙ insert_any (λ x y. slice_cmp nat_cmp x.items y.items) test key
    (λ x same. ap (λ items. is_eq (slice_cmp nat_cmp name items)) (exact_bytes key.items x.items same)) old.keys
    ∙ ap (λ b. b || list_any test old.keys) (is_eq-slice_cmp name key.items)
  where
    test : Vec ℕ Z → Bool
    test k = is_eq (slice_cmp nat_cmp name k.items)

-- the name of an interface, or none
pub named_more : {Z Y : Type 0} (name : List ℕ) (old new : BTreeSet (Vec ℕ Z)) (own : Option (Vec ℕ Y)) (v : Vec ℕ Y) (key : Vec ℕ Z) → own ≡ Some v
    → key.items ≡ v.items → new.keys ≡ insert_key (λ x y. slice_cmp nat_cmp x.items y.items) old.keys key
    → is_among name new ≡ (option_map_or (bytes_eq name) (option_map (λ n. n.items) own) false || is_among name old)
named_more name old new own v key is same keys =
    rw is (among_more name old new key keys ∙ ap (λ items. bytes_eq name items || is_among name old) same)

pub named_none : {Z Y : Type 0} (name : List ℕ) (old new : BTreeSet (Vec ℕ Z)) (own : Option (Vec ℕ Y)) → own ≡ None → new ≡ old
    → is_among name new ≡ (option_map_or (bytes_eq name) (option_map (λ n. n.items) own) false || is_among name old)
named_none name old new own is same = rw (is, same) refl

-- one more interface
any_behind : (name : List ℕ) (interfaces : List Described) (d : Described)
    → list_any (has_name name) (descriptions_in (interfaces ++ d ∷ [])) ≡ (has_name name (described_in d) || list_any (has_name name) (descriptions_in interfaces))
any_behind name [] d = refl
any_behind name (x ∷ xs) d =
    rw (any_behind name xs d) (or_swap (has_name name (described_in x)) (has_name name (described_in d)) (list_any (has_name name) (descriptions_in xs)))

-- the set goes with the interfaces
pub still_named : {T E Z : Type 0} (r : Result T E) (old new : List Described) (d : Described) (names names' : BTreeSet (Vec ℕ Z))
    → MatchResult r (λ _. new ≡ old ++ d ∷ []) (λ _. new ≡ old)
    → ((name : List ℕ) → MatchResult r (λ _. is_among name names' ≡ (has_name name (described_in d) || is_among name names)) (λ _. is_among name names' ≡ is_among name names))
    → ((name : List ℕ) → is_among name names ≡ list_any (has_name name) (descriptions_in old)) → (name : List ℕ)
    → is_among name names' ≡ list_any (has_name name) (descriptions_in new)
still_named (Ok done) old new d names names' is more known name =
    more name ∙ ap (λ b. has_name name (described_in d) || b) (known name) ∙ sym (any_behind name old d)
    ∙ ap (λ xs. list_any (has_name name) (descriptions_in xs)) (sym is)
still_named (Err e) old new d names names' is same known name = same name ∙ known name ∙ ap (λ xs. list_any (has_name name) (descriptions_in xs)) (sym is)
