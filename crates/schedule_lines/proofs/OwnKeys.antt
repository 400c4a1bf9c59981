-- What is read has just the keys of what is written of it.
use Rattle.std.proofs.Common.{◌≡◌, ◌∙◌, not, ◌+◌, ℕ, suc, Bool, true, false, List, [], ◌∷◌, Option, Some, None, is_some, is_eq, if◌then◌else◌, Ordering, Equal, nat_cmp, bytes_eq, refl, sym, ap, arith}
use Rattle.std.specs.Option.{option_or}
use Rattle.std.specs.Cmp.Lexicographic.{slice_cmp}
use Rattle.std.specs.Ordering.{match_ordering}
use Rattle.std.proofs.lemmas.Bool.Decides.{nat_tests}
use Rattle.std.proofs.lemmas.Slice.Eq.{bytes_eq-Decides}
use Rattle.std.proofs.lemmas.Map.Text.{is_eq-slice_cmp}
use Rattle.serde_json.specs.Data.{Data, null, boolean, number, string, array, object, Members, no_members, member}
use Rattle.serde_json.specs.Events.{members_len}
use Rattle.serde_json.specs.Find.{get, get_member}
use Rattle.schedule_lines.specs.Keys.{HaveSameKeys}
use Rattle.schedule_lines.specs.Json.{has_keys}
use Rattle.schedule_lines.proofs.Keys.{Field, members_of}
use Rattle.schedule_lines.proofs.Lookup.{find, get_member-members_of, one_if, count, is_absent, are_distinct, both, or_same}

-- ---- members without a key

-- the members without the first of this key
abbrev without : List ℕ → Members → Members
without k no_members = no_members
without k (member l e ms) = match_ordering (slice_cmp nat_cmp k l) (member l e (without k ms)) ms (member l e (without k ms))

same_key : (k l : List ℕ) → slice_cmp nat_cmp k l ≡ Equal → k ≡ l
same_key k l e = (bytes_eq-Decides k l).0 (sym (is_eq-slice_cmp k l) ∙ ap is_eq e)

passed_over : (o : Ordering) (q l : List ℕ) (e : Data) (ms : Members) → slice_cmp nat_cmp q l ≡ o → (q ≡ l → ⊥)
    → get_member q ms ≡ match_ordering o (get_member q ms) (Some e) (get_member q ms)
passed_over Equal q l e ms is other = absurd (other (same_key q l is))
passed_over _ q l e ms is other = refl

stays_at : (o : Ordering) (q k l : List ℕ) (e : Data) (ms : Members) → slice_cmp nat_cmp k l ≡ o → (q ≡ k → ⊥) → get_member q (without k ms) ≡ get_member q ms
    → get_member q (match_ordering o (member l e (without k ms)) ms (member l e (without k ms))) ≡ get_member q (member l e ms)
stays_at Equal q k l e ms is other rest = passed_over (slice_cmp nat_cmp q l) q l e ms refl (λ same. other (same ∙ sym (same_key k l is)))
stays_at _ q k l e ms is other rest = ap (λ r. match_ordering (slice_cmp nat_cmp q l) r (Some e) r) rest

-- the other keys stay
get_member-without : (q k : List ℕ) (ms : Members) → (q ≡ k → ⊥) → get_member q (without k ms) ≡ get_member q ms
get_member-without q k no_members other = refl
get_member-without q k (member l e ms) other = stays_at (slice_cmp nat_cmp k l) q k l e ms refl other (get_member-without q k ms other)

shorter_at : (o : Ordering) (k l : List ℕ) (e : Data) (ms : Members) → is_some (match_ordering o (get_member k ms) (Some e) (get_member k ms)) ≡ true
    → (is_some (get_member k ms) ≡ true → members_len ms ≡ suc (members_len (without k ms)))
    → suc (members_len ms) ≡ suc (members_len (match_ordering o (member l e (without k ms)) ms (member l e (without k ms))))
shorter_at Equal k l e ms there rest = refl
shorter_at _ k l e ms there rest = ap suc (rest there)

-- there is one member less, where the key is there
members_len-without : (k : List ℕ) (ms : Members) → is_some (get_member k ms) ≡ true → members_len ms ≡ suc (members_len (without k ms))
members_len-without k no_members there = absurd (cc)
members_len-without k (member l e ms) there = shorter_at (slice_cmp nat_cmp k l) k l e ms there (members_len-without k ms)

-- ---- members that have as many keys as these, and each of these

-- a key is there where there is a value for it
abbrev AreThere : Members → List Field → Type 0
AreThere ms [] = Unit {0}
AreThere ms (f ∷ fs) = (is_some f.1 ≡ true → is_some (get_member f.0 ms) ≡ true) × AreThere ms fs

absent : (k l : List ℕ) → not (bytes_eq k l) ≡ true → l ≡ k → ⊥
absent k l h e = let test : bytes_eq k l ≡ true = (bytes_eq-Decides k l).1 (sym e) in cc

AreThere-without : (k : List ℕ) (ms : Members) (fs : List Field) → is_absent k fs ≡ true → AreThere ms fs → AreThere (without k ms) fs
AreThere-without k ms [] h there = tt
AreThere-without k ms (f ∷ fs) h there =
    let parts = both (not (bytes_eq k f.0)) (is_absent k fs) h in
    (λ some. ap is_some (get_member-without f.0 k ms (absent k f.0 parts.0)) ∙ there.0 some, AreThere-without k ms fs parts.1 there.1)

one_more : (b : Bool) (q k : List ℕ) (d : Data) (ms : Members) (rest : Option Data) → bytes_eq q k ≡ b → is_some (get_member k ms) ≡ true
    → is_some (get_member q (without k ms)) ≡ is_some rest → is_some (get_member q ms) ≡ is_some (if b then option_or (Some d) rest else rest)
one_more true q k d ms rest e there same = ap (λ (l : List ℕ). is_some (get_member l ms)) ((bytes_eq-Decides q k).0 e) ∙ there
one_more false q k d ms rest e there same =
    sym (ap is_some (get_member-without q k ms (λ h. let test : bytes_eq q k ≡ true = (bytes_eq-Decides q k).1 h in cc))) ∙ same

next_field : (k : List ℕ) (o : Option Data) (fs : List Field) (ms : Members) → is_absent k fs ≡ true → members_len ms ≡ one_if o + count fs
    → (is_some o ≡ true → is_some (get_member k ms) ≡ true) → AreThere ms fs
    → ((ns : Members) → members_len ns ≡ count fs → AreThere ns fs → (q : List ℕ) → is_some (get_member q ns) ≡ is_some (find q fs))
    → (q : List ℕ) → is_some (get_member q ms) ≡ is_some (if bytes_eq q k then option_or o (find q fs) else find q fs)
next_field k None fs ms apart long here there rest q =
    rest ms (omega arith) there q ∙ ap is_some (or_same (bytes_eq q k) (find q fs))
next_field k (Some d) fs ms apart long here there rest q =
    let fewer = members_len-without k ms (here refl) in
    one_more (bytes_eq q k) q k d ms (find q fs) refl (here refl)
    (rest (without k ms) (omega arith) (AreThere-without k ms fs apart there) q)

same_keys : (fs : List Field) (ms : Members) → are_distinct fs ≡ true → members_len ms ≡ count fs → AreThere ms fs
    → (q : List ℕ) → is_some (get_member q ms) ≡ is_some (find q fs)
same_keys [] no_members apart long there q = refl
same_keys [] (member l e ms) apart long there q = absurd (omega arith)
same_keys (f ∷ fs) ms apart long there q =
    let parts = both (is_absent f.0 fs) (are_distinct fs) apart in
    next_field f.0 f.1 fs ms parts.0 long there.0 there.1 (λ ns l t. same_keys fs ns parts.1 l t) q

-- ---- values

-- a key of a value is there where there is a value for it
abbrev pub HasFields : Data → List Field → Type 0
HasFields d [] = Unit {0}
HasFields d (f ∷ fs) = (is_some f.1 ≡ true → is_some (get f.0 d) ≡ true) × HasFields d fs

AreThere-from : (ms : Members) (fs : List Field) → HasFields (object ms) fs → AreThere ms fs
AreThere-from ms [] has = tt
AreThere-from ms (f ∷ fs) has = (has.0, AreThere-from ms fs has.1)

-- an object of as many keys as these, and each of these, has just their keys
pub have_same_keys : (d : Data) (fs : List Field) (n : ℕ) → are_distinct fs ≡ true → count fs ≡ n → has_keys n d ≡ true → HasFields d fs
    → HaveSameKeys d (object (members_of fs))
have_same_keys null fs n apart long keys has q = absurd (cc)
have_same_keys (boolean b) fs n apart long keys has q = absurd (cc)
have_same_keys (number m) fs n apart long keys has q = absurd (cc)
have_same_keys (string s) fs n apart long keys has q = absurd (cc)
have_same_keys (array ds) fs n apart long keys has q = absurd (cc)
have_same_keys (object ms) fs n apart long keys has q =
    let many : members_len ms ≡ count fs = grind (arith, nat_tests, keys, long) in
    same_keys fs ms apart many (AreThere-from ms fs has) q ∙ ap is_some (sym (get_member-members_of q fs))
