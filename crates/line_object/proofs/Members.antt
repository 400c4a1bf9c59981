-- What is found in members that are apart.
use Rattle.std.proofs.Common.{◌≡◌, ℕ, suc, ◌+◌, List, [], ◌∷◌, ◌++◌, length, Bool, true, false, not, ◌&&◌, if◌then◌else◌, Option, Some, None, Ordering, Less, Equal, Greater, refl, sym, ap, ◌∙◌, subst, arith, true≢false}
use Rattle.serde_json.specs.Data.{Data, Members, no_members, member, put}
use Rattle.std.specs.Ordering.{nat_cmp, match_ordering}
use Rattle.std.specs.Cmp.Lexicographic.{slice_cmp}
use Rattle.serde_json.specs.Events.{members_len}
use Rattle.serde_json.specs.Find.{get_member}
use Rattle.serde_json.proofs.Views.{get_member-put, get_member-put_other}
use Rattle.line_object.specs.declared.key.Key.{Key}
use Rattle.line_object.specs.declared.object.Member.{Member}
use Rattle.line_object.specs.Key.{key_text}
use Rattle.line_object.specs.Inner.Apart.{same_key}
use Rattle.line_object.specs.PlainValue.{plain_data}
use Rattle.line_object.specs.Inner.Found.{value_of}
use Rattle.line_object.specs.Inner.Apart.{is_free, are_apart}
use Rattle.line_object.specs.Object.{members_from}
use Rattle.line_object.proofs.Keys.{one_key, one_text, same_itself}

-- members, and one more behind them
pub from_more : (found : Members) (ms : List Member) (m : Member) → members_from found (ms ++ m ∷ []) ≡ put (key_text m.key) (plain_data m.value) (members_from found ms)
from_more found [] m = refl
from_more found (x ∷ ms) m = from_more (put (key_text x.key) (plain_data x.value) found) ms m

first : (a b : Bool) → (a && b) ≡ true → a ≡ true
first true b e = refl
first false b e = e

second : (a b : Bool) → (a && b) ≡ true → b ≡ true
second true b e = e
second false b e = absurd (cc)

both : (a b : Bool) → a ≡ true → b ≡ true → (a && b) ≡ true
both true b e f = f
both false b e f = e

negated : (a : Bool) → not a ≡ true → a ≡ false
negated true e = absurd (cc)
negated false e = refl

affirmed : (a : Bool) → a ≡ false → not a ≡ true
affirmed true e = absurd (cc)
affirmed false e = refl

-- which of two keys is named first doesn't matter
turned : (a b : Key) (same : Bool) → same_key b a ≡ same → same_key a b ≡ false → same ≡ false
turned a b true e apart = absurd (true≢false (sym (same_itself a) ∙ ap (same_key a) (sym (one_key b a e)) ∙ apart))
turned a b false e apart = refl

pub free_more : (k : Key) (ms : List Member) (m : Member) → is_free k ms ≡ true → same_key m.key k ≡ false → is_free k (ms ++ m ∷ []) ≡ true
free_more k [] m free apart = both (not (same_key m.key k)) true (affirmed _ apart) refl
free_more k (x ∷ ms) m free apart = both (not (same_key x.key k)) _ (first _ _ free) (free_more k ms m (second _ _ free) apart)

pub apart_more : (ms : List Member) (m : Member) → are_apart ms ≡ true → is_free m.key ms ≡ true → are_apart (ms ++ m ∷ []) ≡ true
apart_more [] m apart free = refl
apart_more (x ∷ ms) m apart free =
    both (is_free x.key (ms ++ m ∷ [])) _ (free_more x.key ms m (first _ _ apart) (turned x.key m.key _ refl (negated _ (first _ _ free))))
    (apart_more ms m (second _ _ apart) (second _ _ free))

unfound : (same : Bool) (d : Data) (o : Option Data) → not same ≡ true → o ≡ None → (if same then Some d else o) ≡ None
unfound true d o e none = absurd (cc)
unfound false d o e none = none

free_none : (k : Key) (ms : List Member) → is_free k ms ≡ true → value_of k ms ≡ None
free_none k [] free = refl
free_none k (m ∷ ms) free = unfound (same_key m.key k) (plain_data m.value) (value_of k ms) (first _ _ free) (free_none k ms (second _ _ free))

-- the one, or else the other
abbrev or_else : Option Data → Option Data → Option Data
or_else None other = other
or_else (Some d) other = Some d

first_or : (q : Key) (found : Members) (m : Member) (ms : List Member) (same : Bool) → same_key m.key q ≡ same → is_free m.key ms ≡ true
    → get_member (key_text q) (members_from (put (key_text m.key) (plain_data m.value) found) ms)
    ≡ or_else (value_of q ms) (get_member (key_text q) (put (key_text m.key) (plain_data m.value) found))
    → get_member (key_text q) (members_from (put (key_text m.key) (plain_data m.value) found) ms)
    ≡ or_else (if same then Some (plain_data m.value) else value_of q ms) (get_member (key_text q) found)
first_or q found m ms true e free later =
    let is_q : m.key ≡ q = one_key m.key q e in
    later
    ∙ ap (λ o. or_else o (get_member (key_text q) (put (key_text m.key) (plain_data m.value) found))) (free_none q ms (subst (λ k. is_free k ms ≡ true) is_q free))
    ∙ subst (λ k. get_member (key_text q) (put (key_text k) (plain_data m.value) found) ≡ Some (plain_data m.value)) (sym is_q) (get_member-put (key_text q) (plain_data m.value) found)
first_or q found m ms false e free later =
    later
    ∙ ap (or_else (value_of q ms)) (get_member-put_other (key_text q) (key_text m.key) (plain_data m.value) found
    (λ h. true≢false (sym (same_itself q) ∙ ap (λ k. same_key k q) (one_text q m.key h) ∙ e)))

found_in : (q : Key) (found : Members) (ms : List Member) → are_apart ms ≡ true
    → get_member (key_text q) (members_from found ms) ≡ or_else (value_of q ms) (get_member (key_text q) found)
found_in q found [] apart = refl
found_in q found (m ∷ ms) apart =
    first_or q found m ms _ refl (first _ _ apart) (found_in q (put (key_text m.key) (plain_data m.value) found) ms (second _ _ apart))

or_none : (o : Option Data) → or_else o None ≡ o
or_none None = refl
or_none (Some d) = refl

-- a key's value is that of its member
pub found_where : (q : Key) (ms : List Member) → are_apart ms ≡ true → value_of q ms ≡ get_member (key_text q) (members_from no_members ms)
found_where q ms apart = sym (found_in q no_members ms apart ∙ or_none (value_of q ms))

-- ---- how many there are

-- none of these is found
abbrev AreNew : Members → List Member → Type 0
AreNew found ms = (q : Key) → is_free q ms ≡ false → get_member (key_text q) found ≡ None

longer_at : (o : Ordering) (k l : List ℕ) (d e : Data) (ms : Members) → slice_cmp nat_cmp k l ≡ o → match_ordering o (get_member k ms) (Some e) (get_member k ms) ≡ None
    → (get_member k ms ≡ None → members_len (put k d ms) ≡ suc (members_len ms))
    → members_len (match_ordering o (member k d (member l e ms)) (member l d ms) (member l e (put k d ms))) ≡ suc (suc (members_len ms))
longer_at Less k l d e ms is none later = refl
longer_at Equal k l d e ms is none later = absurd (cc)
longer_at Greater k l d e ms is none later = ap suc (later none)

longer : (k : List ℕ) (d : Data) (ms : Members) → get_member k ms ≡ None → members_len (put k d ms) ≡ suc (members_len ms)
longer k d no_members none = refl
longer k d (member l e ms) none = longer_at _ k l d e ms refl none (longer k d ms)

either_false : (a b : Bool) → b ≡ false → (a && b) ≡ false
either_false true b e = e
either_false false b e = refl

counted : (found : Members) (ms : List Member) → are_apart ms ≡ true → AreNew found ms → members_len (members_from found ms) ≡ members_len found + length ms
counted found [] apart new = omega arith
counted found (m ∷ ms) apart new =
    let free = first (is_free m.key ms) (are_apart ms) apart in
    let none = new m.key (ap (λ s. not s && is_free m.key ms) (same_itself m.key)) in
    let others : AreNew (put (key_text m.key) (plain_data m.value) found) ms = λ q taken.
    get_member-put_other (key_text q) (key_text m.key) (plain_data m.value) found
    (λ h. true≢false (sym free ∙ ap (λ k. is_free k ms) (sym (one_text q m.key h)) ∙ taken))
    ∙ new q (either_false (not (same_key m.key q)) (is_free q ms) taken) in
    omega (
      arith,
      counted (put (key_text m.key) (plain_data m.value) found) ms (second (is_free m.key ms) (are_apart ms) apart) others,
      longer (key_text m.key) (plain_data m.value) found none,
    )

-- as many members as there are in the list
pub as_many : (ms : List Member) → are_apart ms ≡ true → members_len (members_from no_members ms) ≡ length ms
as_many ms apart = omega (arith, counted no_members ms apart (λ q free. refl))
