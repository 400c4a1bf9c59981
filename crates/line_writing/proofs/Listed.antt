-- Members that are put one after another, as the list of them in the byte order of their keys.
use Rattle.std.proofs.Common.{◌≡◌, ◌∙◌, ℕ, List, [], ◌∷◌, Bool, true, false, ◌&&◌, Option, Some, None, refl, ap}
use Rattle.std.proofs.Common.{Ordering, Less, Equal, Greater, nat_cmp}
use Rattle.std.specs.Cmp.Lexicographic.{slice_cmp}
use Rattle.std.specs.Ordering.{match_ordering}
use Rattle.std.proofs.lemmas.Bool.{and_parts}
use Rattle.serde_json.specs.Data.{Data, Members, no_members, member, put}
use Rattle.schedule_lines.specs.Written.{with_some}
use Rattle.schedule_lines.proofs.Keys.{Field, members_of}

-- a member in front of others, where there is a value for it
abbrev pub in_front : List ℕ → Option Data → Members → Members
in_front key None members = members
in_front key (Some value) members = member key value members

-- these fields in this order
abbrev pub listed : List Field → Members
listed [] = no_members
listed (f ∷ fs) = in_front f.0 f.1 (listed fs)

-- a field at its place among others that ascend
abbrev pub insert : List ℕ → Option Data → List Field → List Field
insert key value [] = (key, value) ∷ []
insert key value (f ∷ fs) = match_ordering (slice_cmp nat_cmp key f.0) ((key, value) ∷ f ∷ fs) [] (f ∷ insert key value fs)

-- the fields in the byte order of their keys
abbrev pub sorted : List Field → List Field
sorted [] = []
sorted (f ∷ fs) = insert f.0 f.1 (sorted fs)

abbrev is_less : Ordering → Bool
is_less o = match_ordering o true false false

-- a key is before each of these
abbrev is_before : List ℕ → List Field → Bool
is_before key [] = true
is_before key (f ∷ fs) = is_less (slice_cmp nat_cmp key f.0) && is_before key fs

-- a key has a place among these
abbrev fits : List ℕ → List Field → Bool
fits key [] = true
fits key (f ∷ fs) = match_ordering (slice_cmp nat_cmp key f.0) (is_before key (f ∷ fs)) false (fits key fs)

abbrev pub all_fit : List Field → Bool
all_fit [] = true
all_fit (f ∷ fs) = fits f.0 (sorted fs) && all_fit fs

less_of : (o : Ordering) → is_less o ≡ true → o ≡ Less
less_of Less h = refl
less_of Equal h = absurd (cc)
less_of Greater h = absurd (cc)

put_before : (k l : List ℕ) (d e : Data) (ms : Members) → slice_cmp nat_cmp k l ≡ Less → put k d (member l e ms) ≡ member k d (member l e ms)
put_before k l d e ms less = rw less

put_behind : (k l : List ℕ) (d e : Data) (ms : Members) → slice_cmp nat_cmp k l ≡ Greater → put k d (member l e ms) ≡ member l e (put k d ms)
put_behind k l d e ms greater = rw greater

put_first : (k : List ℕ) (d : Data) (fs : List Field) → is_before k fs ≡ true → put k d (listed fs) ≡ member k d (listed fs)
put_first k d [] h = refl
put_first k d (f ∷ fs) h =
    let parts : (is_less (slice_cmp nat_cmp k f.0) ≡ true) × (is_before k fs ≡ true) = and_parts (is_less (slice_cmp nat_cmp k f.0)) (is_before k fs) h in
    by_value f.1 (less_of _ parts.0) (put_first k d fs parts.1)
  where
    by_value : (o : Option Data) → slice_cmp nat_cmp k f.0 ≡ Less → put k d (listed fs) ≡ member k d (listed fs)
        → put k d (in_front f.0 o (listed fs)) ≡ member k d (in_front f.0 o (listed fs))
    by_value None less rest = rest
    by_value (Some e) less rest = put_before k f.0 d e (listed fs) less

with_behind : (k l : List ℕ) (o p : Option Data) (ms : Members) → slice_cmp nat_cmp k l ≡ Greater
    → with_some k o (in_front l p ms) ≡ in_front l p (with_some k o ms)
with_behind k l None p ms greater = refl
with_behind k l (Some d) None ms greater = refl
with_behind k l (Some d) (Some e) ms greater = put_behind k l d e ms greater

with_first : (k : List ℕ) (o : Option Data) (fs : List Field) → is_before k fs ≡ true → with_some k o (listed fs) ≡ in_front k o (listed fs)
with_first k None fs h = refl
with_first k (Some d) fs h = put_first k d fs h

inserted_at : (c : Ordering) (k : List ℕ) (o : Option Data) (f : Field) (fs : List Field) → slice_cmp nat_cmp k f.0 ≡ c
    → match_ordering c (is_before k (f ∷ fs)) false (fits k fs) ≡ true
    → (fits k fs ≡ true → with_some k o (listed fs) ≡ listed (insert k o fs))
    → with_some k o (listed (f ∷ fs)) ≡ listed (match_ordering c ((k, o) ∷ f ∷ fs) [] (f ∷ insert k o fs))
inserted_at Less k o f fs is fit rest = with_first k o (f ∷ fs) fit
inserted_at Equal k o f fs is fit rest = absurd (cc)
inserted_at Greater k o f fs is fit rest = with_behind k f.0 o f.1 (listed fs) is ∙ ap (in_front f.0 f.1) (rest fit)

inserted : (k : List ℕ) (o : Option Data) (fs : List Field) → fits k fs ≡ true → with_some k o (listed fs) ≡ listed (insert k o fs)
inserted k None [] h = refl
inserted k (Some d) [] h = refl
inserted k o (f ∷ fs) h = inserted_at (slice_cmp nat_cmp k f.0) k o f fs refl h (inserted k o fs)

-- fields that are put one after another are listed in the order of their keys
pub members_sorted : (fs : List Field) → all_fit fs ≡ true → members_of fs ≡ listed (sorted fs)
members_sorted [] h = refl
members_sorted (f ∷ fs) h =
    let parts : (fits f.0 (sorted fs) ≡ true) × (all_fit fs ≡ true) = and_parts (fits f.0 (sorted fs)) (all_fit fs) h in
    ap (with_some f.0 f.1) (members_sorted fs parts.1) ∙ inserted f.0 f.1 (sorted fs) parts.0
