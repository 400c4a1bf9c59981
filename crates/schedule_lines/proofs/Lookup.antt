-- What stands at a key of a line, and how many keys there are.
use Rattle.std.proofs.Common.{◌≡◌, ◌≤◌, ℕ, suc, ◌+◌, List, [], ◌∷◌, length, Bool, true, false, ◌&&◌, not, Option, Some, None}
use Rattle.std.proofs.Common.{if◌then◌else◌, Ordering, Less, Equal, Greater, nat_cmp, bytes_eq, refl, ap, ◌∙◌, arith}
use Rattle.std.specs.Option.{option_or}
use Rattle.std.specs.Cmp.Lexicographic.{slice_cmp}
use Rattle.std.specs.Ordering.{match_ordering}
use Rattle.std.proofs.lemmas.Slice.Eq.{bytes_eq-Decides}
use Rattle.serde_json.specs.Data.{Data, Members, no_members, member, put}
use Rattle.serde_json.specs.Events.{members_len}
use Rattle.serde_json.specs.Find.{get_member}
use Rattle.serde_json.proofs.Views.{get_member-put, get_member-put_other}
use Rattle.schedule_lines.proofs.Keys.{Field, members_of}
use Rattle.schedule_lines.specs.Written.{with_some}

-- the value at a key, of the first field that has one there
abbrev pub find : List ℕ → List Field → Option Data
find q [] = None
find q (f ∷ fs) = if bytes_eq q f.0 then option_or f.1 (find q fs) else find q fs

found_at : (b : Bool) (q k : List ℕ) (d : Data) (ms : Members) → bytes_eq q k ≡ b
    → get_member q (put k d ms) ≡ (if b then Some d else get_member q ms)
found_at true q k d ms e =
    let same = (bytes_eq-Decides q k).0 e in
    ap (λ k'. get_member k' (put k d ms)) same ∙ get_member-put k d ms
found_at false q k d ms e = get_member-put_other q k d ms (λ same. cc (e, (bytes_eq-Decides q k).1 same))

or_else : (b : Bool) (d : Data) (rest : Option Data) → (if b then Some d else rest) ≡ (if b then option_or (Some d) rest else rest)
or_else true d rest = refl
or_else false d rest = refl

pub or_same : (b : Bool) (rest : Option Data) → rest ≡ (if b then option_or None rest else rest)
or_same true rest = refl
or_same false rest = refl

found : (q k : List ℕ) (o : Option Data) (ms : Members)
    → get_member q (with_some k o ms) ≡ (if bytes_eq q k then option_or o (get_member q ms) else get_member q ms)
found q k None ms = or_same (bytes_eq q k) (get_member q ms)
found q k (Some d) ms = found_at _ q k d ms refl ∙ or_else (bytes_eq q k) d (get_member q ms)

pub get_member-members_of : (q : List ℕ) (fs : List Field) → get_member q (members_of fs) ≡ find q fs
get_member-members_of q [] = refl
get_member-members_of q (f ∷ fs) =
    found q f.0 f.1 (members_of fs) ∙ ap (λ rest. if bytes_eq q f.0 then option_or f.1 rest else rest) (get_member-members_of q fs)

pub option_or-none : (o : Option Data) → option_or o None ≡ o
option_or-none None = refl
option_or-none (Some d) = refl

-- one where there is a value
abbrev pub one_if : Option Data → ℕ
one_if None = 0
one_if (Some d) = 1

abbrev pub count : List Field → ℕ
count [] = 0
count (f ∷ fs) = one_if f.1 + count fs

one_or_none : (o : Option Data) → one_if o ≤ 1
one_or_none None = omega arith
one_or_none (Some d) = omega arith

pub count_fields : (fs : List Field) → count fs ≤ length fs
count_fields [] = omega arith
count_fields (f ∷ fs) = omega (arith, one_or_none f.1, count_fields fs)

abbrev pub is_absent : List ℕ → List Field → Bool
is_absent q [] = true
is_absent q (f ∷ fs) = not (bytes_eq q f.0) && is_absent q fs

abbrev pub are_distinct : List Field → Bool
are_distinct [] = true
are_distinct (f ∷ fs) = is_absent f.0 fs && are_distinct fs

pub both : (a b : Bool) → (a && b) ≡ true → (a ≡ true) × (b ≡ true)
both true b h = (refl, h)
both false b h = absurd (cc)

passed : (b : Bool) (o rest : Option Data) → not b ≡ true → rest ≡ None → (if b then option_or o rest else rest) ≡ None
passed true o rest h e = absurd (cc)
passed false o rest h e = e

find-absent : (q : List ℕ) (fs : List Field) → is_absent q fs ≡ true → find q fs ≡ None
find-absent q [] h = refl
find-absent q (f ∷ fs) h =
    let parts = both (not (bytes_eq q f.0)) (is_absent q fs) h in
    passed (bytes_eq q f.0) f.1 (find q fs) parts.0 (find-absent q fs parts.1)

longer_at : (o : Ordering) (k l : List ℕ) (d e : Data) (ms : Members) → match_ordering o (get_member k ms) (Some e) (get_member k ms) ≡ None
    → (get_member k ms ≡ None → members_len (put k d ms) ≡ suc (members_len ms))
    → members_len (match_ordering o (member k d (member l e ms)) (member l d ms) (member l e (put k d ms))) ≡ suc (suc (members_len ms))
longer_at Less k l d e ms none rest = refl
longer_at Equal k l d e ms none rest = absurd (cc)
longer_at Greater k l d e ms none rest = ap suc (rest none)

-- a value at a further key
longer : (k : List ℕ) (d : Data) (ms : Members) → get_member k ms ≡ None → members_len (put k d ms) ≡ suc (members_len ms)
longer k d no_members none = refl
longer k d (member l e ms) none = longer_at (slice_cmp nat_cmp k l) k l d e ms none (longer k d ms)

counted : (k : List ℕ) (o : Option Data) (ms : Members) → get_member k ms ≡ None → members_len (with_some k o ms) ≡ one_if o + members_len ms
counted k None ms none = omega arith
counted k (Some d) ms none = longer k d ms none ∙ omega arith

pub members_len-members_of : (fs : List Field) → are_distinct fs ≡ true → members_len (members_of fs) ≡ count fs
members_len-members_of [] h = refl
members_len-members_of (f ∷ fs) h =
    let parts = both (is_absent f.0 fs) (are_distinct fs) h in
    counted f.0 f.1 (members_of fs) (get_member-members_of f.0 fs ∙ find-absent f.0 fs parts.0)
    ∙ ap (λ n. one_if f.1 + n) (members_len-members_of fs parts.1)
