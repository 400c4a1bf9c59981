-- The compact text of what is written, read as JSON.
use Rattle.std.proofs.Common.{◌≡◌, ◌≤◌, ◌<◌, ◌^◌, ℕ, List, [], ◌∷◌, Option, Some, None, IfSome, option_map, option_and_then, Ordering, Less, Equal, Greater, nat_cmp, refl, ap, sym, ◌∙◌, arith, append-nil}
use Rattle.std.specs.Cmp.Lexicographic.{slice_cmp}
use Rattle.std.specs.Ordering.{match_ordering, ordering_reverse}
use Rattle.std.proofs.lemmas.Cmp.{nat_list_cmp_total}
use Rattle.json.specs.Json as json
use Rattle.json.specs.Tree as tree
use Rattle.json.specs.Tree.{json_tokens, HasNumbers, MembersHaveNumbers}
use Rattle.json.proofs.Printed.Tokens.{tokens-print}
use Rattle.json.proofs.Printed.Trees.{value-json_tokens, ArePrintable-json_tokens}
use Rattle.json.proofs.Printed.Decimals.{IsNumber-decimal}
use Rattle.serde_json.specs.Data.{Data, Members, no_members, member, put, string, number, object}
use Rattle.serde_json.specs.Read.{of_json, of_members, read, max_depth}
use Rattle.serde_json.specs.Written.{outline, members_outline, compact_text}
use Rattle.serde_json.proofs.Numbers.{number_of-decimal}
use Rattle.serde_json.proofs.Texts.{print-outline}
use Rattle.schedule_lines.specs.Written.{whole, with_some}
use Rattle.schedule_lines.proofs.Keys.{Field, members_of}

-- what is read of a text that was printed
read_compact : (d : Data) → of_json (outline d) ≡ Some d → HasNumbers (outline d) → tree.depth (outline d) ≤ max_depth → read (compact_text d) ≡ Some d
read_compact d same numbers shallow =
    let ts = json_tokens (outline d) in
    ap read (sym (print-outline d))
    ∙ ap (λ us. option_and_then of_json (option_and_then (λ p. json.if_last p.0 p.1) (json.value max_depth us)))
    (tokens-print ts (ArePrintable-json_tokens (outline d) numbers) ∙ sym (append-nil ts))
    ∙ ap (λ o. option_and_then of_json (option_and_then (λ p. json.if_last p.0 p.1) o)) (value-json_tokens (outline d) max_depth [] shallow)
    ∙ same

-- a value that is read as it was printed, of two levels at the most
pub record IsReadable (d : Data) : Type 0 where
  pub same : of_json (outline d) ≡ Some d
  pub numbers : HasNumbers (outline d)
  pub shallow : tree.depth (outline d) ≤ 2

-- ---- keys that ascend

abbrev IsBefore : List ℕ → List ℕ → Type 0
IsBefore k l = slice_cmp nat_cmp k l ≡ Less

abbrev IsBelow : List ℕ → Members → Type 0
IsBelow k no_members = Unit {0}
IsBelow k (member l e ms) = IsBefore k l × IsBelow k ms

abbrev AreAscending : Members → Type 0
AreAscending no_members = Unit {0}
AreAscending (member k d ms) = IsBelow k ms × AreAscending ms

abbrev AreReadable : Members → Type 0
AreReadable no_members = Unit {0}
AreReadable (member k d ms) = IsReadable d × AreReadable ms

below_chosen : (o : Ordering) (j : List ℕ) (a b c : Members) → IsBelow j a → IsBelow j b → IsBelow j c → IsBelow j (match_ordering o a b c)
below_chosen Less j a b c x y z = x
below_chosen Equal j a b c x y z = y
below_chosen Greater j a b c x y z = z

below_put : (j k : List ℕ) (d : Data) (ms : Members) → IsBefore j k → IsBelow j ms → IsBelow j (put k d ms)
below_put j k d no_members before rest = (before, tt)
below_put j k d (member l e ms) before rest =
    below_chosen (slice_cmp nat_cmp k l) j _ _ _ (before, rest) rest (rest.0, below_put j k d ms before rest.1)

still_below : (j k : List ℕ) (ms : Members) → IsBefore j k → IsBelow k ms → IsBelow j ms
still_below j k no_members before rest = tt
still_below j k (member l e ms) before rest = (nat_list_cmp_total.trans j k l before rest.0, still_below j k ms before rest.1)

turned : (k l : List ℕ) → slice_cmp nat_cmp k l ≡ Greater → IsBefore l k
turned k l e = nat_list_cmp_total.antisymm l k ∙ ap ordering_reverse e

ascending_at : (o : Ordering) (k l : List ℕ) (d e : Data) (ms : Members) → slice_cmp nat_cmp k l ≡ o → AreAscending (member l e ms) → AreAscending (put k d ms)
    → AreAscending (match_ordering o (member k d (member l e ms)) (member l d ms) (member l e (put k d ms)))
ascending_at Less k l d e ms is h later = ((is, still_below k l ms is h.0), h)
ascending_at Equal k l d e ms is h later = h
ascending_at Greater k l d e ms is h later = (below_put l k d ms (turned k l is) h.0, later)

ascending_put : (k : List ℕ) (d : Data) (ms : Members) → AreAscending ms → AreAscending (put k d ms)
ascending_put k d no_members h = (tt, tt)
ascending_put k d (member l e ms) h = ascending_at (slice_cmp nat_cmp k l) k l d e ms refl h (ascending_put k d ms h.1)

readable_chosen : (o : Ordering) (a b c : Members) → AreReadable a → AreReadable b → AreReadable c → AreReadable (match_ordering o a b c)
readable_chosen Less a b c x y z = x
readable_chosen Equal a b c x y z = y
readable_chosen Greater a b c x y z = z

readable_put : (k : List ℕ) (d : Data) (ms : Members) → IsReadable d → AreReadable ms → AreReadable (put k d ms)
readable_put k d no_members value rest = (value, tt)
readable_put k d (member l e ms) value rest =
    readable_chosen (slice_cmp nat_cmp k l) _ _ _ (value, rest) (value, rest.1) (rest.0, readable_put k d ms value rest.1)

-- ---- members that are put one after another

abbrev after : Members → Members → Members
after no_members more = more
after (member k d ms) more = member k d (after ms more)

-- all of these keys are before that one
abbrev AreBefore : Members → List ℕ → Type 0
AreBefore no_members k = Unit {0}
AreBefore (member l e ms) k = IsBefore l k × AreBefore ms k

turned_back : (k l : List ℕ) → IsBefore l k → slice_cmp nat_cmp k l ≡ Greater
turned_back k l e = nat_list_cmp_total.antisymm k l ∙ ap ordering_reverse e

put_last : (k : List ℕ) (d : Data) (found : Members) → AreBefore found k → put k d found ≡ after found (member k d no_members)
put_last k d no_members before = refl
put_last k d (member l e found) before = rw (turned_back k l before.0) (ap (member l e) (put_last k d found before.1))

after_after : (found more ms : Members) → after (after found more) ms ≡ after found (after more ms)
after_after no_members more ms = refl
after_after (member k d found) more ms = ap (member k d) (after_after found more ms)

-- each key of the first is before each of the second
abbrev AreApart : Members → Members → Type 0
AreApart found no_members = Unit {0}
AreApart found (member k d ms) = AreBefore found k × AreApart found ms

before_more : (found : Members) (k l : List ℕ) (d : Data) → AreBefore found l → IsBefore k l → AreBefore (after found (member k d no_members)) l
before_more no_members k l d h before = (before, tt)
before_more (member j e found) k l d h before = (h.0, before_more found k l d h.1 before)

apart_more : (found ms : Members) (k : List ℕ) (d : Data) → AreApart found ms → IsBelow k ms → AreApart (after found (member k d no_members)) ms
apart_more found no_members k d h below = tt
apart_more found (member l e ms) k d h below = (before_more found k l d h.0 below.0, apart_more found ms k d h.1 below.1)

after-no_members : (found : Members) → after found no_members ≡ found
after-no_members no_members = refl
after-no_members (member k d found) = ap (member k d) (after-no_members found)

all_found : (ms found : Members) → AreReadable ms → AreAscending ms → AreApart found ms → of_members (members_outline ms) found ≡ Some (after found ms)
all_found no_members found read ascending apart = ap Some (sym (after-no_members found))
all_found (member k d ms) found read ascending apart =
    ap (option_and_then (λ e. of_members (members_outline ms) (put k e found))) read.0.same
    ∙ ap (of_members (members_outline ms)) (put_last k d found apart.0)
    ∙ all_found ms (after found (member k d no_members)) read.1 ascending.1 (apart_more found ms k d apart.1 ascending.0)
    ∙ ap Some (after_after found (member k d no_members) ms)

apart_from_none : (ms : Members) → AreApart no_members ms
apart_from_none no_members = tt
apart_from_none (member k d ms) = (tt, apart_from_none ms)

numbers_of : (ms : Members) → AreReadable ms → MembersHaveNumbers (members_outline ms)
numbers_of no_members h = tt
numbers_of (member k d ms) h = (h.0.numbers, numbers_of ms h.1)

depth_of : (ms : Members) → AreReadable ms → tree.members_depth (members_outline ms) ≤ 2
depth_of no_members h = omega arith
depth_of (member k d ms) h = omega (arith, h.0.shallow, depth_of ms h.1)

-- an object of such members is read as it was printed
pub read_object : (ms : Members) → AreReadable ms → AreAscending ms → read (compact_text (object ms)) ≡ Some (object ms)
read_object ms read ascending =
    read_compact (object ms) (ap (option_map object) (all_found ms no_members read ascending (apart_from_none ms))) (numbers_of ms read) (omega (arith, depth_of ms read))

-- ---- values

pub text_readable : (text : List ℕ) → IsReadable (string text)
text_readable text = record { same = refl; numbers = tt; shallow = omega arith }

pub whole_readable : (n : ℕ) → n < 2 ^ 64 → IsReadable (whole n)
whole_readable n h = record { same = ap (option_map number) (number_of-decimal n h); numbers = IsNumber-decimal n h; shallow = omega arith }

-- ---- members of fields

abbrev IsReadableField : Option Data → Type 0
IsReadableField None = Unit {0}
IsReadableField (Some d) = IsReadable d

abbrev pub AreReadableFields : List Field → Type 0
AreReadableFields [] = Unit {0}
AreReadableFields (f ∷ fs) = IsReadableField f.1 × AreReadableFields fs

pub field_readable : {X : Type 0} (f : X → Data) (o : Option X) (P : X → Type 0) → ((x : X) → P x → IsReadable (f x)) → IfSome o P → IsReadableField (option_map f o)
field_readable f None P each h = tt
field_readable f (Some x) P each h = each x h

readable_with : (k : List ℕ) (o : Option Data) (ms : Members) → IsReadableField o → AreReadable ms → AreReadable (with_some k o ms)
readable_with k None ms value rest = rest
readable_with k (Some d) ms value rest = readable_put k d ms value rest

ascending_with : (k : List ℕ) (o : Option Data) (ms : Members) → AreAscending ms → AreAscending (with_some k o ms)
ascending_with k None ms h = h
ascending_with k (Some d) ms h = ascending_put k d ms h

pub members_readable : (fs : List Field) → AreReadableFields fs → AreReadable (members_of fs)
members_readable [] each = tt
members_readable (f ∷ fs) each = readable_with f.0 f.1 (members_of fs) each.0 (members_readable fs each.1)

pub members_ascending : (fs : List Field) → AreAscending (members_of fs)
members_ascending [] = tt
members_ascending (f ∷ fs) = ascending_with f.0 f.1 (members_of fs) (members_ascending fs)
