-- The texts of lines: octets that are shown, of ASCII, and how many there are at the most.
use Rattle.std.proofs.Common.{◌≡◌, ◌∙◌, ℕ, zero, suc, ℤ, pos, negsuc, ◌+◌, ◌*◌, ◌/◌, ◌%◌, ◌^◌, ◌<◌, ◌≤◌, ◌==◌, Bool, true, false, ◌&&◌, ◌||◌, cond, nat_lt, List, [], ◌∷◌, ◌++◌, length, slice_index, Option, Some, None, IfSome, Ordering, Less, Equal, Greater, nat_cmp, refl, sym, subst, arith, length-append, option_map}
use Rattle.std.specs.Fmt.{decimal, signed_decimal}
use Rattle.std.specs.List.{list_all}
use Rattle.std.specs.Cmp.Lexicographic.{slice_cmp}
use Rattle.std.specs.Ordering.{match_ordering}
use Rattle.std.proofs.lemmas.Bool.{and_parts}
use Rattle.std.proofs.lemmas.Bool.Decides.{nat_tests}
use Rattle.std.proofs.lemmas.Fmt.{decimal_by_steps_wide, length-decimal-le_wide}
use Rattle.std.proofs.lemmas.List.Concat.{flat_map-cons}
use Rattle.std.proofs.lemmas.List.Folds.{list_all-append}
use Rattle.hex.specs.Hex.{IsBytes, encode_lower, encode_with, lower_digits}
use Rattle.json.specs.Print.{escape_byte, escape, quoted}
use Rattle.serde_json.specs.Data.{Data, array, object, item, no_items, Members, member, no_members, put}
use Rattle.serde_json.specs.Events.{members_len}
use Rattle.serde_json.specs.Written.{compact_text, members_text}
use Rattle.schedule_lines.specs.Written.{whole, with_some}
use Rattle.schedule_lines.specs.Ranges.{IsShort}
use Rattle.schedule_lines.proofs.Keys.{Field, members_of}

-- an octet that is shown, of ASCII: no control character
abbrev pub is_shown : ℕ → Bool
is_shown x = nat_lt 31 x && nat_lt x 127

-- octets that are shown, so many at the most
pub record Fits (n : ℕ) (text : List ℕ) : Type 0 where
  pub short : length text ≤ n
  pub shown : list_all is_shown text ≡ true

pub fits_more : {m : ℕ} {text : List ℕ} (n : ℕ) → m ≤ n → Fits m text → Fits n text
fits_more n within h = record { short = omega (arith, within, h.short); shown = h.shown }

pub fits_none : Fits 0 []
fits_none = record { short = omega arith; shown = refl }

pub fits_cons : {n : ℕ} {text : List ℕ} (x : ℕ) → is_shown x ≡ true → Fits n text → Fits (suc n) (x ∷ text)
fits_cons x shown h = record { short = omega (arith, h.short); shown = λ i. shown i && h.shown i }

pub fits_append : {m n : ℕ} (xs ys : List ℕ) → Fits m xs → Fits n ys → Fits (m + n) (xs ++ ys)
fits_append xs ys h k = record {
  short = omega (arith, length-append xs ys, h.short, k.short);
  shown = list_all-append is_shown xs ys ∙ (λ i. h.shown i && k.shown i);
}

-- ---- strings

fits_escaped : (x : ℕ) → is_shown x ≡ true → Fits 2 (escape_byte x)
unfolding escape_byte
fits_escaped x shown =
    let parts : (nat_lt 31 x ≡ true) × (nat_lt x 127 ≡ true) = and_parts (nat_lt 31 x) (nat_lt x 127) shown in
    let a : (x == 8) ≡ false = grind (arith, nat_tests, parts.0) in
    let b : (x == 12) ≡ false = grind (arith, nat_tests, parts.0) in
    let c : (x == 10) ≡ false = grind (arith, nat_tests, parts.0) in
    let d : (x == 13) ≡ false = grind (arith, nat_tests, parts.0) in
    let e : (x == 9) ≡ false = grind (arith, nat_tests, parts.0) in
    let some : nat_lt 0 x ≡ true = grind (arith, nat_tests, parts.0) in
    let high : nat_lt x 32 ≡ false = grind (arith, nat_tests, parts.0) in
    rw (a, b, c, d, e) (by _ some high ((x == 34) || (x == 92)))
  where
    by : (rest : List ℕ) → nat_lt 0 x ≡ true → nat_lt x 32 ≡ false → (special : Bool)
        → Fits 2 (cond (nat_lt 0 (cond special x 0)) (92 ∷ cond special x 0 ∷ []) (cond (nat_lt x 32) rest (x ∷ [])))
    by rest some high true = rw some (fits_cons 92 refl (fits_cons x shown fits_none))
    by rest some high false = rw high (fits_more 2 (omega arith) (fits_cons x shown fits_none))

fits_escape : (s : List ℕ) → list_all is_shown s ≡ true → Fits (2 * length s) (escape s)
fits_escape [] h = fits_none
fits_escape (x ∷ s) h =
    let parts : (is_shown x ≡ true) × (list_all is_shown s ≡ true) = and_parts (is_shown x) (list_all is_shown s) h in
    subst (Fits (2 * length (x ∷ s))) (sym (flat_map-cons escape_byte x s))
    (fits_more (2 * length (x ∷ s)) (omega arith) (fits_append (escape_byte x) (escape s) (fits_escaped x parts.0) (fits_escape s parts.1)))

pub fits_quoted : {n : ℕ} (s : List ℕ) → Fits n s → Fits (2 * n + 2) (quoted s)
fits_quoted s h =
    fits_more _ (omega (arith, h.short)) (fits_cons 34 refl (fits_append (escape s) (34 ∷ []) (fits_escape s h.shown) (fits_cons 34 refl fits_none)))

-- ---- numbers

shown_digit : (n : ℕ) → n < 10 → is_shown (48 + n) ≡ true
shown_digit n small =
    let low : nat_lt 31 (48 + n) ≡ true = grind (arith, nat_tests) in
    let high : nat_lt (48 + n) 127 ≡ true = grind (arith, nat_tests) in
    λ i. low i && high i

one_digit : (n : ℕ) → n < 10 → list_all is_shown ((48 + n) ∷ []) ≡ true
one_digit n small = (fits_cons (48 + n) (shown_digit n small) fits_none).shown

more_digits : (n : ℕ) (ds : List ℕ) → list_all is_shown ds ≡ true → list_all is_shown (ds ++ ((48 + n % 10) ∷ [])) ≡ true
more_digits n ds h =
    let last : list_all is_shown ((48 + n % 10) ∷ []) ≡ true = one_digit (n % 10) (omega arith) in
    list_all-append is_shown ds ((48 + n % 10) ∷ []) ∙ (λ i. h i && last i)

shown_decimal : (n : ℕ) → n < 10 ^ 64 → list_all is_shown (decimal n) ≡ true
shown_decimal n small = decimal_by_steps_wide (λ m ds. list_all is_shown ds ≡ true) one_digit (λ m ds _ h. more_digits m ds h) n small

pub fits_whole : (n : ℕ) → n < 2 ^ 64 → Fits 20 (compact_text (whole n))
fits_whole n small = record { short = length-decimal-le_wide 20 n (omega arith) (omega (arith, small)) (omega (arith, small)); shown = shown_decimal n (omega (arith, small)) }

pub fits_signed : (z : ℤ) → IsShort z → Fits 32 (signed_decimal z)
fits_signed (pos n) small = record { short = length-decimal-le_wide 32 n (omega arith) small (omega (arith, small)); shown = shown_decimal n (omega (arith, small)) }
fits_signed (negsuc n) small =
    fits_cons 45 refl (record { short = length-decimal-le_wide 31 (suc n) (omega arith) (omega (arith, small)) (omega (arith, small)); shown = shown_decimal (suc n) (omega (arith, small)) })

-- ---- hexadecimal octets

shown_at : (t : List ℕ) (k : ℕ) → list_all is_shown t ≡ true → k < length t → is_shown (slice_index t k) ≡ true
shown_at [] k h within = absurd (omega arith)
shown_at (x ∷ xs) zero h within = (and_parts (is_shown x) (list_all is_shown xs) h).0
shown_at (x ∷ xs) (suc k) h within = shown_at xs k (and_parts (is_shown x) (list_all is_shown xs) h).1 (omega arith)

shown_hex : (k : ℕ) → k < 16 → is_shown (slice_index lower_digits k) ≡ true
shown_hex k small = shown_at lower_digits k refl (omega (arith, small))

pub fits_hex : (octets : List ℕ) → IsBytes octets → Fits (2 * length octets) (encode_lower octets)
unfolding encode_with
fits_hex [] bytes = fits_none
fits_hex (b ∷ rest) bytes =
    let first : b < 256 = bytes 0 in
    fits_more (2 * length (b ∷ rest)) (omega arith)
    (fits_cons (slice_index lower_digits (b / 16)) (shown_hex (b / 16) (omega (arith, first)))
    (fits_cons (slice_index lower_digits (b % 16)) (shown_hex (b % 16) (omega (arith, first))) (fits_hex rest (λ i. bytes (suc i)))))

-- ---- arrays

pub fits_three : (a b c : Data) → Fits 20 (compact_text a) → Fits 20 (compact_text b) → Fits 20 (compact_text c)
    → Fits 64 (compact_text (array (item a (item b (item c no_items)))))
fits_three a b c h k l =
    fits_cons 91 refl (fits_append (compact_text a) _ h (fits_cons 44 refl (fits_append (compact_text b) _ k (fits_cons 44 refl (fits_append (compact_text c) _ l (fits_cons 93 refl fits_none))))))

pub fits_four : (a b c d : Data) → Fits 20 (compact_text a) → Fits 20 (compact_text b) → Fits 20 (compact_text c) → Fits 20 (compact_text d)
    → Fits 85 (compact_text (array (item a (item b (item c (item d no_items))))))
fits_four a b c d h k l m =
    fits_cons 91 refl (fits_append (compact_text a) _ h (fits_cons 44 refl (fits_append (compact_text b) _ k (fits_cons 44 refl (fits_append (compact_text c) _ l
    (fits_cons 44 refl (fits_append (compact_text d) _ m (fits_cons 93 refl fits_none))))))))

-- ---- members

-- a value of 220 octets at the most
abbrev pub IsShownValue : Data → Type 0
IsShownValue d = Fits 220 (compact_text d)

abbrev pub AreShown : Members → Type 0
AreShown no_members = Unit {0}
AreShown (member k d ms) = (Fits 8 k × IsShownValue d) × AreShown ms

fits_member : (k : List ℕ) (d : Data) (rest : List ℕ) (n : ℕ) → Fits 8 k → IsShownValue d → Fits n rest → Fits (239 + n) (quoted k ++ 58 ∷ (compact_text d ++ rest))
fits_member k d rest n key value h =
    fits_more (239 + n) (omega arith) (fits_append (quoted k) (58 ∷ (compact_text d ++ rest)) (fits_quoted k key) (fits_cons 58 refl (fits_append (compact_text d) rest value h)))

fits_members : (later : Bool) (ms : Members) → AreShown ms → Fits (240 * members_len ms + 1) (members_text later ms)
fits_members later no_members h = fits_more _ (omega arith) (fits_cons 125 refl fits_none)
fits_members false (member k d ms) h =
    fits_more (240 * members_len (member k d ms) + 1) (omega arith) (fits_member k d (members_text true ms) (240 * members_len ms + 1) h.0.0 h.0.1 (fits_members true ms h.1))
fits_members true (member k d ms) h =
    fits_more (240 * members_len (member k d ms) + 1) (omega arith) (fits_cons 44 refl (fits_member k d (members_text true ms) (240 * members_len ms + 1) h.0.0 h.0.1 (fits_members true ms h.1)))

-- an object of 15 members at the most
pub fits_object : (ms : Members) → AreShown ms → members_len ms ≤ 15 → Fits 4096 (compact_text (object ms))
fits_object ms h few = fits_more 4096 (omega (arith, few)) (fits_cons 123 refl (fits_members false ms h))

-- ---- members of fields

shown_chosen : (o : Ordering) (a b c : Members) → AreShown a → AreShown b → AreShown c → AreShown (match_ordering o a b c)
shown_chosen Less a b c x y z = x
shown_chosen Equal a b c x y z = y
shown_chosen Greater a b c x y z = z

shown_put : (k : List ℕ) (d : Data) (ms : Members) → Fits 8 k → IsShownValue d → AreShown ms → AreShown (put k d ms)
shown_put k d no_members key value rest = ((key, value), tt)
shown_put k d (member l e ms) key value rest =
    shown_chosen (slice_cmp nat_cmp k l) _ _ _ ((key, value), rest) ((rest.0.0, value), rest.1) (rest.0, shown_put k d ms key value rest.1)

abbrev IsShownField : Option Data → Type 0
IsShownField None = Unit {0}
IsShownField (Some d) = IsShownValue d

abbrev pub AreShownFields : List Field → Type 0
AreShownFields [] = Unit {0}
AreShownFields (f ∷ fs) = IsShownField f.1 × AreShownFields fs

pub field_shown : {X : Type 0} (f : X → Data) (o : Option X) (P : X → Type 0) → ((x : X) → P x → IsShownValue (f x)) → IfSome o P → IsShownField (option_map f o)
field_shown f None P each h = tt
field_shown f (Some x) P each h = each x h

-- the test of a key
abbrev pub is_key : List ℕ → Bool
is_key k = nat_lt (length k) 9 && list_all is_shown k

key_fits : (k : List ℕ) → is_key k ≡ true → Fits 8 k
key_fits k test =
    let parts : (nat_lt (length k) 9 ≡ true) × (list_all is_shown k ≡ true) = and_parts (nat_lt (length k) 9) (list_all is_shown k) test in
    record { short = grind (arith, nat_tests, parts.0); shown = parts.1 }

shown_with : (k : List ℕ) (o : Option Data) (ms : Members) → Fits 8 k → IsShownField o → AreShown ms → AreShown (with_some k o ms)
shown_with k None ms key value rest = rest
shown_with k (Some d) ms key value rest = shown_put k d ms key value rest

pub members_shown : (fs : List Field) → list_all (λ f. is_key f.0) fs ≡ true → AreShownFields fs → AreShown (members_of fs)
members_shown [] keys each = tt
members_shown (f ∷ fs) keys each =
    let parts : (is_key f.0 ≡ true) × (list_all (λ f. is_key f.0) fs ≡ true) = and_parts (is_key f.0) (list_all (λ f. is_key f.0) fs) keys in
    shown_with f.0 f.1 (members_of fs) (key_fits f.0 parts.0) each.0 (members_shown fs parts.1 each.1)
