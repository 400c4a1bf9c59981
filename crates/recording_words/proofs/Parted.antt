-- Elements with commas between them, one more at a time.
use Rattle.std.proofs.Common.{◌≡◌, ℕ, ◌+◌, ◌<◌, ◌≤◌, ◌==◌, ◌&&◌, ◌∙◌, Bool, true, false, not, List, [], ◌∷◌, ◌++◌, length, get_or, take, refl, sym, ap, append_assoc, append-nil, arith}
use Rattle.std.specs.Prelude.{Option, Some, None, codes, flat_map, is_some, option_map, if◌then◌else◌}
use Rattle.std.specs.List.{cons_option, enumerate_from, filter_map, list_any}
use Rattle.std.specs.Option.{option_to_list}
use Rattle.std.proofs.lemmas.List.{take_all, take_more}
use Rattle.std.proofs.lemmas.List.FromFn.{get_or-enumerate_from, length-enumerate_from}
use Rattle.std.proofs.lemmas.List.Elements.{filter_map-append}
use Rattle.std.proofs.lemmas.List.Concat.{flat_map-append}
use Rattle.recording_words.specs.SumArrays.{parted}
use Rattle.recording_words.specs.Inner.Elements.{comma_text, part_text}

-- there is no element yet
abbrev pub is_none_yet : List (List ℕ) → Bool
is_none_yet [] = true
is_none_yet (element ∷ further) = false

-- one more element, if there is one
pub parted_one : (elements : List (List ℕ)) (one : Option (List ℕ))
    → parted (elements ++ option_to_list one) ≡ parted elements ++ part_text (is_none_yet elements) one
unfolding part_text comma_text
parted_one [] None = refl
parted_one [] (Some t) = append-nil t
parted_one (x ∷ xs) None = ap (λ l. parted (x ∷ l)) (append-nil xs) ∙ sym (append-nil (parted (x ∷ xs)))
parted_one (x ∷ xs) (Some t) =
    let further : List ℕ → List ℕ = λ y. codes "," ++ y in
    ap (λ l. x ++ l) (flat_map-append further xs (t ∷ []))
    ∙ ap (λ l. x ++ (flat_map further xs ++ l)) (append-nil (codes "," ++ t))
    ∙ sym (append_assoc x (flat_map further xs) (codes "," ++ t))

one_listed : {Y : Type 0} (o : Option Y) → cons_option o [] ≡ option_to_list o
one_listed None = refl
one_listed (Some y) = refl

-- what one more item gives
pub parted_more : {X : Type 0} (f : X → Option (List ℕ)) (xs : List X) (x : X)
    → parted (filter_map f (xs ++ x ∷ [])) ≡ parted (filter_map f xs) ++ part_text (is_none_yet (filter_map f xs)) (f x)
parted_more f xs x =
    ap parted (filter_map-append f xs (x ∷ []) ∙ ap (λ t. filter_map f xs ++ t) (one_listed (f x)))
    ∙ parted_one (filter_map f xs) (f x)

none_yet_one : (elements : List (List ℕ)) (one : Option (List ℕ))
    → is_none_yet (elements ++ option_to_list one) ≡ (is_none_yet elements && not (is_some one))
none_yet_one [] None = refl
none_yet_one [] (Some t) = refl
none_yet_one (x ∷ xs) one = refl

-- whether there is still no element behind one more item
pub none_yet_more : {X : Type 0} (f : X → Option (List ℕ)) (xs : List X) (x : X)
    → is_none_yet (filter_map f (xs ++ x ∷ [])) ≡ (is_none_yet (filter_map f xs) && not (is_some (f x)))
none_yet_more f xs x =
    ap is_none_yet (filter_map-append f xs (x ∷ []) ∙ ap (λ t. filter_map f xs ++ t) (one_listed (f x)))
    ∙ none_yet_one (filter_map f xs) (f x)

-- there is none of no values
pub none_of : {X : Type 0} (f : X → List ℕ) (xs : List (Option X)) → is_none_yet (filter_map (option_map f) xs) ≡ not (list_any is_some xs)
none_of f [] = refl
none_of f (None ∷ xs) = none_of f xs
none_of f (Some x ∷ xs) = refl

-- a step of a loop over items: whether there is still no element, and the elements so far
pub none_yet_step : {X : Type 0} (f : X → Option (List ℕ)) (front back : List X) (x : X) (first has next : Bool)
    → back ≡ front ++ x ∷ [] → first ≡ is_none_yet (filter_map f front) → has ≡ is_some (f x) → next ≡ (first && not has)
    → next ≡ is_none_yet (filter_map f back)
none_yet_step f front back x first has next more so_far here is =
    is ∙ ap (λ b. b && not has) so_far ∙ ap (λ b. is_none_yet (filter_map f front) && not b) here ∙ sym (none_yet_more f front x)
    ∙ ap (λ l. is_none_yet (filter_map f l)) (sym more)

pub parted_step : {X : Type 0} (f : X → Option (List ℕ)) (front back : List X) (x : X) (first : Bool)
    → back ≡ front ++ x ∷ [] → first ≡ is_none_yet (filter_map f front)
    → parted (filter_map f front) ++ part_text first (f x) ≡ parted (filter_map f back)
parted_step f front back x first more so_far =
    ap (λ b. parted (filter_map f front) ++ part_text b (f x)) so_far ∙ sym (parted_more f front x)
    ∙ ap (λ l. parted (filter_map f l)) (sym more)

-- what isn't there has no text
pub is_some_mapped : {X : Type 0} (f : X → List ℕ) (o : Option X) → is_some o ≡ is_some (option_map f o)
is_some_mapped f None = refl
is_some_mapped f (Some x) = refl

-- one more behind values of which some may not be there
pub parted_rest : {X : Type 0} (f : X → List ℕ) (listed : List (Option X)) (rest : Option (List ℕ)) (tail : List ℕ) (any : Bool)
    → any ≡ list_any is_some listed
    → parted (filter_map (option_map f) listed) ++ (part_text (not any) rest ++ tail)
    ≡ parted (filter_map (option_map f) listed ++ option_to_list rest) ++ tail
parted_rest f listed rest tail any is =
    let front = parted (filter_map (option_map f) listed) in
    ap (λ b. front ++ (part_text b rest ++ tail)) (ap not is ∙ sym (none_of f listed))
    ∙ sym (append_assoc front (part_text (is_none_yet (filter_map (option_map f) listed)) rest) tail)
    ∙ ap (λ l. l ++ tail) (sym (parted_one (filter_map (option_map f) listed) rest))

-- one more number with its place
pub enumerate_more : (xs : List ℕ) (i d : ℕ) → i < length xs
    → take (i + 1) (enumerate_from 0 xs) ≡ take i (enumerate_from 0 xs) ++ (i, get_or xs i d) ∷ []
enumerate_more xs i d h =
    let from : 0 + i ≡ i = omega arith in
    take_more (enumerate_from 0 xs) i (0, d) (rw (length-enumerate_from 0 xs) h)
    ∙ ap (λ p. take i (enumerate_from 0 xs) ++ p ∷ []) (get_or-enumerate_from 0 xs i (0, d) h)
    ∙ ap (λ k. take i (enumerate_from 0 xs) ++ (k, get_or xs i d) ∷ []) from

-- all numbers with their places
pub enumerate_all : (xs : List ℕ) (i : ℕ) → length xs ≤ i → take i (enumerate_from 0 xs) ≡ enumerate_from 0 xs
enumerate_all xs i h = take_all i (enumerate_from 0 xs) (rw (length-enumerate_from 0 xs) h)

is_some_if : (is_none : Bool) (text : List ℕ) → not is_none ≡ is_some (if is_none then None else Some text)
is_some_if true text = refl
is_some_if false text = refl

-- a count is told where it isn't 0
pub is_some_counted : (n : ℕ) (text : List ℕ) → not (n == 0) ≡ is_some (if n == 0 then None else Some text)
is_some_counted n text = is_some_if (n == 0) text
