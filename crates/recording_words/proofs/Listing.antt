-- Lists of ports and of domains, one part longer.
use Rattle.std.proofs.Common.{◌≡◌, ◌∙◌, ℕ, ◌+◌, ◌<◌, ◌≤◌, suc, Bool, true, false, List, [], ◌∷◌, ◌++◌, length, get_or, take, drop, refl, sym, ap, append-nil, arith}
use Rattle.std.specs.Prelude.{Option, Some, None, ◌==◌, nat_lt, ◌&&◌, if◌then◌else◌, codes, map, sum_by}
use Rattle.std.specs.List.{enumerate_from}
use Rattle.std.proofs.lemmas.Bool.{ltb-true, ltb-false, ne_eqb, and_parts}
use Rattle.std.proofs.lemmas.List.{flat_map_more, take_more, take_all, drop_all, take-append-le, drop-append-le, length-take, length-take-le, length_push, map-append}
use Rattle.std.proofs.lemmas.List.Elements.{filter_map-append, filter-append}
use Rattle.std.proofs.lemmas.List.Sums.{sum_by_push}
use Rattle.statistics.specs.Wide.{at_most}
use Rattle.recording_summary.specs.declared.others.Sender.{Sender}
use Rattle.recording_words.specs.Others.{parted, sender_text, listed_parts, counted, domain_text, lowest, named_parts, unnamed}
use Rattle.recording_words.specs.Inner.Named.{comma_text, is_named}

-- no part came yet
abbrev pub is_empty : List (List ℕ) → Bool
is_empty [] = true
is_empty (part ∷ parts) = false

is_empty-push : (parts : List (List ℕ)) (part : List ℕ) → is_empty (parts ++ part ∷ []) ≡ false
is_empty-push [] part = refl
is_empty-push (first ∷ further) part = refl

-- one more part
parted-push : (parts : List (List ℕ)) (part : List ℕ) → parted parts ++ (comma_text (is_empty parts) ++ part) ≡ parted (parts ++ part ∷ [])
unfolding comma_text
parted-push [] part = sym (append-nil part)
parted-push (first ∷ further) part = flat_map_more (λ (p : List ℕ). codes ", " ++ p) first further part

-- ---- ports
pub listed-more_none : (xs : List (Option Sender)) (i : ℕ) (d : Option Sender) → i < length xs → get_or xs i d ≡ None
    → listed_parts (take i xs) ≡ listed_parts (take (i + 1) xs)
listed-more_none xs i d within none =
    rw (take_more xs i d within, filter_map-append, none) (sym (append-nil (listed_parts (take i xs))))

listed-more_some : (xs : List (Option Sender)) (i : ℕ) (d : Option Sender) (s : Sender) → i < length xs → get_or xs i d ≡ Some s
    → listed_parts (take i xs) ++ sender_text s ∷ [] ≡ listed_parts (take (i + 1) xs)
listed-more_some xs i d s within some = rw (take_more xs i d within, filter_map-append, some)

pub is_empty-more_some : (xs : List (Option Sender)) (i : ℕ) (d : Option Sender) (s : Sender) → i < length xs → get_or xs i d ≡ Some s
    → false ≡ is_empty (listed_parts (take (i + 1) xs))
is_empty-more_some xs i d s within some =
    sym (is_empty-push (listed_parts (take i xs)) (sender_text s)) ∙ ap is_empty (listed-more_some xs i d s within some)

pub ports-more_some : (xs : List (Option Sender)) (i : ℕ) (d : Option Sender) (s : Sender) (is_first : Bool) → i < length xs → get_or xs i d ≡ Some s
    → is_first ≡ is_empty (listed_parts (take i xs))
    → parted (listed_parts (take i xs)) ++ (comma_text is_first ++ sender_text s) ≡ parted (listed_parts (take (i + 1) xs))
ports-more_some xs i d s is_first within some first =
    ap (λ (b : Bool). parted (listed_parts (take i xs)) ++ (comma_text b ++ sender_text s)) first
    ∙ (parted-push (listed_parts (take i xs)) (sender_text s) ∙ ap parted (listed-more_some xs i d s within some))

-- ---- the domains that messages are of
enumerate-push : (n : ℕ) (xs : List ℕ) (x : ℕ) → enumerate_from n (xs ++ x ∷ []) ≡ enumerate_from n xs ++ (n + length xs, x) ∷ []
enumerate-push n [] x = let e : n ≡ n + 0 = omega arith in ap {B = List (ℕ × ℕ)} (λ (k : ℕ). (k, x) ∷ []) e
enumerate-push n (y ∷ ys) x =
    let e : (n + 1) + length ys ≡ n + suc (length ys) = omega arith in
    ap {B = List (ℕ × ℕ)} (λ (l : List (ℕ × ℕ)). (n, y) ∷ l)
    (enumerate-push (n + 1) ys x ∙ ap {B = List (ℕ × ℕ)} (λ (k : ℕ). enumerate_from (n + 1) ys ++ (k, x) ∷ []) e)

-- a domain, if messages are of it
abbrev if_any : Bool → ℕ × ℕ → List (ℕ × ℕ)
if_any is_any domain = if is_any then domain ∷ [] else []

counted-more : (xs : List ℕ) (i : ℕ) → i < length xs
    → counted (take (i + 1) xs) ≡ counted (take i xs) ++ if_any (nat_lt 0 (get_or xs i 0)) (i, get_or xs i 0)
counted-more xs i within =
    let long : 0 + length (take i xs) ≡ i = omega (arith, length-take-le i xs (omega arith)) in
    rw (take_more xs i 0 within, enumerate-push 0 (take i xs) (get_or xs i 0), filter-append, long)

counted-more_yes : (xs : List ℕ) (i : ℕ) → i < length xs → nat_lt 0 (get_or xs i 0) ≡ true
    → counted (take (i + 1) xs) ≡ counted (take i xs) ++ (i, get_or xs i 0) ∷ []
counted-more_yes xs i within some =
    counted-more xs i within ∙ ap (λ (b : Bool). counted (take i xs) ++ if_any b (i, get_or xs i 0)) some

-- ---- the lowest of these
-- so few that one more is named
few : (all : List (ℕ × ℕ)) → length (take 8 all) < 8 → length all < 8
few all some = omega (arith, length-take 8 all)

lowest-push : (all : List (ℕ × ℕ)) (domain : ℕ × ℕ) → length (take 8 all) < 8 → take 8 all ++ domain ∷ [] ≡ take 8 (all ++ domain ∷ [])
lowest-push all domain some =
    let short = few all some in
    rw (take_all 8 (all ++ domain ∷ []) (omega (arith, length_push all domain)), take_all 8 all (omega arith))

none-behind : (all : List (ℕ × ℕ)) (domain : ℕ × ℕ) → length (take 8 all) < 8 → drop 8 all ≡ drop 8 (all ++ domain ∷ [])
none-behind all domain some =
    let short = few all some in
    drop_all 8 all (omega arith) ∙ sym (drop_all 8 (all ++ domain ∷ []) (omega (arith, length_push all domain)))

-- so many that none more is named
enough : (all : List (ℕ × ℕ)) → nat_lt (length (take 8 all)) 8 ≡ false → 8 ≤ length all
enough all full = omega (arith, ltb-false _ 8 full, length-take 8 all)

lowest-kept : (all : List (ℕ × ℕ)) (domain : ℕ × ℕ) (is_any : Bool) → (is_any && nat_lt (length (take 8 all)) 8) ≡ false
    → take 8 all ≡ take 8 (all ++ if_any is_any domain)
lowest-kept all domain false full = ap (take 8) (sym (append-nil all))
lowest-kept all domain true full = sym (take-append-le 8 all (domain ∷ []) (enough all full))

more-behind : (all : List (ℕ × ℕ)) (domain : ℕ × ℕ) (is_any : Bool) → nat_lt 0 domain.1 ≡ is_any → (is_any && nat_lt (length (take 8 all)) 8) ≡ false
    → sum_by (λ d. d.1) (drop 8 (all ++ if_any is_any domain)) ≡ sum_by (λ d. d.1) (drop 8 all) + domain.1
more-behind all domain false none full =
    let nothing : domain.1 ≡ 0 = omega (arith, ltb-false 0 domain.1 none) in
    ap (λ (l : List (ℕ × ℕ)). sum_by (λ d. d.1) (drop 8 l)) (append-nil all) ∙ omega arith
more-behind all domain true some full =
    ap (sum_by (λ d. d.1)) (drop-append-le 8 all (domain ∷ []) (enough all full)) ∙ sum_by_push (λ d. d.1) (drop 8 all) domain

-- whether the domain at a place is named, with so many before it
abbrev Names : (xs : List ℕ) (i n : ℕ) → Bool → Type 0
Names xs i n named = is_named (get_or xs i 0) n ≡ named

named_there : (xs : List ℕ) (i n : ℕ) (named : Bool) → n ≡ length (lowest (take i xs)) → Names xs i n named → Names xs i (length (lowest (take i xs))) named
named_there xs i n named count names = ap (is_named (get_or xs i 0)) (sym count) ∙ names

pub lowest-more_yes : (xs : List ℕ) (i n : ℕ) → i < length xs → n ≡ length (lowest (take i xs)) → is_named (get_or xs i 0) n ≡ true
    → lowest (take i xs) ++ (i, get_or xs i 0) ∷ [] ≡ lowest (take (i + 1) xs)
lowest-more_yes xs i n within count names =
    let parts = and_parts _ _ (named_there xs i n true count names) in
    lowest-push (counted (take i xs)) (i, get_or xs i 0) (ltb-true _ 8 parts.1)
    ∙ ap (take 8) (sym (counted-more_yes xs i within parts.0))

pub lowest-more_no : (xs : List ℕ) (i n : ℕ) → i < length xs → n ≡ length (lowest (take i xs)) → is_named (get_or xs i 0) n ≡ false
    → lowest (take i xs) ≡ lowest (take (i + 1) xs)
lowest-more_no xs i n within count names =
    lowest-kept (counted (take i xs)) (i, get_or xs i 0) _ (named_there xs i n false count names)
    ∙ ap (take 8) (sym (counted-more xs i within))

pub unnamed-more_yes : (xs : List ℕ) (i n : ℕ) → i < length xs → n ≡ length (lowest (take i xs)) → is_named (get_or xs i 0) n ≡ true
    → unnamed (take i xs) ≡ unnamed (take (i + 1) xs)
unnamed-more_yes xs i n within count names =
    let parts = and_parts _ _ (named_there xs i n true count names) in
    ap (λ (l : List (ℕ × ℕ)). at_most (sum_by (λ d. d.1) l))
    (none-behind (counted (take i xs)) (i, get_or xs i 0) (ltb-true _ 8 parts.1)
    ∙ ap (drop 8) (sym (counted-more_yes xs i within parts.0)))

at_most_more : (s t r x : ℕ) → t ≡ s + x → r ≡ at_most s → at_most (r + x) ≡ at_most t
at_most_more s t r x more so_far = omega arith

pub unnamed-more_no : (xs : List ℕ) (i n rest : ℕ) → i < length xs → n ≡ length (lowest (take i xs)) → is_named (get_or xs i 0) n ≡ false
    → rest ≡ unnamed (take i xs) → at_most (rest + get_or xs i 0) ≡ unnamed (take (i + 1) xs)
unnamed-more_no xs i n rest within count names so_far =
    at_most_more _ _ rest (get_or xs i 0)
    (ap (λ (l : List (ℕ × ℕ)). sum_by (λ d. d.1) (drop 8 l)) (counted-more xs i within)
    ∙ more-behind (counted (take i xs)) (i, get_or xs i 0) _ refl (named_there xs i n false count names)) so_far

-- ---- the text of these
none_named : (all : List (ℕ × ℕ)) → (length all == 0) ≡ is_empty (map domain_text all)
none_named [] = refl
none_named (domain ∷ all) = ne_eqb (suc (length all)) 0 (omega arith)

pub named-more_yes : (xs : List ℕ) (i n : ℕ) → i < length xs → n ≡ length (lowest (take i xs)) → is_named (get_or xs i 0) n ≡ true
    → parted (named_parts (take i xs)) ++ (comma_text (n == 0) ++ domain_text (i, get_or xs i 0)) ≡ parted (named_parts (take (i + 1) xs))
named-more_yes xs i n within count names =
    let all = lowest (take i xs) in
    let domain : ℕ × ℕ = (i, get_or xs i 0) in
    ap (λ (b : Bool). parted (map domain_text all) ++ (comma_text b ++ domain_text domain)) (ap (λ (k : ℕ). k == 0) count ∙ none_named all)
    ∙ (parted-push (map domain_text all) (domain_text domain)
    ∙ ap parted (sym (map-append domain_text all (domain ∷ [])) ∙ ap (map domain_text) (lowest-more_yes xs i n within count names)))
