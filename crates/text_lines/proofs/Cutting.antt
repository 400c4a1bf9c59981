-- How octets are cut at their first LF.
use Rattle.std.proofs.Common.{◌≡◌, ◌≢◌, ℕ, suc, ◌+◌, ◌<◌, ◌≤◌, ◌==◌, List, [], ◌∷◌, ◌++◌, Bool, true, false, length, refl, ◌∙◌, ap, arith, add_comm, zero-add, if◌then◌else◌}
use Rattle.std.proofs.lemmas.Bool.{ne_eqb}
use Rattle.std.proofs.lemmas.List.Elements.{All-head, All-tail}
use Rattle.std.proofs.lemmas.List.Sums.{sum_by-cons}
use Rattle.std.specs.Io.BufRead.{drop_through}
use Rattle.text_lines.specs.Lines.{begin_line, lines_of, lfs_in}
use Rattle.text_lines.specs.Inner.Reading.{IsUnended}

first_is : (x : ℕ) (xs : List ℕ) → IsUnended (x ∷ xs) → (x == 10) ≡ false
first_is x xs h = ne_eqb x 10 (All-head (λ y. y ≢ 10) x xs h)

-- octets up to their first LF are a line
pub lines_of-ended : (front rest : List ℕ) → IsUnended front → lines_of (front ++ 10 ∷ rest) ≡ front ∷ lines_of rest
lines_of-ended [] rest h = refl
lines_of-ended (x ∷ xs) rest h = rw (first_is x xs h, lines_of-ended xs rest (All-tail (λ y. y ≢ 10) x xs h))

pub drop_through-ended : (front rest : List ℕ) → IsUnended front → drop_through 10 (front ++ 10 ∷ rest) ≡ rest
drop_through-ended [] rest h = refl
drop_through-ended (x ∷ xs) rest h = rw (first_is x xs h) (drop_through-ended xs rest (All-tail (λ y. y ≢ 10) x xs h))

pub lfs_in-ended : (front rest : List ℕ) → IsUnended front → lfs_in (front ++ 10 ∷ rest) ≡ lfs_in rest + 1
lfs_in-ended [] rest h = sum_by-cons (λ x. if x == 10 then 1 else 0) 10 rest ∙ add_comm 1 (lfs_in rest)
lfs_in-ended (x ∷ xs) rest h =
    sum_by-cons (λ x. if x == 10 then 1 else 0) x (xs ++ 10 ∷ rest)
    ∙ rw (first_is x xs h, zero-add (lfs_in (xs ++ 10 ∷ rest))) (lfs_in-ended xs rest (All-tail (λ y. y ≢ 10) x xs h))

-- octets without an LF are a line
pub lines_of-last : (x : ℕ) (xs : List ℕ) → IsUnended (x ∷ xs) → lines_of (x ∷ xs) ≡ (x ∷ xs) ∷ []
lines_of-last x [] h = rw (first_is x [] h)
lines_of-last x (y ∷ ys) h = rw (first_is x (y ∷ ys) h, lines_of-last y ys (All-tail (λ y. y ≢ 10) x (y ∷ ys) h))

pub drop_through-last : (front : List ℕ) → IsUnended front → drop_through 10 front ≡ []
drop_through-last [] h = refl
drop_through-last (x ∷ xs) h = rw (first_is x xs h) (drop_through-last xs (All-tail (λ y. y ≢ 10) x xs h))

begun : (x : ℕ) (lines : List (List ℕ)) → (line : List ℕ) × (others : List (List ℕ)) × (begin_line x lines ≡ line ∷ others) × (0 < length line)
begun x [] = (x ∷ [], [], refl, omega arith)
begun x (line ∷ lines) = (x ∷ line, lines, refl, omega arith)

begun_longer : (x n : ℕ) (lines : List (List ℕ)) (line : List ℕ) (others : List (List ℕ)) → lines ≡ line ∷ others → n < length line
    → (longer : List ℕ) × (others' : List (List ℕ)) × (begin_line x lines ≡ longer ∷ others') × (suc n < length longer)
begun_longer x n lines line others e h = (x ∷ line, others, rw e refl, omega (arith, h))

-- any octets begin with a line
pub first_line : (x : ℕ) (rest : List ℕ) → (line : List ℕ) × (others : List (List ℕ)) × (lines_of (x ∷ rest) ≡ line ∷ others)
first_line x rest =
    elim (x == 10) as (λ b. (line : List ℕ) × (others : List (List ℕ)) × ((if b then [] ∷ lines_of rest else begin_line x (lines_of rest)) ≡ line ∷ others)) [
      | true ↦ ([], lines_of rest, refl)
      | false ↦ let (line, others, e, _) = begun x (lines_of rest) in (line, others, e)
    ]

-- a line is longer than its octets in front of one that is no LF
pub longer_line : (front : List ℕ) (x : ℕ) (rest : List ℕ) → IsUnended front → x ≢ 10
    → (line : List ℕ) × (others : List (List ℕ)) × (lines_of (front ++ x ∷ rest) ≡ line ∷ others) × (length front < length line)
longer_line [] x rest h other = rw (ne_eqb x 10 other) (begun x (lines_of rest))
longer_line (y ∷ ys) x rest h other =
    let (line, others, e, longer) = longer_line ys x rest (All-tail (λ y. y ≢ 10) y ys h) other in
    rw (first_is y ys h) (begun_longer y (length ys) _ line others e longer)

begin_within : (x : ℕ) (lines : List (List ℕ)) (n : ℕ) → length lines ≤ n + 1 → length (begin_line x lines) ≤ n + 1
begin_within x [] n within = omega arith
begin_within x (line ∷ lines) n within = within

-- there is one line at most that has no LF
pub lines_within : (octets : List ℕ) → length (lines_of octets) ≤ lfs_in octets + 1
lines_within [] = omega arith
lines_within (x ∷ rest) =
    go (x == 10) refl (lines_within rest)
  where
    lfs : lfs_in (x ∷ rest) ≡ (if x == 10 then 1 else 0) + lfs_in rest
    lfs = sum_by-cons (λ x. if x == 10 then 1 else 0) x rest

    go : (b : Bool) → (x == 10) ≡ b → length (lines_of rest) ≤ lfs_in rest + 1 → length (lines_of (x ∷ rest)) ≤ lfs_in (x ∷ rest) + 1
    go true is within =
        let more : lfs_in (x ∷ rest) ≡ 1 + lfs_in rest = lfs ∙ ap (λ (b : Bool). (if b then 1 else 0) + lfs_in rest) is in
        let cut : lines_of (x ∷ rest) ≡ [] ∷ lines_of rest = ap (λ (b : Bool). if b then [] ∷ lines_of rest else begin_line x (lines_of rest)) is in
        let size : length (lines_of (x ∷ rest)) ≡ suc (length (lines_of rest)) = ap length cut in
        omega (arith, within, more, size)
    go false is within =
        let more : lfs_in (x ∷ rest) ≡ 0 + lfs_in rest = lfs ∙ ap (λ (b : Bool). (if b then 1 else 0) + lfs_in rest) is in
        let cut : lines_of (x ∷ rest) ≡ begin_line x (lines_of rest) = ap (λ (b : Bool). if b then [] ∷ lines_of rest else begin_line x (lines_of rest)) is in
        let size : length (lines_of (x ∷ rest)) ≡ length (begin_line x (lines_of rest)) = ap length cut in
        omega (arith, begin_within x (lines_of rest) (lfs_in rest) within, more, size)
