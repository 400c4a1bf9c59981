use Rattle.std.proofs.Common.{◌≡◌, ◌∙◌, ◌+◌, ◌-◌, ◌++◌, ℕ, true, false, List, [], ◌∷◌, Some, arith, ap, ap₂, refl}
use Rattle.std.proofs.Common.{sym, length, take, drop, length-drop, length-append, append-nil}
use Rattle.std.proofs.Math.Seq.{drop-append_seam, take-append-add, take-append_seam}
use Rattle.std.proofs.Math.ListN.{drop_of_length-le}
use Rattle.std.proofs.lemmas.List.{take_all}
use Rattle.std.proofs.lemmas.Slice.{drop-put_mid}
use borrow.Rule.Slice.PartMut.{post_of, put_mid}
use Rattle.command_line.specs.PortText.{has_at, parts_of}
use Rattle.command_line.proofs.port_identity.parts.Goals as goal

-- an array of 16 octets that was written in three parts
three_parts : (front middle last others more rest : List ℕ) → length front ≡ 6 → length middle ≡ 4 → rest ≡ []
    → take 10 (take 6 (front ++ others) ++ (middle ++ more)) ++ (last ++ rest) ≡ front ++ middle ++ last
three_parts front middle last others more rest six four none =
    let front_is : take 6 (front ++ others) ≡ front = ap (λ n. take n (front ++ others)) (sym six)
    ∙ take-append_seam front others in
    let ten : 10 ≡ length front + 4 = omega (arith, six) in
    let both : take 10 (front ++ (middle ++ more)) ≡ front ++ middle =
    ap (λ n. take n (front ++ (middle ++ more))) ten ∙ take-append-add front (middle ++ more) 4
    ∙ ap (λ xs. front ++ xs) (ap (λ n. take n (middle ++ more)) (sym four) ∙ take-append_seam middle more) in
    ap₂ (λ xs ys. take 10 (xs ++ (middle ++ more)) ++ (last ++ ys)) front_is none
    ∙ ap₂ (λ xs ys. xs ++ ys) both (append-nil last)

middle_length : (front others : List ℕ) → length front ≡ 6 → length (take 4 others) ≡ 4
    → length (take 4 (drop 6 (front ++ others))) ≡ 4
middle_length front others six four =
    ap (λ n. length (take 4 (drop n (front ++ others)))) (sym six)
    ∙ ap (λ xs. length (take 4 xs)) (drop-append_seam front others) ∙ four

nothing_left : (front middle others : List ℕ) → length front ≡ 6 → length middle ≡ 4 → length others ≡ 10
    → post_of 10 6 (put_mid 6 4 (front ++ others) middle) ≡ []
nothing_left front middle others six four ten =
    let whole : length (front ++ others) ≡ 16 = omega (arith, length-append front others, six, ten) in
    ap (drop 6) (drop-put_mid 6 4 (front ++ others) middle 10 (omega arith) (omega (arith, whole)) four)
    ∙ drop_of_length-le (drop 10 (front ++ others)) {i = 6} (omega (arith, whole, length-drop 10 (front ++ others)))

-- the parts by the marks of pmc
by_pmc : (text digits number : List ℕ) → has_at text 16 47 ≡ false → has_at text 6 46 ≡ true
    → has_at text 11 46 ≡ true → has_at text 18 45 ≡ true
    → digits ≡ take 6 text ++ take 4 (drop 7 text) ++ take 6 (drop 12 text) → number ≡ drop 19 text
    → Some (digits, number) ≡ parts_of text
by_pmc text digits number slash one two hyphen digits_are number_is = rw (slash, one, two, hyphen)
    (ap₂ (λ a b. Some (a, b)) digits_are number_is)

-- the array before any is written
abbrev zeros : List ℕ
zeros = 0 ∷ 0 ∷ 0 ∷ 0 ∷ 0 ∷ 0 ∷ 0 ∷ 0 ∷ 0 ∷ 0 ∷ []

pub returns-then-has_at-4 : goal.returns-then-has_at-4
returns-then-has_at-4 c =
    let text = c.args.text.now in
    let front = c.copy_from_slice-then-has_at-4.new.self in
    let middle = c.copy_from_slice-then-has_at-4-2.new.self in
    let last = c.copy_from_slice-then-has_at-4-3.new.self in
    let first = c.copy_from_slice-then-has_at-4.ensures.after in
    let second = c.copy_from_slice-then-has_at-4-2.ensures.after in
    let third = c.copy_from_slice-then-has_at-4-3.ensures.after in
    let six : length front ≡ 6 = c.copy_from_slice-then-has_at-4.ensures.len in
    let four : length middle ≡ 4 =
    c.copy_from_slice-then-has_at-4-2.ensures.len ∙ middle_length front zeros six refl in
    by_pmc text _ _ (sym c.has_at.ensures ∙ c.if-has_at.false) (sym c.has_at-else-has_at.ensures ∙ c.if-has_at-2.true)
    (sym c.has_at-then-has_at-2.ensures ∙ c.if-has_at-3.true)
    (sym c.has_at-then-has_at-3.ensures ∙ c.if-has_at-4.true)
    (three_parts front middle last zeros _ _ six four (nothing_left front middle zeros six four refl)
    ∙ ap₂ (λ xs ys. xs ++ ys) (ap₂ (λ xs ys. xs ++ ys) first second) third)
    (take_all (length text - 19) (drop 19 text) (omega (arith, length-drop 19 text)))
