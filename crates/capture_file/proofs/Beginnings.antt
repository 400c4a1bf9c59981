-- The first octets of an input: one, and then more.
use Rattle.std.proofs.Common.{◌≡◌, ℕ, ◌+◌, ◌<◌, ◌≤◌, ◌++◌, Bool, true, List, [], length, take, Option, Result, Ok, Err, sym, ap, ◌∙◌, subst, arith}
use Rattle.std.specs.Io.KnownBytes.{Consumes}
use Rattle.std.proofs.KnownBytes.{Consumes-trans}
use Rattle.std.proofs.lemmas.List.{length-append, length-take-le}
use Rattle.capture_file.specs.declared.octets.ReadFailed.{ReadFailed}
use Rattle.capture_file.specs.Inner.Octets.{FillsTo}

-- what was read before a reader failed behind the first octet
pub seen_before : (r s : Result Bool ReadFailed) (failed : ReadFailed) (first room room' : List ℕ) (size : ℕ) (a b c : Option (List ℕ))
    → r ≡ Ok true → FillsTo 1 r [] first a b → s ≡ Err failed → FillsTo 4 s (take 1 room) (take size room') b c
    → 1 ≤ length room → size ≤ length room' → size < 4 → (seen : List ℕ) × Consumes a c seen × (length seen < 4)
seen_before r s failed first room room' size a b c whole fills fault more some within few =
    let ((one, is_one, read_one), long) = subst (λ (x : Result Bool ReadFailed). FillsTo 1 x [] first a b) whole fills in
    let (others, is_others, read_others) = subst (λ (x : Result Bool ReadFailed). FillsTo 4 x (take 1 room) (take size room') b c) fault more in
    let front : length (take 1 room) ≡ 1 = length-take-le 1 room some in
    let all : length (take size room') ≡ size = length-take-le size room' within in
    let sum : size ≡ 1 + length others =
    sym all ∙ ap length is_others ∙ length-append (take 1 room) others ∙ ap (λ (n : ℕ). n + length others) front in
    let first_one : length one ≡ 1 = ap length (sym is_one) ∙ long (search arith) in (
      one ++ others,
      Consumes-trans a b c one others read_one read_others,
      rw (length-append one others, first_one) (omega (arith, sum, few)),
    )
