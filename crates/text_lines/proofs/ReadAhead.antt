-- What is left of octets that were read ahead.
use Rattle.std.proofs.Common.{◌≡◌, ℕ, ◌+◌, ◌-◌, ◌<◌, ◌≤◌, List, [], ◌∷◌, ◌++◌, length, take, drop, slice_range, slice_set, get_or, Option, Some, None, refl, sym, ◌∙◌, arith, suc, add-one, drop-cons, append_assoc}
use Rattle.std.proofs.lemmas.List.{drop-drop}
use Rattle.std.proofs.Math.Seq.{take-add}
use Rattle.std.specs.Io.KnownBytes.{Consumes, Keeps, prepend_known}

-- the first octet of a range, and the others
range_begins : (octets : List ℕ) (next end : ℕ) → next < end → end ≤ length octets
    → slice_range octets next end ≡ get_or octets next 0 ∷ slice_range octets (next + 1) end
range_begins octets next end before within =
    let here : next < length octets = omega arith in
    let size : end - next ≡ suc (end - (next + 1)) = omega arith in
    rw (size, drop-cons octets next 0, add-one) refl

pub one_consumed : (source : Option (List ℕ)) (octets : List ℕ) (next end : ℕ) → next < end → end ≤ length octets
    → Consumes (prepend_known (slice_range octets next end) source) (prepend_known (slice_range octets (next + 1) end) source) (get_or octets next 0 ∷ [])
one_consumed None octets next end before within = tt
one_consumed (Some rest) octets next end before within = rw (range_begins octets next end before within) refl

-- a range is its front, and the others
range_cut : (octets : List ℕ) (next count end : ℕ) → next + count ≤ end
    → slice_range octets next end ≡ slice_range octets next (next + count) ++ slice_range octets (next + count) end
range_cut octets next count end within =
    let size : end - next ≡ count + (end - (next + count)) = omega arith in
    let front : next + count - next ≡ count = omega arith in
    rw (size, front, take-add count (end - (next + count)) (drop next octets), drop-drop count next octets) refl

pub some_consumed : (source : Option (List ℕ)) (octets : List ℕ) (next count end : ℕ) (given : List ℕ) → next + count ≤ end → given ≡ slice_range octets next (next + count)
    → Consumes (prepend_known (slice_range octets next end) source) (prepend_known (slice_range octets (next + count) end) source) given
some_consumed None octets next count end given within is = tt
some_consumed (Some rest) octets next count end given within is = rw (range_cut octets next count end within, is) (append_assoc _ _ rest)

-- an octet at the front of a buffer, behind a call that gave none
pub one_given : (a b c : Option (List ℕ)) (buf : List ℕ) (x : ℕ) → Keeps a b → Consumes b c (x ∷ []) → 0 < length buf → Consumes a c (take 1 (slice_set buf 0 x))
one_given a b c [] x kept given some = absurd (omega arith)
one_given None b c (y ∷ ys) x kept given some = tt
one_given (Some before) None c (y ∷ ys) x kept given some = absurd kept
one_given (Some before) (Some now) None (y ∷ ys) x kept given some = absurd given
one_given (Some before) (Some now) (Some after) (y ∷ ys) x kept given some = sym kept ∙ given
