-- Numbers of nanoseconds, exactly: each is a whole number of 10^-17 ns, of which one is a unit here.
use Rattle.std.specs.Prelude.{ℕ, zero, suc, ◌+◌, ◌-◌, ◌*◌, ◌/◌, ◌%◌, ◌^◌, ◌<◌, ◌==◌, nat_lt, nat_le, ◌&&◌, Bool, ℤ, pos, negsuc, ◌*ℤ◌}
use Rattle.std.specs.Prelude.{neg_ℤ, unsigned_abs, List, [], ◌∷◌, ◌++◌, length, take, drop, slice_index, codes, Option, Some, None}
use Rattle.std.specs.Prelude.{option_map, option_and_then, if◌then◌else◌}
use Rattle.std.specs.Fmt.{decimal}
use Rattle.std.specs.List.{list_all, position}
use Rattle.std.specs.Char.{is_ascii_digit}
use Rattle.std.specs.Str.Parse.{digits_value}
use Rattle.ptp_units.specs.Nanoseconds.{pointed}

-- a nanosecond
abbrev pub nanosecond : ℕ
nanosecond = 10 ^ 17

-- less than so many nanoseconds from 0
abbrev pub IsWithin : ℕ → ℤ → Type 0
IsWithin most exact = unsigned_abs exact < most * nanosecond

-- a number, where it is less than 2^111 ns from 0
abbrev pub exact_within : ℤ → Option ℤ
exact_within exact = if nat_lt (unsigned_abs exact) (2 ^ 111 * nanosecond) then Some exact else None

-- of twice a result in units of 2^-16 ns, which are halves of it: 2^-17 ns are 5^17 units
abbrev pub of_twice : ℤ → ℤ
of_twice twice = twice *ℤ pos (5 ^ 17)

-- ---- as text
-- the decimals of what is left of a nanosecond, by long division: so many at most, and none once nothing is left
unfoldable pub decimals : ℕ → ℕ → List ℕ
decimals zero parts = []
decimals (suc places) parts =
    if parts == 0 then [] else (48 + parts * 10 / nanosecond) ∷ decimals places (parts * 10 % nanosecond)

-- without a sign
abbrev pub size_text : ℕ → List ℕ
size_text size = decimal (size / nanosecond) ++ pointed (decimals 17 (size % nanosecond))

-- nanoseconds with all the decimals that they have
abbrev pub exact_text : ℤ → List ℕ
exact_text (pos n) = size_text n
exact_text (negsuc n) = codes "-" ++ size_text (suc n)

-- digits alone, at least one and at most so many
abbrev pub are_digits : ℕ → List ℕ → Bool
are_digits most text = nat_le 1 (length text) && nat_le (length text) most && list_all is_ascii_digit text

-- the number that so many digits write
abbrev pub number_in : ℕ → List ℕ → Option ℕ
number_in most text = if are_digits most text then Some (digits_value 10 text) else None

-- whole nanoseconds: 1 to 24 digits without zeros in front, though `0` alone is one
abbrev pub whole_in : List ℕ → Option ℕ
whole_in text = if slice_index text 0 == 48 && nat_lt 1 (length text) then None else number_in 24 text

-- what 1 to 16 digits after a point are: the first counts tenths of a nanosecond
abbrev pub parts_in : List ℕ → Option ℕ
parts_in text = option_map (λ number. number * 10 ^ (17 - length text)) (number_in 16 text)

-- what stands before a point and what stands after it, where there is one
abbrev pub parted : List ℕ → Option (List ℕ × List ℕ)
parted text = option_map (λ i. (take i text, drop (i + 1) text)) (position (λ octet. octet == 46) text)

-- whole nanoseconds, or such and decimals that a point parts
abbrev pub size_of : List ℕ → Option (List ℕ × List ℕ) → Option ℕ
size_of text None = option_map (λ whole. whole * nanosecond) (whole_in text)
size_of text (Some sides) =
    option_and_then (λ whole. option_map (λ parts. whole * nanosecond + parts) (parts_in sides.1)) (whole_in sides.0)

-- a number without a sign
abbrev pub size_in : List ℕ → Option ℕ
size_in text = size_of text (parted text)

-- a number: a minus in front turns it
abbrev pub exact_in : List ℕ → Option ℤ
exact_in text =
    if slice_index text 0 == 45 then option_map (λ size. neg_ℤ (pos size)) (size_in (drop 1 text)) else option_map pos (size_in text)
