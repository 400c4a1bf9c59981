-- Numbers in decimal digits.
use Rattle.std.specs.Prelude.{ℕ, ◌&&◌, Bool, List, Option, Some, None, if◌then◌else◌, length, nat_le, nat_lt}
use Rattle.std.specs.Prelude.{option_and_then}
use Rattle.std.specs.List.{list_all}
use Rattle.std.specs.Char.{digit_value}
use Rattle.std.specs.Str.Parse.{digits_value}

-- whether each character is a decimal digit
abbrev pub are_digits : List ℕ → Bool
are_digits text = list_all (λ c. nat_lt (digit_value c) 10) text

-- the number that a text writes which has a decimal digit, at most so many of them, and nothing else
abbrev pub number_of : ℕ → List ℕ → Option ℕ
number_of most text =
    if nat_lt 0 (length text) && (nat_le (length text) most && are_digits text)
    then Some (digits_value 10 text) else None

-- a number that isn't above the most one
abbrev pub up_to : ℕ → ℕ → Option ℕ
up_to most number = if nat_le number most then Some number else None

-- the domainNumber that a text writes, in 1 to 3 digits
abbrev pub domain_of : List ℕ → Option ℕ
domain_of text = option_and_then (up_to 255) (number_of 3 text)
