-- Numbers of halves of 2^-16 ns as decimals of nanoseconds. A nanosecond has 131,072 such halves.
use Rattle.std.specs.Prelude.{◌≡◌, ◌≢◌, ℕ, zero, suc, ◌+◌, ◌*◌, ◌/◌, ◌%◌, ◌^◌, ◌≤◌, ◌==◌, true, ℤ, pos, negsuc}
use Rattle.std.specs.Prelude.{List, [], ◌∷◌, ◌++◌, length, codes, if◌then◌else◌}
use Rattle.std.specs.Fmt.{decimal}
use Rattle.std.specs.List.{list_all}
use Rattle.std.specs.Char.{is_ascii_digit}
use Rattle.std.specs.Str.Parse.{digits_value}

-- the decimals of what is left of a nanosecond, by long division: so many at most, and none once nothing is left
unfoldable pub decimals : ℕ → ℕ → List ℕ
decimals zero rest = []
decimals (suc places) rest =
    if rest == 0 then [] else (48 + rest * 10 / 131072) ∷ decimals places (rest * 10 % 131072)

-- a point before decimals, where there are any
abbrev pub pointed : List ℕ → List ℕ
pointed [] = []
pointed (digit ∷ digits) = codes "." ++ digit ∷ digits

-- nanoseconds without a sign: 2^17 divides 10^17, so there are 17 decimals at most
abbrev pub size_text : ℕ → List ℕ
size_text size = decimal (size / 131072) ++ pointed (decimals 17 (size % 131072))

-- nanoseconds, exactly
abbrev pub nanoseconds_text : ℤ → List ℕ
nanoseconds_text (pos n) = size_text n
nanoseconds_text (negsuc n) = codes "-" ++ size_text (suc n)

-- the text is whole nanoseconds and decimals that make exactly this number of halves, and no decimal too many
pub record ShowsExactly (size : ℕ) (shown : List ℕ) : Type 0 where
  pub whole : ℕ
  pub fraction : List ℕ
  pub text : shown ≡ decimal whole ++ pointed fraction
  pub digits : list_all is_ascii_digit fraction ≡ true
  pub exact : (whole * 10 ^ length fraction + digits_value 10 fraction) * 2 ^ 17 ≡ size * 10 ^ length fraction
  pub at_most : length fraction ≤ 17
  pub shortest : (front : List ℕ) → fraction ≢ front ++ codes "0"
