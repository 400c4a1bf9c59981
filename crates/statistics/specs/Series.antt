-- What is told of values that were measured. Lists of them have the newest in front.
use Rattle.std.specs.Prelude.{◌≡◌, ℕ, ◌+◌, ◌*◌, ◌==◌, ℤ, pos, negsuc, int_lt, unsigned_abs, if◌then◌else◌}
use Rattle.std.specs.Prelude.{List, [], ◌∷◌, length, count_by, Option, Some, None}
use Rattle.statistics.specs.declared.series.Point.{Point}
use Rattle.statistics.specs.declared.series.Series.{Series}
use Rattle.statistics.specs.declared.series.Spread.{Spread}
use Rattle.statistics.specs.Wide.{wide, wide_sum, at_most}

-- a value above 0, or else 0
abbrev pub above : ℤ → ℕ
above (pos n) = n
above (negsuc n) = 0

-- the size of a value below 0, or else 0
abbrev pub below : ℤ → ℕ
below (pos n) = 0
below (negsuc n) = n + 1

abbrev pub square : ℤ → ℕ
square value = unsigned_abs value * unsigned_abs value

-- the lesser of a value and the least before it, the earlier one where they are equal
abbrev pub lesser : Point → Option Point → Option Point
lesser p None = Some p
lesser p (Some least) = Some (if int_lt p.value least.value then p else least)

-- the least of all
abbrev pub least : List Point → Option Point
least [] = None
least (p ∷ earlier) = lesser p (least earlier)

abbrev pub greater : Point → Option Point → Option Point
greater p None = Some p
greater p (Some greatest) = Some (if int_lt greatest.value p.value then p else greatest)

-- the greatest of all
abbrev pub greatest : List Point → Option Point
greatest [] = None
greatest (p ∷ earlier) = greater p (greatest earlier)

-- this is told of these values
pub record IsSeries (points : List Point) (s : Series) : Type 0 where
  pub count : s.count ≡ at_most (length points)
  pub above : wide s.above ≡ wide_sum (λ p. above p.value) points
  pub below : wide s.below ≡ wide_sum (λ p. below p.value) points
  pub squares : wide s.squares ≡ wide_sum (λ p. square p.value) points
  pub negatives : s.negatives ≡ at_most (count_by (λ p. int_lt p.value (pos 0)) points)
  pub zeros : s.zeros ≡ at_most (count_by (λ p. unsigned_abs p.value == 0) points)
  pub least : s.least ≡ least points
  pub greatest : s.greatest ≡ greatest points

-- these are the least and the greatest
pub record IsSpread (points : List Point) (s : Spread) : Type 0 where
  pub least : s.least ≡ least points
  pub greatest : s.greatest ≡ greatest points
