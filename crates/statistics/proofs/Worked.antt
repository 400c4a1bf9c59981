-- Worked cases: what is told of the first two reports of a real recording, of packets 23 and 25. Their offsets are -3512.5 ns and
-- -2709 ns, and their path delays 18522.5 ns and 17719 ns. Medians of 3, 1 and 2, of 1, 3, 2 and 4, and of none. And the greatest change
-- of 5, 9, 3 and 9, which is the fall from 9 to 3: the rise behind it is as great.
use Rattle.std.proofs.Common.{◌≡◌, ℕ, pos, negsuc, [], ◌∷◌, Some, None, refl}
use Rattle.statistics.specs.declared.series.Point.{Point}
use Rattle.statistics.specs.Median.{middle_of}
use Rattle.statistics.specs.Series.{above, below, square, least, greatest}
use Rattle.statistics.specs.Step as step
use Rattle.statistics.specs.Wide.{wide_sum}

abbrev path_23 : Point
path_23 = record { line = 23; time = 117658690779100243886080; value = pos 2427781120 }

abbrev path_25 : Point
path_25 = record { line = 25; time = 117658690800138444013568; value = pos 2322464768 }

abbrev offset_23 : Point
offset_23 = record { line = 23; time = 117658690779100243886080; value = negsuc 460390399 }

abbrev offset_25 : Point
offset_25 = record { line = 25; time = 117658690800138444013568; value = negsuc 355074047 }

least_path : least (path_25 ∷ path_23 ∷ []) ≡ Some path_25
least_path = refl

greatest_path : greatest (path_25 ∷ path_23 ∷ []) ≡ Some path_23
greatest_path = refl

-- of equal ones the first
first_of_equal : least (record path_23 { line = 31 } ∷ path_23 ∷ []) ≡ Some path_23
first_of_equal = refl

-- 36241.5 ns together
sum_of_paths : wide_sum (λ p. above p.value) (path_25 ∷ path_23 ∷ []) ≡ 4750245888
sum_of_paths = refl

squares_of_paths : wide_sum (λ p. square p.value) (path_25 ∷ path_23 ∷ []) ≡ 11287963765229748224
squares_of_paths = refl

-- 6221.5 ns below 0 together
sum_of_offsets : wide_sum (λ p. below p.value) (offset_25 ∷ offset_23 ∷ []) ≡ 815464448
sum_of_offsets = refl

three : middle_of (pos 1 ∷ pos 2 ∷ pos 3 ∷ []) ≡ Some (record { lower = pos 2; upper = pos 2 })
three = refl

four : middle_of (pos 1 ∷ pos 2 ∷ pos 3 ∷ pos 4 ∷ []) ≡ Some (record { lower = pos 2; upper = pos 3 })
four = refl

none : middle_of [] ≡ None
none = refl

abbrev value_at : ℕ → ℕ → Point
value_at line value = record { line = line; time = line; value = pos value }

fall : step.greatest (value_at 4 9 ∷ value_at 3 3 ∷ value_at 2 9 ∷ value_at 1 5 ∷ [])
    ≡ Some (record { from = value_at 2 9; to = value_at 3 3; before = value_at 2 9 ∷ value_at 1 5 ∷ [] })
fall = refl

no_change : step.greatest (value_at 1 5 ∷ []) ≡ None
no_change = refl
