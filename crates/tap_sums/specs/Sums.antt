-- Sums over crossings, in units of 2^-16 ns. Lists of crossings have the newest in front.
use Rattle.std.specs.Prelude.{Bool, ℕ, ◌-◌, ◌*◌, ◌^◌, nat_lt, ℤ, pos, ◌+ℤ◌, ◌-ℤ◌, ◌*ℤ◌, int_lt, unsigned_abs, max}
use Rattle.std.specs.Prelude.{List, [], ◌∷◌, length, Option, Some, None, if◌then◌else◌}
use Rattle.tap_crossing.specs.declared.crossing.Crossing.{Crossing}
use Rattle.tap_crossing.specs.declared.sighting.Kind.{Kind}
use Rattle.tap_crossing.specs.Records.{is_same_kind}
use Rattle.tap_sums.specs.declared.spread.Quantity.{Quantity}
use Rattle.tap_sums.specs.declared.spread.Quantity.TheVariants as quantities
use Rattle.tap_sums.specs.declared.spread.Spread.{Spread}
use Rattle.tap_sums.specs.declared.spread.Statistics.{Statistics}
use Rattle.tap_sums.specs.declared.spread.BothWays.{BothWays}
use Rattle.tap_sums.specs.Rounded.{rounded}

-- those of a kind
abbrev pub of_kind : Kind → List Crossing → List Crossing
of_kind kind [] = []
of_kind kind (x ∷ earlier) = if is_same_kind kind x.kind then x ∷ of_kind kind earlier else of_kind kind earlier

-- the most that count, of each kind
abbrev pub most : ℕ
most = 2 ^ 63 - 1

-- those that count: the first so many
abbrev pub counted : List Crossing → List Crossing
counted [] = []
counted (x ∷ earlier) = if nat_lt (length (counted earlier)) most then x ∷ counted earlier else counted earlier

-- those of a kind that count
abbrev pub counted_of : Kind → List Crossing → List Crossing
counted_of kind all = counted (of_kind kind all)

-- what a crossing has
abbrev pub value_of : Quantity → Crossing → ℤ
value_of quantities.Taken x = x.taken
value_of quantities.Corrected x = x.corrected
value_of quantities.Rest x = x.rest

-- the sum of what each of these has
abbrev pub total : (Crossing → ℤ) → List Crossing → ℤ
total of [] = pos 0
total of (x ∷ earlier) = of x +ℤ total of earlier

-- the lesser of a value and the least before it
abbrev pub lesser : ℤ → Option ℤ → ℤ
lesser value None = value
lesser value (Some least) = if int_lt value least then value else least

abbrev pub least : (Crossing → ℤ) → List Crossing → Option ℤ
least of [] = None
least of (x ∷ earlier) = Some (lesser (of x) (least of earlier))

-- the greater of a value and the greatest before it
abbrev pub greater : ℤ → Option ℤ → ℤ
greater value None = value
greater value (Some greatest) = if int_lt greatest value then value else greatest

abbrev pub greatest : (Crossing → ℤ) → List Crossing → Option ℤ
greatest of [] = None
greatest of (x ∷ earlier) = Some (greater (of x) (greatest of earlier))

-- the mean, rounded
abbrev pub mean : (Crossing → ℤ) → List Crossing → ℤ
mean of all = rounded (total of all) (length all)

-- the least, the greatest and the mean, where there is any
abbrev pub spread_of : (least greatest : Option ℤ) → (mean : ℤ) → Option Spread
spread_of None greatest mean = None
spread_of (Some least) None mean = None
spread_of (Some least) (Some greatest) mean = Some (record { least = least; greatest = greatest; mean = mean })

abbrev pub spread : (Crossing → ℤ) → List Crossing → Option Spread
spread of all = spread_of (least of all) (greatest of all) (mean of all)

-- by how much the rest changed from the one before
abbrev pub change : ℤ → ℤ → ℕ
change rest before = unsigned_abs (rest -ℤ before)

abbrev pub longer : ℕ → Option ℕ → ℕ
longer step None = step
longer step (Some longest) = max step longest

-- the rest of the newest
abbrev pub newest : List Crossing → Option ℤ
newest [] = None
newest (x ∷ earlier) = Some x.rest

-- the greatest such change, without its sign
abbrev pub longest : (before : Option ℤ) → (rest : ℤ) → (so_far : Option ℕ) → Option ℕ
longest None rest so_far = so_far
longest (Some before) rest so_far = Some (longer (change rest before) so_far)

abbrev pub step : List Crossing → Option ℕ
step [] = None
step (x ∷ earlier) = longest (newest earlier) x.rest (step earlier)

-- the mean rest of these less that of the others, rounded
abbrev pub asymmetry_of : (syncs requests : List Crossing) → Option ℤ
asymmetry_of [] requests = None
asymmetry_of (s ∷ syncs) [] = None
asymmetry_of (s ∷ syncs) (r ∷ requests) = Some (rounded
    (total (value_of quantities.Rest) (s ∷ syncs) *ℤ pos (length (r ∷ requests))
    -ℤ total (value_of quantities.Rest) (r ∷ requests) *ℤ pos (length (s ∷ syncs)))
    (length (s ∷ syncs) * length (r ∷ requests)))

-- half of the sum of the two, rounded
abbrev pub mean_rest_of : (syncs requests : List Crossing) → Option ℤ
mean_rest_of [] requests = None
mean_rest_of (s ∷ syncs) [] = None
mean_rest_of (s ∷ syncs) (r ∷ requests) = Some (rounded
    (total (value_of quantities.Rest) (s ∷ syncs) *ℤ pos (length (r ∷ requests))
    +ℤ total (value_of quantities.Rest) (r ∷ requests) *ℤ pos (length (s ∷ syncs)))
    (2 * (length (s ∷ syncs) * length (r ∷ requests))))

-- what these of a kind come to
abbrev pub statistics : Kind → List Crossing → Statistics
statistics kind all = record {
  kind = kind;
  count = length all;
  taken = spread (value_of quantities.Taken) all;
  corrected = spread (value_of quantities.Corrected) all;
  rest = spread (value_of quantities.Rest) all;
  step = step all;
}

-- and what both kinds do
abbrev pub both_ways : (syncs requests : List Crossing) → BothWays
both_ways syncs requests = record { asymmetry = asymmetry_of syncs requests; mean_rest = mean_rest_of syncs requests }

-- the greatest rest without its sign, 0 where there is none
abbrev pub worst : List Crossing → ℕ
worst [] = 0
worst (x ∷ earlier) = max (worst earlier) (unsigned_abs x.rest)

-- whether the rest of one is greater than a limit, either way, which is so many seconds as it is to be nanoseconds
abbrev pub is_beyond : (limit : ℕ) → List Crossing → Bool
is_beyond limit all = nat_lt limit (10 ^ 9 * worst all)
