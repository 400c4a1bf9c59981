-- Values that lie above both of their neighbours, or below both. Lists have the newest in front.
use Rattle.std.specs.Prelude.{◌≡◌, ℕ, ◌+◌, ◌-◌, ◌^◌, min, nat_lt, int_lt, Bool, false, ◌&&◌, ◌||◌, if◌then◌else◌}
use Rattle.std.specs.Prelude.{List, [], ◌∷◌, length, Option, Some, None}
use Rattle.statistics.specs.declared.series.Point.{Point}
use Rattle.statistics.specs.declared.spike.Spike.{Spike}
use Rattle.statistics.specs.declared.spike.Spikes.{Spikes}
use Rattle.statistics.specs.Counting.{with_one_if}
use Rattle.statistics.specs.Step.{size, newest}
use Rattle.statistics.specs.Wide.{at_most}

-- so much, as far as 128 bits hold it
abbrev pub up_to : ℕ → ℕ
up_to sum = min sum (2 ^ 128 - 1)

-- the one before the newest
abbrev pub second : List Point → Option Point
second [] = None
second (p ∷ earlier) = newest earlier

-- how far a value is from the one before it, if there is one
abbrev pub size_between : Option Point → Point → ℕ
size_between None p = 0
size_between (Some q) p = size q p

-- a value lies above both neighbours, or below both
abbrev pub lies_apart : (before at behind : Point) → Bool
lies_apart b a p =
    (int_lt b.value a.value && int_lt p.value a.value) || (int_lt a.value b.value && int_lt a.value p.value)

abbrev pub spike_between : (before at behind : Point) → Option Spike
spike_between b a p = if lies_apart b a p
    then Some (record { at = a; size = min (size b a) (size p a); both = up_to (size b a + size p a) })
    else None

-- the spike that a value is between its neighbours
abbrev pub spike_of : (before at : Option Point) → (behind : Point) → Option Spike
spike_of (Some b) (Some a) p = spike_between b a p
spike_of (Some b) None p = None
spike_of None at p = None

-- the greater of the newest spike and the greatest before it, the earlier one where they are equal
abbrev pub greater_spike : Option Spike → Option Spike → Option Spike
greater_spike None greatest = greatest
greater_spike (Some s) None = Some s
greater_spike (Some s) (Some greatest) = Some (if nat_lt greatest.size s.size then s else greatest)

-- the greatest of all
abbrev pub greatest : List Point → Option Spike
greatest [] = None
greatest (p ∷ earlier) = greater_spike (spike_of (second earlier) (newest earlier) p) (greatest earlier)

-- how much values change from one to the next, together
abbrev pub changes : List Point → ℕ
changes [] = 0
changes (p ∷ earlier) = up_to (changes earlier + size_between (newest earlier) p)

-- a value is above the one before it, if there is one
abbrev pub is_rise : Option Point → Point → Bool
is_rise None p = false
is_rise (Some q) p = int_lt q.value p.value

-- or below it
abbrev pub is_fall : Option Point → Point → Bool
is_fall None p = false
is_fall (Some q) p = int_lt p.value q.value

-- how many are above the one before, as far as is counted
abbrev pub rises : List Point → ℕ
rises [] = 0
rises (p ∷ earlier) = with_one_if (is_rise (newest earlier) p) (rises earlier)

-- and below it
abbrev pub falls : List Point → ℕ
falls [] = 0
falls (p ∷ earlier) = with_one_if (is_fall (newest earlier) p) (falls earlier)

-- this is held of these values
pub record AreSpikes (points : List Point) (s : Spikes) : Type 0 where
  pub count : s.count ≡ at_most (length points)
  pub changes : s.changes ≡ changes points
  pub rises : s.rises ≡ rises points
  pub falls : s.falls ≡ falls points
  pub newest : s.newest ≡ newest points
  pub before : s.before ≡ second points
  pub greatest : s.greatest ≡ greatest points
