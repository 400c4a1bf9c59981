-- Which Syncs are of one life of a master, by their numbers, their times and the interval that they tell.
use Rattle.std.specs.Prelude.{ℕ, ◌+◌, ◌-◌, ◌*◌, ◌/◌, ◌^◌, ℤ, pos, negsuc, nat_lt, nat_le, Bool, false, not, ◌&&◌, ◌||◌}
use Rattle.std.specs.Prelude.{List, [], ◌∷◌, if◌then◌else◌, Option, Some, None}
use Rattle.std.specs.Option.{option_map_or}
use Rattle.ptp_units.specs.Sequence.{ahead}
use Rattle.pairing.specs.Marked.{Entry}
use Rattle.sync_watch.specs.declared.arrival.Arrival.{Arrival}

-- a second, in units of 2^-16 ns
abbrev pub second : ℕ
second = 65536000000000

-- two moments are a second or more apart
abbrev pub is_apart : ℕ → ℕ → Bool
is_apart time other = nat_le second (time - other) || nat_le second (other - time)

-- how many numbers a Sync may be ahead of the newest one, and fewer than how many behind it
abbrev pub reach : ℕ
reach = 256

-- a number is 1 to 256 ahead of another
abbrev pub is_ahead : (number other : ℕ) → Bool
is_ahead number other = nat_le 1 (ahead number other) && nat_le (ahead number other) reach

-- a number is another, or up to 255 behind it
abbrev pub is_behind : (number other : ℕ) → Bool
is_behind number other = nat_lt (ahead other number) reach

-- neither of these
abbrev pub is_far : (number other : ℕ) → Bool
is_far number other = not (is_ahead number other) && not (is_behind number other)

-- the newest Sync, where one comes after these: the one that comes, unless its number isn't ahead
abbrev pub newer_of : Entry ℕ → (before : Option (Entry ℕ)) → Entry ℕ
newer_of e None = e
newer_of e (Some n) = if is_ahead e.number n.number then e else n

-- the newest of these, which came last in front
abbrev pub newest : List (Entry ℕ) → Option (Entry ℕ)
newest [] = None
newest (e ∷ earlier) = Some (newer_of e (newest earlier))

-- the interval between Syncs that logMessageInterval tells (IEEE 1588-2019, 13.3.2.14), in units of 2^-16 ns: 2 to its
-- power in seconds, where it is from -7 to 6
abbrev pub interval_of : (log : ℤ) → Option ℕ
interval_of (pos n) = if nat_le n 6 then Some (second * 2 ^ n) else None
interval_of (negsuc n) = if nat_le n 6 then Some (second / 2 ^ (n + 1)) else None

-- how many numbers a Sync may be ahead, whatever its interval is
abbrev pub lost_most : ℕ
lost_most = 16

-- so many Syncs of the interval that is told take more than twice this time
abbrev pub do_not_fit : (log : ℤ) → (count time : ℕ) → Bool
do_not_fit log count time = option_map_or (λ interval. nat_lt (2 * time) (count * interval)) (interval_of log) false

-- a Sync is so far ahead of the newest one that no loss in the time between them explains it
abbrev pub comes_too_soon : Arrival → (newest : Entry ℕ) → Bool
comes_too_soon a n = nat_lt lost_most (ahead a.number.0 n.number)
    && do_not_fit a.log (ahead a.number.0 n.number) (a.time - n.value)

-- a Sync is of the life in which that one is the newest: it follows, or it was overtaken less than a second ago
abbrev pub is_of_life : Arrival → (newest : Entry ℕ) → Bool
is_of_life a n =
    if is_ahead a.number.0 n.number then not (comes_too_soon a n)
    else is_behind a.number.0 n.number && not (is_apart a.time n.value)
