-- Sequence numbers: 16 bits of a count that has no end (IEEE 1588-2019, 7.3.7).
use Rattle.std.specs.Prelude.{ℕ, ◌+◌, ◌-◌, ◌%◌, Bool, ◌&&◌, nat_le}

-- the sequenceId of the number of this count
abbrev pub of_count : ℕ → ℕ
of_count count = count % 65536

-- the number after this one, on the circle of 65,536
abbrev pub next : ℕ → ℕ
next number = (number + 1) % 65536

-- how many numbers the first is ahead of the second, on the circle of 65,536
abbrev pub ahead : ℕ → ℕ → ℕ
ahead number other = (number + 65536 - other) % 65536

-- less than half a turn ahead, and not equal: by it a slave takes a Sync for newer than the last that completed
abbrev pub is_newer : ℕ → ℕ → Bool
is_newer number other = nat_le 1 (ahead number other) && nat_le (ahead number other) 32767
