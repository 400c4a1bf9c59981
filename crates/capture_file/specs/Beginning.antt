-- The first octets of an input, by which one tells a capture from other input.
use Rattle.std.specs.Prelude.{◌≡◌, ◌⊎◌, ℕ, ◌<◌, ◌==◌, ◌||◌, Bool, List, length, take, slice_index, if◌then◌else◌, Option}
use Rattle.std.specs.Io.KnownBytes.{IsAtEnd}
use Rattle.capture_file.specs.declared.beginning.Beginning.{Beginning}

-- these octets
abbrev pub first_octets : Beginning → List ℕ
first_octets beginning = take beginning.size beginning.room

-- a magic begins with this octet: a1, d4 or 4d, of a pcap in either order, or 0a, of a section header
abbrev pub begins_magic : ℕ → Bool
begins_magic x = x == 161 || x == 212 || x == 77 || x == 10

-- how many of these octets tell a capture: four where a magic begins with the first, and else that one
abbrev pub enough : List ℕ → ℕ
enough octets = if begins_magic (slice_index octets 0) then 4 else 1

-- these are enough, or all that there are
abbrev pub AreEnough : List ℕ → (left : Option (List ℕ)) → Type 0
AreEnough octets left = (length octets ≡ enough octets) ⊎ ((length octets < enough octets) × IsAtEnd left)

-- those of an input that tell a capture
abbrev pub start_of : List ℕ → List ℕ
start_of octets = take (enough octets) octets
