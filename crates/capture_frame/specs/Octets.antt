-- Numbers in octets, most significant octet first.
use Rattle.std.specs.Prelude.{ℕ, ◌+◌, ◌*◌, ◌^◌, List, slice_index}

-- the number in octets i and i + 1
abbrev pub two_octets : List ℕ → ℕ → ℕ
two_octets octets i = 256 * slice_index octets i + slice_index octets (i + 1)

-- those in four, six and sixteen
abbrev pub four_octets : List ℕ → ℕ → ℕ
four_octets octets i = 2 ^ 16 * two_octets octets i + two_octets octets (i + 2)

abbrev pub six_octets : List ℕ → ℕ → ℕ
six_octets octets i = 2 ^ 32 * two_octets octets i + four_octets octets (i + 2)

abbrev pub sixteen_octets : List ℕ → ℕ → ℕ
sixteen_octets octets i =
    2 ^ 96 * four_octets octets i + 2 ^ 64 * four_octets octets (i + 4) + 2 ^ 32 * four_octets octets (i + 8)
    + four_octets octets (i + 12)
