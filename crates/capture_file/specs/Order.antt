-- Numbers in the octets of a capture, in the order that its magic tells.
use Rattle.std.specs.Prelude.{ℕ, ◌+◌, ◌<◌, List, slice_range, slice_index, EachIndex}
use Rattle.std.specs.Int.{Width, w16, w32, from_be_bytes, from_le_bytes}
use Rattle.capture_file.specs.declared.order.ByteOrder.{ByteOrder}
use Rattle.capture_file.specs.declared.order.ByteOrder.TheVariants.{Big, Little}

-- these are octets
abbrev pub AreOctets : List ℕ → Type 0
AreOctets octets = EachIndex octets (λ k. slice_index octets k < 256)

-- the number of this width that octets are
abbrev pub number_of : ByteOrder → Width → List ℕ → ℕ
number_of Big width octets = from_be_bytes width octets
number_of Little width octets = from_le_bytes width octets

-- the number of 16 bits at a place
abbrev pub number16 : ByteOrder → List ℕ → ℕ → ℕ
number16 order octets at = number_of order w16 (slice_range octets at (at + 2))

-- the number of 32 bits at a place
abbrev pub number32 : ByteOrder → List ℕ → ℕ → ℕ
number32 order octets at = number_of order w32 (slice_range octets at (at + 4))
