-- What a message does to the counts of open records.
use Rattle.std.specs.Prelude.{ℕ, ◌+◌, ◌%◌, ◌^◌, List, slice_index, slice_set, Option, Some, None, option_and_then}
use Rattle.tap_crossing.specs.declared.places.Record.{Record}
use Rattle.tap_crossing.specs.Open.{open_number}

-- one more at this number
abbrev pub one_more : Option ℕ → List ℕ → List ℕ
one_more None counts = counts
one_more (Some i) counts = slice_set counts i ((slice_index counts i + 1) % 2 ^ 64)

-- one less
abbrev pub one_less : Option ℕ → List ℕ → List ℕ
one_less None counts = counts
one_less (Some i) counts = slice_set counts i ((slice_index counts i + 18446744073709551615) % 2 ^ 64)

-- a record was found, or none, and it is this afterwards
abbrev pub recounted : Option Record → Record → List ℕ → List ℕ
recounted found after counts = one_more (open_number after) (one_less (option_and_then open_number found) counts)
