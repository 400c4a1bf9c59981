-- What a reader that reads ahead gives.
use Rattle.std.specs.Prelude.{ℕ, List, Option, slice_range}
use Rattle.std.specs.Io.KnownBytes.{prepend_known}
use Rattle.text_lines.specs.declared.octet_reader.OctetReader.{OctetReader}

-- the reader from which it reads
abbrev pub source_of : {R : Type 0} → OctetReader R → R
source_of r = r.source

-- the octets that were read and not yet given
abbrev pub ahead_of : {R : Type 0} → OctetReader R → List ℕ
ahead_of r = slice_range r.octets r.next r.end

-- what is still to be given: the octets that were read ahead, and then the source's
abbrev pub remaining_of : {R : Type 0} → (R → Option (List ℕ)) → OctetReader R → Option (List ℕ)
remaining_of remaining r = prepend_known (ahead_of r) (remaining (source_of r))
