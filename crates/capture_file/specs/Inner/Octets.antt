-- What is read of a part of a capture, and passed over.
use Rattle.std.specs.Prelude.{◌≡◌, ℕ, ◌≤◌, ◌<◌, Bool, true, false, List, ◌++◌, length, Option, Result, Ok, Err}
use Rattle.std.specs.Io.KnownBytes.{Consumes, IsAtEnd}
use Rattle.capture_file.specs.declared.octets.ReadFailed.{ReadFailed}

-- these octets more were read
abbrev pub Fills : (old new : List ℕ) → (before after : Option (List ℕ)) → Type 0
Fills old new before after = (more : List ℕ) × (new ≡ old ++ more) × Consumes before after more

-- so many octets are there now, or fewer, of an input that is at its end
abbrev pub FillsTo : ℕ → Result Bool ReadFailed → (old new : List ℕ) → (before after : Option (List ℕ)) → Type 0
FillsTo size (Ok true) old new before after =
    Fills old new before after × (length old ≤ size → length new ≡ size)
FillsTo size (Ok false) old new before after =
    Fills old new before after × (length new < size) × IsAtEnd after
FillsTo size (Err failed) old new before after = Fills old new before after

-- so many octets were passed over, or fewer, of an input that is at its end
abbrev pub PassesOver : ℕ → Result Bool ReadFailed → (before after : Option (List ℕ)) → Type 0
PassesOver count (Ok true) before after = (passed : List ℕ) × Consumes before after passed × (length passed ≡ count)
PassesOver count (Ok false) before after =
    (passed : List ℕ) × Consumes before after passed × (length passed < count) × IsAtEnd after
PassesOver count (Err failed) before after =
    (passed : List ℕ) × Consumes before after passed × (length passed ≤ count)
