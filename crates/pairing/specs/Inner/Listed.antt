-- What the pairs that a list keeps stand for.
use Rattle.std.specs.Prelude.{ℕ, List, map}
use Rattle.ptp_units.specs.declared.sequence.Seq.{Seq}
use Rattle.pairing.specs.Marked.{Entry, Marked, entry}

module _ {V : Type 0} where
  -- each pair is an entry
  abbrev pub entries_of : List (Seq × V) → List (Entry V)
  entries_of pairs = map (λ p. entry p.0.0 p.1) pairs

  -- the pairs, of which the first so many are marked
  abbrev pub marked_of : List (Seq × V) → ℕ → Marked V
  marked_of pairs marked = record { entries = entries_of pairs; marked = marked }
