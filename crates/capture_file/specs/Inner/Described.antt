-- Interfaces as they are kept, and their names.
use Rattle.std.specs.Prelude.{ℕ, List, Bool, map, option_map}
use Rattle.std.specs.BTreeSet.{BTreeSet, contains_by}
use Rattle.std.specs.Cmp.Lexicographic.{slice_cmp}
use Rattle.std.specs.Ordering.{nat_cmp}
use Rattle.std.specs.declared.vec.Vec.{Vec}
use Rattle.capture_file.specs.declared.section.Described.{Described}
use Rattle.capture_file.specs.Section.{DescriptionOf}
use Rattle.capture_file.specs.Inner.Clock.{resolution_in}

abbrev pub described_in : Described → DescriptionOf
described_in d = record {
  link = d.link;
  resolution = resolution_in d.resolution;
  offset = d.offset;
  name = option_map (λ name. name.items) d.name;
}

abbrev pub descriptions_in : List Described → List DescriptionOf
descriptions_in interfaces = map described_in interfaces

-- whether a name is among these
abbrev pub is_among : {Z : Type 0} → List ℕ → BTreeSet (Vec ℕ Z) → Bool
is_among name names = contains_by (λ k. slice_cmp nat_cmp name k.items) names
