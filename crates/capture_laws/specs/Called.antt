-- The law that no two interfaces of a section are called alike. `laws::interfaces_are_called_apart` promises it.
use Rattle.std.specs.Prelude.{◌≡◌, ℕ, ◌<◌, ◌^◌, List, Some, slice_get}
use Rattle.capture_file.specs.Name.{called}
use Rattle.capture_file.specs.Parts.{Part, Section, AreParts, form_behind}
use Rattle.capture_file.specs.Section.{DescriptionOf, SectionOf}

-- Of a section, behind whichever parts of a capture: interfaces that are called alike are at one place, of those that a packet
-- can name.
abbrev pub InterfacesAreCalledApart : Type 0
InterfacesAreCalledApart =
    (parts : List Part) (section : SectionOf) → AreParts parts → form_behind parts ≡ Section section
    → (i j : ℕ) (one other : DescriptionOf) → i < 2 ^ 32 → j < 2 ^ 32
    → slice_get section.interfaces i ≡ Some one → slice_get section.interfaces j ≡ Some other
    → called i one.name ≡ called j other.name → i ≡ j
