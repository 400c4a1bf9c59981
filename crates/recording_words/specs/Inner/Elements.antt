-- An array, element by element.
use Rattle.std.specs.Prelude.{ℕ, Bool, if◌then◌else◌, List, [], ◌++◌, codes, Option, Some, None}

-- what stands in front of an element
unfoldable pub comma_text : (is_first : Bool) → List ℕ
comma_text is_first = if is_first then [] else codes ","

-- an element, if there is one, and what stands in front of it
unfoldable pub part_text : (is_first : Bool) → Option (List ℕ) → List ℕ
part_text is_first None = []
part_text is_first (Some element) = comma_text is_first ++ element
