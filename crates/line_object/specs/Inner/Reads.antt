-- What a value of JSON is read as.
use Rattle.std.specs.Prelude.{◌≡◌, ◌≤◌, ℕ, Option, Some, option_map}
use Rattle.serde_json.specs.Data.{Data, Num, number}
use Rattle.serde_json.specs.Read.{of_json}
use Rattle.json.specs.Json.{Json}
use Rattle.json.specs.Tree.{depth}

-- a value is read as this, and nests no deeper
abbrev pub Reads : Json → Data → ℕ → Type 0
Reads j d deep = (of_json j ≡ Some d) × (depth j ≤ deep)

-- there is a number, and it is this value
abbrev pub IsNumber : Option Num → Data → Type 0
IsNumber n d = option_map number n ≡ Some d
