-- What the value of a key is.
use Rattle.std.specs.Prelude.{ℕ, List, [], ◌∷◌, Bool, true, false, Option, Some, None}
use Rattle.serde_json.specs.Data.{Data, null, boolean, number, string, array, object, unsigned, negative, Items, no_items, item}
use Rattle.line_object.specs.declared.plain_value.PlainValue.{PlainValue}
use Rattle.line_object.specs.declared.plain_value.PlainValue.TheVariants.{Null, Whole, Negative, Text, Several}

-- the value that an item of an array is
abbrev pub item_data : Option ℕ → Data
item_data None = null
item_data (Some n) = number (unsigned n)

abbrev pub items_data : List (Option ℕ) → Items
items_data [] = no_items
items_data (n ∷ ns) = item (item_data n) (items_data ns)

-- the value that a plain value is
abbrev pub plain_data : PlainValue → Data
plain_data Null = null
plain_data (Whole n) = number (unsigned n)
plain_data (Negative z) = number (negative z)
plain_data (Text s) = string s.now
plain_data (Several ns) = array (items_data ns.items)

-- whether a value is null
abbrev pub is_null : Data → Bool
is_null null = true
is_null (boolean b) = false
is_null (number n) = false
is_null (string s) = false
is_null (array ds) = false
is_null (object ms) = false
