-- What is found among members.
use Rattle.std.specs.Prelude.{List, [], ◌∷◌, if◌then◌else◌, Option, Some, None}
use Rattle.serde_json.specs.Data.{Data}
use Rattle.line_object.specs.declared.key.Key.{Key}
use Rattle.line_object.specs.declared.object.Member.{Member}
use Rattle.line_object.specs.Inner.Apart.{same_key}
use Rattle.line_object.specs.PlainValue.{plain_data}

-- the value of the first member of this key
abbrev pub value_of : Key → List Member → Option Data
value_of key [] = None
value_of key (m ∷ ms) = if same_key m.key key then Some (plain_data m.value) else value_of key ms
