-- The value that a line's members are.
use Rattle.std.specs.Prelude.{List, [], ◌∷◌}
use Rattle.serde_json.specs.Data.{Data, object, Members, no_members, put}
use Rattle.line_object.specs.declared.object.Member.{Member}
use Rattle.line_object.specs.declared.object.LineObject.{LineObject}
use Rattle.line_object.specs.Key.{key_text}
use Rattle.line_object.specs.PlainValue.{plain_data}

-- these members, put in one after the other
abbrev pub members_from : Members → List Member → Members
members_from found [] = found
members_from found (m ∷ ms) = members_from (put (key_text m.key) (plain_data m.value) found) ms

-- the value that an object is
abbrev pub object_data : LineObject → Data
object_data o = object (members_from no_members o.members.items)
