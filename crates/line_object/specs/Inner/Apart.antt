-- Members, each with another key.
use Rattle.std.specs.Prelude.{ℕ, ◌==◌, ◌&&◌, List, [], ◌∷◌, Bool, true, not}
use Rattle.line_object.specs.declared.key.Key.{Key}
use Rattle.line_object.specs.declared.key.Key.TheVariants.{At, Code, CopyTag, Diff, Domain, Ev, First}
use Rattle.line_object.specs.declared.key.Key.TheVariants.{Hex, Id, Kind, Log, Master, Number, Node}
use Rattle.line_object.specs.declared.key.Key.TheVariants.{Offset2, Out, Path2, Port, Reading, Tags, TransitTag}
use Rattle.line_object.specs.declared.object.Member.{Member}

-- a number by which keys are compared
abbrev pub key_place : Key → ℕ
key_place At = 0
key_place Code = 1
key_place CopyTag = 2
key_place Diff = 3
key_place Domain = 4
key_place Ev = 5
key_place First = 6
key_place Hex = 7
key_place Id = 8
key_place Kind = 9
key_place Log = 10
key_place Master = 11
key_place Number = 12
key_place Node = 13
key_place Offset2 = 14
key_place Out = 15
key_place Path2 = 16
key_place Port = 17
key_place Reading = 18
key_place Tags = 19
key_place TransitTag = 20

-- whether two keys are one
abbrev pub same_key : Key → Key → Bool
same_key a b = key_place a == key_place b

-- whether no member has this key
abbrev pub is_free : Key → List Member → Bool
is_free key [] = true
is_free key (m ∷ ms) = not (same_key m.key key) && is_free key ms

-- whether no two members have one key
abbrev pub are_apart : List Member → Bool
are_apart [] = true
are_apart (m ∷ ms) = is_free m.key ms && are_apart ms
