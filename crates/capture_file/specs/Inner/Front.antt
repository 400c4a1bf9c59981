-- The octets of a part of a capture that were read.
use Rattle.std.specs.Prelude.{ℕ, List, take}
use Rattle.capture_file.specs.declared.front.Front.{Front}

-- these octets
abbrev pub front_of : Front → List ℕ
front_of front = take front.size front.room.items

-- the name that is kept
abbrev pub name_of : Front → List ℕ
name_of front = front.name.items
