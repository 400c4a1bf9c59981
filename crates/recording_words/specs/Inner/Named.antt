-- What of a list is named, part by part.
use Rattle.std.specs.Prelude.{ℕ, nat_lt, Bool, ◌&&◌, if◌then◌else◌, List, [], codes}

-- what stands in front of a part
unfoldable pub comma_text : (is_first : Bool) → List ℕ
comma_text is_first = if is_first then [] else codes ", "

-- a domain that so many messages are of is one of the lowest eight, where so many are before it
abbrev pub is_named : (count before : ℕ) → Bool
is_named count before = nat_lt 0 count && nat_lt before 8
