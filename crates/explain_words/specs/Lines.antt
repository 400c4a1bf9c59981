-- Lines that stand below another one, as their beginnings tell.
use Rattle.std.specs.Prelude.{ℕ, ◌+◌, ◌==◌, ◌&&◌, ◌||◌, Bool, List, [], ◌∷◌, length, slice_index, if◌then◌else◌}

-- the same of what is left of lines, at this place of the beginning of the first of them, or behind it
abbrev pub are_lines_from : (lead : List ℕ) (place : ℕ) → List ℕ → Bool
are_lines_from lead place [] = place == 0
are_lines_from lead place (x ∷ others) =
    if place == length lead then are_lines_from lead (if x == 10 then 0 else place) others
    else (((x == 32) || (x == slice_index lead place)) && are_lines_from lead (place + 1) others)

-- whether a text is whole lines, each of which begins with this lead, or with blanks in place of octets of it
abbrev pub are_lines : (lead : List ℕ) → List ℕ → Bool
are_lines lead text = are_lines_from lead 0 text
