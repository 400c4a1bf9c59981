-- Which of two taps one is, by its name.
use Rattle.std.specs.Prelude.{ℕ, Bool, true, false, not, ◌&&◌, ◌||◌, List, Option, Some, None, is_none, is_some, if◌then◌else◌}
use Rattle.std.specs.Str.{bytes_eq}
use Rattle.tap_choice.specs.declared.met.Side.{Side}
use Rattle.tap_choice.specs.declared.met.Side.TheVariants as taps
use Rattle.tap_choice.specs.declared.sides.Sides.{Sides}
use Rattle.tap_choice.specs.declared.wanted.WantedTaps.{WantedTaps}

-- the tap is known, and called so
abbrev pub is_named : Option (List ℕ) → List ℕ → Bool
is_named None name = false
is_named (Some tap) name = bytes_eq tap name

-- the taps that are asked for, before any was met
abbrev pub sides_wanted : WantedTaps → Sides
sides_wanted w = record { first = w.from; second = w.to; is_first_met = false; is_second_met = false }

-- both are
abbrev pub both_named : WantedTaps → Bool
both_named w = is_some w.from && is_some w.to

-- which of the two taps one is that was met; the first one that isn't known, where it is none of those that are; None where
-- it is a third one
abbrev pub side_of : Sides → List ℕ → Option Side
side_of s name =
    if is_named s.first name then Some taps.First
    else if is_named s.second name then Some taps.Second
    else if is_none s.first then Some taps.First
    else if is_none s.second then Some taps.Second
    else None

-- the two taps once it was met
abbrev pub sides_after : Sides → List ℕ → Sides
sides_after s name =
    if is_named s.first name then record s { is_first_met = true }
    else if is_named s.second name then record s { is_second_met = true }
    else if is_none s.first then record s { first = Some name; is_first_met = true }
    else if is_none s.second then record s { second = Some name; is_second_met = true }
    else s

-- a tap that is asked for wasn't met
abbrev pub lacks_tap : WantedTaps → Sides → Bool
lacks_tap w s = (is_some w.from && not s.is_first_met) || (is_some w.to && not s.is_second_met)
