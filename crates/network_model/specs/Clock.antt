-- Clocks (IEEE 1588-2019, 7.2): each is ahead of the true time by as much as it was last stepped to.
use Rattle.std.specs.Prelude.{ℕ, ℤ, pos, ◌+ℤ◌, [], ◌∷◌, if◌then◌else◌, Option, unwrap_or, option_map, option_and_then}
use Rattle.ptp_units.specs.Moment.{moment_of}
use Rattle.network_model.specs.Network.{NodeName, is_named}
use Rattle.network_model.specs.Run.{Run, Place, site_of, true_moment}
use Rattle.network_model.specs.Kinds.{named_difference}

-- how far a node's clock is ahead of the true time, after these events; 0 where it was never stepped
abbrev pub difference : NodeName → Run → ℤ
difference node [] = pos 0
difference node (event ∷ earlier) =
    if is_named (site_of event) node then unwrap_or (named_difference event) (difference node earlier)
    else difference node earlier

-- what a node's clock shows at a true moment
abbrev pub clock_shows : NodeName → Run → ℕ → ℤ
clock_shows node run at = pos at +ℤ difference node run

-- what the clock shows at an event that has a true moment
abbrev pub shown_at : Place → Option ℤ
shown_at p = option_map (clock_shows (site_of p.event) p.earlier) (true_moment p.event)

-- the reading at an event, which is a moment at each accepted event that has a true moment
abbrev pub reading_of : Place → Option ℕ
reading_of p = option_and_then moment_of (shown_at p)

-- the same as a number
abbrev pub reading : Place → ℕ
reading p = unwrap_or (reading_of p) 0
