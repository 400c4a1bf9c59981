-- A record: its places, what it needs, and what becomes of it when a message comes to it.
use Rattle.std.specs.Prelude.{Bool, ◌&&◌, Option, Some, None, is_some, option_map, option_and_then, if◌then◌else◌}
use Rattle.tap_crossing.specs.declared.sighting.Place.{Place}
use Rattle.tap_crossing.specs.declared.sighting.Place.TheVariants as places
use Rattle.tap_crossing.specs.declared.sighting.Sighting.{Sighting}
use Rattle.tap_crossing.specs.declared.places.Complete.{Complete}
use Rattle.tap_crossing.specs.declared.places.Places.{Places}
use Rattle.tap_crossing.specs.declared.places.Record.{Record}
use Rattle.tap_crossing.specs.declared.places.Record.TheVariants as records

-- nothing was met
abbrev pub no_places : Places
no_places = record { first = None; second = None; at_from = None; at_to = None }

-- what was met of a place
abbrev pub place_in : Places → Place → Option Sighting
place_in met places.First = met.first
place_in met places.Second = met.second
place_in met places.AtFrom = met.at_from
place_in met places.AtTo = met.at_to

-- the same with what was met of this place
abbrev pub with_place : Place → Sighting → Places → Places
with_place places.First s met = record met { first = Some s }
with_place places.Second s met = record met { second = Some s }
with_place places.AtFrom s met = record met { at_from = Some s }
with_place places.AtTo s met = record met { at_to = Some s }

-- what is needed of a place: nothing, or what was met of it, if that was
abbrev pub needed : Bool → Option Sighting → Option (Option Sighting)
needed is_needed place = if is_needed then option_map Some place else Some None

-- what a record needs of its Follow_Ups or Delay_Resps, beside its event messages, once it has them: that at `to` where the
-- event message at its second tap needs one, and that at `from` where both event messages do
abbrev pub complete_with : Places → (first second : Sighting) → Option Complete
complete_with met first second = option_and_then
    (λ at_from. option_map
    (λ at_to. record { first = first; second = second; at_from = at_from; at_to = at_to })
    (needed second.needs_other met.at_to))
    (needed (first.needs_other && second.needs_other) met.at_from)

-- what a record needs, once it has it
abbrev pub complete : Places → Option Complete
complete met = option_and_then
    (λ first. option_and_then (λ second. complete_with met first second) met.second)
    met.first

-- a record closes once it has what it needs
abbrev pub closed_or_open : Places → Record
closed_or_open met = if is_some (complete met) then records.Closed else records.Open met

-- what becomes of a record: a message whose place is taken spoils it
abbrev pub after : Place → Sighting → Record → Record
after place s (records.Open met) =
    if is_some (place_in met place) then records.Spoiled else closed_or_open (with_place place s met)
after place s records.Spoiled = records.Spoiled
after place s records.Closed = records.Closed
