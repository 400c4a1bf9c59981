-- True time: crossings of cables, runs whose clocks are steady, and networks that are level (IEEE 1588-2019, 7.4.2).
use Rattle.std.specs.Prelude.{◌≡◌, ℤ, pos, ◌+ℤ◌, ◌-ℤ◌, Bool, true, ◌&&◌, ◌||◌, not, List, [], ◌∷◌, ◌++◌, reverse, fold}
use Rattle.std.specs.Prelude.{Option, Some, unwrap_or, option_and_then, option_map, option_to_list, if◌then◌else◌}
use Rattle.std.specs.Prelude.{IsTrue}
use Rattle.std.specs.List.{AllZip, list_all}
use Rattle.std.specs.Ordering.{int_eq}
use Rattle.slave_port.specs.declared.heard.Report.{Report}
use Rattle.network_model.specs.Network.{is_named}
use Rattle.network_model.specs.Run.{Run, Place, place, place_at, site_of, true_moment}
use Rattle.network_model.specs.Kinds.{is_step, timed_copy, heard_copy}
use Rattle.network_model.specs.Journey.{Journey, Stay, journey_of}

-- the true moment of an event, as a signed number
abbrev pub moment_at : Place → ℤ
moment_at p = pos (unwrap_or (true_moment p.event) 0)

-- one leg of an event message: from the port or clock that it leaves to the next clock or to the port where it arrives
pub record Crossing : Type 0 where
  pub from : Place
  pub to : Place

-- from one event to another
abbrev pub crossing : Place → Place → Crossing
crossing from to = record { from = from; to = to }

-- the true time that a crossing takes
abbrev pub time_of : Crossing → ℤ
time_of c = moment_at c.to -ℤ moment_at c.from

-- two crossings start at one node and end at one node
abbrev pub is_same_direction : (from to other_from other_to : Place) → Bool
is_same_direction from to other_from other_to =
    is_named (site_of from.event) (site_of other_from.event) && is_named (site_of to.event) (site_of other_to.event)

-- two crossings go over one cable: between the same two nodes, either way
abbrev pub is_same_cable : Crossing → Crossing → Bool
is_same_cable c d = is_same_direction c.from c.to d.from d.to || is_same_direction c.from c.to d.to d.from

-- the crossing that ends at an event, where an event message comes to it
abbrev pub crossing_to : Place → Option Crossing
crossing_to p = option_and_then
    (λ copy. option_and_then
    (λ (journey : Journey). option_map (λ made. crossing made p) (place_at p.earlier copy))
    (journey_of p.earlier copy))
    (timed_copy p.event)

-- the crossings of a run, newest first: at most one an event
abbrev pub crossings_in : Run → List Crossing
crossings_in [] = []
crossings_in (event ∷ earlier) = option_to_list (crossing_to (place event earlier)) ++ crossings_in earlier

-- two crossings take one time, if they go over one cable
abbrev pub is_even : Crossing → Crossing → Bool
is_even c d = not (is_same_cable c d) || int_eq (time_of c) (time_of d)

-- no two crossings of a cable differ in time
abbrev pub are_even : List Crossing → Bool
are_even [] = true
are_even (c ∷ others) = list_all (is_even c) others && are_even others

-- the same of the crossings of a run
abbrev pub HasEvenCables : Run → Type 0
HasEvenCables run = IsTrue (are_even (crossings_in run))

-- the clocks were stepped before all else, if at all
abbrev pub is_steady : Run → Bool
is_steady [] = true
is_steady (event ∷ earlier) = if is_step event then list_all is_step earlier else is_steady earlier

-- the same as a fact
abbrev pub IsSteady : Run → Type 0
IsSteady run = IsTrue (is_steady run)

-- the crossings of a journey that ends at this event, the last one first
abbrev pub crossings_of : Place → List Stay → Place → List Crossing
crossings_of origin [] end = crossing origin end ∷ []
crossings_of origin (stay ∷ stays) end = crossing stay.left end ∷ crossings_of origin stays stay.entered

-- the path of the copy that came to an event: its crossings, the last one first
abbrev pub path_to : Place → Option (List Crossing)
path_to p = option_and_then
    (λ copy. option_map (λ journey. crossings_of journey.origin journey.stays p) (journey_of p.earlier copy))
    (timed_copy p.event)

-- the path of a report's Sync
abbrev pub sync_path : Run → Report → Option (List Crossing)
sync_path run report = option_and_then path_to (place_at run report.sync_tag)

-- the event that made the copy that is heard at an event
abbrev pub maker_heard : Place → Option Place
maker_heard p = option_and_then (place_at p.earlier) (heard_copy p.event)

-- the path of a report's Delay_Req, to the arrival that made its Delay_Resp
abbrev pub request_path : Run → Report → Option (List Crossing)
request_path run report = option_and_then path_to (option_and_then maker_heard (place_at run report.response_tag))

-- the true times that the crossings of a path take, all together
abbrev pub time_on : List Crossing → ℤ
time_on path = fold (λ total c. total +ℤ time_of c) (pos 0) path

-- a path goes back over the cables of another one
abbrev pub GoesBackOver : (path back : List Crossing) → Type 0
GoesBackOver path back = AllZip (λ c d. IsTrue (is_same_cable c d)) back (reverse path)

-- A level network, for a report: the clocks are steady, a cable takes one time whenever and whichever way it is
-- crossed, and the report's Delay_Req went back over the cables of its Sync.
pub record IsLevelFor (run : Run) (report : Report) : Type 0 where
  pub there : List Crossing
  pub back : List Crossing
  pub sync : sync_path run report ≡ Some there
  pub request : request_path run report ≡ Some back
  pub steady : IsSteady run
  pub even : HasEvenCables run
  pub goes_back : GoesBackOver there back
