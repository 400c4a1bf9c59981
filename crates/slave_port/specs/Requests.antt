-- The requests of a slave port, and those of them that it holds (IEEE 1588-2019, 11.3).
use Rattle.std.specs.Prelude.{ℕ, List, [], ◌∷◌, take, is_some, ◌==◌, if◌then◌else◌, Bool, Some, None}
use Rattle.pairing.specs.Marked.{Entry, entry, first_value as newest}
use Rattle.slave_port.specs.History.{Setup, Call, SetMaster, Tick, NextRequest, RequestLeft, Event, General}
use Rattle.slave_port.specs.History.{next_number}
use Rattle.slave_port.specs.Values.{RequestValue}

-- the newest request of this number, if there is one, has left at this moment
abbrev pub stamped : (number t3 : ℕ) → List (Entry RequestValue) → List (Entry RequestValue)
stamped number t3 [] = []
stamped number t3 (request ∷ others) =
    if request.number == number
    then entry number (record { t3 = Some t3; tag = request.value.tag }) ∷ others
    else request ∷ stamped number t3 others

-- the requests since the last set_master, newest first, each with the moment of the last request_left for it
abbrev pub requests : Setup → List Call → List (Entry RequestValue)
requests setup [] = []
requests setup (SetMaster master ∷ earlier) = []
requests setup (Tick ∷ earlier) = requests setup earlier
requests setup (NextRequest tag ∷ earlier) =
    entry (next_number setup earlier) (record { t3 = None; tag = tag }) ∷ requests setup earlier
requests setup (RequestLeft number t3 ∷ earlier) = stamped number t3 (requests setup earlier)
requests setup (Event heard t2 tag ∷ earlier) = requests setup earlier
requests setup (General heard tag ∷ earlier) = requests setup earlier

-- held are the last requests, as many as the port holds at most
abbrev pub held_requests : Setup → List Call → List (Entry RequestValue)
held_requests setup history = take setup.capacities.requests (requests setup history)

-- whether a request of this number is held
abbrev pub is_held : Setup → List Call → (number : ℕ) → Bool
is_held setup history number = is_some (newest number (held_requests setup history))
