-- What a watch was told of a master since that began, newest first, and what is known by it.
use Rattle.std.specs.Prelude.{ℕ, ℤ, Bool, true, false, List, [], ◌∷◌, take, Option, if◌then◌else◌}
use Rattle.pairing.specs.Marked.{Entry, entry, first_value}
use Rattle.sync_watch.specs.declared.arrival.Arrival.{Arrival}

-- a Sync or a Follow_Up: its sequenceId (IEEE 1588-2019, 7.3.7), its unicastFlag (13.3.2.8), its logMessageInterval
-- (13.3.2.14), and the moment at which it came
abbrev pub arrival : (number : ℕ) → (is_unicast : Bool) → (log : ℤ) → (time : ℕ) → Arrival
arrival number is_unicast log time =
    record { number = record { 0 = number }; is_unicast = is_unicast; log = log; time = time }

-- a Sync or a Follow_Up that a port hears
pub data Told : Type 0 where
  Sync : (arrival : Arrival) → Told
  FollowUp : (arrival : Arrival) → Told

-- it comes to those of a flag where it has this one
abbrev pub of_flag : (is_unicast : Bool) → Arrival → List (Entry ℕ) → List (Entry ℕ)
of_flag true a earlier = if a.is_unicast then entry a.number.0 a.time ∷ earlier else earlier
of_flag false a earlier = if a.is_unicast then earlier else entry a.number.0 a.time ∷ earlier

-- when the Syncs of a flag came, under their numbers, newest first
abbrev pub syncs : (is_unicast : Bool) → List Told → List (Entry ℕ)
syncs is_unicast [] = []
syncs is_unicast (Sync a ∷ earlier) = of_flag is_unicast a (syncs is_unicast earlier)
syncs is_unicast (FollowUp a ∷ earlier) = syncs is_unicast earlier

-- the same of Follow_Ups
abbrev pub follow_ups : (is_unicast : Bool) → List Told → List (Entry ℕ)
follow_ups is_unicast [] = []
follow_ups is_unicast (Sync a ∷ earlier) = follow_ups is_unicast earlier
follow_ups is_unicast (FollowUp a ∷ earlier) = of_flag is_unicast a (follow_ups is_unicast earlier)

-- when the one of a number came, where it is one of the latest
abbrev pub known : (capacity number : ℕ) → List (Entry ℕ) → Option ℕ
known capacity number entries = first_value number (take capacity entries)
