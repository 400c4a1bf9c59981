-- Worked cases of crossings: the first Sync of a real capture at two ports of a transparent clock of two steps; and what comes out where
-- a premise is missing.
use Rattle.std.proofs.Common.{◌≡◌, ℕ, ℤ, pos, negsuc, Bool, true, false, List, [], ◌∷◌, Some, refl, arith}
use Rattle.std.specs.Prelude.{Contains}
use Rattle.ptp_units.specs.Moment.{Stamp, stamp}
use Rattle.tap_crossing.specs.declared.sighting.Fields.{Fields}
use Rattle.tap_crossing.specs.declared.sighting.Kind.TheVariants as kinds
use Rattle.tap_crossing.specs.declared.sighting.Place.{Place}
use Rattle.tap_crossing.specs.declared.sighting.Place.TheVariants as places
use Rattle.tap_crossing.specs.declared.sighting.Placed.{Placed}
use Rattle.tap_crossing.specs.declared.crossing.Crossing.{Crossing}
use Rattle.tap_crossing.specs.Changes.{no_changes}
use Rattle.tap_laws.specs.Sound.{crossings_of, IsMadeOf}
use Rattle.tap_laws.specs.Complete.{AreSingle, is_free, opened_by}
use Rattle.tap_laws.proofs.Tracks.{each_made}
use Rattle.tap_laws.proofs.Waiting.{each_complete}

-- the other fields, as they are at both taps
abbrev alike : Fields
alike = record {
  major_sdo = 0;
  minor_sdo = 0;
  minor_version = 0;
  flags = 0 ∷ 0 ∷ [];
  specific = 0 ∷ 0 ∷ 0 ∷ 0 ∷ [];
  control = 0;
  log = pos 0;
}

-- a message of a Sync with this number: its place, line, time, correction, timestamp, and whether another tells that
abbrev met_at : (number : ℕ) → Place → (line time : ℕ) → (correction : ℤ) → Stamp → Bool → Placed
met_at number place line time correction timestamp needs_other = record {
  kind = kinds.Sync;
  number = record { 0 = number };
  place = place;
  sighting = record {
    line = line;
    time = time;
    correction = record { 0 = correction };
    timestamp = timestamp;
    needs_other = needs_other;
    fields = alike;
  };
}

abbrev at_first : Placed
at_first = met_at 0 places.First 3 117679394939036587458560 (pos 0) (stamp 0 0) true

abbrev at_second : Placed
at_second = met_at 0 places.Second 6 117679394939041552990208 (pos 0) (stamp 0 0) true

abbrev at_from : Placed
at_from = met_at 0 places.AtFrom 4 117679394939038252597248 (pos 0) (stamp 1795645064 377383817) false

abbrev at_to : Placed
at_to = met_at 0 places.AtTo 7 117679394939045136302080 (pos 5203755008) (stamp 1795645064 377383817) false

abbrev messages : List Placed
messages = at_to ∷ at_second ∷ at_from ∷ at_first ∷ []

abbrev clock_sync : Crossing
clock_sync = record {
  kind = kinds.Sync;
  number = record { 0 = 0 };
  time = 117679394939036587458560;
  taken = pos 4965531648;
  corrected = pos 5203755008;
  rest = negsuc 238223359;
  first_line = 3;
  second_line = 6;
  from_line = Some 4;
  to_line = Some 7;
  event_changes = no_changes;
  other_changes = no_changes;
}

-- it keeps to the premises, so it is told
single : AreSingle kinds.Sync 0 messages
single = (λ is. refl, (λ is. refl, (λ is. refl, (λ is. refl, tt))))

is_told : Contains (crossings_of 256 messages) clock_sync
is_told =
    each_complete 256 kinds.Sync (record { 0 = 0 }) [] (at_to ∷ at_second ∷ at_from ∷ []) [] at_first clock_sync refl refl single (omega arith) refl refl

computed : crossings_of 256 messages ≡ clock_sync ∷ []
computed = refl

-- and is made of the four
is_made : IsMadeOf (each_made 256 messages).of messages 3 clock_sync
is_made = (each_made 256 messages).each [] (at_second ∷ at_from ∷ at_first ∷ []) at_to clock_sync refl refl

-- a second Sync of the number at the second tap: nobody knows which of the two came from the first tap
twice : crossings_of 256 (at_to ∷ at_second ∷ at_second ∷ at_from ∷ at_first ∷ []) ≡ []
twice = refl

-- an earlier message of the number whose record is still open: the Sync of 65,536 before, of which no more was met
not_free : is_free 256 kinds.Sync 0 (at_first ∷ []) ≡ false
not_free = refl

still_open : crossings_of 256 (at_to ∷ at_second ∷ at_from ∷ at_first ∷ at_first ∷ []) ≡ []
still_open = refl

-- as many records were opened since as count: of one alone, the next Sync pushes it out
abbrev next : Placed
next = met_at 1 places.First 8 117679395004577088536576 (pos 0) (stamp 0 0) true

too_many : opened_by 1 kinds.Sync (at_to ∷ at_second ∷ at_from ∷ next ∷ []) (at_first ∷ []) ≡ 2
too_many = refl

pushed_out : crossings_of 1 (at_to ∷ at_second ∷ at_from ∷ next ∷ at_first ∷ []) ≡ []
pushed_out = refl

kept : crossings_of 2 (at_to ∷ at_second ∷ at_from ∷ next ∷ at_first ∷ []) ≡ clock_sync ∷ []
kept = refl

-- a Follow_Up that is needed was not met
one_lacks : crossings_of 256 (at_to ∷ at_second ∷ at_first ∷ []) ≡ []
one_lacks = refl

-- the timestamp is another at the other tap
other_timestamp : crossings_of 256 (met_at 0 places.AtTo 7 117679394939045136302080 (pos 0) (stamp 1795645064 377383818) false ∷ at_second ∷ at_from ∷ at_first ∷ []) ≡ []
other_timestamp = refl
