-- Worked cases: messages that are met at two taps, in units.
use Rattle.std.proofs.Common.{◌≡◌, ℕ, ℤ, pos, negsuc, Bool, true, false, List, [], ◌∷◌, Some, None, Option, refl}
use Rattle.ptp_units.specs.Moment.{Stamp, stamp}
use Rattle.tap_crossing.specs.declared.sighting.Fields.{Fields}
use Rattle.tap_crossing.specs.declared.sighting.Kind.{Kind}
use Rattle.tap_crossing.specs.declared.sighting.Kind.TheVariants as kinds
use Rattle.tap_crossing.specs.declared.sighting.Place.{Place}
use Rattle.tap_crossing.specs.declared.sighting.Place.TheVariants as places
use Rattle.tap_crossing.specs.declared.sighting.Placed.{Placed}
use Rattle.tap_crossing.specs.declared.sighting.Sighting.{Sighting}
use Rattle.tap_crossing.specs.declared.crossing.Crossing.{Crossing}
use Rattle.tap_crossing.specs.declared.crossing.NoCrossing.TheVariants as reasons
use Rattle.tap_crossing.specs.declared.crossing.MessageOutcome.TheVariants as outcomes
use Rattle.tap_crossing.specs.Changes.{no_changes}
use Rattle.tap_crossing.specs.Open.{number_of, open_count}
use Rattle.tap_crossing.specs.Records.{records}
use Rattle.tap_crossing.specs.Told.{told}

-- the other fields, unless they change
abbrev pub alike : Fields
alike = record {
  major_sdo = 0;
  minor_sdo = 0;
  minor_version = 0;
  flags = 0 ∷ 0 ∷ [];
  specific = 0 ∷ 0 ∷ 0 ∷ 0 ∷ [];
  control = 0;
  log = pos 0;
}

-- what was met: its line, time, correction, timestamp, and whether another tells that
abbrev pub sighting : (line time : ℕ) → (correction : ℤ) → Stamp → Bool → Sighting
sighting line time correction timestamp needs_other = record {
  line = line;
  time = time;
  correction = record { 0 = correction };
  timestamp = timestamp;
  needs_other = needs_other;
  fields = alike;
}

-- a message of this number and this place
abbrev pub met_at : Kind → (number : ℕ) → Place → (line time : ℕ) → (correction : ℤ) → Stamp → Bool → Placed
met_at kind number place line time correction timestamp needs_other = record {
  kind = kind;
  number = record { 0 = number };
  place = place;
  sighting = sighting line time correction timestamp needs_other;
}

-- the same with the seconds of its timestamp
abbrev message : Kind → (number : ℕ) → Place → (line time : ℕ) → (correction : ℤ) → (seconds : ℕ) → Bool → Placed
message kind number place line time correction seconds needs_other = met_at kind number place line time correction (stamp seconds 0) needs_other

abbrev two_step : (number : ℕ) → Place → (line time : ℕ) → (correction : ℤ) → Placed
two_step number place line time correction = message kinds.Sync number place line time correction 0 true

abbrev one_step : (number : ℕ) → Place → (line time : ℕ) → (correction : ℤ) → Placed
one_step number place line time correction = message kinds.Sync number place line time correction 5 false

abbrev follow_up : (number : ℕ) → Place → (line : ℕ) → (correction : ℤ) → (seconds : ℕ) → Placed
follow_up number place line correction seconds = message kinds.Sync number place line 0 correction seconds false

-- a crossing of this number with these lines
abbrev pub crossing_of : Kind → (number time : ℕ) → (taken corrected rest : ℤ) → (first_line second_line : ℕ) → (from_line to_line : Option ℕ) → Crossing
crossing_of kind number time taken corrected rest first_line second_line from_line to_line = record {
  kind = kind;
  number = record { 0 = number };
  time = time;
  taken = taken;
  corrected = corrected;
  rest = rest;
  first_line = first_line;
  second_line = second_line;
  from_line = from_line;
  to_line = to_line;
  event_changes = no_changes;
  other_changes = no_changes;
}

-- one of 7
abbrev crossed : Kind → (time : ℕ) → (taken corrected rest : ℤ) → (first_line second_line : ℕ) → (from_line to_line : Option ℕ) → Crossing
crossed kind = crossing_of kind 7

-- a clock of two steps that tells 1 less than it should
abbrev met : List Placed
met = two_step 7 places.Second 5 4000 (pos 0) ∷ follow_up 7 places.AtFrom 4 (pos 10) 5
    ∷ two_step 7 places.First 3 1000 (pos 0) ∷ []

waits : told 256 (two_step 7 places.Second 5 4000 (pos 0)) (two_step 7 places.First 3 1000 (pos 0) ∷ []) ≡ outcomes.Waits
waits = refl

of_two_steps : told 256 (follow_up 7 places.AtTo 6 (pos 2009) 5) met
    ≡ outcomes.Crossed (crossed kinds.Sync 1000 (pos 3000) (pos 1999) (pos 1001) 3 5 (Some 4) (Some 6))
of_two_steps = refl

-- the lines of the second tap come first
in_another_order : told 256 (two_step 7 places.First 5 1000 (pos 0)) (follow_up 7 places.AtFrom 6 (pos 10) 5
    ∷ follow_up 7 places.AtTo 4 (pos 2009) 5 ∷ two_step 7 places.Second 3 4000 (pos 0) ∷ [])
    ≡ outcomes.Crossed (crossed kinds.Sync 1000 (pos 3000) (pos 1999) (pos 1001) 5 3 (Some 6) (Some 4))
in_another_order = refl

-- a clock of one step, which makes a two-step Sync none; what isn't needed counts nowhere
of_one_step : told 256 (one_step 7 places.Second 5 4000 (pos 2004)) (follow_up 7 places.AtFrom 4 (pos 10) 6
    ∷ one_step 7 places.First 3 1000 (pos 4) ∷ [])
    ≡ outcomes.Crossed (crossed kinds.Sync 1000 (pos 3000) (pos 2000) (pos 1000) 3 5 None None)
of_one_step = refl

-- a clock of two steps behind a master of one step: its Follow_Up counts whole
of_one_step_at_from : told 256 (follow_up 7 places.AtTo 6 (pos 2010) 5) (two_step 7 places.Second 5 4000 (pos 4)
    ∷ one_step 7 places.First 3 1000 (pos 4) ∷ [])
    ≡ outcomes.Crossed (record (crossed kinds.Sync 1000 (pos 3000) (pos 2010) (pos 990) 3 5 None (Some 6))
    { event_changes = record no_changes { timestamp = true } })
of_one_step_at_from = refl

of_two_steps_at_from_alone : told 256 (one_step 7 places.Second 5 4000 (pos 4)) (two_step 7 places.First 3 1000 (pos 4) ∷ [])
    ≡ outcomes.Closed reasons.TwoStepAtFromAlone
of_two_steps_at_from_alone = refl

another_timestamp : told 256 (follow_up 7 places.AtTo 6 (pos 2009) 6) met ≡ outcomes.Closed reasons.OtherTimestamp
another_timestamp = refl

too_big : told 256 (follow_up 7 places.AtTo 6 (pos 9223372036854775807) 6) met ≡ outcomes.Closed reasons.TooBig
too_big = refl

-- the same message with these fields
abbrev with_fields : Fields → Placed → Placed
with_fields fields p = record p { sighting = record p.sighting { fields = fields } }

-- a clock that sets a flag and a log interval in its Sync, and puts its Follow_Up into another sdoId
of_other_fields : told 256 (with_fields (record alike { minor_sdo = 1 }) (follow_up 7 places.AtTo 6 (pos 2009) 5))
    (with_fields (record alike { flags = 4 ∷ 0 ∷ []; log = negsuc 0 }) (two_step 7 places.Second 5 4000 (pos 0))
    ∷ follow_up 7 places.AtFrom 4 (pos 10) 5 ∷ two_step 7 places.First 3 1000 (pos 0) ∷ [])
    ≡ outcomes.Crossed (record (crossed kinds.Sync 1000 (pos 3000) (pos 1999) (pos 1001) 3 5 (Some 4) (Some 6)) {
      event_changes = record no_changes { flags = true; log = true };
      other_changes = record no_changes { sdo = true };
    })
of_other_fields = refl

-- the second tap's clock is behind: what was taken is below 0
behind : told 256 (one_step 7 places.Second 5 400 (pos 0)) (one_step 7 places.First 3 1000 (pos 0) ∷ [])
    ≡ outcomes.Crossed (crossed kinds.Sync 1000 (negsuc 599) (pos 0) (negsuc 599) 3 5 None None)
behind = refl

-- a Sync that comes again before its record closes
again : told 256 (two_step 7 places.Second 6 4001 (pos 0)) met ≡ outcomes.Spoils
again = refl

spoiled : told 256 (follow_up 7 places.AtTo 7 (pos 2009) 5) (two_step 7 places.Second 6 4001 (pos 0) ∷ met)
    ≡ outcomes.IsSpoiled
spoiled = refl

-- and behind it: another record is opened, which doesn't close
after_it_closed : told 256 (two_step 7 places.Second 7 4001 (pos 0)) (follow_up 7 places.AtTo 6 (pos 2009) 5 ∷ met)
    ≡ outcomes.Waits
after_it_closed = refl

-- where one record counts, that of another number is in its stead
out_of_the_last : told 1 (follow_up 7 places.AtTo 6 (pos 2009) 5) (two_step 8 places.First 6 5000 (pos 0) ∷ met)
    ≡ outcomes.Waits
out_of_the_last = refl

another_number : told 2 (follow_up 7 places.AtTo 6 (pos 2009) 5) (two_step 8 places.First 6 5000 (pos 0) ∷ met)
    ≡ outcomes.Crossed (crossed kinds.Sync 1000 (pos 3000) (pos 1999) (pos 1001) 3 5 (Some 4) (Some 6))
another_number = refl

-- a Delay_Req of the same number, which goes the other way: its Delay_Resp comes from `from` to `to`
abbrev request : Place → (line time : ℕ) → (correction : ℤ) → Placed
request place line time correction = message kinds.DelayReq 7 place line time correction 0 true

abbrev response : Place → (line : ℕ) → (correction : ℤ) → Placed
response place line correction = message kinds.DelayReq 7 place line 0 correction 5 false

of_a_request : told 1 (response places.AtTo 10 (pos 1500)) (response places.AtFrom 9 (pos 0)
    ∷ request places.Second 8 9000 (pos 100) ∷ request places.First 7 7000 (pos 0) ∷ met)
    ≡ outcomes.Crossed (crossed kinds.DelayReq 7000 (pos 2000) (pos 1600) (pos 400) 7 8 (Some 9) (Some 10))
of_a_request = refl

-- how many records of Syncs are open that were met at `from` alone, with their Follow_Ups
abbrev lost : List Placed → ℕ
lost all = open_count (number_of (record { first = true; second = false; at_from = true; at_to = false }))
    (records 256 kinds.Sync all)

-- two Syncs that never came to `to`, between one that did and one that came twice
two_are_lost : lost (follow_up 9 places.AtFrom 10 (pos 0) 5 ∷ two_step 9 places.First 9 3000 (pos 0)
    ∷ two_step 8 places.First 8 2001 (pos 0) ∷ follow_up 8 places.AtFrom 7 (pos 0) 5 ∷ two_step 8 places.First 6 2000 (pos 0)
    ∷ follow_up 7 places.AtTo 6 (pos 2009) 5 ∷ follow_up 6 places.AtFrom 2 (pos 0) 5 ∷ two_step 6 places.First 1 0 (pos 0)
    ∷ met) ≡ 2
two_are_lost = refl

-- one that went out of those that count stays lost
lost_and_gone : open_count 5 (records 1 kinds.Sync (follow_up 6 places.AtTo 6 (pos 0) 5 ∷ two_step 7 places.First 3 1000 (pos 0)
    ∷ follow_up 6 places.AtFrom 2 (pos 0) 5 ∷ two_step 6 places.First 1 0 (pos 0) ∷ [])) ≡ 1
lost_and_gone = refl
