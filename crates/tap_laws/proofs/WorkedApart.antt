-- Worked cases: what rests of a clock where a premise is missing.
use Rattle.std.proofs.Common.{◌≡◌, ℕ, ◌*◌, ◌+◌, pos, refl, List, [], ◌∷◌, reverse, take, Option, Some, None, rules}
use Rattle.ptp_units.specs.Moment.{stamp}
use Rattle.ptp_units.specs.Sequence.{of_count}
use Rattle.event_codec.specs.declared.message.Body.TheVariants as bodies
use Rattle.event_codec.specs.Packet.{Contents}
use Rattle.network_model.specs.declared.event.Event.{Event}
use Rattle.network_model.specs.declared.event.Event.TheVariants.{SyncOne, Enter, Leave}
use Rattle.network_model.specs.Run.{Run, place}
use Rattle.network_model.specs.Outcome.{IsRun}
use Rattle.network_model.proofs.Accepted.{IsRun-test}
use Rattle.network_model.proofs.Worked.{m, t, a, m_config, at}
use Rattle.tap_crossing.specs.declared.sighting.Kind.TheVariants as kinds
use Rattle.tap_crossing.specs.declared.sighting.Tap.TheVariants as taps
use Rattle.tap_crossing.specs.declared.sighting.Placed.{Placed}
use Rattle.tap_crossing.specs.declared.crossing.NoCrossing.TheVariants as reasons
use Rattle.tap_crossing.specs.declared.crossing.MessageOutcome.{MessageOutcome}
use Rattle.tap_crossing.specs.declared.crossing.MessageOutcome.TheVariants as outcomes
use Rattle.tap_crossing.proofs.Worked.{crossing_of}
use Rattle.tap_laws.specs.Told.{Passage, Tells}
use Rattle.tap_laws.specs.Lines.{Met, EachIs, AreApart, IsReadAt, by_passages, own, waiting, newest_of}
use Rattle.tap_laws.proofs.Worked.{message, line, watched, network, outcomes_of, none_moved, it_tells}

-- a one-step Sync that leaves the master at 1.000000001 s
abbrev sync : (number correction : ℕ) → Contents
sync number correction = message m_config.identity 0 number 0 correction (bodies.Sync (stamp 1 1))

-- a Sync of which so many nanoseconds rest
abbrev crossed : (first_line second_line first taken corrected : ℕ) → (rest : ℕ) → Option MessageOutcome
crossed first_line second_line first taken corrected rest = Some (outcomes.Crossed
    (crossing_of kinds.Sync 7 (at 1 first 0) (pos (taken * 65536)) (pos (corrected * 65536)) (pos (rest * 65536)) first_line second_line None None))

-- all that the law asks of a line, but that its passage is a stay in the clock
abbrev IsRead : Run → Passage → ℕ → Placed → Type 0
IsRead run p n message = Tells network run p message.place message.sighting × IsReadAt p message.place message.sighting.time

-- A copy enters a clock twice, and leaves of the second stay. Where the first Enter is told and the second isn't, what the copy
-- was late to enter again rests: 1,000 ns.
abbrev twice_events : List Event
twice_events = SyncOne m (at 1 1 0) ∷ Enter t 0 (at 1 701 0) ∷ Enter t 0 (at 1 1701 0) ∷ Leave t 2 (at 1 5701 0) ∷ []

abbrev twice_after : ℕ → Run
twice_after n = reverse (take n twice_events)

twice_accepted : IsRun network (twice_after 4)
twice_accepted = IsRun-test network (twice_after 4) refl

abbrev entered_twice : List Met
entered_twice = line taps.To 2 (at 1 5701 0) (sync 7 4000) 0 ∷ line taps.From 1 (at 1 701 0) (sync 7 0) 0 ∷ []

abbrev first_and_last : Passage
first_and_last = record {
  first = place (Enter t 0 (at 1 701 0)) (twice_after 1);
  second = place (Leave t 2 (at 1 5701 0)) (twice_after 3);
  general = 0;
  moved = none_moved;
}

twice_told : EachIs (IsRead (twice_after 4) first_and_last) watched entered_twice
twice_told = ((it_tells refl (search rules), refl), ((it_tells refl (search rules), refl), tt))

twice_apart : AreApart watched entered_twice
twice_apart = (refl, (refl, tt))

twice_rests : outcomes_of entered_twice ≡ crossed 1 2 701 5000 4000 1000 ∷ Some outcomes.Waits ∷ []
twice_rests = refl

-- A copy of the Sync goes round the clock: it enters another one 300 ns later, and is met behind that. The 300 ns rest.
abbrev round_events : List Event
round_events = SyncOne m (at 1 1 0) ∷ Enter t 0 (at 1 701 0) ∷ Enter a 0 (at 1 1001 0) ∷ Leave a 2 (at 1 6001 0) ∷ []

abbrev round_after : ℕ → Run
round_after n = reverse (take n round_events)

round_accepted : IsRun network (round_after 4)
round_accepted = IsRun-test network (round_after 4) refl

abbrev went_round : List Met
went_round = line taps.To 2 (at 1 6001 0) (sync 7 5000) 0 ∷ line taps.From 1 (at 1 701 0) (sync 7 0) 0 ∷ []

abbrev round_told_by : Passage
round_told_by = record {
  first = place (Enter t 0 (at 1 701 0)) (round_after 1);
  second = place (Leave a 2 (at 1 6001 0)) (round_after 3);
  general = 0;
  moved = none_moved;
}

round_told : EachIs (IsRead (round_after 4) round_told_by) watched went_round
round_told = ((it_tells refl (search rules), refl), ((it_tells refl (search rules), refl), tt))

round_apart : AreApart watched went_round
round_apart = (refl, (refl, tt))

round_rests : outcomes_of went_round ≡ crossed 1 2 701 5300 5000 300 ∷ Some outcomes.Waits ∷ []
round_rests = refl

-- A Sync 65,536 later has the same number. Where it enters while the first is inside, and of the first only the Enter is met,
-- and of the second only the Leave, they are taken for one.
same_number : of_count (7 + 65536) ≡ 7
same_number = refl

abbrev two_step : (correction : ℕ) → Contents
two_step correction = message m_config.identity 2 7 0 correction (bodies.Sync (stamp 0 0))

abbrev follow_up : Contents
follow_up = message m_config.identity 0 7 2 0 (bodies.FollowUp (stamp 1 1))

abbrev first_enters : List Met
first_enters = line taps.From 2 (at 1 900 0) follow_up 0 ∷ line taps.From 1 (at 1 701 0) (two_step 0) 0 ∷ []

abbrev same_again : List Met
same_again = line taps.To 4 (at 1 9801 0) follow_up 0 ∷ line taps.To 3 (at 1 9701 0) (two_step 4000) 1 ∷ first_enters

again_rests : outcomes_of same_again
    ≡ Some (outcomes.Crossed (crossing_of kinds.Sync 7 (at 1 701 0) (pos (9000 * 65536)) (pos (4000 * 65536)) (pos (5000 * 65536)) 1 3 (Some 2) (Some 4)))
    ∷ Some outcomes.Waits ∷ Some outcomes.Waits ∷ Some outcomes.Waits ∷ []
again_rests = refl

-- the second finds a record that isn't its own, and has none
not_its_own : waiting (newest_of 7 (take 256 (by_passages watched kinds.Sync first_enters))) ≡ Some 0
not_its_own = refl

none_of_its_own : own 1 7 (by_passages watched kinds.Sync first_enters) ≡ None
none_of_its_own = refl

-- of one-step Syncs the timestamps tell them apart: the record closes without a crossing
apart_by_timestamp : outcomes_of (line taps.To 2 (at 1 9701 0) (message m_config.identity 0 7 0 4000 (bodies.Sync (stamp 1 9000))) 1
    ∷ line taps.From 1 (at 1 701 0) (sync 7 0) 0 ∷ []) ≡ Some (outcomes.Closed reasons.OtherTimestamp) ∷ Some outcomes.Waits ∷ []
apart_by_timestamp = refl
