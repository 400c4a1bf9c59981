-- One-step Syncs: an exchange with one, through a clock; corrections that are too big and not; and numbers of both kinds of Sync.
use Rattle.std.proofs.Common.{◌≡◌, ℕ, pos, refl, arith, List, [], ◌∷◌, reverse, take, inr, None, Some, Ok}
use Rattle.ptp_units.specs.Moment.{stamp}
use Rattle.event_codec.specs.declared.message.Body.TheVariants.{Sync as SyncBody}
use Rattle.event_codec.specs.Correction.{with_correction}
use Rattle.event_codec.specs.Packet.{Contents}
use Rattle.event_codec.specs.Profile.{header_of}
use Rattle.master_port.specs.Written.{follow_up}
use Rattle.slave_port.specs.Written.{delay_req}
use Rattle.slave_port.specs.declared.heard.Heard.TheVariants as answers
use Rattle.slave_port.specs.declared.heard.Report.{Report}
use Rattle.slave_port.specs.declared.reason.Reason.TheVariants.{TooBig}
use Rattle.network_model.specs.declared.event.Event.{Event}
use Rattle.network_model.specs.declared.event.Event.TheVariants.{Sync, SyncOne, Follow, Enter, Leave, Arrive, Hear, Request, Stamped, SetMaster, StepClock}
use Rattle.network_model.specs.declared.stepped.Outcome.TheVariants.{Done, Made, Entered, Heard}
use Rattle.network_model.specs.Run.{Run, Place, place}
use Rattle.network_model.specs.Journey.{Journey}
use Rattle.network_model.specs.Truth.{copy_of}
use Rattle.network_model.specs.Premises.{exact_limits, IsFreshAndTicked}
use Rattle.network_model.specs.Exact.{IsOfOneSync, IsTwice}
use Rattle.network_model.specs.Evidence.{ShareDomain, HasEvidence}
use Rattle.network_model.proofs.Accepted.{IsNetwork-test, IsRun-test}
use Rattle.network_model.proofs.Short.{IsFresh-short, IsTicked-short}
use Rattle.network_model.proofs.Worked.{small_network, m_config, s_config, m, s, t, at, answers_after}

-- the slave is 1,000 ns ahead, and the Sync leaves a quarter of a nanosecond past the second
abbrev exchange : List Event
exchange =
    StepClock s (pos 65536000) ∷ SetMaster s m ∷ SyncOne m (at 1 0 16384) ∷ Enter t 2 (at 1 500 0) ∷ Leave t 3 (at 1 2500 0)
    ∷ Arrive s 4 (at 1 3000 0) ∷ Request s (at 2 0 0) ∷ Enter t 6 (at 2 500 0) ∷ Leave t 7 (at 2 4000 16384)
    ∷ Arrive m 8 (at 2 4500 16384) ∷ Stamped s ∷ Hear s 9 ∷ []

-- the first so many events
abbrev after : ℕ → Run
after n = reverse (take n exchange)

abbrev report : Report
report = record {
  offset2 = pos 131055616;
  path2 = pos 131055616;
  sync_tag = 5;
  follow_tag = None;
  request_tag = 6;
  response_tag = 11;
}

outcomes : answers_after small_network [] exchange
    ≡ Ok Done ∷ Ok Done ∷ Ok Made ∷ Ok Entered ∷ Ok Made ∷ Ok (Heard answers.Completed) ∷ Ok Made ∷ Ok Entered ∷ Ok Made
    ∷ Ok Made ∷ Ok Done ∷ Ok (Heard (answers.Report report)) ∷ []
outcomes = refl

-- the one-step Sync of a number and a moment 1 s, with this correction
abbrev one_step : ℕ → ℕ → Contents
one_step number correction = record {
  header = header_of m_config (0 ∷ 0 ∷ []) (pos correction) number 0 (pos 0);
  body = SyncBody (stamp 1 0);
  suffix = [];
}

-- it carries the fraction, to which the clock adds 2,000 ns
drawn_sync : copy_of small_network (after 12) 2 ≡ Some (one_step 0 16384)
drawn_sync = refl

forwarded_sync : copy_of small_network (after 12) 4 ≡ Some (one_step 0 131088384)
forwarded_sync = refl

abbrev arrival : Place
arrival = place (Arrive s 4 (at 1 3000 0)) (after 5)

abbrev journey : Journey
journey = record {
  origin = place (SyncOne m (at 1 0 16384)) (after 2);
  stays = record { entered = place (Enter t 2 (at 1 500 0)) (after 3); left = place (Leave t 3 (at 1 2500 0)) (after 4) } ∷ [];
}

-- the report is of one Sync, and asks for no Follow_Up
of_one_sync : IsOfOneSync (after 12) s report
of_one_sync = record {
  master = m;
  arrival = arrival;
  journey = journey;
  present = record {
    set = place (SetMaster s m) (after 1);
    last = refl;
    named = refl;
    later = record { sync = omega arith; follow = tt; request = omega arith; response = omega arith };
  };
  sync = record {
    arrives = record { copy = 4; moment = at 1 3000 0; there = refl; event = refl; journey_is = refl };
    departure = refl;
  };
}

abbrev request_arrival : Place
request_arrival = place (Arrive m 8 (at 2 4500 16384)) (after 9)

abbrev request_journey : Journey
request_journey = record {
  origin = place (Request s (at 2 0 0)) (after 6);
  stays = record { entered = place (Enter t 6 (at 2 500 0)) (after 7); left = place (Leave t 7 (at 2 4000 16384)) (after 8) } ∷ [];
}

-- and exact, the quarter of a nanosecond included
exact : IsTwice arrival journey request_arrival request_journey report
exact = record {
  a = pos 131055616;
  b = pos 0;
  of_sync = record { arrived = pos (at 1 4000 0); left = pos (at 1 0 16384); arrival_shown = refl; departure_shown = refl; value = refl };
  of_request = record {
    arrived = pos (at 2 4500 16384);
    left = pos (at 2 1000 0);
    arrival_shown = refl;
    departure_shown = refl;
    value = refl;
  };
  offset = refl;
  path = refl;
}

-- the run meets the premises
fresh_and_ticked : IsFreshAndTicked exact_limits small_network (after 12)
fresh_and_ticked = record {
  apart = IsNetwork-test small_network refl refl;
  accepted = IsRun-test small_network (after 12) refl;
  fresh = IsFresh-short 32768 small_network (after 12) (omega arith);
  ticked = IsTicked-short 16384 (after 12) (omega arith);
}

-- master and slave are of one domain
one_domain : ShareDomain small_network s m
one_domain = record {
  own = record { config = s_config; first = 0 };
  other = record { config = m_config; first = 0 };
  slave_port = refl;
  master_port = refl;
  domain = refl;
}

-- and the Sync completed when it arrived
evidence : HasEvidence small_network (place (Hear s 9) (after 11)) s report
evidence = record {
  order = record { sync = omega arith; follow = tt; response = omega arith; heard_now = inr (inr refl); request = omega arith };
  sync_used = record { p = arrival; there = refl; outcome = refl };
  follow_used = tt;
  response_completes = record { p = place (Hear s 9) (after 11); there = refl; outcome = refl };
  stamped = record {
    stamped = place (Stamped s) (after 10);
    there = refl;
    event = refl;
    done = refl;
    after_request = omega arith;
    before_response = omega arith;
    no_other = refl;
  };
  sync = record {
    arrival = arrival;
    journey = journey;
    arrives = record { copy = 4; moment = at 1 3000 0; there = refl; event = refl; journey_is = refl };
    kind = refl;
    domain = one_domain;
    small = record { message = one_step 0 131088384; arrived = refl; small = refl };
  };
  request = record {
    requested = request_journey.origin;
    there = refl;
    asked = refl;
    master = m;
    arrival = request_arrival;
    journey = request_journey;
    hears = record { hearing = place (Hear s 9) (after 11); copy = 9; there = refl; event = refl; made_by = refl };
    arrives = record { copy = 8; moment = at 2 4500 16384; there = refl; event = refl; journey_is = refl };
    drawn = refl;
    domain = one_domain;
    small = record {
      message = with_correction (delay_req s_config 0) (record { 0 = pos 229392384 });
      arrived = refl;
      small = refl;
    };
  };
  present = refl;
  one_master = refl;
}

-- a one-step Sync that left at the greatest fraction, and stays in a clock for almost too long
abbrev long_stay : ℕ → List Event
long_stay fraction =
    SetMaster s m ∷ SyncOne m (at 0 0 65535) ∷ Enter t 1 (at 0 0 65535) ∷ Leave t 2 (at 140737 488355327 fraction)
    ∷ Arrive s 3 (at 140738 0 0) ∷ []

too_big_is_ignored : answers_after small_network [] (long_stay 65535)
    ≡ Ok Done ∷ Ok Made ∷ Ok Entered ∷ Ok Made ∷ Ok (Heard (answers.Ignored TooBig)) ∷ []
too_big_is_ignored = refl

one_unit_less_completes : answers_after small_network [] (long_stay 65534)
    ≡ Ok Done ∷ Ok Made ∷ Ok Entered ∷ Ok Made ∷ Ok (Heard answers.Completed) ∷ []
one_unit_less_completes = refl

-- a one-step Sync takes the next number, and the two-step one before it still waits
abbrev both_kinds : Run
both_kinds = Follow m ∷ SyncOne m (at 1 0 0) ∷ Sync m (at 0 0 0) ∷ []

one_step_number : copy_of small_network both_kinds 1 ≡ Some (one_step 1 0)
one_step_number = refl

follow_up_number : copy_of small_network both_kinds 2 ≡ Some (follow_up m_config 0 0)
follow_up_number = refl
