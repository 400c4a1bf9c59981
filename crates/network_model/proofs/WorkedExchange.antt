-- One exchange through a clock: the slave's clock leads by 1,000 ns, both cables take 500 ns each way, the Sync is in the clock
-- for 2,000 ns and the Delay_Req for 3,500.25 ns.
use Rattle.std.proofs.Common.{◌≡◌, ℕ, ℤ, pos, negsuc, refl, arith, List, [], ◌∷◌, reverse, take, inr, Some, Ok}
use Rattle.ptp_units.specs.Moment.{stamp}
use Rattle.event_codec.specs.declared.message.Body.TheVariants.{DelayResp}
use Rattle.event_codec.specs.Correction.{with_correction}
use Rattle.event_codec.specs.Profile.{header_of}
use Rattle.master_port.specs.Written.{sync, follow_up}
use Rattle.slave_port.specs.Written.{delay_req}
use Rattle.slave_port.specs.declared.heard.Heard.TheVariants as answers
use Rattle.slave_port.specs.declared.heard.Report.{Report}
use Rattle.network_model.specs.declared.event.Event.{Event}
use Rattle.network_model.specs.declared.event.Event.TheVariants.{Sync, Follow, Enter, Leave, Arrive, Hear, Request, Stamped, SetMaster, StepClock}
use Rattle.network_model.specs.declared.stepped.Outcome.TheVariants.{Done, Made, Entered, Heard}
use Rattle.network_model.specs.Network.{IsNetwork}
use Rattle.network_model.specs.Run.{Run, Place, place}
use Rattle.network_model.specs.Journey.{Journey}
use Rattle.network_model.specs.Truth.{copy_of}
use Rattle.network_model.specs.Outcome.{outcome_of, IsRun}
use Rattle.network_model.specs.Premises.{exact_limits, ordered_limits, IsFreshAndTicked, IsWithinTurn}
use Rattle.network_model.specs.Exact.{OfPresentMaster, IsOfOneSync, IsOfOneRequest, IsMeasurement}
use Rattle.network_model.specs.Evidence.{ShareDomain, HasEvidence}
use Rattle.network_model.proofs.Accepted.{IsNetwork-test, IsRun-test}
use Rattle.network_model.proofs.Short.{IsFresh-short, IsTicked-short, IsWithinOneTurn-short}
use Rattle.network_model.proofs.Worked.{small_network, m_config, s_config, m, s, t, at, answers_after}

-- all but the last event, for a slave that is so far ahead and a Sync that arrives at this moment
abbrev exchange_with : ℤ → ℕ → List Event
exchange_with diff arrival =
    StepClock s diff ∷ SetMaster s m ∷ Sync m (at 1 0 0) ∷ Enter t 2 (at 1 500 0) ∷ Leave t 3 (at 1 2500 0)
    ∷ Arrive s 4 arrival ∷ Follow m ∷ Hear s 6 ∷ Request s (at 2 0 0) ∷ Enter t 8 (at 2 500 0)
    ∷ Leave t 9 (at 2 4000 16384) ∷ Arrive m 10 (at 2 4500 16384) ∷ Stamped s ∷ []

abbrev pub exchange : List Event
exchange = exchange_with (pos 65536000) (at 1 3000 0)

-- the first so many events
abbrev pub after : ℕ → Run
after n = reverse (take n exchange)

abbrev pub whole : Run
whole = Hear s 11 ∷ after 13

abbrev pub report : ℤ → ℤ → ℕ → Report
report offset2 path2 response_tag = record {
  offset2 = offset2;
  path2 = path2;
  sync_tag = 5;
  follow_tag = Some 7;
  request_tag = 8;
  response_tag = response_tag;
}

outcomes : answers_after small_network [] exchange
    ≡ Ok Done ∷ Ok Done ∷ Ok Made ∷ Ok Entered ∷ Ok Made ∷ Ok (Heard answers.Held) ∷ Ok Made ∷ Ok (Heard answers.Completed)
    ∷ Ok Made ∷ Ok Entered ∷ Ok Made ∷ Ok Made ∷ Ok Done ∷ []
outcomes = refl

-- the slave reports 2,000 ns twice, since it is 1,000 ns ahead and each way takes 1,000 ns, and at it the Delay_Resp is heard last
reports : outcome_of small_network (after 13) (Hear s 11) ≡ Ok (Heard (answers.Report (report (pos 131072000) (pos 131072000) 13)))
reports = refl

-- the Sync that left the clock
forwarded_sync : copy_of small_network whole 4 ≡ Some (with_correction (sync m_config 0) (record { 0 = pos 131072000 }))
forwarded_sync = refl

follow_up_of_sync : copy_of small_network whole 6 ≡ Some (follow_up m_config 0 (at 1 0 0))
follow_up_of_sync = refl

-- the Delay_Req that left the clock
forwarded_request : copy_of small_network whole 10 ≡ Some (with_correction (delay_req s_config 0) (record { 0 = pos 229392384 }))
forwarded_request = refl

-- the Delay_Resp: the quarter of a nanosecond is in its correction
response : copy_of small_network whole 11 ≡ Some (record {
  header = header_of m_config (0 ∷ 0 ∷ []) (pos 229376000) 0 3 (pos 0);
  body = DelayResp (stamp 2 4500) s_config.identity;
  suffix = [];
})
response = refl

-- a unit of 2^-16 ns is told, where the slave is one behind and its Sync comes one later
odd_unit_is_told : answers_after small_network (reverse (exchange_with (negsuc 0) (at 1 3000 1))) (Hear s 11 ∷ [])
    ≡ Ok (Heard (answers.Report (report (negsuc 0) (pos 131072001) 13))) ∷ []
odd_unit_is_told = refl

is_network : IsNetwork small_network
is_network = IsNetwork-test small_network refl refl

is_run : IsRun small_network whole
is_run = IsRun-test small_network whole refl

-- there are runs that meet the premises
fresh_and_ticked : IsFreshAndTicked exact_limits small_network whole
fresh_and_ticked = record {
  apart = is_network;
  accepted = is_run;
  fresh = IsFresh-short 32768 small_network whole (omega arith);
  ticked = IsTicked-short 16384 whole (omega arith);
}

-- within the limits of reports that don't go back too
ordered : IsFreshAndTicked ordered_limits small_network whole
ordered = record {
  apart = is_network;
  accepted = is_run;
  fresh = IsFresh-short 16384 small_network whole (omega arith);
  ticked = IsTicked-short 8192 whole (omega arith);
}

-- and within one turn of the numbers
within_turn : IsWithinTurn small_network whole
within_turn = record { apart = is_network; accepted = is_run; one_turn = IsWithinOneTurn-short whole (omega arith) }

-- the Sync's arrival and way, and those of the Delay_Req
abbrev sync_arrival : Place
sync_arrival = place (Arrive s 4 (at 1 3000 0)) (after 5)

abbrev sync_journey : Journey
sync_journey = record {
  origin = place (Sync m (at 1 0 0)) (after 2);
  stays = record { entered = place (Enter t 2 (at 1 500 0)) (after 3); left = place (Leave t 3 (at 1 2500 0)) (after 4) } ∷ [];
}

abbrev request_arrival : Place
request_arrival = place (Arrive m 10 (at 2 4500 16384)) (after 11)

abbrev request_journey : Journey
request_journey = record {
  origin = place (Request s (at 2 0 0)) (after 8);
  stays = record { entered = place (Enter t 8 (at 2 500 0)) (after 9); left = place (Leave t 9 (at 2 4000 16384)) (after 10) } ∷ [];
}

-- the SetMaster event that names M is before all that the report is of
present_master : OfPresentMaster whole s m (report (pos 131072000) (pos 131072000) 13)
present_master = record {
  set = place (SetMaster s m) (after 1);
  last = refl;
  named = refl;
  later = record { sync = omega arith; follow = omega arith; request = omega arith; response = omega arith };
}

abbrev of_one_sync : IsOfOneSync whole s (report (pos 131072000) (pos 131072000) 13)
of_one_sync = record {
  master = m;
  arrival = sync_arrival;
  journey = sync_journey;
  present = present_master;
  sync = record {
    arrives = record { copy = 4; moment = at 1 3000 0; there = refl; event = refl; journey_is = refl };
    departure = record {
      drawn = refl;
      follow = place (Follow m) (after 6);
      hears = record { hearing = place (Hear s 6) (after 7); copy = 6; there = refl; event = refl; made_by = refl };
      follows = refl;
      followed = refl;
    };
  };
}

abbrev of_one_request : IsOfOneRequest whole s (report (pos 131072000) (pos 131072000) 13)
of_one_request = record {
  master = m;
  arrival = request_arrival;
  journey = request_journey;
  present = present_master;
  request = record {
    requested = refl;
    drawn = refl;
    hears = record { hearing = place (Hear s 11) (after 13); copy = 11; there = refl; event = refl; made_by = refl };
    arrives = record { copy = 10; moment = at 2 4500 16384; there = refl; event = refl; journey_is = refl };
  };
}

abbrev measurement : IsMeasurement whole s (report (pos 131072000) (pos 131072000) 13)
measurement = record {
  one_sync = of_one_sync;
  one_request = of_one_request;
  exact = record {
    a = pos 131072000;
    b = pos 0;
    of_sync = record { arrived = pos (at 1 4000 0); left = pos (at 1 0 0); arrival_shown = refl; departure_shown = refl; value = refl };
    of_request = record {
      arrived = pos (at 2 4500 16384);
      left = pos (at 2 1000 0);
      arrival_shown = refl;
      departure_shown = refl;
      value = refl;
    };
    offset = refl;
    path = refl;
  };
}

-- master and slave are of one domain
one_domain : ShareDomain small_network s m
one_domain = record {
  own = record { config = s_config; first = 0 };
  other = record { config = m_config; first = 0 };
  slave_port = refl;
  master_port = refl;
  domain = refl;
}

-- the events of its tags were used, in their order
evidence : HasEvidence small_network (place (Hear s 11) (after 13)) s (report (pos 131072000) (pos 131072000) 13)
evidence = record {
  order = record {
    sync = omega arith;
    follow = omega arith;
    response = omega arith;
    heard_now = inr (inr refl);
    request = omega arith;
  };
  sync_used = record { p = sync_arrival; there = refl; outcome = refl };
  follow_used = record { p = place (Hear s 6) (after 7); there = refl; outcome = refl };
  response_completes = record { p = place (Hear s 11) (after 13); there = refl; outcome = refl };
  stamped = record {
    stamped = place (Stamped s) (after 12);
    there = refl;
    event = refl;
    done = refl;
    after_request = omega arith;
    before_response = omega arith;
    no_other = refl;
  };
  sync = record {
    arrival = sync_arrival;
    journey = sync_journey;
    arrives = of_one_sync.sync.arrives;
    kind = (
      refl,
      record {
        follow = place (Follow m) (after 6);
        hears = record { hearing = place (Hear s 6) (after 7); copy = 6; there = refl; event = refl; made_by = refl };
        event = refl;
      },
    );
    domain = one_domain;
    small = record { message = with_correction (sync m_config 0) (record { 0 = pos 131072000 }); arrived = refl; small = refl };
  };
  request = record {
    requested = request_journey.origin;
    there = refl;
    asked = refl;
    master = m;
    arrival = request_arrival;
    journey = request_journey;
    hears = of_one_request.request.hears;
    arrives = of_one_request.request.arrives;
    drawn = refl;
    domain = one_domain;
    small = record {
      message = with_correction (delay_req s_config 0) (record { 0 = pos 229392384 });
      arrived = refl;
      small = refl;
    };
  };
  present = refl;
  one_master = refl;
}
