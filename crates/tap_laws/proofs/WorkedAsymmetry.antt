-- A worked case: the report of a slave behind a clock, and the crossings of its Sync and its Delay_Req between the ports of master and
-- slave, which one clock stamps that is 100 ns ahead.
use Rattle.std.proofs.Common.{◌≡◌, ℕ, ℤ, ◌*◌, pos, negsuc, ◌+ℤ◌, ◌-ℤ◌, Bool, true, false, refl, arith, rules, Some}
use Rattle.ptp_units.specs.Moment.{Stamp, stamp}
use Rattle.slave_port.specs.declared.heard.Report.{Report}
use Rattle.network_model.specs.declared.event.Event.TheVariants.{Sync, Arrive, Request, Hear}
use Rattle.network_model.specs.Run.{Place}
use Rattle.network_model.specs.Clock.{difference}
use Rattle.network_model.specs.Premises.{IsFreshAndTickedFor, exact_limits}
use Rattle.network_model.specs.Reported.{ReportedIn}
use Rattle.network_model.specs.TrueTime.{twice}
use Rattle.network_model.proofs.Accepted.{IsNetwork-test}
use Rattle.network_model.proofs.Reach.{for_slave}
use Rattle.network_model.proofs.Short.{IsFresh-short, IsTicked-short}
use Rattle.network_model.proofs.Worked.{m, s, at}
use Rattle.tap_crossing.specs.declared.sighting.Kind.TheVariants as kinds
use Rattle.tap_crossing.specs.declared.sighting.Place.TheVariants as places
use Rattle.tap_crossing.specs.declared.sighting.Sighting.{Sighting}
use Rattle.tap_crossing.specs.declared.places.Places.{Places}
use Rattle.tap_crossing.specs.declared.crossing.Crossing.{Crossing}
use Rattle.tap_crossing.proofs.Worked.{met_at, sighting as seen}
use Rattle.tap_laws.specs.Asymmetry.{IsCrossingOn}
use Rattle.tap_laws.proofs.Asymmetry.{shows_asymmetry}
use Rattle.tap_laws.proofs.Worked.{network, run, accepted, event, rests, whole, ways, way_there, way_back, evenly_moved, it_tells}

premise : IsFreshAndTickedFor exact_limits network s run
premise = for_slave exact_limits network s run (record {
  apart = IsNetwork-test network refl refl;
  accepted = accepted;
  fresh = IsFresh-short 32768 network run (omega arith);
  ticked = IsTicked-short 16384 run (omega arith);
})

-- 1,400 ns less 2,619 ns, and their sum
abbrev report : Report
report = record {
  offset2 = negsuc 79888383;
  path2 = pos (4019 * 65536);
  sync_tag = 4;
  follow_tag = Some 6;
  request_tag = 7;
  response_tag = 12;
}

abbrev reported : ReportedIn network run s report
reported = record { answered = event (Hear s 10) 12; there = refl; site = refl; reports = refl }

abbrev sighting : (line time correction : ℕ) → Stamp → Bool → Sighting
sighting line time correction = seen line time (pos (correction * 65536))

abbrev sync_met : Places
sync_met = record {
  first = Some (sighting 5 (at 1795329064 941753992 0) 0 (stamp 0 0) true);
  second = Some (sighting 1 (at 1795329064 941800693 0) 0 (stamp 0 0) true);
  at_from = Some (sighting 6 (at 1795329064 941770000 0) 0 (stamp 1795329064 941753892) false);
  at_to = Some (sighting 2 (at 1795329064 941818117 0) 45301 (stamp 1795329064 941753892) false);
}

abbrev request_met : Places
request_met = record {
  first = Some (sighting 3 (at 1795329064 967344715 0) 0 (stamp 0 0) true);
  second = Some (sighting 7 (at 1795329064 967377351 0) 0 (stamp 0 0) true);
  at_from = Some (sighting 8 (at 1795329064 967377500 0) 0 (stamp 1795329064 967377251) false);
  at_to = Some (sighting 4 (at 1795329064 967395339 0) 30017 (stamp 1795329064 967377251) false);
}

abbrev sync : Crossing
sync = rests kinds.Sync 7 (at 1795329064 941753992 0) 45301 1400 5 1 6 2

abbrev request : Crossing
request = rests kinds.DelayReq 0 (at 1795329064 967344715 0) 30017 2619 3 7 8 4

abbrev sent : Place
sent = event (Sync m (at 1795329064 941753892 0)) 1

abbrev arrived : Place
arrived = event (Arrive s 3 (at 1795329064 941800593 0)) 4

abbrev asked : Place
asked = event (Request s (at 1795329064 967344615 0)) 7

abbrev answered : Place
answered = event (Arrive m 9 (at 1795329064 967377251 0)) 10

abbrev ahead : ℤ
ahead = pos (100 * 65536)

there : IsCrossingOn network run ahead ahead sent arrived (ways 0) sync
there = record {
  general = 5;
  moved = (whole 0).moved;
  even = evenly_moved 0;
  met = sync_met;
  last = met_at kinds.Sync 7 places.AtFrom 6 (at 1795329064 941770000 0) (pos 0) (stamp 1795329064 941753892) false;
  there = refl;
  way = way_there;
  are = record { first = it_tells refl (search rules); second = it_tells refl (search rules); at_from = it_tells refl (search rules); at_to = it_tells refl (search rules) };
  tapped = record { first = refl; second = refl };
  crossed = refl;
}

back : IsCrossingOn network run ahead ahead asked answered (ways 1) request
back = record {
  general = 10;
  moved = (whole 1).moved;
  even = evenly_moved 1;
  met = request_met;
  last = met_at kinds.DelayReq 0 places.AtFrom 8 (at 1795329064 967377500 0) (pos 0) (stamp 1795329064 967377251) false;
  there = refl;
  way = way_back;
  are = record { first = it_tells refl (search rules); second = it_tells refl (search rules); at_from = it_tells refl (search rules); at_to = it_tells refl (search rules) };
  tapped = record { first = refl; second = refl };
  crossed = refl;
}

-- both clocks show true time, so the offset is off by all of it, twice: 1,400 ns less 2,619 ns
off_by_half : report.offset2 ≡ twice (difference s run -ℤ difference m run) +ℤ (pos (1400 * 65536) -ℤ pos (2619 * 65536))
off_by_half = shows_asymmetry.offset network run s m report ahead sent arrived asked answered (ways 0) (ways 1) sync request
    premise refl reported refl refl refl refl refl there back
