-- Two slaves of one master: one is 7 ns ahead and one clock away, the other 9 ns late and three clocks away. Each cable takes 100 ns both ways; a
-- clock keeps the Sync for 1,000 ns and each Delay_Req for 3 units.
use Rattle.std.proofs.Common.{◌≡◌, pos, negsuc, refl, arith, ℕ, ℤ, List, [], ◌∷◌, ◌++◌, reverse, Some, Ok}
use Rattle.slave_port.specs.declared.heard.Heard.TheVariants as answers
use Rattle.slave_port.specs.declared.heard.Report.{Report}
use Rattle.network_model.specs.declared.event.Event.{Event}
use Rattle.network_model.specs.declared.event.Event.TheVariants.{Sync, Follow, Enter, Leave, Arrive, Hear, Request, Stamped, SetMaster, StepClock}
use Rattle.network_model.specs.declared.stepped.Outcome.TheVariants.{Heard}
use Rattle.network_model.specs.Network.{Network, NodeName}
use Rattle.network_model.specs.Outcome.{outcome_of}
use Rattle.network_model.specs.Run.{Run}
use Rattle.network_model.specs.Premises.{exact_limits, IsFreshAndTicked}
use Rattle.network_model.specs.Level.{IsLevelFor}
use Rattle.network_model.specs.TrueTime.{KnowsMaster}
use Rattle.network_model.proofs.Accepted.{IsNetwork-test, IsRun-test}
use Rattle.network_model.proofs.Short.{IsFresh-short, IsTicked-short}
use Rattle.network_model.proofs.Worked.{master, slave_of, clock, m_config, s_config, b_config, m, s, t, a, b, at}

-- a second slave, and two clocks more
abbrev z : NodeName
z = 90 ∷ []

abbrev network : Network
network = master m m_config 0 ∷ slave_of s s_config ∷ slave_of z b_config ∷ clock t ∷ clock a ∷ clock b ∷ []

-- the Sync goes to one slave through a clock, and on through two more to the other
abbrev sync_out : List Event
sync_out =
    StepClock s (pos 458752) ∷ StepClock z (negsuc 589823) ∷ SetMaster s m ∷ SetMaster z m ∷ Sync m (at 1 0 0)
    ∷ Enter t 4 (at 1 100 0) ∷ Leave t 5 (at 1 1100 0) ∷ Arrive s 6 (at 1 1200 0)
    ∷ Enter a 6 (at 1 1200 0) ∷ Leave a 8 (at 1 2200 0) ∷ Enter b 9 (at 1 2300 0) ∷ Leave b 10 (at 1 3300 0)
    ∷ Arrive z 11 (at 1 3400 0) ∷ Follow m ∷ Hear s 13 ∷ Hear z 13 ∷ []

abbrev near_back : List Event
near_back = Request s (at 2 0 0) ∷ Enter t 16 (at 2 100 0) ∷ Leave t 17 (at 2 100 3) ∷ Arrive m 18 (at 2 200 3) ∷ Stamped s ∷ []

abbrev far_back : List Event
far_back =
    Request z (at 2 0 0) ∷ Enter b 22 (at 2 100 0) ∷ Leave b 23 (at 2 100 3) ∷ Enter a 24 (at 2 200 3) ∷ Leave a 25 (at 2 200 6)
    ∷ Enter t 26 (at 2 300 6) ∷ Leave t 27 (at 2 300 9) ∷ Arrive m 28 (at 2 400 9) ∷ Stamped z ∷ []

abbrev near_run : Run
near_run = reverse (sync_out ++ near_back)

abbrev far_run : Run
far_run = reverse (sync_out ++ near_back ++ Hear s 19 ∷ far_back)

abbrev report : ℤ → ℤ → (sync_tag follow_tag request_tag response_tag : ℕ) → Report
report offset2 path2 sync_tag follow_tag request_tag response_tag = record {
  offset2 = offset2;
  path2 = path2;
  sync_tag = sync_tag;
  follow_tag = Some follow_tag;
  request_tag = request_tag;
  response_tag = response_tag;
}

abbrev near_report : Report
near_report = report (pos 917504) (pos 26214400) 7 14 16 21

abbrev far_report : Report
far_report = report (negsuc 1179647) (pos 52428800) 12 15 22 31

near_reports : outcome_of network near_run (Hear s 19) ≡ Ok (Heard (answers.Report near_report))
near_reports = refl

far_reports : outcome_of network far_run (Hear z 29) ≡ Ok (Heard (answers.Report far_report))
far_reports = refl

-- the run with both reports meets the premises
abbrev whole : Run
whole = Hear z 29 ∷ far_run

fresh_and_ticked : IsFreshAndTicked exact_limits network whole
fresh_and_ticked = record {
  apart = IsNetwork-test network refl refl;
  accepted = IsRun-test network whole refl;
  fresh = IsFresh-short 32768 network whole (omega arith);
  ticked = IsTicked-short 16384 whole (omega arith);
}

-- each cable takes 100 ns both ways, and both requests went back over the cables of the Sync
near_is_level : IsLevelFor whole near_report
near_is_level = record { there = _; back = _; sync = refl; request = refl; steady = refl; even = refl; goes_back = (refl, (refl, tt)) }

far_is_level : IsLevelFor whole far_report
far_is_level = record {
  there = _;
  back = _;
  sync = refl;
  request = refl;
  steady = refl;
  even = refl;
  goes_back = (refl, (refl, (refl, (refl, tt))));
}

-- so both know the master's clock at the moment 3 s
near_knows : KnowsMaster whole s m near_report (at 3 0 0)
near_knows = refl

far_knows : KnowsMaster whole z m far_report (at 3 0 0)
far_knows = refl
