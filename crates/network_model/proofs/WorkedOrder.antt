-- Two reports of two Syncs in one window: no change of master and one tick are between the first Sync's completion and the
-- second report, so the law on the order of reports speaks of them.
use Rattle.std.proofs.Common.{◌≡◌, ℕ, pos, refl, arith, List, [], ◌∷◌, reverse, take, Some, Ok}
use Rattle.slave_port.specs.declared.heard.Heard.TheVariants as answers
use Rattle.slave_port.specs.declared.heard.Report.{Report}
use Rattle.network_model.specs.declared.event.Event.{Event}
use Rattle.network_model.specs.declared.event.Event.TheVariants.{Sync, Follow, Arrive, Hear, Request, Stamped, Tick, SetMaster}
use Rattle.network_model.specs.declared.stepped.Outcome.TheVariants.{Done, Made, Heard}
use Rattle.network_model.specs.Network.{NodeName}
use Rattle.network_model.specs.Run.{Run, place}
use Rattle.network_model.specs.Premises.{syncs_since_tick, IsTickedAt, ordered_limits, IsFreshAndTicked}
use Rattle.network_model.specs.Reported.{ReportedIn}
use Rattle.network_model.specs.Order.{completed_at, IsOneWindow, IsInOrder}
use Rattle.network_model.proofs.Accepted.{IsNetwork-test, IsRun-test}
use Rattle.network_model.proofs.Short.{IsFresh-short, IsTicked-short}
use Rattle.network_model.proofs.Reach.{for_slave}
use Rattle.network_model.proofs.Order.{reports_dont_go_back}
use Rattle.network_model.proofs.Worked.{small_network, m, s, at, answers_after}

-- an exchange, a tick, and one Sync more; each message takes 1,000 ns
abbrev events : List Event
events =
    SetMaster s m ∷ Sync m (at 1 0 0) ∷ Arrive s 1 (at 1 1000 0) ∷ Follow m ∷ Hear s 3 ∷ Request s (at 2 0 0) ∷ Stamped s
    ∷ Arrive m 5 (at 2 1000 0) ∷ Hear s 7 ∷ Tick s ∷ Sync m (at 3 0 0) ∷ Arrive s 10 (at 3 1000 0) ∷ Follow m ∷ Hear s 12 ∷ []

-- the first so many events
abbrev after : ℕ → Run
after n = reverse (take n events)

abbrev whole : Run
whole = after 14

-- both reports are of the one Delay_Req
abbrev report : (sync_tag follow_tag : ℕ) → Report
report sync_tag follow_tag = record {
  offset2 = pos 0;
  path2 = pos 131072000;
  sync_tag = sync_tag;
  follow_tag = Some follow_tag;
  request_tag = 5;
  response_tag = 8;
}

outcomes : answers_after small_network [] events
    ≡ Ok Done ∷ Ok Made ∷ Ok (Heard answers.Held) ∷ Ok Made ∷ Ok (Heard answers.Completed) ∷ Ok Made ∷ Ok Done ∷ Ok Made
    ∷ Ok (Heard (answers.Report (report 2 4))) ∷ Ok Done ∷ Ok Made ∷ Ok (Heard answers.Held) ∷ Ok Made
    ∷ Ok (Heard (answers.Report (report 11 13))) ∷ []
outcomes = refl

abbrev first : ReportedIn small_network whole s (report 2 4)
first = record { answered = place (Hear s 7) (after 8); there = refl; site = refl; reports = refl }

abbrev second : ReportedIn small_network whole s (report 11 13)
second = record { answered = place (Hear s 12) (after 13); there = refl; site = refl; reports = refl }

-- the first one's Sync completed when its Follow_Up was heard
completed : completed_at (report 2 4) ≡ 4
completed = refl

one_window : IsOneWindow (after 13) s 4
one_window = record { ticks = omega arith; masters = refl }

ordered : IsFreshAndTicked ordered_limits small_network whole
ordered = record {
  apart = IsNetwork-test small_network refl refl;
  accepted = IsRun-test small_network whole refl;
  fresh = IsFresh-short 16384 small_network whole (omega arith);
  ticked = IsTicked-short 8192 whole (omega arith);
}

-- the law says that they are in order
by_law : IsInOrder small_network whole (report 2 4) (report 11 13)
by_law =
    reports_dont_go_back small_network whole s (report 2 4) (report 11 13) (for_slave ordered_limits small_network s whole ordered) first second
    (omega arith) one_window

-- and so they are: the second one is of a later Sync
in_order : IsInOrder small_network whole (report 2 4) (report 11 13)
in_order = record { earlier = 0; later = 1; of_first = refl; of_second = refl; order = omega arith }

-- another slave that follows the master and doesn't tick: what it lets pass is no part of what is asked for S
abbrev other : NodeName
other = 90 ∷ []

abbrev untended : Run
untended = Sync m (at 1 0 0) ∷ SetMaster other m ∷ []

other_is_late : syncs_since_tick other untended ≡ 1
other_is_late = refl

ticked_for_s : IsTickedAt 0 s untended
ticked_for_s = (omega arith, (omega arith, tt))
