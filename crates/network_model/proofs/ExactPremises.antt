-- The premises under which each report is exact.
use Rattle.slave_port.specs.declared.heard.Report.{Report}
use Rattle.network_model.specs.declared.event.Event.{Event}
use Rattle.std.proofs.Common.{◌∷◌}
use Rattle.network_model.specs.Network.{Network}
use Rattle.network_model.specs.Run.{Run, Place, until, site_of}
use Rattle.network_model.specs.Premises.{Premise, exact_limits, IsAcceptedRun, IsFreshAndTicked, IsWithinTurn}
use Rattle.network_model.specs.Reported.{Reports}
use Rattle.network_model.specs.Exact.{IsMeasurement}
use Rattle.network_model.proofs.Pairing.{fresh_ticked_shorter, within_turn_shorter}
use Rattle.network_model.proofs.Reports.{each_of_one_sync, each_of_one_request, each_of_one_sync-one_turn, each_of_one_request-one_turn}
use Rattle.network_model.proofs.Twice.{each_twice}

-- Each report is exact: of one Sync and one Delay_Req, those that its tags name, and twice the standard's two results
-- by what the clocks showed when these messages left and arrived, and by how long they stayed in clocks.
abbrev pub EachReportIsExact : Premise → Type 0
EachReportIsExact premise =
    (network : Network) (answered : Place) (report : Report)
    → premise network (until answered) → Reports network answered report
    → IsMeasurement (until answered) (site_of answered.event) report

-- what is said of each premise: it is of accepted runs and of all that they begin with, and their reports are exact
pub record IsExact (premise : Premise) : Type 0 where
  pub accepted : (network : Network) (run : Run) → premise network run → IsAcceptedRun network run
  pub shorter : (network : Network) (event : Event) (earlier : Run) → premise network (event ∷ earlier) → premise network earlier
  pub exact : EachReportIsExact premise

pub fresh : IsExact (IsFreshAndTicked exact_limits)
fresh =
    let accepted : (network : Network) (run : Run) → IsFreshAndTicked exact_limits network run → IsAcceptedRun network run =
    λ network run premise. record { apart = premise.apart; accepted = premise.accepted } in
    record {
      accepted = accepted;
      shorter = fresh_ticked_shorter exact_limits;
      exact = λ network p report premise reports.
          let one_sync = each_of_one_sync network p report premise reports in
          let one_request = each_of_one_request network p report premise reports in
          record { one_sync = one_sync; one_request = one_request; exact = each_twice network p report (accepted network (until p) premise) reports one_sync one_request };
    }

pub in_turn : IsExact IsWithinTurn
in_turn =
    let accepted : (network : Network) (run : Run) → IsWithinTurn network run → IsAcceptedRun network run =
    λ network run premise. record { apart = premise.apart; accepted = premise.accepted } in
    record {
      accepted = accepted;
      shorter = within_turn_shorter;
      exact = λ network p report premise reports.
          let one_sync = each_of_one_sync-one_turn network p report premise reports in
          let one_request = each_of_one_request-one_turn network p report premise reports in
          record { one_sync = one_sync; one_request = one_request; exact = each_twice network p report (accepted network (until p) premise) reports one_sync one_request };
    }
