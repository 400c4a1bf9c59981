-- The headline, in three claims: each report is of one Sync, of one Delay_Req, and exact. `laws::each_report_is_exact`
-- and `laws::each_report_is_exact_within_one_turn` promise them.
use Rattle.slave_port.specs.declared.heard.Report.{Report}
use Rattle.network_model.specs.Network.{Network}
use Rattle.network_model.specs.Run.{Place, until, site_of}
use Rattle.network_model.specs.Premises.{Premise, SlavePremise, whichever, exact_limits, IsAcceptedRun}
use Rattle.network_model.specs.Premises.{IsFreshAndTickedFor, IsWithinTurn}
use Rattle.network_model.specs.Reported.{Reports}
use Rattle.network_model.specs.Exact.{IsOfOneSync, IsOfOneRequest, IsTwice}

-- Each report is of one Sync of the slave's present master: the one that its tags name.
abbrev pub EachReportIsOfOneSync : SlavePremise → Type 0
EachReportIsOfOneSync premise =
    (network : Network) (answered : Place) (report : Report)
    → premise network (site_of answered.event) (until answered) → Reports network answered report
    → IsOfOneSync (until answered) (site_of answered.event) report

-- Each report is of one Delay_Req to the slave's present master: the one that its tags name.
abbrev pub EachReportIsOfOneRequest : SlavePremise → Type 0
EachReportIsOfOneRequest premise =
    (network : Network) (answered : Place) (report : Report)
    → premise network (site_of answered.event) (until answered) → Reports network answered report
    → IsOfOneRequest (until answered) (site_of answered.event) report

-- Each report that is of one Sync and of one Delay_Req is exactly twice the two results over them.
abbrev pub EachReportIsTwice : Premise → Type 0
EachReportIsTwice premise =
    (network : Network) (answered : Place) (report : Report)
    → premise network (until answered) → Reports network answered report
    → (sync : IsOfOneSync (until answered) (site_of answered.event) report)
    → (request : IsOfOneRequest (until answered) (site_of answered.event) report)
    → IsTwice sync.arrival sync.journey request.arrival request.journey report

-- The headline: over runs of any length that are fresh and ticked for the slave that reports, each report is exact.
-- That it is twice the two results follows for all accepted runs, once it is of one Sync and of one Delay_Req.
pub record Headline : Type 0 where
  pub one_sync : EachReportIsOfOneSync (IsFreshAndTickedFor exact_limits)
  pub one_request : EachReportIsOfOneRequest (IsFreshAndTickedFor exact_limits)
  pub twice : EachReportIsTwice IsAcceptedRun

-- The same where the numbers of no port have come round, however old what is heard and however rare the ticks.
pub record HeadlineWithinOneTurn : Type 0 where
  pub one_sync : EachReportIsOfOneSync (whichever IsWithinTurn)
  pub one_request : EachReportIsOfOneRequest (whichever IsWithinTurn)
  pub twice : EachReportIsTwice IsAcceptedRun
