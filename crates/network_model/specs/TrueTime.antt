-- Statements on true time (IEEE 1588-2019, 7.4.2): a report's error is the asymmetry of its two paths, and slaves of
-- one master agree. `laws::reports_tell_true_time` promises them.
use Rattle.std.specs.Prelude.{◌≡◌, ℕ, ℤ, ◌+ℤ◌, ◌-ℤ◌, List, Some}
use Rattle.slave_port.specs.declared.heard.Report.{Report}
use Rattle.network_model.specs.Network.{Network, NodeName}
use Rattle.network_model.specs.Run.{Run}
use Rattle.network_model.specs.Clock.{difference, clock_shows}
use Rattle.network_model.specs.Present.{present_master}
use Rattle.network_model.specs.Premises.{Premise, SlavePremise, exact_limits, IsAcceptedRun, IsFreshAndTickedFor}
use Rattle.network_model.specs.Reported.{ReportedIn}
use Rattle.network_model.specs.Level.{Crossing, sync_path, request_path, time_on, IsSteady, IsLevelFor}

-- a number doubled
abbrev pub twice : ℤ → ℤ
twice x = x +ℤ x

-- twice the offset is twice the true difference of the two clocks and the asymmetry of the two paths, and twice the path
-- delay is both paths together
pub record IsAsymmetric (run : Run) (slave master : NodeName) (report : Report) : Type 0 where
  pub there : List Crossing
  pub back : List Crossing
  pub sync : sync_path run report ≡ Some there
  pub request : request_path run report ≡ Some back
  pub offset : report.offset2
      ≡ twice (difference slave run -ℤ difference master run) +ℤ (time_on there -ℤ time_on back)
  pub path : report.path2 ≡ time_on there +ℤ time_on back

-- Where clocks are steady, the error of each report is exactly the asymmetry of its two paths.
abbrev pub ErrorIsAsymmetry : SlavePremise → Type 0
ErrorIsAsymmetry premise =
    (network : Network) (run : Run) (slave master : NodeName) (report : Report)
    → premise network slave run → IsSteady run
    → (reported : ReportedIn network run slave report)
    → present_master slave reported.answered.earlier ≡ Some master
    → IsAsymmetric run slave master report

-- In a level network both paths of each report take one time.
abbrev pub PathsAreEven : Premise → Type 0
PathsAreEven premise =
    (network : Network) (run : Run) (slave : NodeName) (report : Report)
    → premise network run → ReportedIn network run slave report
    → (level : IsLevelFor run report) → time_on level.there ≡ time_on level.back

-- twice what a slave's clock shows at a true moment, less twice a report's offset, is twice what the master's clock
-- shows
abbrev pub KnowsMaster : Run → (slave master : NodeName) → Report → (moment : ℕ) → Type 0
KnowsMaster run slave master report moment =
    twice (clock_shows slave run moment) -ℤ report.offset2 ≡ twice (clock_shows master run moment)

-- In a level network two slaves make out the same time of their master from their reports, at every true moment.
abbrev pub SlavesAgree : SlavePremise → Type 0
SlavesAgree premise =
    (network : Network) (run : Run) (one other master : NodeName) (first second : Report) (moment : ℕ)
    → premise network one run → premise network other run
    → (reported : ReportedIn network run one first) → (reported_too : ReportedIn network run other second)
    → present_master one reported.answered.earlier ≡ Some master
    → present_master other reported_too.answered.earlier ≡ Some master
    → IsLevelFor run first → IsLevelFor run second
    → KnowsMaster run one master first moment × KnowsMaster run other master second moment

-- What reports say of true time, over runs of any length that are fresh and ticked for the slaves that report. That the
-- paths of a level network take one time is so in all accepted runs.
pub record TellsTrueTime : Type 0 where
  pub error : ErrorIsAsymmetry (IsFreshAndTickedFor exact_limits)
  pub even : PathsAreEven IsAcceptedRun
  pub agreement : SlavesAgree (IsFreshAndTickedFor exact_limits)
