-- The law: each report of a recording is exact for the events that its lines tell (IEEE 1588-2019, 11.2 and 11.3).
-- `laws::each_report_is_exact` promises it.
use Rattle.std.specs.Prelude.{◌≡◌, ℕ, List, Option, Some, None, option_map}
use Rattle.std.specs.List.{All}
use Rattle.slave_port.specs.declared.heard.Report.{Report}
use Rattle.network_model.specs.Network.{Network, NodeName, PortSetup}
use Rattle.network_model.specs.Run.{Run, Place, tag_of}
use Rattle.network_model.specs.Journey.{Journey}
use Rattle.network_model.specs.Truth.{master_at, slave_at}
use Rattle.network_model.specs.Premises.{IsAcceptedRun, exact_limits}
use Rattle.network_model.specs.Exact.{OfOneSync, OfOneRequest, IsTwice}
use Rattle.recording_model.specs.declared.watched.Watched.{Watched}
use Rattle.recording_model.specs.Recorded.{Recorded}
use Rattle.recording_model.specs.Listening.{reports}
use Rattle.recording_model.specs.Agreement.{Moved}
use Rattle.recording_model.specs.Told.{Tells, event_told}
use Rattle.recording_model.specs.Premises.{IsFreshAndTicked}

-- a slave and a master by their identities, and the domain of the slave
pub record Watches (network : Network) (slave master : NodeName) (w : Watched) : Type 0 where
  pub own : PortSetup
  pub other : PortSetup
  pub slave_port : slave_at network slave ≡ Some own
  pub master_port : master_at network master ≡ Some other
  pub slave_is : w.slave ≡ own.config.identity
  pub master_is : w.master ≡ other.config.identity
  pub domain_is : w.domain ≡ own.config.domain

-- a tag is that of the event which the line of this number tells
abbrev pub TellsTag : {network : Network} {slave : NodeName} {w : Watched} {moved : Moved} {run : Run} {ds : List Recorded}
    → Tells network slave w moved run ds → (line tag : ℕ) → Type 0
TellsTag tells line tag = option_map tag_of (event_told tells line) ≡ Some tag

-- the same where there is a line, and none where there is none
abbrev pub TellsTags : {network : Network} {slave : NodeName} {w : Watched} {moved : Moved} {run : Run} {ds : List Recorded}
    → Tells network slave w moved run ds → (line tag : Option ℕ) → Type 0
TellsTags tells None tag = tag ≡ None
TellsTags tells (Some line) tag = (event : ℕ) × TellsTag tells line event × (tag ≡ Some event)

-- a report with the tags of the events that its lines tell, and its own results
pub record IsOfEvents {network : Network} {slave : NodeName} {w : Watched} {moved : Moved} {run : Run} {ds : List Recorded}
    (tells : Tells network slave w moved run ds) (report told : Report) : Type 0 where
  pub offset : told.offset2 ≡ report.offset2
  pub path : told.path2 ≡ report.path2
  pub sync : TellsTag tells report.sync_tag told.sync_tag
  pub follow : TellsTags tells report.follow_tag told.follow_tag
  pub request : TellsTag tells report.request_tag told.request_tag
  pub response : TellsTag tells report.response_tag told.response_tag

-- the report is exact for the events that its lines tell: of one Sync of this master and of one Delay_Req to it, and
-- exactly twice the standard's two results over them
pub record IsExact {network : Network} {slave : NodeName} {w : Watched} {moved : Moved} {run : Run} {ds : List Recorded} (master : NodeName)
    (tells : Tells network slave w moved run ds) (report : Report) : Type 0 where
  pub told : Report
  pub events : IsOfEvents tells report told
  pub sync_arrival : Place
  pub sync : Journey
  pub of_sync : OfOneSync run slave master told sync_arrival sync
  pub request_arrival : Place
  pub request : Journey
  pub of_request : OfOneRequest run slave master told request_arrival request
  pub exact : IsTwice sync_arrival sync request_arrival request told

-- Over any accepted run of a network and a recording that tells it at one of its slaves, whatever two-step transparent
-- clocks moved from Syncs to their Follow_Ups: each report is exact, where no number is too old when it is used, ticks
-- come often enough, and few Delay_Reqs are missing in a row.
abbrev pub EachReportIsExact : Type 0
EachReportIsExact =
    (network : Network) (run : Run) (slave master : NodeName) (w : Watched) (moved : Moved)
    (ds : List Recorded)
    → IsAcceptedRun network run → Watches network slave master w
    → (tells : Tells network slave w moved run ds) → IsFreshAndTicked exact_limits master tells
    → All (IsExact master tells) (reports w ds)
