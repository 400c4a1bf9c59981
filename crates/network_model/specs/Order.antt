-- Reports that don't go back, by the true numbers of their Syncs (IEEE 1588-2019, 7.3.7): a statement on whole runs.
-- `laws::reports_dont_go_back` promises it.
use Rattle.std.specs.Prelude.{◌≡◌, ℕ, ◌<◌, ◌≤◌, max, count_by, Option, Some, option_and_then, option_map}
use Rattle.std.specs.Option.{option_map_or}
use Rattle.slave_port.specs.declared.heard.Report.{Report}
use Rattle.network_model.specs.Network.{Network, NodeName}
use Rattle.network_model.specs.Run.{Run, place_at, tag_of, site_of, events_after}
use Rattle.network_model.specs.Kinds.{is_at, is_tick, is_set_master}
use Rattle.network_model.specs.Numbering.{number_of}
use Rattle.network_model.specs.Truth.{master_at, origin_heard}
use Rattle.network_model.specs.Premises.{SlavePremise, ordered_limits, IsFreshAndTickedFor}
use Rattle.network_model.specs.Reported.{ReportedIn}

-- the true number of a report's Sync
abbrev pub sync_number : Network → Run → Report → Option ℕ
sync_number network run report = option_and_then
    (λ origin. option_map (λ port. number_of port origin) (master_at network (site_of origin.event)))
    (option_and_then origin_heard (place_at run report.sync_tag))

-- the tag of the event at which a report's Sync completed: at which the later one of Sync and Follow_Up came
abbrev pub completed_at : Report → ℕ
completed_at report = option_map_or (λ tag. max report.sync_tag tag) report.follow_tag report.sync_tag

-- after the event of this tag the slave had at most one tick and was told no master
pub record IsOneWindow (run : Run) (slave : NodeName) (tag : ℕ) : Type 0 where
  pub ticks : count_by (is_at is_tick slave) (events_after tag run) ≤ 1
  pub masters : count_by (is_at is_set_master slave) (events_after tag run) ≡ 0

-- the true number of the second report's Sync isn't less than that of the first one's
pub record IsInOrder (network : Network) (run : Run) (first second : Report) : Type 0 where
  pub earlier : ℕ
  pub later : ℕ
  pub of_first : sync_number network run first ≡ Some earlier
  pub of_second : sync_number network run second ≡ Some later
  pub order : earlier ≤ later

-- The second of two reports of a slave is of no older Sync, by true numbers, than the first, as long as the slave was
-- told no master and ticked at most once between the completion of the first one's Sync and the second report.
abbrev pub ReportsKeepOrder : SlavePremise → Type 0
ReportsKeepOrder premise =
    (network : Network) (run : Run) (slave : NodeName) (first second : Report)
    → premise network slave run
    → (reported : ReportedIn network run slave first) → (reported_later : ReportedIn network run slave second)
    → tag_of reported.answered < tag_of reported_later.answered
    → IsOneWindow reported_later.answered.earlier slave (completed_at first)
    → IsInOrder network run first second

-- A slave's reports don't go back in runs, of whatever length, that are fresh and ticked for this slave, within half of
-- the limits.
abbrev pub ReportsDontGoBack : Type 0
ReportsDontGoBack = ReportsKeepOrder (IsFreshAndTickedFor ordered_limits)
