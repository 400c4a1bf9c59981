-- The last offsets and path delays of what is measured, by which their ranks are told. Lists have the newest in front.
use Rattle.std.specs.Prelude.{ℤ, List, [], ◌∷◌, Option, Some, None}
use Rattle.std.specs.List.{cons_option}
use Rattle.slave_port.specs.declared.heard.Report.{Report}
use Rattle.recording_lines.specs.declared.measurement.Half.{Half}
use Rattle.recording_lines.specs.declared.measurement.Half.TheVariants.{Sync, Response}
use Rattle.statistics.specs.Median.{IsRecent}
use Rattle.recording_measure.specs.Made.{Measured}
use Rattle.recording_measure.specs.Fresh.{IsFresh}
use Rattle.recording_measure.specs.declared.recents.Recents.{Recents}

-- the offset of a report that a Sync completed
abbrev pub offset_by : Half → Report → Option ℤ
offset_by Sync report = Some report.offset2
offset_by Response report = None

-- the path delay of a report that a Delay_Resp completed
abbrev pub path_by : Half → Report → Option ℤ
path_by Sync report = None
path_by Response report = Some report.path2

-- the offsets and the path delays of all that is measured
abbrev pub offsets : List Measured → List ℤ
offsets [] = []
offsets (m ∷ earlier) = cons_option (offset_by m.by m.report) (offsets earlier)

abbrev pub paths : List Measured → List ℤ
paths [] = []
paths (m ∷ earlier) = cons_option (path_by m.by m.report) (paths earlier)

-- the last of each are kept, and the reports that weren't handed on
pub record AreRecents (all : List Measured) (recents : Recents) : Type 0 where
  pub offsets : IsRecent (offsets all) recents.offsets
  pub paths : IsRecent (paths all) recents.paths
  pub fresh : IsFresh all recents.fresh
