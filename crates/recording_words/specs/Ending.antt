-- All that is told at the end of what was counted.
use Rattle.std.specs.Prelude.{◌≡◌, ℕ, List, ◌++◌}
use Rattle.recording_summary.specs.declared.counts.Counts.{Counts}
use Rattle.recording_summary.specs.Bewares.{AreBewares}
use Rattle.recording_words.specs.declared.announces.AnnounceLines.{AnnounceLines}
use Rattle.recording_words.specs.declared.bewares.BewareLines.{BewareLines}
use Rattle.recording_words.specs.declared.ending.Ending.{Ending}
use Rattle.recording_words.specs.declared.unit.InputUnit.{InputUnit}
use Rattle.recording_words.specs.Announces.{announces_text}
use Rattle.recording_words.specs.Bewares.{bewares_text}
use Rattle.recording_words.specs.Flows.{AreFlowLines, flows_text}
use Rattle.recording_words.specs.Statistics.{AreStatisticsLines, statistics_text}
use Rattle.recording_words.specs.Unreported.{reports_text, unreported_text}

-- ---- which values are told
-- what speaks against the numbers, with who else is there
pub record AreBewareLines (counts : Counts) (u : InputUnit) (l : BewareLines) : Type 0 where
  pub unit : l.unit ≡ u
  pub bewares : AreBewares counts l.bewares
  pub masters : l.masters ≡ counts.others.masters
  pub slaves : l.slaves ≡ counts.others.slaves
  pub domains : l.domains ≡ counts.others.domains

pub record IsEnding (counts : Counts) (u : InputUnit) (e : Ending) : Type 0 where
  pub bewares : AreBewareLines counts u e.bewares
  pub reports : e.reports.0 ≡ counts.reports
  pub unreported : e.unreported.0.now ≡ counts
  pub announces : e.announces ≡ record { unit = u; announces = counts.announces }
  pub flows : AreFlowLines counts.others.flows counts.quality.statistics.ages.greatest u e.flows
  pub statistics : AreStatisticsLines counts.quality.statistics u e.statistics

-- ---- how they are told
abbrev pub beware_lines : BewareLines → List ℕ
beware_lines l = bewares_text l.unit l.masters l.slaves l.domains l.bewares

abbrev pub announce_lines : AnnounceLines → List ℕ
announce_lines l = announces_text l.unit l.announces

-- what speaks against the numbers stands in front of them
unfoldable pub ending_text : Ending → List ℕ
ending_text e =
    beware_lines e.bewares ++ reports_text e.reports.0 ++ unreported_text e.unreported.0.now ++ announce_lines e.announces
    ++ flows_text e.flows ++ statistics_text e.statistics
