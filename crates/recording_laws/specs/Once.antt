-- The law: each datagram is counted once. `laws::each_datagram_is_counted_once` promises it.
use Rattle.std.specs.Prelude.{◌≡◌, ◌+◌, ◌^◌, ◌<◌, not, List, length, sum, is_some}
use Rattle.recording_model.specs.declared.watched.Watched.{Watched}
use Rattle.recording_summary.specs.declared.counts.Counts.{Counts}
use Rattle.recording_measure.specs.declared.watch.WantedPorts.{WantedPorts}
use Rattle.recording_measure.specs.Row.{Row}
use Rattle.recording_measure.specs.Counts.{fate_at, fates_in, IsCounts}

-- Whatever is recorded: a datagram that is heard has a reason why it gave no report exactly where it gave none; and the number
-- of reports and the counts of all kinds and reasons are together that of the lines, where these are fewer than 2^64.
pub record EachDatagramIsCountedOnce : Type 0 where
  pub one : (w : Watched) (earlier : List Row) (row : Row)
      → is_some (fate_at w earlier row).why ≡ not (is_some (fate_at w earlier row).measured)
  pub all : (w : WantedPorts) (rows : List Row) (counts : Counts) → length rows < 2 ^ 64 → IsCounts (fates_in w rows) counts
      → counts.reports + sum counts.unreported ≡ length rows
