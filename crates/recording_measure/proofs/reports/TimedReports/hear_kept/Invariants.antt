-- The port heard the datagrams so far, and their reports went out.
use Rattle.std.proofs.Common.{◌≡◌, List, [], drop}
use Rattle.std.specs.Io.KnownBytes.{Appends}
use Rattle.text_lines.specs.Counted.{device_of, HasNotFailed}
use Rattle.recording_model.specs.declared.watched.Watched.{Watched}
use Rattle.recording_model.specs.Listening.{after_all}
use Rattle.recording_measure.specs.Row.{Row, datagrams}
use Rattle.recording_measure.specs.Measured.{texts_as, measurements}
use Rattle.recording_measure.specs.Counts.{fates, IsCounts}
use Rattle.recording_measure.specs.Recents.{AreRecents}
use Rattle.recording_measure.specs.Inner.StandsFor.{StandsFor}
use Rattle.recording_measure.specs.Inner.Recordings.{AreKeptRows}
use Rattle.recording_measure.proofs.reports.TimedReports.hear_kept.Given as goal

abbrev pub invariant-loop-it : goal.invariant-loop-it
invariant-loop-it g l = record {
  heard : (watched : Watched) (rows : List Row) → AreKeptRows [] l.kept rows
      → StandsFor watched l.fn.listener (after_all watched [])
      → (earlier : List Row) × AreKeptRows earlier (drop l.it-index l.kept) rows
      × StandsFor watched l.listener (after_all watched (datagrams earlier))
      × Appends (g.W.Write.contents (device_of l.fn.output)) (g.W.Write.contents (device_of l.output))
      (texts_as l.fn.self.reports.form (measurements watched earlier))
      × (IsCounts [] l.fn.self.reports.tally.counts → IsCounts (fates watched earlier) l.self.reports.tally.counts)
      × (AreRecents [] l.fn.self.reports.recents → AreRecents (measurements watched earlier) l.self.reports.recents);
  form : l.self.reports.form ≡ l.fn.self.reports.form;
  handing : l.self.reports.recents.fresh.handing ≡ l.fn.self.reports.recents.fresh.handing;
  writer : HasNotFailed l.fn.output l.output;
}
