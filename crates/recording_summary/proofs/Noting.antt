-- What is told with one datagram more, and with its report.
use Rattle.std.proofs.Common.{◌≡◌, ◌∙◌, List, ◌∷◌, Option, None, refl, sym, ap, subst}
use Rattle.recording_summary.specs.declared.quality.Statistics.{Statistics}
use Rattle.recording_summary.specs.declared.quality.Times.{Times}
use Rattle.recording_summary.specs.Noted.{Noted, Reported}
use Rattle.recording_summary.specs.Quality.{AreStatistics, AreTimes}
use Rattle.statistics.specs.Wide.{at_most}
use Rattle.statistics.proofs.Counts.{count_none, same_head}

-- a datagram without a report changes no statistics
pub unreported : (n : Noted) (earlier : List Noted) (s : Statistics) → AreStatistics earlier s
    → AreStatistics (record n { reported = None } ∷ earlier) s
unreported n earlier s so = record {
  offsets = so.offsets;
  trend = so.trend;
  spikes = so.spikes;
  paths = so.paths;
  path_trend = so.path_trend;
  sync_corrections = so.sync_corrections;
  delay_corrections = so.delay_corrections;
  ages = so.ages;
  stale = so.stale;
  requests_at_once = so.requests_at_once ∙ ap at_most (sym (count_none _ (record n { reported = None }) earlier refl));
  syncs_at_once = so.syncs_at_once ∙ ap at_most (sym (count_none _ (record n { reported = None }) earlier refl));
  farthest = so.farthest;
  last = so.last;
}

pub still_unreported : (n : Noted) (earlier : List Noted) (s : Statistics)
    → AreStatistics (record n { reported = None } ∷ earlier) s → AreStatistics earlier s
still_unreported n earlier s so = record {
  offsets = so.offsets;
  trend = so.trend;
  spikes = so.spikes;
  paths = so.paths;
  path_trend = so.path_trend;
  sync_corrections = so.sync_corrections;
  delay_corrections = so.delay_corrections;
  ages = so.ages;
  stale = so.stale;
  requests_at_once = so.requests_at_once ∙ ap at_most (count_none _ (record n { reported = None }) earlier refl);
  syncs_at_once = so.syncs_at_once ∙ ap at_most (count_none _ (record n { reported = None }) earlier refl);
  farthest = so.farthest;
  last = so.last;
}

pub noted_statistics : (n : Noted) (earlier : List Noted) (s : Statistics) → n.reported ≡ None → AreStatistics earlier s
    → AreStatistics (n ∷ earlier) s
noted_statistics n earlier s none so =
    subst (λ (r : Option Reported). AreStatistics (record n { reported = r } ∷ earlier) s) (sym none) (unreported n earlier s so)

-- a report changes nothing of the times
pub reported_times : (n : Noted) (reported : Option Reported) (earlier : List Noted) (t : Times) → AreTimes (n ∷ earlier) t
    → AreTimes (record n { reported = reported } ∷ earlier) t
reported_times n reported earlier t so = record {
  finer = so.finer ∙ ap at_most (same_head _ n (record n { reported = reported }) earlier refl);
  falls = so.falls;
  first = so.first;
  last = so.last;
}
