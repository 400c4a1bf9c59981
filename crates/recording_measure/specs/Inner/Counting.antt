-- What is counted by one datagram more.
use Rattle.std.specs.Prelude.{ℕ, ◌==◌, ◌||◌, Bool, true, false, List, [], if◌then◌else◌}
use Rattle.std.specs.Prelude.{Option, Some, None}
use Rattle.event_codec.specs.declared.message.Header.{Header}
use Rattle.recording_measure.specs.declared.listener.Became.{Became}
use Rattle.recording_measure.specs.declared.listener.Became.TheVariants.{Heard, HeardAnew, HeardBefore, Asked, Repeated, Anew, Foreign}
use Rattle.recording_summary.specs.declared.counts.Counts.{Counts}
use Rattle.recording_summary.specs.declared.kind.Kind.{Kind}
use Rattle.recording_summary.specs.declared.no_report.NoReport.{NoReport}
use Rattle.recording_summary.specs.declared.no_report.NoReport.TheVariants as whys
use Rattle.recording_summary.specs.Counts.{with_unreported}
use Rattle.recording_measure.specs.declared.watch.WantedPorts.{WantedPorts}
use Rattle.recording_measure.specs.Places.{PlaceName, PlacedRow}
use Rattle.recording_measure.specs.Counts.{why_answered, input_fates, IsCounts}

-- what is counted so far: nothing until it is known which place is measured
abbrev pub CountsSoFar : WantedPorts → (measured : Option PlaceName) → List PlacedRow → Counts → Type 0
CountsSoFar w None rows counts = IsCounts [] counts
CountsSoFar w (Some place) rows counts = IsCounts (input_fates w place rows) counts

-- one more of a kind that gave no report, where there is a reason
abbrev pub with_why : Kind → Option NoReport → Counts → Counts
with_why kind None counts = counts
with_why kind (Some why) counts = with_unreported kind why counts

-- why a message gave no report of which this became in this domain
abbrev pub why_by : (domain : ℕ) → Header → Became → Option NoReport
why_by domain header (Heard reply) = why_answered reply.heard
why_by domain header (HeardAnew reply) = why_answered reply.heard
why_by domain header HeardBefore = Some whys.Before
why_by domain header Asked = Some whys.OfSlave
why_by domain header Anew = Some whys.OfSlave
why_by domain header Repeated = Some whys.Again
why_by domain header Foreign = Some (if header.domain == domain then whys.OtherSlave else whys.OtherDomain)

-- who began anew, by what became of a message
abbrev pub is_slave_anew : Became → Bool
is_slave_anew Anew = true
is_slave_anew _ = false

abbrev pub is_master_anew : Became → Bool
is_master_anew (HeardAnew reply) = true
is_master_anew _ = false

-- whether one of them did
abbrev pub is_anew : Became → Bool
is_anew became = is_slave_anew became || is_master_anew became
