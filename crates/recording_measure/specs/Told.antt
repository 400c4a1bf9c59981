-- What is told of an input beside its reports.
use Rattle.std.specs.Prelude.{◌≡◌, ℕ, Bool, not, List, Option, None, option_map, option_and_then, slice_get}
use Rattle.recording_summary.specs.declared.counts.Counts.{Counts}
use Rattle.recording_summary.specs.declared.whom.Whom.{Whom}
use Rattle.recording_measure.specs.Aside.{IsAside}
use Rattle.recording_measure.specs.declared.aside.Aside.{Aside}
use Rattle.recording_measure.specs.declared.input.Summary.{Summary}
use Rattle.recording_measure.specs.declared.measuring.Stage.{Stage}
use Rattle.recording_measure.specs.declared.measuring.Stage.TheVariants.{Looking, Hearing}
use Rattle.recording_measure.specs.declared.place.Place.{Place}
use Rattle.recording_measure.specs.declared.recording.Recording.{Recording as Known}
use Rattle.recording_measure.specs.Places.{PlaceName}
use Rattle.recording_measure.specs.Chosen.{chosen}
use Rattle.recording_measure.specs.Measure.{Recording, is_captured, measured_so_far}
use Rattle.recording_measure.specs.declared.recents.Recents.{Recents}
use Rattle.recording_measure.specs.Recents.{AreRecents}
use Rattle.recording_measure.specs.Summary.{told_whom}
use Rattle.recording_measure.specs.Counts.{told_fates, IsCounts}

-- ---- what a summary tells
abbrev pub whom_told : Summary → Whom
whom_told summary = summary.whom

abbrev pub counts_told : Summary → Counts
counts_told summary = summary.counts

abbrev pub recents_told : Summary → Recents
recents_told summary = summary.task.measuring.reports.reports.recents

-- how many datagrams are left aside
abbrev pub aside_told : Summary → Aside
aside_told summary = summary.aside

-- a slave's own readings are measured, where any are
abbrev pub is_own_told : Summary → Bool
is_own_told summary = summary.is_own

-- what a place is called that is kept
abbrev pub kept_name : Place → PlaceName
kept_name place = option_map (λ name. record { name = name.items; stream = place.stream }) place.name

abbrev pub place_in : Known → PlaceName
place_in known = kept_name known.place

abbrev pub place_at : Stage → List Known → Option PlaceName
place_at (Looking count) known = None
place_at (Hearing index listener) known = option_map place_in (slice_get known index)

-- what a place is called, if it has a name
abbrev pub called : Option PlaceName → Option (List ℕ)
called place = option_map (λ it. it.name) (option_and_then (λ it. it) place)

-- what the place is called that is measured, if it has a name
abbrev pub interface_told : Summary → Option (List ℕ)
interface_told summary = called (place_at summary.task.measuring.stage summary.task.measuring.recordings.recordings.items)

-- what is told of all that was read
pub record IsSummary (summary : Summary) (r : Recording) : Type 0 where
  pub whom : whom_told summary ≡ told_whom r.wanted r.rows
  pub interface : interface_told summary ≡ called (chosen r.wanted r.rows)
  pub counts : IsCounts (told_fates r.wanted r.rows) (counts_told summary)
  pub recents : AreRecents (measured_so_far r) (recents_told summary)
  pub own : is_own_told summary ≡ not (is_captured r.by)
  pub aside : IsAside r (aside_told summary)
