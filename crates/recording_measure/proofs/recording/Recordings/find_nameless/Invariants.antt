-- Each of those so far has a name.
use Rattle.std.proofs.Common.{◌≡◌, ℕ, ◌<◌, false, get_or, None}
use Rattle.recording_measure.specs.declared.recording.Recording.{Recording}
use Rattle.recording_measure.specs.Places.{is_same_place}
use Rattle.recording_measure.specs.Told.{place_in}
use Rattle.recording_measure.proofs.recording.Recordings.find_nameless.Given as goal

abbrev pub invariant-loop-index : goal.invariant-loop-index
invariant-loop-index l =
    (k : ℕ) (d : Recording) → k < l.index → is_same_place (place_in (get_or l.self.recordings.items k d)) None ≡ false
