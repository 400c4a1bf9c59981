-- None of those so far is at the place.
use Rattle.std.proofs.Common.{◌≡◌, ℕ, ◌<◌, false, get_or}
use Rattle.datagram_source.specs.Datagram.{place_of}
use Rattle.recording_measure.specs.declared.recording.Recording.{Recording}
use Rattle.recording_measure.specs.Places.{name_in, is_same_place}
use Rattle.recording_measure.specs.Told.{place_in}
use Rattle.recording_measure.proofs.recording.Recordings.find.Given as goal

abbrev pub invariant-loop-index : goal.invariant-loop-index
invariant-loop-index l =
    (k : ℕ) (d : Recording) → k < l.index → is_same_place (place_in (get_or l.self.recordings.items k d)) (name_in (place_of l.met)) ≡ false
