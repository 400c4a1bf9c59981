use Rattle.std.proofs.Common.{◌≡◌, ◌∙◌, ◌<◌, length, get_or, None, sym, ap, arith}
use Rattle.std.proofs.lemmas.List.{get_or_default}
use Rattle.recording_measure.specs.declared.recording.Recording.{Recording}
use Rattle.recording_measure.specs.Places.{is_same_place}
use Rattle.recording_measure.specs.Told.{place_in}
use Rattle.recording_measure.proofs.Places.{same_place}
use Rattle.recording_measure.proofs.Recordings.{none_among, among_recordings}
use Rattle.recording_measure.proofs.recording.Recordings.find_nameless.Goals as goal

pub returns-then-is_nameless : goal.returns-then-is_nameless
returns-then-is_nameless c =
    let xs = c.args.self.now.recordings.items in
    let within : c.loop-index.index < length xs = omega arith in
    let is : (d : Recording) → place_in (get_or xs c.loop-index.index d) ≡ None =
    λ d. (same_place (place_in (get_or xs c.loop-index.index d)) None).0
    (ap (λ (x : Recording). is_same_place (place_in x) None) (get_or_default xs c.loop-index.index d c.index.result.now within ∙ sym c.index.ensures)
    ∙ sym c.is_nameless.ensures ∙ c.if-is_nameless.true) in
    (among_recordings None xs c.loop-index.index within is, within, is)

pub returns : goal.returns
returns c =
    let xs = c.args.self.now.recordings.items in
    none_among None xs (λ k d within. c.loop-index.invariant k d (omega (arith, within)))
