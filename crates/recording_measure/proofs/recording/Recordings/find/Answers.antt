use Rattle.std.proofs.Common.{◌≡◌, ◌∙◌, ◌<◌, length, get_or, sym, ap, arith}
use Rattle.std.proofs.lemmas.List.{get_or_default}
use Rattle.datagram_source.specs.Datagram.{place_of}
use Rattle.recording_measure.specs.declared.recording.Recording.{Recording}
use Rattle.recording_measure.specs.Places.{name_in, is_same_place}
use Rattle.recording_measure.specs.Told.{place_in}
use Rattle.recording_measure.proofs.Places.{same_place}
use Rattle.recording_measure.proofs.Recordings.{one_more_differs, none_among, among_recordings}
use Rattle.recording_measure.proofs.recording.Recordings.find.Goals as goal

pub returns-then-is : goal.returns-then-is
returns-then-is c =
    let xs = c.args.self.now.recordings.items in
    let within : c.loop-index.index < length xs = omega arith in
    let is : (d : Recording) → place_in (get_or xs c.loop-index.index d) ≡ name_in (place_of c.args.met.now) =
    λ d. (same_place (place_in (get_or xs c.loop-index.index d)) (name_in (place_of c.args.met.now))).0
    (ap (λ (x : Recording). is_same_place (place_in x) (name_in (place_of c.args.met.now))) (get_or_default xs c.loop-index.index d c.index.result.now within ∙ sym c.index.ensures) ∙ sym c.is.ensures ∙ c.if-is.true) in
    (among_recordings (name_in (place_of c.args.met.now)) xs c.loop-index.index within is, within, is)

pub returns : goal.returns
returns c =
    let xs = c.args.self.now.recordings.items in
    none_among (name_in (place_of c.args.met.now)) xs (λ k d within. c.loop-index.invariant k d (omega (arith, within)))

pub loop-index-preserved : goal.loop-index-preserved
loop-index-preserved c =
    let xs = c.args.self.now.recordings.items in
    let place = name_in (place_of c.args.met.now) in
    let within : c.loop-index.index < length xs = omega arith in
    one_more_differs place xs c.loop-index.index c.loop-index.invariant
    (λ d. ap (λ (x : Recording). is_same_place (place_in x) place)
    (get_or_default xs c.loop-index.index d c.index.result.now within ∙ sym c.index.ensures) ∙ sym c.is.ensures ∙ c.if-is.false)
