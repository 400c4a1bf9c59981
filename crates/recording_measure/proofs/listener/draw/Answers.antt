use Rattle.std.proofs.Common.{add-one}
use Rattle.recording_model.specs.Listening.{draws}
use Rattle.recording_measure.proofs.listener.draw.Goals as goal

pub loop-preserved : goal.loop-preserved
loop-preserved c = λ setup history stood.
    let drawn = c.loop.invariant setup history stood in
    rw add-one (c.draw_request.ensures.stands setup (draws c.loop.counter c.args.tag history) drawn)
