use Rattle.capture_extract.specs.Listed.{Came, none_came}
use Rattle.capture_extract.proofs.Following.{listed}
use Rattle.capture_extract.proofs.listing.list.Goals as goal
use Rattle.capture_extract.proofs.listing.list.Goals.{in-Err, in_default}

pub answer_capture-answer-requires : goal.answer_capture-answer-requires
answer_capture-answer-requires g c =
    (none_came c.args.interface, (c.new-task.ensures.interface, c.new-task.ensures.table))

pub returns : goal.returns
returns g c =
    let told = c.answer_capture-answer.ensures in
    let start : Came = none_came c.args.interface in
    let task = c.answer_capture-answer.result.1 in
    listed c.args.interface task.interface task.table g.R.Read.remaining g.W.Write.contents c.answer_capture-answer.result.0 _ _ _ _ _
    (told.answered start (c.new-task.ensures.interface, c.new-task.ensures.table)) told.failures
    (told.left start (c.new-task.ensures.interface, c.new-task.ensures.table))
    (elim c.match-answer.branch [
      | in-Err w ↦ rw (w.output-is, w.in-Err.is) (w.write_behind.ensures.follows, w.write_behind.ensures.table)
      | in_default w ↦ rw w.in_default.is w.output-is
    ])
