use Rattle.std.proofs.Common.{rules, ◌∙◌, ◌+◌, ◌++◌, refl, ap}
use Rattle.std.specs.Io.KnownBytes.{prepend_known}
use Rattle.text_lines.proofs.Bounds.{line_more, input_within}
use Rattle.text_lines.proofs.KnownOctets.{none_begun}
use Rattle.text_lines.proofs.TakenLines.{begun, taken_more, all_taken, taken_all, stopped_reading, stopped_taking, stopped_at_end}
use Rattle.text_lines.proofs.task.answer_lines_behind.Goals as goal

pub loop-task-init : goal.loop-task-init
loop-task-init g c = record {
  taken = λ first began octets known.
      rw (c.new-lines.ensures.count, c.new-lines.ensures.ended, c.new-lines.ensures.start) (first, began, begun g.T.LineTask.rules first (_ ++ octets) _ _ (ap (prepend_known _) known));
  at = c.requires.stands;
  limit = c.new-lines.ensures.limit ∙ c.lines_limit.ensures.limit;
  bounded = rw c.new-lines.ensures.count (search rules);
  reader = search rules;
  writer = search rules;
  ended = search rules;
}

pub returns-in-Err-clause-answered : goal.returns-in-Err-clause-answered
returns-in-Err-clause-answered g c =
    λ first began octets known.
    let (state, at, so_far) = c.loop-task.invariant.taken first began octets known in
    let read = c.in-Err.ensures in
    rw c.into.ensures.1 (stopped_reading g.T.LineTask.rules first (_ ++ octets) _ _ state _ _ _ _ _ (rw read.before_end at so_far) (c.into.ensures.0 ∙ read.count) (rw c.loop-task.invariant.limit at (read.next _ so_far.input)))

pub loop-task-preserved : goal.loop-task-preserved
loop-task-preserved g c = record {
  taken = λ first began octets known.
      let (state, at, so_far) = c.loop-task.invariant.taken first began octets known in
      let read = c.in-Ok-true.ensures in
      let count = rw c.in-Ok-true.field-0-test at read.count in
      let line = rw (c.in-Ok-true.field-0-test, c.loop-task.invariant.limit) at (read.next _ so_far.input) in
      let (later, written, at_later, takes, appended) = c.in_default.ensures.taken state at in
      rw (count, none_begun _ _ _ read.begun) (
        later,
        at_later,
        taken_more g.T.LineTask.rules first (_ ++ octets) _ _ _ state later _ _ _ _ _ written (rw (read.before_end c.in-Ok-true.field-0-test) at so_far) line
            (rw c.line.ensures.line at takes) appended,
      );
  at =
      let (state, at) = c.loop-task.invariant.at in
      let (later, written, at_later, takes, appended) = c.in_default.ensures.taken state at in
      (later, at_later);
  limit = c.in-Ok-true.ensures.limit ∙ c.loop-task.invariant.limit;
  bounded = rw (rw c.in-Ok-true.field-0-test at c.in-Ok-true.ensures.count) (line_more _ _ _ _ _ _ c.loop-task.invariant.bounded c.in-Ok-true.ensures.given);
  reader = search rules;
  writer = search rules;
  ended = search rules;
}

pub returns-in-Err-take-clause-answered : goal.returns-in-Err-take-clause-answered
returns-in-Err-take-clause-answered g c =
    λ first began octets known.
    let (state, at, so_far) = c.loop-task.invariant.taken first began octets known in
    let read = c.in-Ok-true.ensures in
    let count = rw c.in-Ok-true.field-0-test at read.count in
    let line = rw (c.in-Ok-true.field-0-test, c.loop-task.invariant.limit) at (read.next _ so_far.input) in
    let (written, stops, out) = c.in-Err-take.ensures.taken state at in
    stopped_taking g.T.LineTask.rules first (_ ++ octets) _ _ _ state _ _ _ _ _ _ _ written (rw (read.before_end c.in-Ok-true.field-0-test) at so_far) (c.count.ensures ∙ count) line
    (rw c.line.ensures.line at stops) out

pub returns-in-Ok-clause-answered : goal.returns-in-Ok-clause-answered
returns-in-Ok-clause-answered g c =
    λ first began octets known.
    let (state, at, so_far) = c.loop-task.invariant.taken first began octets known in
    let read = c.in-Ok-false.ensures in
    let count = rw c.in-Ok-false.field-0-test at read.count in
    let end = rw c.in-Ok-false.field-0-test at (read.next _ so_far.input) in
    let (written, ends, appended) = c.in-Ok.ensures.ended state at in
    taken_all g.T.LineTask.rules first (_ ++ octets) _ _ _ state _ _ _ _ _ written so_far end.0 end.1 (rw (c.count-2.ensures, count) at ends) appended

pub returns-in-Err-finish-clause-answered : goal.returns-in-Err-finish-clause-answered
returns-in-Err-finish-clause-answered g c =
    λ first began octets known.
    let (state, at, so_far) = c.loop-task.invariant.taken first began octets known in
    let read = c.in-Ok-false.ensures in
    let count = rw c.in-Ok-false.field-0-test at read.count in
    let end = rw c.in-Ok-false.field-0-test at (read.next _ so_far.input) in
    let (written, stops, out) = c.in-Err-finish.ensures.ended state at in
    stopped_at_end g.T.LineTask.rules first (_ ++ octets) _ _ _ state _ _ _ _ _ _ written so_far (ap (λ n. n + 1) (c.count-in-Err-finish.ensures ∙ count)) end.0 end.1 stops out

pub returns-in-Err-clause-bounded : goal.returns-in-Err-clause-bounded
returns-in-Err-clause-bounded g c =
    rw (← c.loop-task.invariant.limit)
    (input_within _ _ c.loop-task.lines.count _ _ _ (search rules) c.loop-task.invariant.bounded c.in-Err.ensures.given)

pub returns-in-Err-take-clause-bounded : goal.returns-in-Err-take-clause-bounded
returns-in-Err-take-clause-bounded g c =
    rw (← c.loop-task.invariant.limit)
    (input_within _ _ c.loop-task.lines.count _ _ _ (search rules) c.loop-task.invariant.bounded c.in-Ok-true.ensures.given)

pub returns-in-Ok-clause-bounded : goal.returns-in-Ok-clause-bounded
returns-in-Ok-clause-bounded g c =
    rw (← c.loop-task.invariant.limit)
    (input_within _ _ c.loop-task.lines.count _ _ _ (search rules) c.loop-task.invariant.bounded c.in-Ok-false.ensures.given)

pub returns-in-Err-finish-clause-bounded : goal.returns-in-Err-finish-clause-bounded
returns-in-Err-finish-clause-bounded g c =
    rw (← c.loop-task.invariant.limit)
    (input_within _ _ c.loop-task.lines.count _ _ _ (search rules) c.loop-task.invariant.bounded c.in-Ok-false.ensures.given)

pub returns-in-Err-clause-left : goal.returns-in-Err-clause-left
returns-in-Err-clause-left g c =
    λ first began octets known.
    let (state, at, so_far) = c.loop-task.invariant.taken first began octets known in
    rw c.into.ensures.1 (_, c.into.ensures.0 ∙ c.in-Err.ensures.count, state, so_far.text, so_far.taken, c.leave.ensures state at)

pub returns-in-Err-take-clause-left : goal.returns-in-Err-take-clause-left
returns-in-Err-take-clause-left g c =
    λ first began octets known.
    let (state, at, so_far) = c.loop-task.invariant.taken first began octets known in
    let read = c.in-Ok-true.ensures in
    let count = rw c.in-Ok-true.field-0-test at read.count in
    (_, c.count.ensures ∙ count, state, so_far.text, so_far.taken, (_, at, c.in-Err-take.ensures.left c.in-Err-take.what refl))

pub returns-in-Err-finish-clause-left : goal.returns-in-Err-finish-clause-left
returns-in-Err-finish-clause-left g c =
    λ first began octets known.
    let (state, at, so_far) = c.loop-task.invariant.taken first began octets known in
    let read = c.in-Ok-false.ensures in
    let count = rw c.in-Ok-false.field-0-test at read.count in (
      _,
      ap (λ n. n + 1) (c.count-in-Err-finish.ensures ∙ count),
      state,
      so_far.text,
      so_far.taken,
      (_, at, c.in-Err-finish.ensures.left c.in-Err-finish.what refl),
    )

pub returns-in-Ok-clause-left : goal.returns-in-Ok-clause-left
returns-in-Ok-clause-left g c =
    λ first began octets known.
    let (state, at, so_far) = c.loop-task.invariant.taken first began octets known in
    let read = c.in-Ok-false.ensures in
    let count = rw c.in-Ok-false.field-0-test at read.count in
    let end = rw c.in-Ok-false.field-0-test at (read.next _ so_far.input) in
    let (text, taken) = all_taken g.T.LineTask.rules first (_ ++ octets) _ _ _ state _ _ so_far end.0 in
    (state, text, taken, c.loop-task.task, at, c.in-Ok.ensures.kept c.in-Ok.answer refl)
