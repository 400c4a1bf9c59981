use Rattle.std.proofs.Common.{rules, ◌++◌, refl, Err}
use Rattle.capture_file.specs.Inner.Reading.{form_of}
use Rattle.capture_file.proofs.Taking.{next, read_is, end_is, stops_reading, stops_taking, answers_stop, all_taken, ends, stops_at_end, stops_before, all_known, begun_within}
use Rattle.capture_file.proofs.Left.{left_behind, left_before, left_reading, left_at_end}
use Rattle.capture_file.proofs.task.answer_packets_behind.Goals as goal

pub returns-in_default-clause-answered : goal.returns-in_default-clause-answered
returns-in_default-clause-answered g c = λ start at octets known.
    stops_before g.T.PacketTask.rules start _ _ c.args.start.now octets c.stop.result c.stop.ensures known

pub returns-in_err-progress-in-Ok-Some-clause-answered : goal.returns-in_err-progress-in-Ok-Some-clause-answered
returns-in_err-progress-in-Ok-Some-clause-answered g c = λ start at octets known.
    let (state, stands, taken) = c.loop-part.invariant.taken start at in
    let stop = c.in_err-progress-in-Ok-Some.field-0.0 in
    answers_stop g.T.PacketTask.rules start (c.args.start.now ++ octets) _ _ _ c.from_residual.result stop (search rules)
    (stops_taking g.T.PacketTask.rules start state (form_of c.loop-part.form) (form_of c.read_part.new.form) c.loop-part.progress c.in-Ok-Some.part _ _ _ _ _ _ stop (c.args.start.now ++ octets)
    c.loop-part.invariant.within taken
    (read_is _ _ c.in-Ok-Some.field-0 c.in-Ok-Some.part _ _ c.in-Ok-Some.field-0-is c.in-Ok-Some.ensures.part)
    (c.in_err-progress-in-Ok-Some.ensures.taken state stands) (all_known _ c.args.start.now octets known))

pub loop-part-preserved : goal.loop-part-preserved
loop-part-preserved g c =
    let (state, stands) = c.loop-part.invariant.stands in
    let (later, written, at, takes, wrote) = c.in_ok-progress-in-Ok-Some.ensures.taken state stands in
    record {
      stands = (later, at);
      taken = λ start first.
          let (state, stands, taken) = c.loop-part.invariant.taken start first in
          let (later, written, at, takes, wrote) = c.in_ok-progress-in-Ok-Some.ensures.taken state stands in (
            later,
            at,
            next g.T.PacketTask.rules start state later (form_of c.loop-part.form) (form_of c.read_part.new.form) c.loop-part.progress c.in_ok-progress-in-Ok-Some.progress
                c.in-Ok-Some.part _ _ _ _ _ _ written _ taken
                (read_is _ _ c.in-Ok-Some.field-0 c.in-Ok-Some.part _ _ c.in-Ok-Some.field-0-is c.in-Ok-Some.ensures.part) c.in_ok-progress-in-Ok-Some.ensures.behind takes wrote,
          );
      begun = begun_within _ _ c.in-Ok-Some.part _ _ _
          (read_is _ _ c.in-Ok-Some.field-0 c.in-Ok-Some.part _ _ c.in-Ok-Some.field-0-is c.in-Ok-Some.ensures.part);
      within = c.in_ok-progress-in-Ok-Some.ensures.behind.within;
      input = search rules;
      output = search rules;
    }

pub returns-in-Err-clause-answered : goal.returns-in-Err-clause-answered
returns-in-Err-clause-answered g c = λ start at octets known.
    let (state, stands, taken) = c.loop-part.invariant.taken start at in
    stops_reading g.T.PacketTask.rules start state (form_of c.loop-part.form) c.loop-part.progress _ _ _ _ _ c.in-Err.stop c.stop_part.result (c.args.start.now ++ octets) c.loop-part.invariant.within taken
    c.in-Err.ensures.part c.stop_part.ensures (all_known _ c.args.start.now octets known)

pub returns-in-Ok-finish-clause-answered : goal.returns-in-Ok-finish-clause-answered
returns-in-Ok-finish-clause-answered g c = λ start at octets known.
    let (state, stands, taken) = c.loop-part.invariant.taken start at in
    let (written, ended, wrote) = c.in-Ok-finish.ensures.ended state stands in
    ends g.T.PacketTask.rules start state (form_of c.loop-part.form) (form_of c.read_part.new.form) c.loop-part.progress _ _ _ _ _ _ c.in-Ok-finish.answer written (c.args.start.now ++ octets) taken
    (end_is _ _ c.in-Ok-None.field-0 _ _ c.in-Ok-None.field-0-is c.in-Ok-None.ensures.part) ended wrote (all_known _ c.args.start.now octets known)

pub returns-clause-answered : goal.returns-clause-answered
returns-clause-answered g c = λ start at octets known.
    let (state, stands, taken) = c.loop-part.invariant.taken start at in
    let (written, stops, went) = c.in-Err-finish.ensures.ended state stands in
    stops_at_end g.T.PacketTask.rules start state (form_of c.loop-part.form) (form_of c.read_part.new.form) c.loop-part.progress _ _ _ _ _ _ c.in-Err-finish.fault
    c.stop-in-Err-finish.result written (c.args.start.now ++ octets) c.loop-part.invariant.within taken (end_is _ _ c.in-Ok-None.field-0 _ _ c.in-Ok-None.field-0-is c.in-Ok-None.ensures.part) stops went (all_known _ c.args.start.now octets known) c.stop-in-Err-finish.ensures

pub returns-in_default-clause-left : goal.returns-in_default-clause-left
returns-in_default-clause-left g c = λ start at octets known.
    left_before g.T.PacketTask.rules g.T.PacketTask.is_at g.T.PacketTask.is_left g.T.PacketTask.is_ended start (c.args.start.now ++ octets)
    c.args.task.now c.stop.result c.stop.ensures at

pub returns-in_err-progress-in-Ok-Some-clause-left : goal.returns-in_err-progress-in-Ok-Some-clause-left
returns-in_err-progress-in-Ok-Some-clause-left g c = λ start at octets known.
    let (state, stands, taken) = c.loop-part.invariant.taken start at in
    let stop = c.in_err-progress-in-Ok-Some.field-0.0 in
    left_behind g.T.PacketTask.rules g.T.PacketTask.is_at g.T.PacketTask.is_left g.T.PacketTask.is_ended start state (form_of c.loop-part.form)
    c.loop-part.progress _ _ _ _ (c.args.start.now ++ octets) c.take_part.new.task c.from_residual.result stop (search rules) taken
    (all_known _ c.args.start.now octets known) (c.in_err-progress-in-Ok-Some.ensures.taken state stands).0
    (c.in_err-progress-in-Ok-Some.ensures.left state stands)

pub returns-in-Err-clause-left : goal.returns-in-Err-clause-left
returns-in-Err-clause-left g c = λ start at octets known.
    let (state, stands, taken) = c.loop-part.invariant.taken start at in
    let left = left_reading g.T.PacketTask.is_at g.T.PacketTask.is_left state c.loop-part.task c.loop-part.progress c.in-Err.stop
    c.stop_part.result c.stop_part.ensures stands in
    left_behind g.T.PacketTask.rules g.T.PacketTask.is_at g.T.PacketTask.is_left g.T.PacketTask.is_ended start state (form_of c.loop-part.form)
    c.loop-part.progress _ _ _ _ (c.args.start.now ++ octets) c.loop-part.task (Err c.stop_part.result) c.stop_part.result refl taken
    (all_known _ c.args.start.now octets known) left.0 left.1

pub returns-in-Ok-finish-clause-left : goal.returns-in-Ok-finish-clause-left
returns-in-Ok-finish-clause-left g c = λ start at octets known.
    let (state, stands, taken) = c.loop-part.invariant.taken start at in (
      taken.parts,
      state,
      taken.text,
      all_taken g.T.PacketTask.rules start state (form_of c.loop-part.form) (form_of c.read_part.new.form) c.loop-part.progress _ _ _ _ _ (c.args.start.now ++ octets)
          taken (end_is _ _ c.in-Ok-None.field-0 _ _ c.in-Ok-None.field-0-is c.in-Ok-None.ensures.part) (all_known _ c.args.start.now octets known),
      c.loop-part.task,
      stands,
      c.in-Ok-finish.ensures.kept c.in-Ok-finish.answer refl,
    )

pub returns-clause-left : goal.returns-clause-left
returns-clause-left g c = λ start at octets known.
    let (state, stands, taken) = c.loop-part.invariant.taken start at in
    let left = left_at_end g.T.PacketTask.is_at g.T.PacketTask.is_left state c.loop-part.task c.finish.new.self c.loop-part.progress
    c.in-Err-finish.fault c.stop-in-Err-finish.result c.stop-in-Err-finish.ensures stands
    (c.in-Err-finish.ensures.left c.in-Err-finish.fault refl) in
    left_behind g.T.PacketTask.rules g.T.PacketTask.is_at g.T.PacketTask.is_left g.T.PacketTask.is_ended start state (form_of c.loop-part.form)
    c.loop-part.progress _ _ _ _ (c.args.start.now ++ octets) c.finish.new.self (Err c.stop-in-Err-finish.result) c.stop-in-Err-finish.result refl taken
    (all_known _ c.args.start.now octets known) left.0 left.1
