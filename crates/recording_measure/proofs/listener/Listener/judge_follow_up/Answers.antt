use Rattle.std.proofs.Common.{◌∙◌, ap, subst}
use Rattle.sync_watch.specs.declared.arrival.Arrival.{Arrival}
use Rattle.sync_watch.specs.Judged.{judged_follow_up, after_follow_up}
use Rattle.sync_watch.specs.StandsFor.{StandsFor}
use Rattle.recording_model.specs.Listening.{table_capacity}
use Rattle.recording_measure.proofs.Listeners.{StandsFor-heard}
use Rattle.recording_measure.proofs.listener.Listener.judge_follow_up.Goals as goal

pub returns-clause-listens : goal.returns-clause-listens
returns-clause-listens c = λ w l is.
    StandsFor-heard w c.args.self.now l c.follow_up.new.self _
    (subst (λ (a : Arrival). StandsFor table_capacity c.follow_up.new.self (after_follow_up a table_capacity l.heard)) c.arrival_of.ensures
    (c.follow_up.ensures.stands table_capacity l.heard is.heard)) is

pub returns-clause-judgement : goal.returns-clause-judgement
returns-clause-judgement c = λ w l is.
    c.follow_up.ensures.judgement table_capacity l.heard is.heard
    ∙ ap (λ (a : Arrival). judged_follow_up a table_capacity l.heard) c.arrival_of.ensures
