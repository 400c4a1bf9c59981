use Rattle.std.proofs.Common.{◌∙◌, ap, subst}
use Rattle.sync_watch.specs.declared.arrival.Arrival.{Arrival}
use Rattle.sync_watch.specs.Judged.{judged_sync, after_sync}
use Rattle.sync_watch.specs.StandsFor.{StandsFor}
use Rattle.recording_model.specs.Listening.{table_capacity}
use Rattle.recording_measure.proofs.Listeners.{StandsFor-heard}
use Rattle.recording_measure.proofs.listener.Listener.judge_sync.Goals as goal

pub returns-clause-listens : goal.returns-clause-listens
returns-clause-listens c = λ w l is.
    StandsFor-heard w c.args.self.now l c.sync.new.self _
    (subst (λ (a : Arrival). StandsFor table_capacity c.sync.new.self (after_sync a table_capacity l.heard)) c.arrival_of.ensures
    (c.sync.ensures.stands table_capacity l.heard is.heard)) is

pub returns-clause-judgement : goal.returns-clause-judgement
returns-clause-judgement c = λ w l is.
    c.sync.ensures.judgement table_capacity l.heard is.heard
    ∙ ap (λ (a : Arrival). judged_sync a table_capacity l.heard) c.arrival_of.ensures
