-- Whatever a step answers is what the laws over runs say.
use Rattle.std.proofs.Common.{subst}
use Rattle.std.specs.Prelude.{IfOk, IfErr}
use Rattle.network_model.specs.Premises.{IsAcceptedRun, IsWithinOneTurn, exact_limits}
use Rattle.world_model.specs.State.{State, IsRefused}
use Rattle.world_model.specs.Exact.{IsTimely, IsExactAnswer}
use Rattle.world_model.specs.Inner.Stands.{run_of}
use Rattle.world_model.specs.Inner.Kept.{entries_of, HasRoom}
use Rattle.world_model.proofs.RunLaws.{step_exact, step_exact-one_turn, step_refused, runs_keep_laws}
use Rattle.world_model.proofs.world.World.step.Goals as goal

pub returns-clause-refused : goal.returns-clause-refused
returns-clause-refused c =
    let world : State = record { network = c.self.inside.nodes; run = run_of (entries_of c.self.inside.events) } in
    subst (λ (w : State). IfErr c.step.result (IsRefused w c.args.event.now)) c.self.view_is
    (step_refused world c.args.event.now (HasRoom c.step.new.events) c.step.result (run_of (entries_of c.step.new.events)) c.step.ensures.steps)

pub returns-clause-exact : goal.returns-clause-exact
returns-clause-exact c =
    let world : State = record { network = c.self.inside.nodes; run = run_of (entries_of c.self.inside.events) } in
    let sound : IsAcceptedRun world.network world.run = record { apart = c.self.invariant.world.apart; accepted = c.self.invariant.world.events.accepted } in
    subst (λ (w : State). IfOk c.step.result (IsExactAnswer (IsTimely exact_limits) w c.args.event.now)) c.self.view_is
    (step_exact world c.args.event.now (HasRoom c.step.new.events) c.step.result (run_of (entries_of c.step.new.events)) sound c.step.ensures.steps)

pub returns-clause-exact_within_one_turn : goal.returns-clause-exact_within_one_turn
returns-clause-exact_within_one_turn c =
    let world : State = record { network = c.self.inside.nodes; run = run_of (entries_of c.self.inside.events) } in
    let sound : IsAcceptedRun world.network world.run = record { apart = c.self.invariant.world.apart; accepted = c.self.invariant.world.events.accepted } in
    subst (λ (w : State). IfOk c.step.result (IsExactAnswer (λ network slave run. IsWithinOneTurn run) w c.args.event.now)) c.self.view_is
    (step_exact-one_turn world c.args.event.now (HasRoom c.step.new.events) c.step.result (run_of (entries_of c.step.new.events)) sound c.step.ensures.steps)

pub returns-clause-laws : goal.returns-clause-laws
returns-clause-laws c = runs_keep_laws
