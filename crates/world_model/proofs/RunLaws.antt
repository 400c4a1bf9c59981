-- What a world answers is what the laws over runs say. An answer of `step` is the run's, so its report is one of the run, and
-- the headline holds of it. A world has the premises that its nodes are a network and that its events were accepted.
use Rattle.std.proofs.Common.{◌∙◌, List, [], ◌∷◌, ap, is_ok, Ok, Err, inl, inr}
use Rattle.std.specs.Prelude.{Result}
use Rattle.std.specs.Result.{IfOk, IfErr}
use Rattle.slave_port.specs.declared.heard.Report.{Report}
use Rattle.network_model.specs.declared.event.Event.{Event}
use Rattle.network_model.specs.declared.refusal.WorldRefusal.{WorldRefusal}
use Rattle.network_model.specs.declared.stepped.Stepped.{Stepped}
use Rattle.network_model.specs.Network.{Network, NodeName}
use Rattle.network_model.specs.Run.{Run, Place, place, until, site_of}
use Rattle.network_model.specs.Outcome.{IsStepped}
use Rattle.network_model.specs.Premises.{SlavePremise, whichever, IsAcceptedRun, IsFreshAndTickedFor, IsWithinTurn, IsWithinOneTurn, exact_limits}
use Rattle.network_model.specs.Reported.{Reports}
use Rattle.network_model.specs.Exact.{IsMeasurement}
use Rattle.network_model.proofs.Reports.{each_of_one_sync-slave, each_of_one_request-slave, each_of_one_sync-one_turn, each_of_one_request-one_turn}
use Rattle.network_model.proofs.Twice.{each_twice}
use Rattle.network_model.proofs.Pairs.{no_pair_is_missed}
use Rattle.network_model.proofs.Agreement.{tells_true_time}
use Rattle.network_model.proofs.Order.{reports_dont_go_back}
use Rattle.network_model.proofs.Evidence.{shows_evidence}
use Rattle.world_model.specs.State.{State, after, IsRefused}
use Rattle.world_model.specs.Inner.Acts.{Refuses}
use Rattle.world_model.specs.Inner.Steps.{Steps}
use Rattle.world_model.specs.Turns.{AnswersInTurn}
use Rattle.world_model.specs.Exact.{IsTimely, IsExactAnswer, AreExactAnswers, RunsKeepLaws}

-- each report is exact, where the run meets the premise for its slave
abbrev EachAnswerIsExact : SlavePremise → Type 0
EachAnswerIsExact premise =
    (network : Network) (p : Place) (report : Report)
    → premise network (site_of p.event) (until p) → Reports network p report
    → IsMeasurement (until p) (site_of p.event) report

fresh_and_ticked : EachAnswerIsExact (IsFreshAndTickedFor exact_limits)
fresh_and_ticked network p report meets reports =
    let sync = each_of_one_sync-slave network p report meets reports in
    let request = each_of_one_request-slave network p report meets reports in
    record {
      one_sync = sync;
      one_request = request;
      exact = each_twice network p report (record { apart = meets.apart; accepted = meets.accepted }) reports sync request;
    }

within_turn : EachAnswerIsExact (whichever IsWithinTurn)
within_turn network p report meets reports =
    let sync = each_of_one_sync-one_turn network p report meets reports in
    let request = each_of_one_request-one_turn network p report meets reports in
    record {
      one_sync = sync;
      one_request = request;
      exact = each_twice network p report (record { apart = meets.apart; accepted = meets.accepted }) reports sync request;
    }

-- one more event was accepted
one_more : (world : State) (event : Event) (stepped : Stepped) → IsAcceptedRun world.network world.run
    → IsStepped world.network world.run event stepped → IsAcceptedRun world.network (event ∷ world.run)
one_more world event stepped sound is = record { apart = sound.apart; accepted = (ap is_ok is.outcome, sound.accepted) }

-- what is asked of a run beside that gives the premise
abbrev Gives : (asked premise : SlavePremise) → Type 0
Gives asked premise = (network : Network) (slave : NodeName) (run : Run) → IsAcceptedRun network run → asked network slave run → premise network slave run

module _ (asked premise : SlavePremise) (gives : Gives asked premise) (each : EachAnswerIsExact premise) where
  exact_answer : (world : State) (event : Event) (stepped : Stepped) → IsAcceptedRun world.network world.run
      → IsStepped world.network world.run event stepped → IsExactAnswer asked world event stepped
  exact_answer world event stepped sound is report heard meets =
      each world.network (place event world.run) report (gives world.network (site_of event) (event ∷ world.run) (one_more world event stepped sound is) meets)
      (is.outcome ∙ ap Ok heard)

  exact_answers : (world : State) (events : List Event) (answers : List Stepped) → IsAcceptedRun world.network world.run
      → AnswersInTurn world events answers → AreExactAnswers asked world events answers
  exact_answers world [] [] sound answered = tt
  exact_answers world [] (stepped ∷ others) sound answered = absurd answered
  exact_answers world (event ∷ later) [] sound answered = absurd answered
  exact_answers world (event ∷ later) (stepped ∷ others) sound answered = (
    exact_answer world event stepped sound answered.0,
    exact_answers (after event world) later others (one_more world event stepped sound answered.0) answered.1,
  )

  exact_step : (world : State) (event : Event) (HasRoom : Type 0) (result : Result Stepped WorldRefusal) (new : Run) → IsAcceptedRun world.network world.run
      → Steps world.network world.run event HasRoom result new → IfOk result (IsExactAnswer asked world event)
  exact_step world event HasRoom (Ok stepped) new sound steps = exact_answer world event stepped sound steps.0
  exact_step world event HasRoom (Err why) new sound steps = tt

timely : Gives (IsTimely exact_limits) (IsFreshAndTickedFor exact_limits)
timely network slave run sound is = record { apart = sound.apart; accepted = sound.accepted; fresh = is.fresh; ticked = is.ticked }

one_turn : Gives (λ network slave run. IsWithinOneTurn run) (whichever IsWithinTurn)
one_turn network slave run sound is = record { apart = sound.apart; accepted = sound.accepted; one_turn = is }

pub step_exact : (world : State) (event : Event) (HasRoom : Type 0) (result : Result Stepped WorldRefusal) (new : Run) → IsAcceptedRun world.network world.run
    → Steps world.network world.run event HasRoom result new → IfOk result (IsExactAnswer (IsTimely exact_limits) world event)
step_exact = exact_step (IsTimely exact_limits) (IsFreshAndTickedFor exact_limits) timely fresh_and_ticked

pub step_exact-one_turn : (world : State) (event : Event) (HasRoom : Type 0) (result : Result Stepped WorldRefusal) (new : Run) → IsAcceptedRun world.network world.run
    → Steps world.network world.run event HasRoom result new → IfOk result (IsExactAnswer (λ network slave run. IsWithinOneTurn run) world event)
step_exact-one_turn = exact_step (λ network slave run. IsWithinOneTurn run) (whichever IsWithinTurn) one_turn within_turn

-- a step refuses what the run does
pub step_refused : (world : State) (event : Event) (HasRoom : Type 0) (result : Result Stepped WorldRefusal) (new : Run)
    → Steps world.network world.run event HasRoom result new → IfErr result (IsRefused world event)
step_refused world event HasRoom (Ok stepped) new steps = tt
step_refused world event HasRoom (Err why) new steps = of_run steps.0
  where
    of_run : Refuses world.network world.run event HasRoom why → IsRefused world event why
    of_run (inl first) = inl first
    of_run (inr full) = inr (full.0, full.2)

pub answers_exact : (world : State) (events : List Event) (answers : List Stepped) → IsAcceptedRun world.network world.run
    → AnswersInTurn world events answers → AreExactAnswers (IsTimely exact_limits) world events answers
answers_exact = exact_answers (IsTimely exact_limits) (IsFreshAndTickedFor exact_limits) timely fresh_and_ticked

pub answers_exact-one_turn : (world : State) (events : List Event) (answers : List Stepped) → IsAcceptedRun world.network world.run
    → AnswersInTurn world events answers → AreExactAnswers (λ network slave run. IsWithinOneTurn run) world events answers
answers_exact-one_turn = exact_answers (λ network slave run. IsWithinOneTurn run) (whichever IsWithinTurn) one_turn within_turn

pub runs_keep_laws : RunsKeepLaws
runs_keep_laws = record {
  exact = record { one_sync = each_of_one_sync-slave; one_request = each_of_one_request-slave; twice = each_twice };
  exact_within_one_turn = record { one_sync = each_of_one_sync-one_turn; one_request = each_of_one_request-one_turn; twice = each_twice };
  pairs = no_pair_is_missed;
  true_time = tells_true_time;
  order = reports_dont_go_back;
  evidence = shows_evidence;
}
