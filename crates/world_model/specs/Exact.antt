-- What the laws over runs say of the answers of a world.
use Rattle.std.specs.Prelude.{◌≡◌, List, [], ◌∷◌}
use Rattle.slave_port.specs.declared.heard.Heard.TheVariants as answers
use Rattle.slave_port.specs.declared.heard.Report.{Report}
use Rattle.network_model.specs.declared.event.Event.{Event}
use Rattle.network_model.specs.declared.stepped.Outcome.TheVariants as outcomes
use Rattle.network_model.specs.declared.stepped.Stepped.{Stepped}
use Rattle.network_model.specs.Network.{Network, NodeName}
use Rattle.network_model.specs.Run.{Run, site_of}
use Rattle.network_model.specs.Premises.{SlavePremise, Limits, IsFreshFor, IsTickedAt}
use Rattle.network_model.specs.Exact.{IsMeasurement}
use Rattle.network_model.specs.Headline.{Headline, HeadlineWithinOneTurn}
use Rattle.network_model.specs.Pairs.{NoPairIsMissed}
use Rattle.network_model.specs.TrueTime.{TellsTrueTime}
use Rattle.network_model.specs.Order.{ReportsDontGoBack}
use Rattle.network_model.specs.Evidence.{ShowsEvidence}
use Rattle.world_model.specs.State.{State, after}

-- in a run a slave uses no message that is too old, and ticks often enough
pub record IsTimely (limits : Limits) (network : Network) (slave : NodeName) (run : Run) : Type 0 where
  pub fresh : IsFreshFor limits.late network slave run
  pub ticked : IsTickedAt limits.between_ticks slave run

-- A report that this event answers is exact: of one Sync and one Delay_Req, and twice the standard's two results over
-- them (IEEE 1588-2019, 11.2, 11.3). That is so where the run with the event meets the premise for the slave that
-- answers.
abbrev pub IsExactAnswer : SlavePremise → State → Event → Stepped → Type 0
IsExactAnswer premise world event stepped =
    (report : Report) → stepped.outcome ≡ outcomes.Heard (answers.Report report)
    → premise world.network (site_of event) (event ∷ world.run)
    → IsMeasurement (event ∷ world.run) (site_of event) report

-- the same of the answers to several events, in turn
abbrev pub AreExactAnswers : SlavePremise → State → List Event → List Stepped → Type 0
AreExactAnswers premise world [] [] = Unit {0}
AreExactAnswers premise world (event ∷ later) (stepped ∷ others) =
    IsExactAnswer premise world event stepped × AreExactAnswers premise (after event world) later others
AreExactAnswers premise world [] (stepped ∷ others) = ⊥
AreExactAnswers premise world (event ∷ later) [] = ⊥

-- all laws over the runs that a world accepts
pub record RunsKeepLaws : Type 0 where
  pub exact : Headline
  pub exact_within_one_turn : HeadlineWithinOneTurn
  pub pairs : NoPairIsMissed
  pub true_time : TellsTrueTime
  pub order : ReportsDontGoBack
  pub evidence : ShowsEvidence
