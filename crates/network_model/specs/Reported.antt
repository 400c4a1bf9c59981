-- The reports of a run.
use Rattle.std.specs.Prelude.{◌≡◌, Ok}
use Rattle.slave_port.specs.declared.heard.Heard.TheVariants as answers
use Rattle.slave_port.specs.declared.heard.Report.{Report}
use Rattle.network_model.specs.declared.stepped.Outcome.TheVariants as outcomes
use Rattle.network_model.specs.Network.{Network, NodeName}
use Rattle.network_model.specs.Run.{Run, Place, IsIn, site_of}
use Rattle.network_model.specs.Outcome.{outcome_of}

-- an event answers this report
abbrev pub Reports : Network → Place → Report → Type 0
Reports network p report = outcome_of network p.earlier p.event ≡ Ok (outcomes.Heard (answers.Report report))

-- a report of a slave in a run: it was answered at an event of the run
pub record ReportedIn (network : Network) (run : Run) (slave : NodeName) (report : Report) : Type 0 where
  pub answered : Place
  pub there : IsIn run answered
  pub site : site_of answered.event ≡ slave
  pub reports : Reports network answered report
