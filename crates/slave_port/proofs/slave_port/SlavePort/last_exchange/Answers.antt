use Rattle.std.proofs.Common.{sym, subst, ◌∙◌}
use Rattle.std.specs.Prelude.{IfSome, IsSome}
use Rattle.slave_port.specs.Exchange.{IsOfLastReport}
use Rattle.slave_port.proofs.Reported.{exchange_in-stands, of_last_report, there-at_report}
use Rattle.slave_port.proofs.slave_port.SlavePort.last_exchange.Goals as goal

pub returns-clause-exchange : goal.returns-clause-exchange
returns-clause-exchange g c = λ setup history stands. c.exchange.ensures ∙ exchange_in-stands stands

pub returns-clause-reported : goal.returns-clause-reported
returns-clause-reported g c = λ setup history stands.
    subst (λ x. IfSome x (IsOfLastReport setup history)) (sym (c.exchange.ensures ∙ exchange_in-stands stands)) (of_last_report setup history)

pub returns-clause-at_report : goal.returns-clause-at_report
returns-clause-at_report g c = λ setup call earlier report stands is.
    subst IsSome (sym (c.exchange.ensures ∙ exchange_in-stands stands)) (there-at_report setup call earlier report is)
