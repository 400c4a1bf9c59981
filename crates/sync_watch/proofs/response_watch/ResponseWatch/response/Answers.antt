use Rattle.std.proofs.Common.{◌≡◌, ◌∙◌, false, sym, ap, subst, arith, is_some}
use Rattle.pairing.specs.Marked.{entry, first_value}
use Rattle.sync_watch.specs.Told.{known}
use Rattle.sync_watch.specs.StandsFor.{Responses, StandsForResponses}
use Rattle.sync_watch.proofs.Tables.{stands-response}
use Rattle.sync_watch.proofs.response_watch.ResponseWatch.response.Goals as goal

pub returns-clause-stands : goal.returns-clause-stands
returns-clause-stands g c = λ capacity responses stands.
    let held = subst (λ (v : Responses). StandsForResponses capacity v responses) (sym c.self.view_is) stands in
    let found = c.find.ensures ∙ ap (first_value c.args.number.0) held.latest in
    let none : is_some (known capacity c.args.number.0 responses) ≡ false = grind (arith, found) in
    rw none (stands-response (entry c.args.number.0 c.args.time) _ held c.push.ensures)
