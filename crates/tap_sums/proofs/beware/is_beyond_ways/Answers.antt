use Rattle.std.proofs.Common.{rules, Option, IfSome, subst}
use Rattle.tap_sums.specs.Shown.{AreShown}
use Rattle.tap_sums.specs.declared.spread.Spread.{Spread}
use Rattle.tap_sums.proofs.beware.is_beyond_ways.Goals as goal

pub returns-in-Some-Some : goal.returns-in-Some-Some
returns-in-Some-Some c =
    let at = c.in-Some-Some in
    let syncs : AreShown at.syncs = subst (λ (s : Option Spread). IfSome s AreShown) at.is-0 c.requires.syncs in
    let requests : AreShown at.requests = subst (λ (s : Option Spread). IfSome s AreShown) at.is-1 c.requires.requests in
    rw at.is-0 (rw at.is-1 (search rules))
