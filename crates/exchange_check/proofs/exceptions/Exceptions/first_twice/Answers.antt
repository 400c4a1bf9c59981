use Rattle.std.proofs.Common.{◌∙◌, ℕ, Option, sym, ap}
use Rattle.std.specs.BTreeMap.{get}
use Rattle.std.specs.Ordering.{nat_cmp}
use Rattle.exchange_check.specs.declared.way_finding.Twice.{Twice}
use Rattle.exchange_check.specs.Evidence.{Table}
use Rattle.exchange_check.specs.Inner.Kept.{Facts}
use Rattle.exchange_check.specs.Inner.Machine.{facts_of}
use Rattle.exchange_check.specs.Inner.WayFinding.{earlier_twice, first_twice}
use Rattle.exchange_check.proofs.Twices.{one-looked, all-looked}
use Rattle.exchange_check.proofs.exceptions.Exceptions.first_twice.Goals as goal

pub loop-entered-preserved : goal.loop-entered-preserved
loop-entered-preserved c =
    let facts : Facts = facts_of c.args.kept.now in
    let seconds : Table ℕ = get nat_cmp c.args.self.now.seconds in
    ap (λ (o : Option Twice). earlier_twice o (first_twice facts seconds c.in-Some.before))
    (c.earlier-first.ensures ∙ ap (earlier_twice c.loop-entered.first) c.twice.ensures)
    ∙ one-looked facts seconds c.loop-entered.first c.loop-entered.at c.in-Some.entered c.in-Some.before
    (sym c.stay_before.ensures.stay ∙ c.in-Some.is)
    ∙ c.loop-entered.invariant

pub returns : goal.returns
returns c =
    all-looked (facts_of c.args.kept.now) (get nat_cmp c.args.self.now.seconds) c.loop-entered.first c.loop-entered.at
    (sym c.stay_before.ensures.stay ∙ c.in_default.is)
    ∙ c.loop-entered.invariant
