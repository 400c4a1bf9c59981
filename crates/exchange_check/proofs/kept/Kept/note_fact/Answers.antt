use Rattle.std.proofs.Common.{◌+◌, ℕ, Option, sym, subst}
use Rattle.std.specs.Prelude.{option_and_then}
use Rattle.exchange_check.specs.declared.facts.Fact.{Fact}
use Rattle.exchange_check.specs.Inner.Machine.{facts_of, leaves_told}
use Rattle.exchange_check.specs.Inner.Stays.{stay_of}
use Rattle.copy_stays.specs.Leaves.{with_stay}
use Rattle.copy_stays.specs.Stays.{AreStays}
use Rattle.copy_stays.proofs.Kept.{passes}
use Rattle.exchange_check.proofs.kept.Kept.note_fact.Goals as goal

pub returns-in-None-clause-stays : goal.returns-in-None-clause-stays
returns-in-None-clause-stays c stays leaves h =
    let kept = c.args.self.now.stays in
    let n : ℕ = c.args.number in
    subst (λ (f : Option Fact). AreStays kept
    (with_stay n (option_and_then (stay_of (facts_of c.args.self.now) n) f) stays) (leaves_told f leaves) (n + 1))
    (sym c.in-None.is)
    (passes kept stays leaves n h)
