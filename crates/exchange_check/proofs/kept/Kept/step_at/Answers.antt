use Rattle.std.proofs.Common.{◌≡◌, ◌∙◌, ◌∷◌, [], ◌++◌, ◌-◌, ◌+◌, ◌<◌, true, length, Option, sym, subst, arith, rules}
use Rattle.std.proofs.lemmas.Grind.{common_steps}
use Rattle.std.specs.Prelude.{option_and_then, IfSome}
use Rattle.exchange_check.specs.declared.facts.Fact.{Fact}
use Rattle.exchange_check.specs.declared.kept.Kept.{Kept}
use Rattle.copy_stays.specs.Leaves.{Leaves, LastStays, with_stay}
use Rattle.exchange_check.specs.Inner.Kept.{has_site, fact_in, fact_from, fact_by, kept_journey_by}
use Rattle.exchange_check.specs.Inner.Stays.{stay_of}
use Rattle.copy_stays.specs.Stays.{AreStays}
use Rattle.exchange_check.specs.Inner.Machine.{facts_of, sites_of, stamps_of, sites_told, leaves_told, stamps_told}
use Rattle.exchange_check.specs.Inner.Machine.{firsts_of, firsts_told}
use Rattle.exchange_check.proofs.KeptSites.{fact-there}
use Rattle.exchange_check.proofs.Keeping.{IsKept-line, judgement-line, accepted-bound}
use Rattle.exchange_check.proofs.kept.Kept.step_at.Goals as goal

pub returns : goal.returns
returns c =
    let items = c.args.self.now.facts.items in
    let pushed : c.push.new.self.items ≡ items ++ c.fact-fact.result ∷ [] = search rules in
    let number : c.len-number.result ≡ length items = search rules in
    let total : c.len-total.result ≡ length items + 1 = grind (arith, common_steps) in
    let last : c.len-total.result - 1 ≡ length items = omega arith in
    let bound : c.len-total.result < 18446744073709551616 = search rules in
    let stays_are : (stays : LastStays) (leaves : Leaves)
    → AreStays c.args.self.now.stays stays leaves c.len-number.result
    → AreStays c.note_fact.new.self.stays
    (with_stay c.len-number.result
    (option_and_then (stay_of (fact_in c.push.new.self.items) c.len-number.result) c.fact-fact.result) stays)
    (leaves_told c.fact-fact.result leaves) (c.len-number.result + 1) = search rules in
    let stamps : stamps_of c.note_fact.new.self
    ≡ stamps_told c.fact-fact.result c.len-number.result (sites_of c.args.nodes.now c.args.self.now)
    (stamps_of c.args.self.now) = search rules in
    let firsts : firsts_of c.note_fact.new.self
    ≡ firsts_told c.fact-fact.result c.len-number.result (firsts_of c.args.self.now) = search rules in
    let known = c.known-known.ensures in
    let journey : c.in_ok-journey.journey
    ≡ kept_journey_by (facts_of c.args.self.now) c.known-known.result c.args.line.now.event = c.in_ok-journey.ensures in
    let fact : c.fact-fact.result
    ≡ fact_by c.args.nodes.now (facts_of c.args.self.now) (sites_of c.args.nodes.now c.args.self.now) c.args.line.now
    c.len-number.result =
    c.fact-fact.ensures
    ∙ (λ i. fact_from c.args.nodes.now (facts_of c.args.self.now) c.args.line.now c.known-known.result (journey i))
    ∙ (λ i. fact_from c.args.nodes.now (facts_of c.args.self.now) c.args.line.now (known i)
    (kept_journey_by (facts_of c.args.self.now) (known i) c.args.line.now.event)) in
    let there : IfSome c.fact-fact.result (λ told. has_site c.args.nodes.now told.event ≡ true) =
    subst (λ (f : Option Fact). IfSome f (λ told. has_site c.args.nodes.now told.event ≡ true)) (sym c.fact-fact.ensures)
    (fact-there c.args.nodes.now (facts_of c.args.self.now) c.args.line.now c.known-known.result c.in_ok-journey.journey) in
    let sites : sites_of c.args.nodes.now c.note_fact.new.self
    ≡ sites_told c.fact-fact.result c.len-number.result (sites_of c.args.nodes.now c.args.self.now) = search (c.note_fact.ensures.sites there, rules) in
    let after : Kept = record {
      facts = c.note_fact.new.self.facts;
      sites = c.note_fact.new.self.sites;
      stays = c.note_fact.new.self.stays;
      stamps = c.note_fact.new.self.stamps;
      verdict = c.with_judgement-verdict.result;
    } in
    record {
      kept = λ count m h.
          let below : count < c.len-total.result = omega (arith, h.count_is, total) in (
            IsKept-line c.args.nodes.now c.args.line.now count m c.args.self.now c.len-number.result c.fact-fact.result
                c.push.new.self.items h number fact pushed after (c.len-total.result - 1) c.line_judgement-answer.result
                last (λ i. (c.note_fact.ensures.facts i).items) sites stays_are firsts stamps c.line_judgement-answer.ensures
                (c.with_judgement-verdict.ensures
                (accepted-bound c.args.nodes.now c.args.self.now count m c.len-total.result h below bound)),
            judgement-line c.args.nodes.now c.args.line.now count m c.args.self.now c.len-number.result
                c.fact-fact.result c.push.new.self.items h number fact pushed c.line_judgement-answer.result
                c.line_judgement-answer.ensures,
          );
    }
