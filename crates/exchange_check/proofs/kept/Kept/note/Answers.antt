use Rattle.std.proofs.Common.{◌≡◌, Result, Ok, Err, None, inl, inr, ap}
use Rattle.std.specs.Prelude.{MatchResult}
use Rattle.network_model.specs.Kinds.{named_transit}
use Rattle.exchange_check.specs.declared.refusal.CheckFault.{CheckFault}
use Rattle.exchange_check.specs.Inner.Machine.{facts_of}
use Rattle.exchange_check.proofs.Passing.{others_pass, stays_pass}
use Rattle.exchange_check.proofs.kept.Kept.note.Goals as goal

-- whatever memory was refused for, what is kept of stays is the same
either_way : (A B : Type 0) → A → B → (r : Result (Unit {0}) CheckFault) → MatchResult r (λ x. A) (λ x. B)
either_way A B a b (Ok x) = a
either_way A B a b (Err x) = b

pub returns-in-Stamped-clause-stays : goal.returns-in-Stamped-clause-stays
returns-in-Stamped-clause-stays c stays leaves h =
    either_way _ _ (stays_pass c.args.self.now.stays
    (facts_of c.args.self.now) c.args.number c.args.fact.now stays leaves
    (ap named_transit c.in-Stamped.is) h) h c.stamp.result

pub returns-in_default-clause-stays : goal.returns-in_default-clause-stays
returns-in_default-clause-stays c stays leaves h =
    stays_pass c.args.self.now.stays (facts_of c.args.self.now) c.args.number c.args.fact.now stays leaves
    (others_pass c.args.fact.now.event c.in_default.not-Leave) h

pub returns-in-Sync-clause-stays : goal.returns-in-Sync-clause-stays
returns-in-Sync-clause-stays c stays leaves h =
    either_way _ _ (stays_pass c.args.self.now.stays
    (facts_of c.args.self.now) c.args.number c.args.fact.now stays leaves none h) h
    c.move_site.result
  where
    none : named_transit c.args.fact.now.event ≡ None
    none = elim c.in-Sync.is [
      | inl p ↦ ap named_transit p.2
      | inr (inl p) ↦ ap named_transit p.2
      | inr (inr (inl p)) ↦ ap named_transit p.2
      | inr (inr (inr (inl p))) ↦ ap named_transit p.2
      | inr (inr (inr (inr p))) ↦ ap named_transit p.2
    ]
