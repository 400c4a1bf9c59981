use Rattle.std.proofs.Common.{◌∷◌, Bool, sym, subst}
use Rattle.recording_measure.specs.Made.{Measured}
use Rattle.recording_measure.specs.Fresh.{AreFreshIf}
use Rattle.recording_measure.specs.Inner.Hearing.{made_of}
use Rattle.recording_measure.proofs.Freshness.{fresh_more}
use Rattle.recording_measure.proofs.completion.Fresh.take.Goals as goal

pub returns-in_ok-push-clause-fresh : goal.returns-in_ok-push-clause-fresh
returns-in_ok-push-clause-fresh c = λ earlier so.
    let old = c.args.self.now in
    let m : Measured = made_of c.args.made.now in
    subst (λ (asked : Bool). AreFreshIf asked (m ∷ earlier) old.handing.handed c.push.new.self.items) (sym c.if-self.true)
    (fresh_more m earlier old.handing.handed old.completions.items c.push.new.self.items c.in_ok-push.ensures.items
    (subst (λ (asked : Bool). AreFreshIf asked earlier old.handing.handed old.completions.items) c.if-self.true so))
