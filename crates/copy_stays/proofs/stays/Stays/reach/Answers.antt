use Rattle.std.proofs.Common.{◌≡◌, ◌∙◌, ◌∷◌, [], ◌++◌, ap, rules}
use Rattle.copy_stays.specs.Stays.{root, state_in}
use Rattle.copy_stays.proofs.Links.{push_root}
use Rattle.copy_stays.proofs.stays.Stays.reach.Goals as goal

pub loop-self-preserved : goal.loop-self-preserved
loop-self-preserved c =
    let pushed : c.push.new.self.items ≡ c.loop-self.self.states.items ++ root ∷ [] = search rules in (
      ap state_in pushed ∙ push_root c.loop-self.self.states.items
          ∙ c.loop-self.invariant.0,
      c.loop-self.invariant.1,
    )
