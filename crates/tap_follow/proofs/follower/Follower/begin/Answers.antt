use Rattle.std.proofs.Common.{◌≡◌, ◌∙◌, ◌<◌, List, length, take, get_or, sym, ap, subst, arith}
use Rattle.std.specs.Prelude.{reverse}
use Rattle.tap_choice.specs.declared.met.Met.{Met}
use Rattle.tap_follow.specs.Held.{Holding, IsFollowing}
use Rattle.tap_follow.proofs.Courses.{text-more}
use Rattle.tap_follow.proofs.Reversed.{reversed-more}
use Rattle.tap_follow.proofs.follower.Follower.begin.Goals as goal

pub loop-met-preserved : goal.loop-met-preserved
loop-met-preserved c =
    let earlier : List Met = reverse (take c.loop-met.met-index c.args.self.now.kept) in
    let those = c.deref-met-items.ensures.value ∙ ap (λ (t : Holding). t.kept) c.self.view_is in
    let long = ap (λ (xs : List Met). length xs) those in
    let within : c.loop-met.met-index < length c.args.self.now.kept = omega (arith, long) in
    let same = reversed-more c.args.self.now.kept c.met-item.result c.loop-met.met-index within
    (subst (λ (xs : List Met). c.met-item.result ≡ get_or xs c.loop-met.met-index c.met-item.result) those c.met-item.is) in
    let followed = c.in_ok-follow.ensures c.args.self.now.form c.args.followed.now earlier c.loop-met.invariant.follows in
    record {
      follows = subst (λ (met : List Met). IsFollowing c.args.self.now.form c.args.followed.now met c.follow.new.self) (sym same)
          followed.0;
      text = text-more c.args.self.now.form c.args.followed.now c.met-item.result earlier _ _ _ _ same c.loop-met.invariant.text
          followed.1;
    }
