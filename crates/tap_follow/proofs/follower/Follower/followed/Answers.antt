use Rattle.std.proofs.Common.{sym, subst}
use Rattle.tap_follow.specs.Course.{Course}
use Rattle.tap_follow.specs.Held.{Holding, IsFollower}
use Rattle.tap_follow.proofs.SoFar.{followed-known, followed-unknown}
use Rattle.tap_follow.proofs.follower.Follower.followed.Goals as goal

pub returns-in-Some : goal.returns-in-Some
returns-in-Some c = λ (course : Course) stands.
    let at = subst (λ (t : Holding). IsFollower t course) (sym c.self.view_is) stands in
    followed-known course _ c.in-Some.following c.followed.result at c.in-Some.is c.followed.ensures

pub returns-in-None : goal.returns-in-None
returns-in-None c = λ (course : Course) stands.
    let at = subst (λ (t : Holding). IsFollower t course) (sym c.self.view_is) stands in
    followed-unknown course _ at (λ held is. cc)
