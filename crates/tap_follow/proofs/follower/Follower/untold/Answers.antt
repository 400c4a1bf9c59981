use Rattle.std.proofs.Common.{sym, subst}
use Rattle.tap_follow.specs.Course.{Course}
use Rattle.tap_follow.specs.Held.{Holding, IsFollower}
use Rattle.tap_follow.proofs.SoFar.{untold-known, untold-unknown}
use Rattle.tap_follow.proofs.follower.Follower.untold.Goals as goal

pub returns-in-Some : goal.returns-in-Some
returns-in-Some c = λ (course : Course) stands.
    let at = subst (λ (t : Holding). IsFollower t course) (sym c.self.view_is) stands in
    untold-known c.args.kind course _ c.in-Some.following _ at c.in-Some.is c.untold.ensures

pub returns-in-None : goal.returns-in-None
returns-in-None c = λ (course : Course) stands.
    let at = subst (λ (t : Holding). IsFollower t course) (sym c.self.view_is) stands in
    untold-unknown c.args.kind course _ c.new.result at (λ held is. cc) c.new.ensures
