use Rattle.std.proofs.Common.{sym, subst}
use Rattle.tap_follow.specs.Course.{Course}
use Rattle.tap_follow.specs.Held.{Holding, IsFollower}
use Rattle.tap_follow.specs.Written.{records_most, placed_in}
use Rattle.tap_follow.proofs.Courses.{known_of}
use Rattle.tap_follow.proofs.SoFar.{open-known, open-unknown}
use Rattle.tap_follow.proofs.follower.Follower.open_records.Goals as goal

pub returns-in-Some : goal.returns-in-Some
returns-in-Some c = λ (course : Course) stands.
    let at = subst (λ (t : Holding). IsFollower t course) (sym c.self.view_is) stands in
    let (f, known, follows) = known_of course _ c.in-Some.following at c.in-Some.is in
    open-known c.args.kind c.args.filled course c.open_records.result f known
    (c.open_records.ensures records_most (placed_in f course.met) follows.stands)

pub returns-in-None : goal.returns-in-None
returns-in-None c = λ (course : Course) stands.
    let at = subst (λ (t : Holding). IsFollower t course) (sym c.self.view_is) stands in
    open-unknown c.args.kind c.args.filled course _ at (λ held is. cc)
