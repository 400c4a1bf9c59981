use Rattle.std.proofs.Common.{◌∙◌, sym, subst}
use Rattle.tap_follow.specs.Course.{Course}
use Rattle.tap_follow.specs.Held.{Holding, IsFollower}
use Rattle.tap_follow.proofs.Courses.{on_ok_map, known_of, unknown_of, take_known, take_kept, take_begun, chosen_now, noticed_is}
use Rattle.tap_follow.proofs.follower.Follower.take.Goals as goal

pub returns-in-Some : goal.returns-in-Some
returns-in-Some c = λ (course : Course) stands.
    let at = subst (λ (t : Holding). IsFollower t course) (sym c.self.view_is) stands in
    let (f, known, follows) = known_of course _ c.in-Some.following at c.in-Some.is in
    on_ok_map c.follow.result (c.follow.ensures course.form f course.met follows)
    (λ is. take_known course c.args.met.now _ f c.follow.new.self _ _ at known is)

pub returns-in-Some-chosen : goal.returns-in-Some-chosen
returns-in-Some-chosen c = λ (course : Course) stands.
    let at = subst (λ (t : Holding). IsFollower t course) (sym c.self.view_is) stands in
    let (unknown, nothing, known, keeps, empty) = unknown_of course _ at c.in_default.not-Some in
    let is = noticed_is course c.args.met.now _ c.keep.new.self c.notice.new.self at nothing known c.notice.ensures
    c.in_ok-keep.ensures.others (c.in_ok-keep.ensures.kept course.before keeps) in
    on_ok_map c.begin.result c.begin.ensures.begun
    (λ begun. take_begun course c.args.met.now c.keep.new.self c.begin.new.self c.in-Some-chosen.followed _ _ unknown is
    (chosen_now course c.args.met.now c.keep.new.self c.chosen.result is (rw c.is_full.ensures at c.chosen.ensures)
    ∙ c.in-Some-chosen.is)
    c.begin.ensures.others begun)

pub returns-in-None : goal.returns-in-None
returns-in-None c = λ (course : Course) stands.
    let at = subst (λ (t : Holding). IsFollower t course) (sym c.self.view_is) stands in
    let (unknown, nothing, known, keeps, empty) = unknown_of course _ at c.in_default.not-Some in
    let is = noticed_is course c.args.met.now _ c.keep.new.self c.notice.new.self at nothing known c.notice.ensures
    c.in_ok-keep.ensures.others (c.in_ok-keep.ensures.kept course.before keeps) in
    take_kept course c.args.met.now c.keep.new.self _ unknown is
    (chosen_now course c.args.met.now c.keep.new.self c.chosen.result is (rw c.is_full.ensures at c.chosen.ensures) ∙ c.in-None.is)
