use Rattle.std.proofs.Common.{◌≡◌, ◌∙◌, ◌++◌, Some, ap, subst}
use Rattle.std.specs.Io.KnownBytes.{Appends}
use Rattle.tap_follow.specs.declared.whom.Whom.{Whom}
use Rattle.tap_follow.specs.Course.{Course}
use Rattle.tap_follow.specs.SoFar.{followed_so_far}
use Rattle.tap_follow.specs.Whom.{untold_whom, whom_text}
use Rattle.tap_follow.specs.Words.{ending_text}
use Rattle.tap_follow.proofs.Courses.{on_ok_map}
use Rattle.tap_follow.proofs.summary.Summary.tell_end.Goals as goal

pub returns-in-Some : goal.returns-in-Some
returns-in-Some g c = λ (course : Course) is.
    let whom : c.untold-whom.result ≡ untold_whom c.args.self.now.told (followed_so_far course) =
    c.untold-whom.ensures ∙ ap (untold_whom c.args.self.now.told) (c.followed.ensures course is) in
    on_ok_map c.write.result c.write.ensures.bytes (λ wrote. (
      Some c.in-Some.ending,
      c.in-Some.ensures.ending course is,
      subst (λ (w : Whom). Appends (g.E.Write.contents c.args.errors.now) (g.E.Write.contents c.write.new.self)
          (whom_text w ++ ending_text c.in-Some.ending)) whom wrote,
    ))
