use Rattle.std.proofs.Common.{◌≡◌, ◌∙◌, ℕ, Some, Ok, sym, subst}
use Rattle.std.specs.Result.{result_ok}
use Rattle.transparent_clock.specs.Forwarding.{forwarded}
use Rattle.network_model.specs.Outcome.{left_outcome}
use Rattle.world_model.specs.Inner.Acts.{Gives}
use Rattle.world_model.proofs.clock.depart.Goals as goal

pub returns-in-Some : goal.returns-in-Some
returns-in-Some c = λ m entered packet stay.
    let both : Some c.in-Some.entered ≡ Some entered = c.in-Some.ensures ∙ stay in
    let same : c.in-Some.entered ≡ entered = cc in (
      c.in_ok-room.ensures.room,
      (
        c.in_ok-now.now,
        sym c.shown.ensures ∙ c.in_ok-now.was,
        subst (λ (e : ℕ). Gives (Some c.in_ok-now.now) (left_outcome (forwarded (Ok m) e c.in_ok-now.now))
            (result_ok (forwarded (Ok m) e c.in_ok-now.now)) c.left.result) (c.enter.ensures ∙ same) (c.left.ensures m packet),
      ),
    )
