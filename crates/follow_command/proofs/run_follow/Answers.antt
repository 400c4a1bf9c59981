use Rattle.std.proofs.Common.{◌∙◌, ap, subst}
use Rattle.std.specs.Prelude.{Bool, ℕ}
use Rattle.std.specs.Option.{ForSome}
use Rattle.text_lines.specs.Counted.{device_of}
use Rattle.tap_follow.specs.declared.following.Form.{Form}
use Rattle.tap_follow.specs.SoFar.{crossings_so_far}
use Rattle.tap_follow.specs.Input.{FollowsInput}
use Rattle.tap_follow.specs.Told.{TellsInput}
use Rattle.follow_command.specs.Run.{EndsAs, follow_status, taps_wanted, lacking}
use Rattle.follow_command.proofs.run_follow.Goals as goal

pub returns : goal.returns
returns g c =
    let outcome = c.follow-summary.result.0 in
    let summary = c.follow-summary.result.1 in
    let wanted = taps_wanted c.args.options in
    let followed = c.follow-summary.new.output in (
      outcome,
      summary,
      followed,
      c.end_with_sums-status.result,
      c.is_beyond.result,
      c.lacks_tap-lacks.result,
      c.follow-summary.ensures.failures,
      subst (λ (f : Form). FollowsInput f wanted g.R.Read.remaining g.W.Write.contents outcome c.args.input.now c.follow-summary.new.input
          c.args.output.now followed) c.crossing_form-form.ensures c.follow-summary.ensures.followed,
      subst (λ (f : Form). ForSome (g.R.Read.remaining (device_of c.args.input.now)) (λ octets. TellsInput f wanted octets outcome summary))
          c.crossing_form-form.ensures c.follow-summary.ensures.summary,
      subst (λ (b : Bool). EndsAs g.W.Write.contents b summary (follow_status outcome) c.end_with_sums-status.result followed
          c.end_with_sums-status.new.output) c.asks_sums-are_asked.ensures
          (subst (λ (s : ℕ). EndsAs g.W.Write.contents c.asks_sums-are_asked.result summary s c.end_with_sums-status.result followed
          c.end_with_sums-status.new.output) c.finish_followed-status.ensures c.end_with_sums-status.ensures),
      λ course is. c.is_beyond.ensures (crossings_so_far course) (c.sums.ensures course is),
      c.lacks_tap-lacks.ensures,
      c.end_with_taps.ensures ∙ ap (λ (s : ℕ). lacking s c.lacks_tap-lacks.result) c.limited-status.ensures,
    )
