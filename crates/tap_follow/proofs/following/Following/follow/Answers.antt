use Rattle.std.proofs.Common.{◌∙◌, ◌++◌, ℕ, List, [], ◌∷◌, Some, None, refl, sym, ap, subst}
use Rattle.std.proofs.lemmas.List.{append-nil}
use Rattle.std.specs.Prelude.{option_to_list}
use Rattle.std.specs.String.{string_bytes}
use Rattle.tap_crossing.specs.declared.sighting.Kind.TheVariants as kinds
use Rattle.tap_crossing.specs.declared.sighting.Placed.{Placed}
use Rattle.tap_crossing.specs.StandsFor.{StandsAfter}
use Rattle.tap_sums.specs.Figures.{AreFigures}
use Rattle.tap_sums.specs.Untold.{AreUntold}
use Rattle.tap_sums.specs.Held.{AreSums}
use Rattle.tap_follow.specs.Held.{Held, IsFollowing}
use Rattle.tap_follow.specs.Written.{records_most, placed_in, outcome_of, outcomes_in, crossing_in, crossings_in, text_as, told_of}
use Rattle.tap_follow.proofs.Courses.{on_ok_map}
use Rattle.tap_follow.proofs.Coming.{IsLearned, Counted, learned-is, placed-is, came, unplaced, told-more, counted-with, text-told, none-crossed}
use Rattle.tap_follow.proofs.following.Following.follow.Goals as goal

pub returns-in_default : goal.returns-in_default
returns-in_default c = λ form f earlier at.
    let m = c.args.met.now in
    let held : Held = record {
      form = c.self.inside.form;
      followed = c.self.inside.followed;
      tables = c.self.inside.taps;
      sums = c.self.inside.sums;
      figures = c.self.inside.figures;
      untold_syncs = c.self.inside.untold_syncs;
      untold_requests = c.self.inside.untold_requests;
    } in
    let learnt : IsLearned form f m earlier c.learn.new.self =
    learned-is form f m earlier c.args.self.now c.learn.new.self at c.learn.ensures in
    let inside : IsLearned form f m earlier held = subst (IsLearned form f m earlier) (sym c.self.view_is) learnt in
    let place = placed-is form f m earlier held _ _ _ inside c.tap_at-tap.ensures c.message_of-message.ensures c.placed.ensures in
    let (follows, text) = came form f m earlier c.placed.result c.learn.new.self [] place
    (unplaced form f m earlier c.learn.new.self c.placed.result learnt c.in_default.is) in
    (follows, sym (append-nil (string_bytes c.args.text.now)) ∙ ap (λ (t : List ℕ). string_bytes c.args.text.now ++ t) text)

pub returns-in-Waits : goal.returns-in-Waits
returns-in-Waits c = λ form f earlier at.
    let m = c.args.met.now in
    let p : Placed = c.in-Some.placed in
    let held : Held = record {
      form = c.self.inside.form;
      followed = c.self.inside.followed;
      tables = c.self.inside.taps;
      sums = c.self.inside.sums;
      figures = c.self.inside.figures;
      untold_syncs = c.self.inside.untold_syncs;
      untold_requests = c.self.inside.untold_requests;
    } in
    let new : Held = c.count.new.self in
    let inside : IsLearned form f m earlier held = subst (IsLearned form f m earlier) (sym c.self.view_is)
    (learned-is form f m earlier c.args.self.now c.learn.new.self at c.learn.ensures) in
    let place = placed-is form f m earlier held _ _ _ inside c.tap_at-tap.ensures c.message_of-message.ensures c.placed.ensures in
    let counted : Counted form f m earlier p c.meet-outcome.result held new = record {
      form_is = ap (λ (h : Held). h.form) c.count.ensures.others;
      followed = ap (λ (h : Held). h.followed) c.count.ensures.others;
      stands = subst (λ (h : Held). StandsAfter p c.self.inside.taps h.tables) (sym c.count.ensures.others) c.meet-outcome.ensures.stands;
      untold_syncs = c.count.ensures.syncs (outcomes_in kinds.Sync f earlier) inside.untold_syncs;
      untold_requests = c.count.ensures.requests (outcomes_in kinds.DelayReq f earlier) inside.untold_requests;
    } in
    let (follows, text) = came form f m earlier (Some p) new [] (sym c.in-Some.is ∙ place)
    (told-more form f m earlier held new p c.meet-outcome.result None [] inside
    (c.meet-outcome.ensures.told records_most (placed_in f earlier) inside.stands)
    (none-crossed c.meet-outcome.result c.in-Waits.is) counted
    (subst (λ (h : Held). AreSums (crossings_in f earlier) h.sums) (sym c.count.ensures.others) inside.sums)
    (subst (λ (h : Held). AreFigures (crossings_in f earlier) h.figures) (sym c.count.ensures.others) inside.figures) refl) in
    (follows, sym (append-nil (string_bytes c.args.text.now)) ∙ ap (λ (t : List ℕ). string_bytes c.args.text.now ++ t) text)

pub returns-in_ok-take-in-Crossed : goal.returns-in_ok-take-in-Crossed
returns-in_ok-take-in-Crossed c = λ form f earlier at.
    let m = c.args.met.now in
    let p : Placed = c.in-Some.placed in
    let held : Held = record {
      form = c.self.inside.form;
      followed = c.self.inside.followed;
      tables = c.self.inside.taps;
      sums = c.self.inside.sums;
      figures = c.self.inside.figures;
      untold_syncs = c.self.inside.untold_syncs;
      untold_requests = c.self.inside.untold_requests;
    } in
    let mid : Held = record {
      form = c.self-in-Crossed.inside.form;
      followed = c.self-in-Crossed.inside.followed;
      tables = c.self-in-Crossed.inside.taps;
      sums = c.self-in-Crossed.inside.sums;
      figures = c.self-in-Crossed.inside.figures;
      untold_syncs = c.self-in-Crossed.inside.untold_syncs;
      untold_requests = c.self-in-Crossed.inside.untold_requests;
    } in
    let pushed : Held = record mid { sums = c.take.new.self; figures = c.take-in-Crossed.new.self } in
    let inside : IsLearned form f m earlier held = subst (IsLearned form f m earlier) (sym c.self.view_is)
    (learned-is form f m earlier c.args.self.now c.learn.new.self at c.learn.ensures) in
    let place = placed-is form f m earlier held _ _ _ inside c.tap_at-tap.ensures c.message_of-message.ensures c.placed.ensures in
    let others = c.self-in-Crossed.view_is ∙ c.count.ensures.others in
    let counted : Counted form f m earlier p c.meet-outcome.result held mid = record {
      form_is = ap (λ (h : Held). h.form) others;
      followed = ap (λ (h : Held). h.followed) others;
      stands = subst (λ (h : Held). StandsAfter p c.self.inside.taps h.tables) (sym others) c.meet-outcome.ensures.stands;
      untold_syncs = subst (λ (h : Held). AreUntold (option_to_list (outcome_of kinds.Sync p.kind c.meet-outcome.result)
          ++ outcomes_in kinds.Sync f earlier) h.untold_syncs) (sym c.self-in-Crossed.view_is)
          (c.count.ensures.syncs (outcomes_in kinds.Sync f earlier) inside.untold_syncs);
      untold_requests = subst (λ (h : Held). AreUntold (option_to_list (outcome_of kinds.DelayReq p.kind c.meet-outcome.result)
          ++ outcomes_in kinds.DelayReq f earlier) h.untold_requests) (sym c.self-in-Crossed.view_is)
          (c.count.ensures.requests (outcomes_in kinds.DelayReq f earlier) inside.untold_requests);
    } in
    let then : Counted form f m earlier p c.meet-outcome.result held pushed =
    counted-with form f m earlier p c.meet-outcome.result held mid c.take.new.self c.take-in-Crossed.new.self counted in
    let sums = subst (λ (h : Held). AreSums (crossings_in f earlier) h.sums) (sym others) inside.sums in
    let figures = subst (λ (h : Held). AreFigures (crossings_in f earlier) h.figures) (sym others) inside.figures in
    let comes = told-more form f m earlier held pushed p c.meet-outcome.result (Some c.in-Crossed.crossing)
    (text_as pushed.form (told_of pushed.followed c.in-Crossed.crossing)) inside
    (c.meet-outcome.ensures.told records_most (placed_in f earlier) inside.stands) (ap crossing_in c.in-Crossed.is) then
    (c.take.ensures (crossings_in f earlier) sums) (c.in_ok-take-in-Crossed.ensures (crossings_in f earlier) figures)
    (text-told form f m earlier held pushed p c.meet-outcome.result c.in-Crossed.crossing inside then) in
    let (follows, text) = came form f m earlier (Some p) pushed _ (sym c.in-Some.is ∙ place) comes in
    on_ok_map c.push.result c.push.ensures.written (λ appended. (
      subst (IsFollowing form f (m ∷ earlier)) (sym c.push.ensures.kept) follows,
      appended ∙ ap (λ (t : List ℕ). string_bytes c.args.text.now ++ t) text,
    ))
