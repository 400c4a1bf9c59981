use Rattle.std.proofs.Common.{◌≡◌, ◌∙◌, ◌∷◌, Some, sym, ap, arith}
use Rattle.std.specs.Prelude.{length}
use Rattle.std.specs.Option.{option_or}
use Rattle.recording_summary.specs.declared.announces.Announces.{Announces}
use Rattle.recording_summary.specs.Announces.{told_by, change_by, changes_in}
use Rattle.statistics.specs.Cases.{first_of}
use Rattle.recording_summary.proofs.Announcing.{told_anew, changed}
use Rattle.recording_summary.proofs.announces.Announces.take.Goals as goal

pub returns-in-Some : goal.returns-in-Some
returns-in-Some c = λ all so.
    let a = c.args.announcement.now in
    let is : change_by (told_by all) a ≡ Some c.in-Some.change = ap (λ o. change_by o a) (sym so.told) ∙ sym c.change_by.ensures ∙ c.in-Some.is in
    let those : changes_in (a ∷ all) ≡ c.in-Some.change ∷ changes_in all = changed a all c.in-Some.change is in
    let count = ap (λ (s : Announces). s.count) c.take_change.ensures in
    let changes = ap (λ (s : Announces). s.changes) c.take_change.ensures in
    let more = ap length those in
    record {
      count = omega (arith, count, c.saturating_add-self.ensures, so.count);
      told = ap (λ x. Some x) (sym (told_anew (told_by all) a c.in-Some.change is));
      changes = omega (arith, changes, more, so.changes);
      first_change = ap (λ (s : Announces). s.first_change) c.take_change.ensures
          ∙ ap (λ o. option_or o (Some c.in-Some.change)) so.first_change ∙ ap first_of (sym those);
    }
