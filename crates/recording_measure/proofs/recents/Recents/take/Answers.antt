use Rattle.std.proofs.Common.{◌≡◌, ◌∷◌, ℤ, List, rules, sym, subst}
use Rattle.std.specs.Int.{w128}
use Rattle.std.specs.List.{cons_option}
use Rattle.std.proofs.lemmas.Int.{to_z-of_z}
use mir.Val.{SFits}
use Rattle.recording_lines.specs.declared.measurement.Half.{Half}
use Rattle.statistics.specs.Median.{IsRecent}
use Rattle.statistics.specs.declared.recent.Recent.{Recent}
use Rattle.recording_measure.specs.Recents.{offset_by, path_by, offsets, paths}
use Rattle.recording_measure.proofs.Heard.{on_ok_then}
use Rattle.recording_measure.proofs.recents.Recents.take.Goals as goal

-- the last values with this one, which was handed in
with_value : (value given : ℤ) (earlier : List ℤ) (new : Recent) → given ≡ value → IsRecent (given ∷ earlier) new
    → IsRecent (value ∷ earlier) new
with_value value given earlier new same is = subst (λ (it : ℤ). IsRecent (it ∷ earlier) new) same is

pub returns-in-Sync-clause-recents : goal.returns-in-Sync-clause-recents
returns-in-Sync-clause-recents c = λ earlier so.
    let report = c.args.made.now.measured.report in
    let fits : SFits w128 report.offset2 = search rules in
    on_ok_then c.take-in-Sync.result (λ taken. record {
      offsets = subst (λ (by : Half). IsRecent (cons_option (offset_by by report) (offsets earlier)) c.take-in-Sync.new.self) (sym c.in-Sync.is)
          (with_value report.offset2 _ (offsets earlier) c.take-in-Sync.new.self (to_z-of_z w128 report.offset2 fits) taken);
      paths = subst (λ (by : Half). IsRecent (cons_option (path_by by report) (paths earlier)) c.args.self.now.paths) (sym c.in-Sync.is) so.paths;
      fresh = c.in_ok-take.ensures.fresh earlier so.fresh;
    }) (c.take-in-Sync.ensures (offsets earlier) so.offsets)

pub returns-in-Response-clause-recents : goal.returns-in-Response-clause-recents
returns-in-Response-clause-recents c = λ earlier so.
    let report = c.args.made.now.measured.report in
    let fits : SFits w128 report.path2 = search rules in
    on_ok_then c.take-in-Response.result (λ taken. record {
      offsets = subst (λ (by : Half). IsRecent (cons_option (offset_by by report) (offsets earlier)) c.args.self.now.offsets)
          (sym c.in-Response.is) so.offsets;
      paths = subst (λ (by : Half). IsRecent (cons_option (path_by by report) (paths earlier)) c.take-in-Response.new.self) (sym c.in-Response.is)
          (with_value report.path2 _ (paths earlier) c.take-in-Response.new.self (to_z-of_z w128 report.path2 fits) taken);
      fresh = c.in_ok-take.ensures.fresh earlier so.fresh;
    }) (c.take-in-Response.ensures (paths earlier) so.paths)
