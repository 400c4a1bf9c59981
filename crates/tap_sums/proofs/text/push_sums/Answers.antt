use Rattle.std.proofs.Common.{◌∙◌, ◌++◌, ap}
use Rattle.std.specs.String.{string_bytes}
use Rattle.std.proofs.lemmas.Result.{IfOk-equal}
use Rattle.tap_crossing.specs.declared.sighting.Kind.TheVariants as kinds
use Rattle.tap_sums.specs.declared.spread.BothWays.{BothWays}
use Rattle.tap_sums.specs.declared.spread.Statistics.{Statistics}
use Rattle.tap_sums.specs.Sums.{counted_of, statistics}
use Rattle.tap_sums.specs.Text.{lines_text}
use Rattle.tap_sums.proofs.text.push_sums.Goals as goal

pub returns : goal.returns
returns c = λ all are.
    let old = string_bytes c.args.text.now in
    let syncs = statistics kinds.Sync (counted_of kinds.Sync all) in
    let requests = statistics kinds.DelayReq (counted_of kinds.DelayReq all) in
    IfOk-equal c.push_lines.result _ _ _ c.push_lines.ensures
    (ap (λ (s : Statistics). old ++ lines_text s c.statistics-2.result c.both_ways.result) (c.statistics.ensures.value all are)
    ∙ ap (λ (r : Statistics). old ++ lines_text syncs r c.both_ways.result) (c.statistics-2.ensures.value all are)
    ∙ ap (λ (b : BothWays). old ++ lines_text syncs requests b) (c.both_ways.ensures.value all are))
