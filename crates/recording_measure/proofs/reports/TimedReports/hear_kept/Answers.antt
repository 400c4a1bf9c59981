use Rattle.std.proofs.Common.{◌≡◌, ◌∙◌, ◌≤◌, ◌<◌, ◌∷◌, length, sym, subst, arith, rules}
use Rattle.std.specs.Prelude.{option_to_list}
use Rattle.std.proofs.Math.ListN.{drop_of_length-le}
use Rattle.std.proofs.lemmas.Result.{err_from_is_err_and}
use Rattle.std.specs.Io.KnownBytes.{Appends}
use Rattle.text_lines.specs.Counted.{device_of}
use Rattle.recording_model.specs.Listening.{after_all}
use Rattle.recording_measure.specs.Row.{Row, datagrams}
use Rattle.recording_measure.specs.Measured.{texts_as, measured_at, measurements}
use Rattle.recording_measure.specs.Counts.{fates, IsCounts}
use Rattle.recording_measure.specs.Recents.{AreRecents}
use Rattle.recording_measure.specs.Inner.StandsFor.{StandsFor}
use Rattle.recording_measure.proofs.Goes.{texts-after}
use Rattle.recording_measure.proofs.KeptRows.{are_next, kept_until}
use Rattle.recording_measure.proofs.reports.TimedReports.hear_kept.Goals as goal

pub returns-in_err-hear-clause-heard : goal.returns-in_err-hear-clause-heard
returns-in_err-hear-clause-heard g c = λ watched rows are begun.
    let e = err_from_is_err_and c.from_residual.result c.from_residual.ensures.1 in
    let (earlier, left, listens, appended, counts, recents) = c.loop-it.invariant.heard watched rows are begun in
    let within : c.loop-it.it-index < length c.args.kept.now = omega arith in
    let next = are_next earlier rows c.args.kept.now c.loop-it.it-index c.it-item.result within c.it-item.is left in
    let same = c.datagram.ensures.only next.0 next.1 in
    let heard = c.in_err-hear.ensures.heard watched earlier listens in
    rw (e.1, e.2) (
      tt,
      kept_until c.args.self.now.reports.form c.in_err-hear.field-0.0 watched earlier rows next.0 _ _ _ _ _ same next.2 appended
          (rw c.loop-it.invariant.form at heard.1),
    )

pub loop-it-preserved : goal.loop-it-preserved
loop-it-preserved g c = record {
  heard = λ watched rows are begun.
      let (earlier, left, listens, appended, counts, recents) = c.loop-it.invariant.heard watched rows are begun in
      let within : c.loop-it.it-index < length c.args.kept.now = omega arith in
      let next = are_next earlier rows c.args.kept.now c.loop-it.it-index c.it-item.result within c.it-item.is left in
      let same = c.datagram.ensures.only next.0 next.1 in
      let heard = c.in_ok-hear.ensures.heard watched earlier listens in (
        next.0 ∷ earlier,
        next.2,
        subst (λ (row : Row). StandsFor watched c.hear.new.listener (after_all watched (datagrams (row ∷ earlier)))) (sym same) heard.0,
        texts-after c.args.self.now.reports.form (option_to_list (measured_at watched earlier next.0)) (measurements watched earlier)
            _ _ _ appended (subst (λ (row : Row). Appends (g.W.Write.contents (device_of c.loop-it.output))
            (g.W.Write.contents (device_of c.hear.new.output))
            (texts_as c.args.self.now.reports.form (option_to_list (measured_at watched earlier row)))) (sym same)
            (rw c.loop-it.invariant.form at heard.1)),
        λ so. subst (λ (row : Row). IsCounts (fates watched (row ∷ earlier)) c.hear.new.self.reports.tally.counts) (sym same)
            (c.in_ok-hear.ensures.counted watched earlier (fates watched earlier) listens (counts so)),
        λ so. subst (λ (row : Row). AreRecents (measurements watched (row ∷ earlier)) c.hear.new.self.reports.recents) (sym same)
            (c.in_ok-hear.ensures.recents watched earlier (measurements watched earlier) listens (recents so)),
      );
  form = c.in_ok-hear.ensures.form ∙ c.loop-it.invariant.form;
  handing = c.in_ok-hear.ensures.handing ∙ c.loop-it.invariant.handing;
  writer = search rules;
}

pub returns-clause-heard : goal.returns-clause-heard
returns-clause-heard g c = λ watched rows are begun.
    let (earlier, left, listens, appended, counts, recents) = c.loop-it.invariant.heard watched rows are begun in
    let past : length c.args.kept.now ≤ c.loop-it.it-index = omega arith in
    let all : rows ≡ earlier = rw (drop_of_length-le c.args.kept.now past) at left in
    rw all (listens, appended)

pub returns-clause-counted : goal.returns-clause-counted
returns-clause-counted g c = λ watched rows are begun so.
    let (earlier, left, listens, appended, counts, recents) = c.loop-it.invariant.heard watched rows are begun in
    let past : length c.args.kept.now ≤ c.loop-it.it-index = omega arith in
    let all : rows ≡ earlier = rw (drop_of_length-le c.args.kept.now past) at left in
    rw all (counts so)

pub returns-clause-recents : goal.returns-clause-recents
returns-clause-recents g c = λ watched rows are begun so.
    let (earlier, left, listens, appended, counts, recents) = c.loop-it.invariant.heard watched rows are begun in
    let past : length c.args.kept.now ≤ c.loop-it.it-index = omega arith in
    let all : rows ≡ earlier = rw (drop_of_length-le c.args.kept.now past) at left in
    rw all (recents so)
