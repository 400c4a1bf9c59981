use Rattle.std.proofs.Common.{◌≡◌, ◌∙◌, ◌+◌, ◌∷◌, List, true, false, [], length, get_or, refl, sym, subst, arith}
use Rattle.std.specs.Prelude.{option_to_list}
use Rattle.std.proofs.KnownBytes.{Appends-nil}
use Rattle.text_lines.specs.Counted.{device_of}
use Rattle.datagram_source.specs.Datagram.{place_of, datagram_of}
use Rattle.recording_measure.specs.declared.form.Form.{Form}
use Rattle.recording_measure.specs.declared.recording.Recording.{Recording}
use Rattle.recording_measure.specs.Places.{PlacedRow, placed, is_same_place}
use Rattle.recording_measure.specs.Row.{kept_most}
use Rattle.recording_measure.specs.Made.{Measured}
use Rattle.recording_measure.specs.Measured.{measured_at}
use Rattle.recording_measure.specs.Recents.{AreRecents}
use Rattle.recording_measure.specs.Chosen.{heard_at, input_measured}
use Rattle.recording_measure.specs.Inner.Measuring.{IsStage}
use Rattle.recording_measure.specs.Inner.Hearing.{Goes}
use Rattle.recording_measure.specs.Told.{place_in}
use Rattle.recording_measure.proofs.Looking.{few_by, hears_more, hears_other, measures_more, measures_nothing, input_whom_stays}
use Rattle.recording_measure.proofs.KeptRows.{one_there}
use Rattle.recording_measure.specs.declared.measuring.Stage.{Stage}
use Rattle.recording_measure.specs.Inner.Stages.{whom_at, input_whom}
use Rattle.recording_measure.specs.Counts.{Fate, input_fates, IsCounts}
use Rattle.recording_measure.proofs.InputFates.{so_far, so_far_known, none_known, more-fates, other-fates}
use Rattle.recording_measure.proofs.Chosen.{chosen-stays, measured-unknown}
use Rattle.recording_measure.proofs.Heard.{on_ok_then, on_ok_all}
use Rattle.recording_measure.proofs.measuring.Measuring.take_row.Goals as goal
use Rattle.recording_measure.proofs.measuring.Measuring.take_row.Goals.{then-is_kept, else-is_kept}

pub returns-after-is_kept-clause-taken : goal.returns-after-is_kept-clause-taken
returns-after-is_kept-clause-taken g c = λ k at.
    let recordings = c.args.self.now.recordings.recordings.items in
    let (none, are, counted) = subst (IsStage k.wanted k.rows recordings) c.in-Looking.is at.stage in
    let few = few_by c.in-Looking.count (length k.rows) kept_most counted in
    c.look.ensures.taken k (elim c.if-is_kept.branch [
      | then-is_kept w ↦ rw w.self-is (record {
        form = at.form;
        wanted = at.wanted;
        unchosen = none;
        recordings = are;
        kept = few;
        nothing = none_known k.wanted k.rows c.args.self.now.reports.reports.tally.counts none at.counts;
        recents = subst (λ (ms : List Measured). AreRecents ms c.args.self.now.reports.reports.recents)
            (measured-unknown k.wanted k.rows none) at.recents;
        handing = at.handing;
        counted = (c.in-Looking.count + 1, refl, omega (arith, counted, w.if-is_kept.true));
      })
      | else-is_kept w ↦ rw w.self-is (record {
        form = at.form;
        wanted = at.wanted;
        unchosen = none;
        recordings = are;
        kept = few;
        nothing = none_known k.wanted k.rows c.args.self.now.reports.reports.tally.counts none at.counts;
        recents = subst (λ (ms : List Measured). AreRecents ms c.args.self.now.reports.reports.recents)
            (measured-unknown k.wanted k.rows none) at.recents;
        handing = at.handing;
        counted = (c.in-Looking.count, refl, omega (arith, counted, w.if-is_kept.false));
      })
    ])

pub is_at-requires : goal.is_at-requires
is_at-requires g c =
    let (k, at) = c.requires.stands in
    let (watched, within, is, known, listens) =
    subst (IsStage k.wanted k.rows c.args.self.now.recordings.recordings.items) c.in-Hearing.is at.stage in within

pub returns-then-is_at-clause-taken : goal.returns-then-is_at-clause-taken
returns-then-is_at-clause-taken g c = λ k at.
    let r : PlacedRow = placed (place_of c.args.met.now) (datagram_of c.args.datagram.now) in
    let recordings = c.args.self.now.recordings.recordings.items in
    let (watched, within, is, known, listens) = subst (IsStage k.wanted k.rows recordings) c.in-Hearing.is at.stage in
    let same : (d : Recording) → is_same_place (place_in (get_or recordings c.in-Hearing.index d)) r.place ≡ true =
    λ d. sym (c.is_at.ensures d) ∙ c.if-is_at.true in
    let heard = c.hear.ensures.heard watched (heard_at k.wanted k.rows) listens in
    let before : (d : Recording) → IsCounts (input_fates k.wanted (place_in (get_or recordings c.in-Hearing.index d)) k.rows)
    c.args.self.now.reports.reports.tally.counts =
    λ d. so_far_known k.wanted k.rows (place_in (get_or recordings c.in-Hearing.index d)) c.args.self.now.reports.reports.tally.counts
    (is d) at.counts in
    let counted = one_there recordings c.in-Hearing.index within (λ d. on_ok_then c.hear.result
    (λ so. so_far k.wanted (r ∷ k.rows) (place_in (get_or recordings c.in-Hearing.index d)) c.hear.new.self.reports.tally.counts
    (chosen-stays k.wanted k.rows r (place_in (get_or recordings c.in-Hearing.index d)) (is d))
    (subst (λ (all : List Fate). IsCounts all c.hear.new.self.reports.tally.counts)
    (sym (more-fates k.wanted (place_in (get_or recordings c.in-Hearing.index d)) k.rows r watched (is d) known (same d))) so))
    (c.hear.ensures.counted watched (heard_at k.wanted k.rows)
    (input_fates k.wanted (place_in (get_or recordings c.in-Hearing.index d)) k.rows) listens (before d))) in
    let more = measures_more k.wanted k.rows r recordings c.in-Hearing.index watched within is known same in
    let recents = c.hear.ensures.recents watched (heard_at k.wanted k.rows) (input_measured k.wanted k.rows) listens at.recents in (
      on_ok_all c.hear.result (λ listens so last. record {
        form = c.hear.ensures.form ∙ at.form;
        wanted = at.wanted;
        stage = hears_more k.wanted k.rows r recordings c.in-Hearing.index watched within is known c.hear.new.listener same listens;
        whom = subst (λ (s : Stage). whom_at s recordings ≡ input_whom k.wanted k.rows) c.in-Hearing.is at.whom
            ∙ sym (one_there recordings c.in-Hearing.index within (λ d. input_whom_stays k.wanted k.rows r
            (place_in (get_or recordings c.in-Hearing.index d)) watched (is d) known));
        counts = so;
        recents = subst (λ (ms : List Measured). AreRecents ms c.hear.new.self.reports.recents) (sym more) last;
        handing = c.hear.ensures.handing ∙ at.handing;
      }) heard.0 counted recents,
      option_to_list (measured_at watched (heard_at k.wanted k.rows) r.row),
      more,
      subst (λ (f : Form). Goes f c.hear.result (option_to_list (measured_at watched (heard_at k.wanted k.rows) r.row))
          (g.W.Write.contents (device_of c.args.output.now)) (g.W.Write.contents (device_of c.hear.new.output))) at.form heard.1,
    )

pub returns-else-is_at-clause-taken : goal.returns-else-is_at-clause-taken
returns-else-is_at-clause-taken g c = λ k at.
    let r : PlacedRow = placed (place_of c.args.met.now) (datagram_of c.args.datagram.now) in
    let recordings = c.args.self.now.recordings.recordings.items in
    let (watched, within, is, known, listens) = subst (IsStage k.wanted k.rows recordings) c.in-Hearing.is at.stage in
    let other : (d : Recording) → is_same_place (place_in (get_or recordings c.in-Hearing.index d)) r.place ≡ false =
    λ d. sym (c.is_at.ensures d) ∙ c.if-is_at.false in
    let none = measures_nothing k.wanted k.rows r recordings c.in-Hearing.index watched within is known other in (
      record {
        form = at.form;
        wanted = at.wanted;
        stage = hears_other k.wanted k.rows r recordings c.in-Hearing.index watched within is known c.in-Hearing.listener other listens;
        whom = subst (λ (s : Stage). whom_at s recordings ≡ input_whom k.wanted k.rows) c.in-Hearing.is at.whom
            ∙ sym (one_there recordings c.in-Hearing.index within (λ d. input_whom_stays k.wanted k.rows r
            (place_in (get_or recordings c.in-Hearing.index d)) watched (is d) known));
        counts = one_there recordings c.in-Hearing.index within (λ d.
            so_far k.wanted (r ∷ k.rows) (place_in (get_or recordings c.in-Hearing.index d))
            c.args.self.now.reports.reports.tally.counts
            (chosen-stays k.wanted k.rows r (place_in (get_or recordings c.in-Hearing.index d)) (is d))
            (subst (λ (all : List Fate). IsCounts all c.args.self.now.reports.reports.tally.counts)
            (sym (other-fates k.wanted (place_in (get_or recordings c.in-Hearing.index d)) k.rows r watched (is d) known (other d)))
            (so_far_known k.wanted k.rows (place_in (get_or recordings c.in-Hearing.index d))
            c.args.self.now.reports.reports.tally.counts (is d) at.counts)));
        recents = subst (λ (ms : List Measured). AreRecents ms c.args.self.now.reports.reports.recents) (sym none) at.recents;
        handing = at.handing;
      },
      [],
      none,
      Appends-nil _,
    )
