use Rattle.std.proofs.Common.{◌≡◌, ◌∙◌, ℕ, List, [], ◌∷◌, Option, Some, None, refl, sym, ap, subst}
use Rattle.std.proofs.KnownBytes.{Appends-nil}
use Rattle.std.proofs.lemmas.Result.{err_from_is_err_and}
use Rattle.std.specs.Prelude.{if◌then◌else◌}
use Rattle.text_lines.specs.Counted.{device_of}
use Rattle.datagram_source.specs.Datagram.{place_of, datagram_of}
use Rattle.recording_measure.specs.declared.form.Form.{Form}
use Rattle.recording_measure.specs.declared.recording.Recordings.{Recordings}
use Rattle.recording_measure.specs.declared.watch.WantedPorts.{WantedPorts}
use Rattle.recording_measure.specs.Row.{Row, datagrams}
use Rattle.recording_measure.specs.Made.{Measured}
use Rattle.recording_measure.specs.Measured.{measurements}
use Rattle.recording_measure.specs.Recents.{AreRecents}
use Rattle.recording_measure.specs.Places.{PlaceName, PlacedRow, placed, places_in, rows_at}
use Rattle.recording_measure.specs.Chosen.{chosen, watched_at}
use Rattle.recording_measure.specs.Inner.Measuring.{IsStage}
use Rattle.recording_measure.specs.Inner.Hearing.{Goes}
use Rattle.recording_measure.specs.Inner.Recordings.{AreRecordings, IsFoundAt}
use Rattle.recording_measure.proofs.Chosen.{input-first, measured-first, measured-known, measured-still}
use Rattle.recording_measure.proofs.Goes.{GoesUntil-none}
use Rattle.recording_measure.proofs.KeptRows.{one_there}
use Rattle.recording_measure.proofs.Looking.{still_looking, adds_all, unlooked_still, unknown_still, noticed_there, begins_with, chosen_now, not_found}
use Rattle.recording_measure.proofs.Looking.{heard_now, began, whom_began}
use Rattle.recording_measure.specs.Inner.Stages.{whom_at, input_whom}
use Rattle.recording_measure.specs.Counts.{Fate, early_at, IsCounts}
use Rattle.recording_measure.proofs.InputFates.{so_far, first-fates}
use Rattle.recording_measure.proofs.Places.{same_place}
use Rattle.recording_measure.proofs.Looking.{early_there}
use Rattle.recording_measure.proofs.Heard.{on_ok_all}
use Rattle.recording_measure.proofs.measuring.Measuring.look.Goals as goal

pub returns-in_err-found-clause-taken : goal.returns-in_err-found-clause-taken
returns-in_err-found-clause-taken g c = λ k at.
    let e = err_from_is_err_and c.from_residual.result c.from_residual.ensures.1 in
    let r : PlacedRow = placed (place_of c.args.met.now) (datagram_of c.args.datagram.now) in
    rw (e.1, e.2) (tt, _, adds_all k r at.unchosen, GoesUntil-none k.form _ _)

pub returns-in_default-clause-taken : goal.returns-in_default-clause-taken
returns-in_default-clause-taken g c = λ k at.
    let r : PlacedRow = placed (place_of c.args.met.now) (datagram_of c.args.datagram.now) in
    let w : WantedPorts = c.args.self.now.wanted in
    let (are, found) = c.in_ok-found.ensures.taken k.rows r refl at.kept
    (subst (λ (w : WantedPorts). AreRecordings w k.rows c.args.self.now.recordings.recordings.items) (sym at.wanted) at.recordings) in
    let none : chosen k.wanted (r ∷ k.rows) ≡ None = unlooked_still k.wanted k.rows r at.unchosen
    (not_found r.place (places_in (r ∷ k.rows)) c.in_ok-found.found c.take.new.self.recordings.items found c.in_default.not-Some) in (
      still_looking _ k r at.counted.0 at.form at.wanted at.counted.1 at.counted.2 none
          (subst (λ (w : WantedPorts). AreRecordings w (r ∷ k.rows) c.take.new.self.recordings.items) at.wanted are) at.nothing at.recents at.handing,
      [],
      measured-still k.wanted k.rows r at.unchosen none,
      Appends-nil _,
    )

pub returns-in-Some-watched-clause-taken : goal.returns-in-Some-watched-clause-taken
returns-in-Some-watched-clause-taken g c = λ k at.
    let r : PlacedRow = placed (place_of c.args.met.now) (datagram_of c.args.datagram.now) in
    let recordings = c.take.new.self.recordings.items in
    let taken = c.in_ok-found.ensures.taken k.rows r refl at.kept
    (subst (λ (w : WantedPorts). AreRecordings w k.rows c.args.self.now.recordings.recordings.items) (sym at.wanted) at.recordings) in
    let are : AreRecordings k.wanted (r ∷ k.rows) recordings =
    subst (λ (w : WantedPorts). AreRecordings w (r ∷ k.rows) recordings) at.wanted taken.0 in
    let (among, within, there) =
    subst (λ (found : Option ℕ). IsFoundAt r.place (places_in (r ∷ k.rows)) found recordings) c.in-Some.is taken.1 in
    let known : watched_at k.wanted r.place (datagrams (rows_at r.place (r ∷ k.rows))) ≡ Some c.in-Some-watched.watched =
    one_there recordings c.in-Some.index within (λ d.
    ap (λ (i : PlaceName). watched_at k.wanted i (datagrams (rows_at r.place (r ∷ k.rows)))) (sym (there d))
    ∙ sym (c.watched.ensures k.wanted (datagrams (rows_at r.place (r ∷ k.rows))) d
    (noticed_there k.wanted k.rows r recordings c.in-Some.index are within there d)) ∙ c.in-Some-watched.is) in
    let is = chosen_now k.wanted k.rows r c.in-Some-watched.watched at.unchosen among known in
    let heard : List Row = if c.args.is_kept then rows_at r.place (r ∷ k.rows) else r.row ∷ [] in
    let same = heard_now k.wanted k.rows r c.args.is_kept at.unchosen is at.kept in
    let begun = c.begin.ensures.begun heard
    (begins_with k.wanted k.rows r recordings c.in-Some.index are within there c.args.is_kept r.row at.kept refl) in
    let counts = c.begin.ensures.counted heard (early_at k.wanted r.place (rows_at r.place (r ∷ k.rows)))
    (begins_with k.wanted k.rows r recordings c.in-Some.index are within there c.args.is_kept r.row at.kept refl) at.nothing
    (early_there k.wanted k.rows r recordings c.in-Some.index are within there) in
    let recents = c.begin.ensures.recents heard
    (begins_with k.wanted k.rows r recordings c.in-Some.index are within there c.args.is_kept r.row at.kept refl) at.recents in
    let measured = measured-known k.wanted (r ∷ k.rows) c.in-Some-watched.watched
    (input-first k.wanted k.rows r c.in-Some-watched.watched is known) ∙ ap (measurements c.in-Some-watched.watched) same in (
      on_ok_all c.begin.result (λ hearing counted last. record {
        form = c.begin.ensures.form ∙ at.form;
        wanted = c.begin.ensures.wanted ∙ at.wanted;
        stage = subst (λ (it : Recordings). IsStage k.wanted (r ∷ k.rows) it.recordings.items c.begin.new.self.stage)
            (sym c.begin.ensures.recordings)
            (began k.wanted k.rows r recordings c.in-Some.index c.in-Some-watched.watched heard c.begin.new.self.stage within there is known
            same hearing);
        whom = subst (λ (it : Recordings). whom_at c.begin.new.self.stage it.recordings.items ≡ input_whom k.wanted (r ∷ k.rows))
            (sym c.begin.ensures.recordings)
            (whom_began k.wanted k.rows r recordings c.in-Some.index c.in-Some-watched.watched heard c.begin.new.self.stage are within there
            is hearing);
        counts = so_far k.wanted (r ∷ k.rows) r.place c.begin.new.self.reports.reports.tally.counts is
            (subst (λ (all : List Fate). IsCounts all c.begin.new.self.reports.reports.tally.counts)
            (sym (first-fates k.wanted r.place k.rows r c.args.is_kept c.in-Some-watched.watched heard
            ((same_place r.place r.place).1 refl) known
            (input-first k.wanted k.rows r c.in-Some-watched.watched is known) refl same)) counted);
        recents = subst (λ (ms : List Measured). AreRecents ms c.begin.new.self.reports.reports.recents) (sym measured) last;
        handing = c.begin.ensures.handing ∙ at.handing;
      }) begun.0 counts recents,
      measurements c.in-Some-watched.watched heard,
      measured-first k.wanted k.rows r c.in-Some-watched.watched heard at.unchosen
          (input-first k.wanted k.rows r c.in-Some-watched.watched is known) same,
      subst (λ (f : Form). Goes f c.begin.result (measurements c.in-Some-watched.watched heard)
          (g.W.Write.contents (device_of c.args.output.now)) (g.W.Write.contents (device_of c.begin.new.output))) at.form begun.1,
    )

pub returns-in-None-clause-taken : goal.returns-in-None-clause-taken
returns-in-None-clause-taken g c = λ k at.
    let r : PlacedRow = placed (place_of c.args.met.now) (datagram_of c.args.datagram.now) in
    let recordings = c.take.new.self.recordings.items in
    let taken = c.in_ok-found.ensures.taken k.rows r refl at.kept
    (subst (λ (w : WantedPorts). AreRecordings w k.rows c.args.self.now.recordings.recordings.items) (sym at.wanted) at.recordings) in
    let are : AreRecordings k.wanted (r ∷ k.rows) recordings =
    subst (λ (w : WantedPorts). AreRecordings w (r ∷ k.rows) recordings) at.wanted taken.0 in
    let (among, within, there) =
    subst (λ (found : Option ℕ). IsFoundAt r.place (places_in (r ∷ k.rows)) found recordings) c.in-Some.is taken.1 in
    let not_known : watched_at k.wanted r.place (datagrams (rows_at r.place (r ∷ k.rows))) ≡ None =
    one_there recordings c.in-Some.index within (λ d.
    ap (λ (i : PlaceName). watched_at k.wanted i (datagrams (rows_at r.place (r ∷ k.rows)))) (sym (there d))
    ∙ sym (c.watched.ensures k.wanted (datagrams (rows_at r.place (r ∷ k.rows))) d
    (noticed_there k.wanted k.rows r recordings c.in-Some.index are within there d)) ∙ c.in-None.is) in
    let none : chosen k.wanted (r ∷ k.rows) ≡ None = unknown_still k.wanted k.rows r at.unchosen not_known in (
      still_looking _ k r at.counted.0 at.form at.wanted at.counted.1 at.counted.2 none are at.nothing at.recents at.handing,
      [],
      measured-still k.wanted k.rows r at.unchosen none,
      Appends-nil _,
    )
