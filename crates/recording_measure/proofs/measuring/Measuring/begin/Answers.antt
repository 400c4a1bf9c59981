use Rattle.std.proofs.Common.{◌≡◌, List, [], ◌∷◌, refl, sym, subst}
use Rattle.std.proofs.lemmas.List.{append-nil}
use Rattle.std.specs.Prelude.{option_to_list}
use Rattle.std.proofs.lemmas.Result.{err_from_is_err_and}
use Rattle.std.specs.Io.KnownBytes.{Appends}
use Rattle.text_lines.specs.Counted.{device_of}
use Rattle.recording_model.specs.Listening.{after_all}
use Rattle.datagram_source.specs.Datagram.{datagram_of}
use Rattle.recording_measure.specs.declared.recording.Kept.{Kept}
use Rattle.recording_measure.specs.Row.{Row, row_of, datagrams}
use Rattle.recording_measure.specs.Measured.{texts_as, measured_at, measurements}
use Rattle.recording_measure.specs.declared.tally.Tally.{Tally}
use Rattle.recording_measure.specs.Counts.{Fate, fates, IsCounts}
use Rattle.recording_measure.specs.Inner.StandsFor.{StandsFor}
use Rattle.recording_measure.specs.Inner.Recordings.{AreKeptRows}
use Rattle.recording_measure.proofs.KeptRows.{those_kept, alone, one_there, until_alone, went_alone}
use Rattle.recording_measure.proofs.measuring.Measuring.begin.Goals as goal
use Rattle.recording_measure.proofs.measuring.Measuring.begin.Goals.{then-is_kept+in_ok-hear_kept, else-is_kept+in_ok-hear}

pub returns-in_err-hear_kept-clause-begun : goal.returns-in_err-hear_kept-clause-begun
returns-in_err-hear_kept-clause-begun g c = λ rows begins.
    let e = err_from_is_err_and c.from_residual.result c.from_residual.ensures.1 in
    let recordings = c.args.self.now.recordings.recordings.items in
    let kept = those_kept c.args.is_kept recordings c.args.index (row_of (datagram_of c.args.datagram.now)) rows c.if-is_kept.true begins in
    let heard = c.in_err-hear_kept.ensures.heard c.args.watched rows
    (one_there recordings c.args.index c.requires.index (λ d. subst (λ (k : List Kept). AreKeptRows [] k rows) (sym (c.kept.ensures d)) (kept d)))
    c.new-listener.ensures in
    rw (e.1, e.2) (tt, heard.1)

pub returns-in_err-hear-clause-begun : goal.returns-in_err-hear-clause-begun
returns-in_err-hear-clause-begun g c = λ rows begins.
    let e = err_from_is_err_and c.from_residual-in_err-hear.result c.from_residual-in_err-hear.ensures.1 in
    let row : Row = row_of (datagram_of c.args.datagram.now) in
    let same : rows ≡ row ∷ [] = alone c.args.is_kept c.args.self.now.recordings.recordings.items c.args.index row rows c.if-is_kept.false begins in
    let heard = c.in_err-hear.ensures.heard c.args.watched [] c.new-listener.ensures in
    rw (e.1, e.2, same) (
      tt,
      until_alone c.args.self.now.reports.reports.form c.in_err-hear.field-0.0
          (option_to_list (measured_at c.args.watched [] row)) _ _ heard.1,
    )

pub returns-clause-begun : goal.returns-clause-begun
returns-clause-begun g c = λ rows begins.
    let recordings = c.args.self.now.recordings.recordings.items in
    let row : Row = row_of (datagram_of c.args.datagram.now) in
    let before = g.W.Write.contents (device_of c.args.output.now) in
    let heard : StandsFor c.args.watched c.if-is_kept.listener (after_all c.args.watched (datagrams rows))
    × Appends before (g.W.Write.contents (device_of c.if-is_kept.output)) (texts_as c.args.self.now.reports.reports.form (measurements c.args.watched rows)) =
    elim c.if-is_kept.branch [
      | then-is_kept+in_ok-hear_kept w ↦
          let kept = those_kept c.args.is_kept recordings c.args.index row rows w.if-is_kept.true begins in
          rw (w.listener-is, w.output-is) (w.in_ok-hear_kept.ensures.heard c.args.watched rows
          (one_there recordings c.args.index c.requires.index
          (λ d. subst (λ (k : List Kept). AreKeptRows [] k rows) (sym (w.kept.ensures d)) (kept d))) c.new-listener.ensures)
      | else-is_kept+in_ok-hear w ↦
          let same : rows ≡ row ∷ [] = alone c.args.is_kept recordings c.args.index row rows w.if-is_kept.false begins in
          let alone_heard = w.in_ok-hear.ensures.heard c.args.watched [] c.new-listener.ensures in
          rw (w.listener-is, w.output-is, same) (
            alone_heard.0,
            went_alone c.args.self.now.reports.reports.form
                (option_to_list (measured_at c.args.watched [] row)) _ _ alone_heard.1,
          )
    ] in
    ((refl, heard.0), heard.1)

pub returns-clause-counted : goal.returns-clause-counted
returns-clause-counted g c = λ rows early begins so there.
    let recordings = c.args.self.now.recordings.recordings.items in
    let row : Row = row_of (datagram_of c.args.datagram.now) in
    elim c.if-is_kept.branch [
      | then-is_kept+in_ok-hear_kept w ↦
          let kept = those_kept c.args.is_kept recordings c.args.index row rows w.if-is_kept.true begins in
          rw (w.self-is, w.if-is_kept.true) (subst (λ (all : List Fate). IsCounts all w.hear_kept.new.self.reports.tally.counts)
          (sym (append-nil (fates c.args.watched rows)))
          (w.in_ok-hear_kept.ensures.counted c.args.watched rows
          (one_there recordings c.args.index c.requires.index
          (λ d. subst (λ (k : List Kept). AreKeptRows [] k rows) (sym (w.kept.ensures d)) (kept d))) c.new-listener.ensures so))
      | else-is_kept+in_ok-hear w ↦
          let same : rows ≡ row ∷ [] = alone c.args.is_kept recordings c.args.index row rows w.if-is_kept.false begins in
          let own = one_there recordings c.args.index c.requires.index
          (λ d. subst (λ (t : Tally). IsCounts early t.counts) (sym (w.early-self.ensures d)) (there d)) in
          rw (w.self-is, w.if-is_kept.false, same)
          (w.in_ok-hear.ensures.counted c.args.watched [] early c.new-listener.ensures own)
    ]

pub returns-clause-recents : goal.returns-clause-recents
returns-clause-recents g c = λ rows begins none.
    let recordings = c.args.self.now.recordings.recordings.items in
    let row : Row = row_of (datagram_of c.args.datagram.now) in
    elim c.if-is_kept.branch [
      | then-is_kept+in_ok-hear_kept w ↦
          let kept = those_kept c.args.is_kept recordings c.args.index row rows w.if-is_kept.true begins in
          rw w.self-is (w.in_ok-hear_kept.ensures.recents c.args.watched rows
          (one_there recordings c.args.index c.requires.index
          (λ d. subst (λ (k : List Kept). AreKeptRows [] k rows) (sym (w.kept.ensures d)) (kept d))) c.new-listener.ensures none)
      | else-is_kept+in_ok-hear w ↦
          let same : rows ≡ row ∷ [] = alone c.args.is_kept recordings c.args.index row rows w.if-is_kept.false begins in
          rw (w.self-is, same) (w.in_ok-hear.ensures.recents c.args.watched [] [] c.new-listener.ensures none)
    ]
