use Rattle.std.proofs.Common.{◌≡◌, ◌∙◌, ◌≤◌, ℕ, List, [], ◌∷◌, length, Option, Some, sym, ap, subst, arith}
use Rattle.std.proofs.lemmas.Bool.{ltb-false}
use Rattle.datagram_source.specs.Datagram.{place_of as met_at, datagram_of}
use Rattle.recording_model.specs.Recorded.{Recorded}
use Rattle.recording_measure.specs.Row.{Row, row_of, datagrams, kept_most}
use Rattle.recording_measure.specs.Places.{PlaceName, PlacedRow, name_in}
use Rattle.recording_measure.specs.Chosen.{watched_at}
use Rattle.recording_measure.specs.Counts.{Fate, early_with, early_at, IsCounts}
use Rattle.recording_measure.specs.declared.tally.Tally.{Tally}
use Rattle.recording_measure.specs.declared.recording.Recording.{Recording}
use Rattle.recording_measure.specs.Inner.Recordings.{AreKeptRows, HasAdded, IsSought, IsNoticed}
use Rattle.recording_measure.specs.Told.{place_in, kept_name}
use Rattle.recording_measure.specs.Inner.Hearing.{recorded_of}
use Rattle.recording_measure.specs.Inner.Watching.{IsWatch}
use Rattle.recording_measure.proofs.Recordings.{added_taken, added_nowhere, keeps_row}
use Rattle.recording_measure.proofs.recording.Recordings.take.Goals as goal

pub returns-in_ok-keep-clause-taken : goal.returns-in_ok-keep-clause-taken
returns-in_ok-keep-clause-taken c = λ rows r is_row few are.
    let row : r.row ≡ row_of (datagram_of c.args.datagram.now) = ap (λ (x : PlacedRow). x.row) is_row in
    let was = c.index_mut-recording.result.now in
    let x : Recording = c.keep.new.self in
    let old = c.args.self.now.recordings.items in
    let new = c.find_or_add.new.self.recordings.items in
    let has : HasAdded c.args.wanted.now r.place (Some c.in-Some.index) old new =
    subst (λ (i : PlaceName). HasAdded c.args.wanted.now i (Some c.in-Some.index) old new) (sym (ap (λ (x : PlacedRow). x.place) is_row))
    (subst (λ (found : Option ℕ). HasAdded c.args.wanted.now (name_in (met_at c.args.met.now)) found old new) c.in-Some.is
    c.in_ok-found.ensures) in
    added_taken c.args.wanted.now rows r c.in-Some.index old new was x are has c.index_mut-recording.ensures.value
    (ap place_in c.keep.ensures.others ∙ ap place_in c.count_early.ensures.others ∙ ap kept_name c.notice.ensures.place)
    (λ ds is.
    let noticed = c.notice.ensures.noticed ds is in
    let ds' : List Recorded = recorded_of c.args.datagram.now ∷ ds in
    subst (λ (d : Row). IsNoticed c.args.wanted.now (d.datagram ∷ ds) x) (sym row) (record {
      watch = subst (IsWatch c.args.wanted.now ds') (sym (ap (λ (it : Recording). it.watch) c.keep.ensures.others ∙ ap (λ (it : Recording). it.watch) c.count_early.ensures.others)) noticed.watch;
      met = subst (IsSought c.args.wanted.now ds') (sym (ap (λ (it : Recording). it.sought) c.keep.ensures.others ∙ ap (λ (it : Recording). it.sought) c.count_early.ensures.others)) noticed.met;
    }))
    (λ short rs kept. subst (λ (d : Row). AreKeptRows [] x.kept.items (d ∷ rs)) (sym row)
    (keeps_row rs was.kept.items x.kept.items c.args.datagram.now
    (rw (ap (λ (it : Recording). it.kept) c.count_early.ensures.others, c.notice.ensures.kept) at c.in_ok-keep.ensures.kept)
    c.requires kept))
    (λ rs noticed so.
    let ds' : List Recorded = recorded_of c.args.datagram.now ∷ datagrams rs in
    let early : List Fate = early_at c.args.wanted.now (place_in was) rs in
    let counted = subst (λ (p : PlaceName). IsCounts (early_with (watched_at c.args.wanted.now p ds') (recorded_of c.args.datagram.now) early)
    c.count_early.new.self.early.counts) (ap kept_name c.notice.ensures.place)
    (c.count_early.ensures.counted c.args.wanted.now ds' early (c.notice.ensures.noticed (datagrams rs) noticed)
    (subst (λ (t : Tally). IsCounts early t.counts) (sym c.notice.ensures.early) so)) in
    subst (λ (d : Row). IsCounts (early_with (watched_at c.args.wanted.now (place_in was) (d.datagram ∷ datagrams rs)) d.datagram
    early) x.early.counts) (sym row) (subst (λ (t : Tally). IsCounts (early_with
    (watched_at c.args.wanted.now (place_in was) ds') (recorded_of c.args.datagram.now) early) t.counts)
    (sym (ap (λ (it : Recording). it.early) c.keep.ensures.others)) counted))

pub returns-else-is_kept-clause-taken : goal.returns-else-is_kept-clause-taken
returns-else-is_kept-clause-taken c = λ rows r is_row few are.
    let row : r.row ≡ row_of (datagram_of c.args.datagram.now) = ap (λ (x : PlacedRow). x.row) is_row in
    let was = c.index_mut-recording.result.now in
    let x : Recording = c.count_early.new.self in
    let old = c.args.self.now.recordings.items in
    let new = c.find_or_add.new.self.recordings.items in
    let has : HasAdded c.args.wanted.now r.place (Some c.in-Some.index) old new =
    subst (λ (i : PlaceName). HasAdded c.args.wanted.now i (Some c.in-Some.index) old new) (sym (ap (λ (x : PlacedRow). x.place) is_row))
    (subst (λ (found : Option ℕ). HasAdded c.args.wanted.now (name_in (met_at c.args.met.now)) found old new) c.in-Some.is
    c.in_ok-found.ensures) in
    let many : kept_most ≤ length rows = ltb-false (length rows) kept_most (sym few ∙ c.if-is_kept.false) in
    added_taken c.args.wanted.now rows r c.in-Some.index old new was x are has c.index_mut-recording.ensures.value
    (ap place_in c.count_early.ensures.others ∙ ap kept_name c.notice.ensures.place)
    (λ ds is.
    let noticed = c.notice.ensures.noticed ds is in
    let ds' : List Recorded = recorded_of c.args.datagram.now ∷ ds in
    subst (λ (d : Row). IsNoticed c.args.wanted.now (d.datagram ∷ ds) x) (sym row) (record {
      watch = subst (IsWatch c.args.wanted.now ds') (sym (ap (λ (it : Recording). it.watch) c.count_early.ensures.others)) noticed.watch;
      met = subst (IsSought c.args.wanted.now ds') (sym (ap (λ (it : Recording). it.sought) c.count_early.ensures.others)) noticed.met;
    }))
    (λ short rs kept. absurd (omega (arith, many, short)))
    (λ rs noticed so.
    let ds' : List Recorded = recorded_of c.args.datagram.now ∷ datagrams rs in
    let early : List Fate = early_at c.args.wanted.now (place_in was) rs in
    let counted = subst (λ (p : PlaceName). IsCounts (early_with (watched_at c.args.wanted.now p ds') (recorded_of c.args.datagram.now) early)
    c.count_early.new.self.early.counts) (ap kept_name c.notice.ensures.place)
    (c.count_early.ensures.counted c.args.wanted.now ds' early (c.notice.ensures.noticed (datagrams rs) noticed)
    (subst (λ (t : Tally). IsCounts early t.counts) (sym c.notice.ensures.early) so)) in
    subst (λ (d : Row). IsCounts (early_with (watched_at c.args.wanted.now (place_in was) (d.datagram ∷ datagrams rs)) d.datagram
    early) x.early.counts) (sym row) counted)

pub returns-in_default-clause-taken : goal.returns-in_default-clause-taken
returns-in_default-clause-taken c = λ rows r is_row few are.
    let old = c.args.self.now.recordings.items in
    let new = c.find_or_add.new.self.recordings.items in
    added_nowhere c.args.wanted.now rows r c.in_ok-found.found old new are
    (subst (λ (i : PlaceName). HasAdded c.args.wanted.now i c.in_ok-found.found old new) (sym (ap (λ (x : PlacedRow). x.place) is_row)) c.in_ok-found.ensures)
    c.in_default.not-Some
