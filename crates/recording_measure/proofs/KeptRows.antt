-- Datagrams of a capture that were kept.
use Rattle.std.proofs.Common.{◌≡◌, ◌∙◌, ◌+◌, ◌<◌, ℕ, Bool, true, false, List, [], ◌∷◌, ◌++◌, length, drop, get_or, Option, sym, ap, subst, arith}
use Rattle.std.specs.Prelude.{option_to_list}
use Rattle.std.specs.Io.KnownBytes.{Appends}
use Rattle.std.proofs.lemmas.List.{append_assoc, append-nil, drop_more}
use Rattle.text_lines.specs.declared.line_fault.LineFault.{LineFault}
use Rattle.recording_measure.specs.Made.{Measured}
use Rattle.recording_model.specs.declared.watched.Watched.{Watched}
use Rattle.recording_measure.specs.declared.form.Form.{Form}
use Rattle.recording_measure.specs.declared.recording.Kept.{Kept}
use Rattle.recording_measure.specs.declared.recording.Recording.{Recording}
use Rattle.recording_measure.specs.Row.{Row}
use Rattle.recording_measure.specs.Measured.{texts_as, measured_at, measurements}
use Rattle.recording_measure.specs.Inner.Hearing.{GoesUntil}
use Rattle.recording_measure.specs.Inner.Recordings.{AreKeptRows, BeginsWith}
use Rattle.recording_measure.proofs.Goes.{GoesUntil-after}

-- the next of them
pub are_next : (earlier rows : List Row) (kept : List Kept) (i : ℕ) (k : Kept) → i < length kept → k ≡ get_or kept i k
    → AreKeptRows earlier (drop i kept) rows → AreKeptRows earlier (k ∷ drop (i + 1) kept) rows
are_next earlier rows kept i k within is are =
    subst (λ (l : List Kept). AreKeptRows earlier l rows)
    (drop_more kept i k within ∙ ap (λ (x : Kept). x ∷ drop (i + 1) kept) (sym is)) are

-- what is measured at rows goes before what is at the rows after them
measured_ahead : (watched : Watched) (earlier rows : List Row) (kept : List Kept) → AreKeptRows earlier kept rows
    → (rest : List Measured) × (measurements watched rows ≡ rest ++ measurements watched earlier)
measured_ahead watched earlier rows [] are = ([], ap (measurements watched) are)
measured_ahead watched earlier rows (k ∷ kept) are =
    let (rest, same) = measured_ahead watched (are.0 ∷ earlier) rows kept are.2 in
    let those : List Measured = option_to_list (measured_at watched earlier are.0) in
    (rest ++ those, same ∙ sym (append_assoc rest those (measurements watched earlier)))

-- one of them stops it
pub kept_until : (form : Form) (fault : LineFault) (watched : Watched) (earlier rows : List Row) (row said : Row) (kept : List Kept)
    (a b c : Option (List ℕ)) → row ≡ said → AreKeptRows (row ∷ earlier) kept rows
    → Appends a b (texts_as form (measurements watched earlier))
    → GoesUntil form fault (option_to_list (measured_at watched earlier said)) b c
    → GoesUntil form fault (measurements watched rows) a c
kept_until form fault watched earlier rows row said kept a b c same are appended until =
    let (rest, whole) = measured_ahead watched (row ∷ earlier) rows kept are in
    GoesUntil-after form fault (measurements watched earlier) (option_to_list (measured_at watched earlier row)) rest
    (measurements watched rows) a b c appended
    (subst (λ (r : Row). GoesUntil form fault (option_to_list (measured_at watched earlier r)) b c) (sym same) until) whole

-- where there is one of them alone
pub until_alone : (form : Form) (fault : LineFault) (ms : List Measured) (a b : Option (List ℕ)) → GoesUntil form fault ms a b
    → GoesUntil form fault (ms ++ []) a b
until_alone form fault ms a b until = subst (λ (x : List Measured). GoesUntil form fault x a b) (sym (append-nil ms)) until

pub went_alone : (form : Form) (ms : List Measured) (a b : Option (List ℕ)) → Appends a b (texts_as form ms)
    → Appends a b (texts_as form (ms ++ []))
went_alone form ms a b went = subst (λ (x : List Measured). Appends a b (texts_as form x)) (sym (append-nil ms)) went

-- ---- the rows that a port begins with
pub those_kept : (is_kept : Bool) (recordings : List Recording) (index : ℕ) (newest : Row) (rows : List Row) → is_kept ≡ true
    → BeginsWith is_kept recordings index newest rows → (d : Recording) → AreKeptRows [] (get_or recordings index d).kept.items rows
those_kept true recordings index newest rows is begins = begins
those_kept false recordings index newest rows is begins = absurd cc

pub alone : (is_kept : Bool) (recordings : List Recording) (index : ℕ) (newest : Row) (rows : List Row) → is_kept ≡ false
    → BeginsWith is_kept recordings index newest rows → rows ≡ newest ∷ []
alone true recordings index newest rows is begins = absurd cc
alone false recordings index newest rows is begins = begins

-- what holds with any recording in the place of one that isn't there holds, since one is there
pub one_there : {P : Type 0} (recordings : List Recording) (index : ℕ) → index < length recordings → ((d : Recording) → P) → P
one_there [] index within holds = absurd (omega (arith, within))
one_there (x ∷ recordings) index within holds = holds x
