-- Rows of which none is heard.
use Rattle.std.proofs.Common.{◌≡◌, ◌∙◌, Bool, List, [], ◌∷◌, length, Option, Some, None, true≢false, refl, sym, ap}
use Rattle.std.specs.Prelude.{nat_le, not, is_some, if◌then◌else◌}
use Rattle.recording_model.specs.declared.watched.Watched.{Watched}
use Rattle.recording_measure.specs.declared.watch.WantedPorts.{WantedPorts}
use Rattle.recording_measure.specs.Watch.{watched_in}
use Rattle.recording_measure.specs.Row.{Row, datagrams, is_known, heard, kept_most}
use Rattle.recording_measure.proofs.Told.{watched-stays}

unknown_by : (w : WantedPorts) (rows : List Row) (row : Row) (known : Option Watched) → watched_in w (datagrams rows) ≡ known
    → watched_in w (datagrams (row ∷ rows)) ≡ None → watched_in w (datagrams rows) ≡ None
unknown_by w rows row None is unknown = is
unknown_by w rows row (Some watched) is unknown =
    absurd (true≢false (ap is_some (sym (watched-stays w row.datagram (datagrams rows) watched is) ∙ unknown)))

-- what isn't known by one line more wasn't before
pub unknown_before : (w : WantedPorts) (rows : List Row) (row : Row) → watched_in w (datagrams (row ∷ rows)) ≡ None
    → watched_in w (datagrams rows) ≡ None
unknown_before w rows row unknown = unknown_by w rows row (watched_in w (datagrams rows)) refl unknown

-- no line is heard before that
heard-none : (w : WantedPorts) (rows : List Row) (row : Row) → watched_in w (datagrams rows) ≡ None
    → watched_in w (datagrams (row ∷ rows)) ≡ None → heard w (row ∷ rows) ≡ []
heard-none w rows row before unknown =
    ap (λ (b : Bool). if b then row ∷ heard w rows
    else if not (is_known w (row ∷ rows)) then []
    else if nat_le (length (row ∷ rows)) kept_most then row ∷ rows
    else row ∷ []) (ap is_some before)
    ∙ ap (λ (b : Bool). if not b then []
    else if nat_le (length (row ∷ rows)) kept_most then row ∷ rows
    else row ∷ []) (ap is_some unknown)

pub heard-unknown : (w : WantedPorts) (rows : List Row) → watched_in w (datagrams rows) ≡ None → heard w rows ≡ []
heard-unknown w [] unknown = refl
heard-unknown w (row ∷ rows) unknown = heard-none w rows row (unknown_before w rows row unknown) unknown
