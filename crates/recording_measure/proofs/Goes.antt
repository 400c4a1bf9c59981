-- What goes out of a recording before a fault.
use Rattle.std.proofs.Common.{◌≡◌, ◌∙◌, ℕ, Bool, true, false, List, [], ◌∷◌, ◌++◌}
use Rattle.std.proofs.Common.{Option, Result, Ok, Err, refl, sym, ap, subst}
use Rattle.std.specs.Io.KnownBytes.{Appends}
use Rattle.std.proofs.KnownBytes.{Appends-nil, Appends-trans}
use Rattle.std.proofs.lemmas.List.{append_assoc, append-nil}
use Rattle.text_lines.specs.Task.{WentOut}
use Rattle.text_lines.specs.declared.line_fault.LineFault.{LineFault}
use Rattle.text_lines.specs.declared.line_fault.LineFault.TheVariants.{Write, Field, Memory}
use Rattle.text_lines.specs.Fault.{is_write}
use Rattle.recording_measure.specs.Made.{Measured}
use Rattle.recording_measure.specs.declared.form.Form.{Form}
use Rattle.recording_measure.specs.Measured.{text_as, texts_as, GoesWhole}
use Rattle.recording_measure.specs.Inner.Hearing.{GoesAtOnce, MayLeave, Goes, GoesUntil}

went_on : {A B : Type 0} (of_writer : Bool) → (A → B) → WentOut of_writer A → WentOut of_writer B
went_on true f known = tt
went_on false f known = f known

-- ---- the texts of measurements
pub texts-append : (form : Form) (newer older : List Measured)
    → texts_as form (newer ++ older) ≡ texts_as form older ++ texts_as form newer
texts-append form [] older = sym (append-nil (texts_as form older))
texts-append form (m ∷ newer) older =
    ap (λ (t : List ℕ). t ++ text_as form m) (texts-append form newer older)
    ∙ append_assoc (texts_as form older) (texts_as form newer) (text_as form m)

-- those of the older ones went out, and then those of the newer ones
pub texts-after : (form : Form) (newer older : List Measured) (a b c : Option (List ℕ))
    → Appends a b (texts_as form older) → Appends b c (texts_as form newer) → Appends a c (texts_as form (newer ++ older))
texts-after form newer older a b c first next =
    subst (λ (t : List ℕ). Appends a c t) (sym (texts-append form newer older))
    (Appends-trans a b c (texts_as form older) (texts_as form newer) first next)

-- that of one measurement goes out at once
pub goes_one : {T : Type 0} (form : Form) (r : Result T LineFault) (m : Measured) (a b : Option (List ℕ))
    → GoesAtOnce r (text_as form m) a b → Goes form r (m ∷ []) a b
goes_one form (Ok x) m a b goes = goes
goes_one form (Err Write) m a b goes = ([], m ∷ [], λ none. absurd cc, refl, tt)
goes_one form (Err Field) m a b goes = absurd goes.0
goes_one form (Err Memory) m a b goes = ([], m ∷ [], tt, refl, goes.1)

-- more that is left
leaves_more : (fault : LineFault) (more left : List Measured) → MayLeave fault left → MayLeave fault (more ++ left)
leaves_more Write [] left may = may
leaves_more Write (m ∷ more) left may = λ none. absurd cc
leaves_more Field more left may = absurd may
leaves_more Memory more left may = tt

-- the texts of those before went out, and there are more behind them
pub GoesUntil-after : (form : Form) (fault : LineFault) (first ms more whole : List Measured) (a b c : Option (List ℕ))
    → Appends a b (texts_as form first) → GoesUntil form fault ms b c → whole ≡ more ++ (ms ++ first)
    → GoesUntil form fault whole a c
GoesUntil-after form fault first ms more whole a b c appended until same =
    let (went, left, may, split, known) = until in (
      went ++ first,
      more ++ left,
      leaves_more fault more left may,
      same ∙ ap (λ (x : List Measured). more ++ (x ++ first)) split
          ∙ ap (λ (x : List Measured). more ++ x) (append_assoc left went first)
          ∙ sym (append_assoc more left (went ++ first)),
      went_on (is_write fault) (texts-after form went first a b c appended) known,
    )

-- nothing of them went out
pub GoesUntil-none : (form : Form) (ms : List Measured) (a : Option (List ℕ)) → GoesUntil form Memory ms a a
GoesUntil-none form ms a = ([], ms, tt, sym (append-nil ms), Appends-nil a)

-- what goes out before a fault, of what is new
pub until_whole : (form : Form) (fault : LineFault) (ms before after : List Measured) (a b : Option (List ℕ))
    → after ≡ ms ++ before → GoesUntil form fault ms a b
    → (left : List Measured) × MayLeave fault left × (out : List ℕ) × GoesWhole form before after left out
    × WentOut (is_write fault) (Appends a b out)
until_whole form fault ms before after a b grown (went, left, may, split, known) = (
  left,
  may,
  texts_as form went,
  record {
    went = went;
    brought = grown ∙ ap (λ (x : List Measured). x ++ before) split ∙ append_assoc left went before;
    texts = refl;
  },
  known,
)
