-- Reports that weren't handed on yet, where they are asked for. Lists have the newest in front.
use Rattle.std.specs.Prelude.{◌≡◌, Bool, true, false, ℕ, List, [], ◌++◌, length, map, reverse}
use Rattle.recording_measure.specs.Made.{Measured}
use Rattle.recording_measure.specs.declared.completion.Completion.{Completion}
use Rattle.recording_measure.specs.declared.completion.Fresh.{Fresh}
use Rattle.recording_measure.specs.declared.form.Form.{Form}
use Rattle.recording_measure.specs.declared.form.Form.TheVariants.{Json, Table, FullJson, FullTable, Sums, Completions}

-- whether reports are handed on in this form
abbrev pub hands_on : Form → Bool
hands_on Json = false
hands_on Table = false
hands_on FullJson = false
hands_on FullTable = false
hands_on Sums = false
hands_on Completions = true

-- a measurement, without the text of its time
abbrev pub completion_of : Measured → Completion
completion_of m = record { by = m.by; line = m.line; report = m.report; exchange = m.exchange }

-- of all that is measured those behind the first ones, so many, weren't handed on: all of them, in order
pub record AreFresh (all : List Measured) (handed : ℕ) (completions : List Completion) : Type 0 where
  pub newer : List Measured
  pub earlier : List Measured
  pub parts : all ≡ newer ++ earlier
  pub counted : handed ≡ length earlier
  pub told : completions ≡ reverse (map completion_of newer)

-- where they aren't asked for, there are none
abbrev pub AreFreshIf : (asked : Bool) → (all : List Measured) → (handed : ℕ) → (completions : List Completion) → Type 0
AreFreshIf true all handed completions = AreFresh all handed completions
AreFreshIf false all handed completions = completions ≡ []

abbrev pub IsFresh : List Measured → Fresh → Type 0
IsFresh all fresh = AreFreshIf fresh.handing.is_asked all fresh.handing.handed fresh.completions.items
