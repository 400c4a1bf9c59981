-- What a line is, from what reading its JSON value answered.
use Rattle.std.proofs.Common.{◌≡◌, ◌∙◌, ◌⊎◌, sym, ap, inl, inr, List, ℕ, Option, Some, None, Err}
use Rattle.std.specs.Prelude.{ok_or}
use Rattle.serde_json.specs.Data.{Data}
use Rattle.schedule_lines.specs.Json.{value_in}
use Rattle.schedule_reading.specs.declared.fault.TaskFault.{TaskFault}
use Rattle.schedule_reading.specs.declared.fault.TaskFault.TheVariants.{Json, Field, Memory}
use Rattle.schedule_reading.specs.Entry.{read_by, IsOwnFault}

-- where no value was read
pub unread : {E : Type 0} (reading : Data → Option E) (line : List ℕ) (fault : TaskFault)
    → (fault ≡ Memory) ⊎ ((fault ≡ Json) × (value_in line ≡ None))
    → (fault ≡ Memory) ⊎ IsOwnFault (λ l. read_by reading (value_in l)) fault line
unread reading line fault (inl memory) = inl memory
unread reading line fault (inr (json, none)) = inr (inl json, ap (read_by reading) none ∙ ap Err (sym json))

-- what a line is where its value was read
pub was_read : {E : Type 0} (reading : Data → Option E) (line : List ℕ) (value : Data) (entry : Option E)
    → value_in line ≡ Some value
    → entry ≡ reading value → read_by reading (value_in line) ≡ ok_or {E = TaskFault} entry Field
was_read {E} reading line value entry is of =
    ap (read_by reading) is ∙ ap (λ (o : Option E). ok_or {E = TaskFault} o Field) (sym of)
