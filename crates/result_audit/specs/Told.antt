-- What the text of a result tells.
use Rattle.std.specs.Prelude.{◌≡◌, ◌⊎◌, ◌<◌, ⊤, ℕ, ℤ, nat_lt, Bool, true, false, List, length, codes, Option, Some, None, ok_or, option_map, option_and_then, MatchOption, if◌then◌else◌}
use Rattle.std.specs.Option.{option_or}
use Rattle.std.specs.Str.Parse.{ParsesUnsigned}
use Rattle.json.specs.Json.{Json, document}
use Rattle.json.specs.Find.{get, as_number, as_str}
use Rattle.json.specs.Strict.{HasUniqueKeys}
use Rattle.text_lines.specs.declared.line_fault.LineFault.{LineFault}
use Rattle.text_lines.specs.declared.line_fault.LineFault.TheVariants.{Write, Field, Memory}
use Rattle.result_verdict.specs.Exact.{exact_in}
use Rattle.result_audit.specs.declared.told.Of.{Of}
use Rattle.result_audit.specs.declared.told.Of.TheVariants.{Line, Sequence}
use Rattle.result_audit.specs.declared.told.Told.{Told}

-- the number that a value is, or a text of it
abbrev pub exact_of : Json → Option ℤ
exact_of j = option_and_then exact_in (option_or (as_number j) (as_str j))

-- that of a member, if it is there
abbrev pub exact_at : (name : List ℕ) → Json → Option ℤ
exact_at name j = option_and_then exact_of (get name j)

-- the whole number of 64 bits that a value is, if it is one
abbrev pub IsWhole : Json → Option ℕ → Type 0
IsWhole j number = MatchOption (as_number j) (number ≡ None) (λ text. ParsesUnsigned 64 10 text (ok_or number text))

-- a sequenceId has 16 bits
abbrev pub of_sequence : ℕ → Option (Option Of)
of_sequence number = if nat_lt number 65536 then Some (Some (Sequence (record { 0 = number }))) else None

-- of which Sync an object says that it is, by its members `sequence` and `line`: none, where neither is there
abbrev pub IsOf : (sequence line : Option Json) → Option (Option Of) → Type 0
IsOf None None of = of ≡ Some None
IsOf None (Some j) of = (number : Option ℕ) × IsWhole j number × (of ≡ option_map (λ n. Some (Line n)) number)
IsOf (Some j) line of = (number : Option ℕ) × IsWhole j number × (of ≡ option_and_then of_sequence number)

-- its path delay, where that is read
abbrev pub path_in : (has_path : Bool) → Json → Option (Option ℤ)
path_in true j = option_map (λ path. Some path) (exact_at (codes "path") j)
path_in false j = Some None

-- all of a result, where each part is there
abbrev pub told_by : (line : ℕ) → Option (Option Of) → (offset : Option ℤ) → (path : Option (Option ℤ)) → Option Told
told_by line of offset path =
    option_and_then (λ o. option_and_then (λ off. option_map (λ p. record { line = line; of = o; offset = off; path = p }) path) offset) of

-- an object tells this result, at a line of this number
abbrev pub IsToldBy : (has_path : Bool) → (line : ℕ) → Json → Option Told → Type 0
IsToldBy has_path line j told = (of : Option (Option Of)) × IsOf (get (codes "sequence") j) (get (codes "line") j) of
    × (told ≡ told_by line of (exact_at (codes "offset") j) (path_in has_path j))

-- a text tells this result, or none: it is no JSON, or has a member twice, or not all of a result
abbrev pub IsTold : (has_path : Bool) → (line : ℕ) → List ℕ → Option Told → Type 0
IsTold has_path line text told = MatchOption (document text) (told ≡ None)
    (λ j. (HasUniqueKeys j × IsToldBy has_path line j told) ⊎ ((HasUniqueKeys j → ⊥) × (told ≡ None)))

-- why the result of a text isn't read: it tells none, or is of more octets than are read, or memory failed
abbrev pub IsUntold : LineFault → (has_path : Bool) → (line : ℕ) → List ℕ → Type 0
IsUntold Write has_path line text = ⊥
IsUntold Field has_path line text = IsTold has_path line text None ⊎ (4294967040 < length text)
IsUntold Memory has_path line text = ⊤
