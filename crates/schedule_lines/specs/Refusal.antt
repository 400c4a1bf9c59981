-- What a refusal says of a line's value.
use Rattle.std.specs.Prelude.{◌≡◌, ◌||◌, List, [], ◌∷◌, length, codes, Bool, true, false, Option, Some, None, IsSomeAnd, Result, MatchResult}
use Rattle.std.specs.List.{AllByRecursion}
use Rattle.std.specs.Str.{bytes_eq}
use Rattle.serde_json.specs.Data.{Data}
use Rattle.serde_json.specs.Find.{get}
use Rattle.line_object.specs.Key.{key_text}
use Rattle.line_object.specs.declared.key.Key.{Key}
use Rattle.schedule_lines.specs.Json.{has_keys}
use Rattle.schedule_lines.specs.Wanted.{HasWanted, HasWrong, array_of, wanted_at, wanted_of}
use Rattle.schedule_lines.specs.declared.refusal.Refusal.{Refusal}
use Rattle.schedule_lines.specs.declared.refusal.Refusal.TheVariants.{NoKind, Missing, Wrong, WrongPart, TooMuch}

-- whether a key is one of these
abbrev pub is_one_of : Key → List Key → Bool
is_one_of key [] = false
is_one_of key (k ∷ ks) = bytes_eq (key_text key) (key_text k) || is_one_of key ks

-- each of these keys is there, with a value that is wanted
abbrev pub HasEach : Data → List Key → Type 0
HasEach d keys = AllByRecursion (HasWanted d) keys

-- and there are no others
abbrev pub HasJust : Data → List Key → Type 0
HasJust d keys = HasEach d keys × (has_keys (length keys) d ≡ true)

-- one of these keys isn't there, or its value isn't what is wanted
abbrev pub IsSoOf : Data → Refusal → List Key → Type 0
IsSoOf d (Missing key) keys = (is_one_of key keys ≡ true) × (get (key_text key) d ≡ None)
IsSoOf d (Wrong key) keys = (is_one_of key keys ≡ true) × (wanted_at key d ≡ Some false)
IsSoOf d (WrongPart key part) keys =
    (is_one_of key keys ≡ true) × (wanted_at key d ≡ Some false) × (wanted_of key ≡ array_of part)
    × IsSomeAnd (get (key_text key) d) (HasWrong part)
IsSoOf d _ keys = ⊥

-- a refusal of a line that needs these keys: nothing says what it is, one of these isn't there or isn't wanted, or each is,
-- and others are there
abbrev pub IsRefused : Data → List Key → Refusal → Type 0
IsRefused d keys NoKind = (get (codes "ev") d ≡ None) × (get (codes "kind") d ≡ None)
IsRefused d keys TooMuch = HasEach d keys × (has_keys (length keys) d ≡ false)
IsRefused d keys refusal = IsSoOf d refusal keys

-- a line that needs these keys is this, and has no others, or a refusal is so
abbrev pub Answers : {X : Type 0} → Option X → Data → List Key → Result X Refusal → Type 0
Answers read d keys result = MatchResult result
    (λ x. (read ≡ Some x) × HasJust d keys)
    (λ refusal. (read ≡ None) × IsRefused d keys refusal)
