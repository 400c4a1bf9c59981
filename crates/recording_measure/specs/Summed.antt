-- What was measured, as it is written at the end.
use Rattle.std.specs.Prelude.{◌≡◌, ℕ, ⊤, List, [], ◌∷◌, ◌++◌, Option, Result, MatchResult}
use Rattle.std.specs.Io.KnownBytes.{Appends}
use Rattle.text_lines.specs.declared.line_fault.LineFault.{LineFault}
use Rattle.text_lines.specs.declared.line_fault.LineFault.TheVariants.{Write, Field, Memory}

-- octets went out that end in LF
abbrev pub AppendsLine : (before after : Option (List ℕ)) → Type 0
AppendsLine before after = (line : List ℕ) × Appends before after (line ++ 10 ∷ [])

-- the line wasn't written: the writer failed, or memory was refused and nothing went out
abbrev pub LacksLine : LineFault → (before after : Option (List ℕ)) → Type 0
LacksLine Write before after = ⊤
LacksLine Field before after = ⊥
LacksLine Memory before after = after ≡ before

-- the line went out, or not
abbrev pub WritesLine : {T : Type 0} → Result T LineFault → (before after : Option (List ℕ)) → Type 0
WritesLine result before after = MatchResult result
    (λ _. AppendsLine before after)
    (λ fault. LacksLine fault before after)
