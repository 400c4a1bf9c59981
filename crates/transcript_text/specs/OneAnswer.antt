-- Octets leave one answer of a subcommand, as `octets_have_one_answer` of `whole_program` promises, but where a device failed or memory was refused. Free is at which octet the reader fails (801); at which
-- line the writer fails, and what went out (802); at which line memory is refused, and how many of the nodes' lines, or
-- how much of what that line of a recording brings, went out then (808).
use Rattle.std.specs.Prelude.{◌≡◌, List, ℕ, Option, Result, MatchResult, ⊤}
use Rattle.std.specs.Io.KnownBytes.{Appends}
use Rattle.transcript_text.specs.declared.fault.FaultKind.{FaultKind}
use Rattle.transcript_text.specs.Accepted.{IsOfDevice}

-- an answer that isn't a fault of a device or of memory, by the kinds of faults
abbrev pub IsOfInput : {A F : Type 0} → (F → FaultKind) → Result A F → Type 0
IsOfInput kind answer = MatchResult answer (λ _. ⊤) (λ stop. IsOfDevice (kind stop) → ⊥)

-- one text went out at both of two writers, where they tell their octets
abbrev pub WroteOneText : (before after before' after' : Option (List ℕ)) → Type 0
WroteOneText before after before' after' = (text : List ℕ) × Appends before after text × Appends before' after' text

-- Two such answers over the same octets are the same, leave the same octets, and wrote one text, whatever the writers
-- held.
abbrev pub HasOneAnswer : {A F : Type 0} → (F → FaultKind)
    → (List ℕ → (left before after : Option (List ℕ)) → Result A F → Type 0) → Type 0
HasOneAnswer {A} {F} kind Says =
    (octets : List ℕ) (left before after left' before' after' : Option (List ℕ)) (answer answer' : Result A F)
    → Says octets left before after answer
    → Says octets left' before' after' answer' → IsOfInput kind answer → IsOfInput kind answer'
    → (answer' ≡ answer) × (left' ≡ left) × WroteOneText before after before' after'
