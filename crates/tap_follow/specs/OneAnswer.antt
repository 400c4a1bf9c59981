-- Octets have one answer, where no device failed and no memory was refused.
use Rattle.std.specs.Prelude.{◌≡◌, ℕ, ⊤, List, Option, Result, MatchResult}
use Rattle.std.specs.Io.KnownBytes.{Appends}
use Rattle.text_lines.specs.declared.fault.Cause.{Cause}
use Rattle.text_lines.specs.declared.fault.Cause.TheVariants.{Reading, Task}
use Rattle.text_lines.specs.declared.fault.ReadingFault.TheVariants.{Read, LineTooLong, TooManyLines}
use Rattle.text_lines.specs.declared.fault.Stopped.{Stopped}
use Rattle.tap_choice.specs.declared.wanted.WantedTaps.{WantedTaps}
use Rattle.tap_follow.specs.declared.following.Form.{Form}
use Rattle.tap_follow.specs.declared.fault.FollowFault.{FollowFault}
use Rattle.tap_follow.specs.declared.fault.FollowFault.TheVariants.{Write, Field, Memory, ThirdTap}
use Rattle.tap_follow.specs.Input.{FollowsLines}

-- a fault of the input, not of a device or of memory
abbrev pub IsOfInput : Cause FollowFault → Type 0
IsOfInput (Reading Read) = ⊥
IsOfInput (Reading LineTooLong) = ⊤
IsOfInput (Reading TooManyLines) = ⊤
IsOfInput (Task Write) = ⊥
IsOfInput (Task Field) = ⊤
IsOfInput (Task Memory) = ⊥
IsOfInput (Task (ThirdTap name)) = ⊤

abbrev pub IsSure : Result ℕ (Stopped (Cause FollowFault)) → Type 0
IsSure answer = MatchResult answer (λ _. ⊤) (λ stop. IsOfInput stop.what)

-- two such answers over the same lines are the same, leave the same octets and have written the same
abbrev pub LinesHaveOneAnswer : Type 0
LinesHaveOneAnswer = (form : Form) (w : WantedTaps) (octets : List ℕ) (left before after left' before' after' : Option (List ℕ))
    (answer answer' : Result ℕ (Stopped (Cause FollowFault)))
    → FollowsLines form w octets left before after answer → FollowsLines form w octets left' before' after' answer'
    → IsSure answer → IsSure answer'
    → (answer' ≡ answer) × (left' ≡ left) × ((text : List ℕ) × Appends before after text × Appends before' after' text)
