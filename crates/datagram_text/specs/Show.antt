-- What `show` writes, by the lines that it reads.
use Rattle.std.specs.Prelude.{◌≡◌, ℕ, List, [], ◌∷◌, ◌++◌, is_ok, Option, Ok, Result, ⊤, true, false}
use Rattle.std.specs.Option.{ForSome}
use Rattle.hex.specs.Hex.{decode_of}
use Rattle.datagram_text.specs.Shown.{IsShownAs}
use Rattle.text_lines.specs.declared.counted.Counted.{Counted}
use Rattle.text_lines.specs.declared.fault.Cause.{Cause}
use Rattle.text_lines.specs.declared.fault.Stopped.{Stopped}
use Rattle.text_lines.specs.declared.line_fault.LineFault.{LineFault}
use Rattle.text_lines.specs.declared.line_fault.LineFault.TheVariants.{Write, Field, Memory}
use Rattle.text_lines.specs.Counted.{device_of}
use Rattle.text_lines.specs.Fault.{is_write}
use Rattle.text_lines.specs.Lines.{lines_limit}
use Rattle.text_lines.specs.Task.{Rules, Answers}

-- the digits are a datagram in hexadecimal, and this is its text with an LF
pub record IsAnswer (digits written : List ℕ) : Type 0 where
  pub datagram : List ℕ
  pub hexadecimal : decode_of digits ≡ Ok datagram
  pub text : List ℕ
  pub shown : IsShownAs datagram text
  pub ended : written ≡ text ++ 10 ∷ []

-- why digits aren't shown: they aren't hexadecimal, or memory or the writer failed where they are
abbrev pub StopsShowing : List ℕ → LineFault → Type 0
StopsShowing digits Field = is_ok (decode_of digits) ≡ false
StopsShowing digits Memory = is_ok (decode_of digits) ≡ true
StopsShowing digits Write = is_ok (decode_of digits) ≡ true

-- each line is answered alone, and the number of lines at the end
abbrev pub show_rules : Rules ⊤ ℕ LineFault
show_rules = record {
  lines_limit = lines_limit;
  Takes = λ line state later written. IsAnswer line written;
  Stops = λ line state fault written. StopsShowing line fault × (written ≡ []);
  Ends = λ lines state answer written. (answer ≡ lines) × (written ≡ []);
  StopsAtEnd = λ state fault written. ⊥;
  is_of_writer = is_write;
}

-- what an answer of `show_lines` over these octets says, of what is left of them and of what was written
abbrev pub Shows : List ℕ → (left before after : Option (List ℕ)) → Result ℕ (Stopped (Cause LineFault)) → Type 0
Shows = Answers show_rules tt

-- what an answer of `show_lines` says where the reader tells its octets, and where the writer does
abbrev pub ShowsAnswer : {R W : Type 0} → (R → Option (List ℕ)) → (W → Option (List ℕ))
    → Result ℕ (Stopped (Cause LineFault)) → (input input' : Counted R) (output output' : Counted W) → Type 0
ShowsAnswer remaining contents answer input input' output output' =
    ForSome (remaining (device_of input)) (λ octets.
    Shows octets (remaining (device_of input')) (contents (device_of output)) (contents (device_of output')) answer)
