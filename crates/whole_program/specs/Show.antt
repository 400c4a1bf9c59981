-- What `show` answers: that of the lines, with each fault told by its kind.
use Rattle.std.specs.Prelude.{ℕ, List, Option, Result}
use Rattle.text_lines.specs.declared.counted.Counted.{Counted}
use Rattle.datagram_text.specs.Show.{show_rules}
use Rattle.transcript_text.specs.declared.fault.Fault.{Fault}
use Rattle.transcript_text.specs.Answer.{Says, SaysAnswer}
use Rattle.transcript_text.specs.Fault.{of_line}

-- what an answer of `show` over these octets says, of what is left of them and of what was written
abbrev pub Shows : List ℕ → (left before after : Option (List ℕ)) → Result ℕ Fault → Type 0
Shows = Says of_line show_rules tt

-- what an answer of `show` says where the reader tells its octets, and where the writer does
abbrev pub ShowsAnswer : {R W : Type 0} → (R → Option (List ℕ)) → (W → Option (List ℕ)) → Result ℕ Fault
    → (input input' : Counted R) (output output' : Counted W) → Type 0
ShowsAnswer = SaysAnswer of_line show_rules tt
