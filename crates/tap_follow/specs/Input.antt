-- What `follow` makes of an input.
use Rattle.std.specs.Prelude.{ℕ, List, [], Option, Result}
use Rattle.text_lines.specs.declared.counted.Counted.{Counted}
use Rattle.text_lines.specs.declared.fault.Cause.{Cause}
use Rattle.text_lines.specs.declared.fault.Stopped.{Stopped}
use Rattle.datagram_source.specs.declared.input.InputOutcome.{InputOutcome}
use Rattle.datagram_source.specs.Input.{AnswersLines, AnswersInput}
use Rattle.tap_choice.specs.declared.wanted.WantedTaps.{WantedTaps}
use Rattle.tap_follow.specs.declared.following.Form.{Form}
use Rattle.tap_follow.specs.declared.following.Form.TheVariants.{Json, Table, Sums}
use Rattle.tap_follow.specs.Course.{begun}
use Rattle.tap_sums.specs.Crossed.{table_head}
use Rattle.tap_follow.specs.declared.fault.FollowFault.{FollowFault}
use Rattle.tap_follow.specs.Rules.{follow_rules}

-- what goes out before anything is read
abbrev pub head_text : Form → List ℕ
head_text Json = []
head_text Table = table_head
head_text Sums = []

-- what an answer over the octets of lines says: the head went out, and then what the lines bring
abbrev pub FollowsLines : Form → WantedTaps → List ℕ → (left before after : Option (List ℕ))
    → Result ℕ (Stopped (Cause FollowFault)) → Type 0
FollowsLines form w octets left before after answer =
    AnswersLines follow_rules (head_text form) (begun form w) octets left before after answer

-- what an outcome says where the reader tells its octets, and where the writer does
abbrev pub FollowsInput : {R W : Type 0} → Form → WantedTaps → (R → Option (List ℕ)) → (W → Option (List ℕ))
    → InputOutcome FollowFault → (input input' : Counted R) (output output' : Counted W) → Type 0
FollowsInput form w remaining contents outcome input input' output output' =
    AnswersInput follow_rules (head_text form) (begun form w) remaining contents outcome input input' output output'
