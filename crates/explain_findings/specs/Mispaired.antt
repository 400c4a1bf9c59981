-- What breaks 702, in a sentence: a message is taken for one of another exchange.
use Rattle.std.specs.Prelude.{ℕ, List, ◌++◌, codes, Option, Some, None, option_map}
use Rattle.exchange_check.specs.Transcript.{Transcript}
use Rattle.explain_findings.specs.declared.heard.Sent.{Sent}
use Rattle.explain_findings.specs.declared.mispaired.Mispaired.{Mispaired}
use Rattle.explain_findings.specs.declared.mispaired.Mispaired.TheVariants.{OtherSync, NoFollowUp, OtherRequest}
use Rattle.explain_findings.specs.Heard.{sent_at, sent_text}
use Rattle.explain_findings.specs.Known.{named_at, named_text}

-- ---- which sentence it is

-- the Sync that a Follow_Up is of, where there is one
abbrev pub follows_at : Transcript → Option ℕ → Option Sent
follows_at transcript follows = option_map (sent_at transcript) follows

-- the Sync of a number is taken with the Follow_Up of another one
abbrev pub other_sync_at : Transcript → (sync follow_up : ℕ) → (follows : Option ℕ) → Mispaired
other_sync_at transcript sync follow_up follows =
    OtherSync (sent_at transcript sync) (named_at transcript follow_up) (record { 0 = follows_at transcript follows })

-- the two-step Sync of a number has no Follow_Up
abbrev pub no_follow_up_at : Transcript → (sync : ℕ) → Mispaired
no_follow_up_at transcript sync = NoFollowUp (sent_at transcript sync)

-- the answer to the Delay_Req of a number is taken for one to another
abbrev pub other_request_at : Transcript → (request own : ℕ) → Mispaired
other_request_at transcript request own = OtherRequest (sent_at transcript request) (sent_at transcript own)

-- ---- its text

-- what stands behind each, in a line of its own
abbrev pub of_no_exchange : List ℕ
of_no_exchange = codes "\n    so what its messages tell together is the result of no exchange"

-- of which Sync a Follow_Up is
abbrev pub follows_text : Option Sent → List ℕ
follows_text (Some other) = codes "which is of " ++ sent_text other
follows_text None = codes "before which its master sent no two-step Sync"

abbrev pub mispaired_text : Mispaired → List ℕ
mispaired_text (OtherSync sync follow_up follows) =
    sent_text sync ++ (codes ", is taken with the Follow_Up of " ++ (named_text follow_up ++ (codes ", "
    ++ (follows_text follows.0 ++ of_no_exchange))))
mispaired_text (NoFollowUp sync) =
    sent_text sync ++ (codes ", is two-step, and is taken for one that needs no Follow_Up" ++ of_no_exchange)
mispaired_text (OtherRequest request own) =
    codes "the Delay_Resp answers " ++ (sent_text request ++ (codes "; it is taken for one to " ++ (sent_text own
    ++ of_no_exchange)))
