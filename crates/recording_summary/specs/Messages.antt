-- Which message of the master and the slave one is.
use Rattle.std.specs.Prelude.{ℕ, Bool, true, false, if◌then◌else◌, Option, Some, None}
use Rattle.recording_summary.specs.declared.others.MessageKind.{MessageKind}
use Rattle.recording_summary.specs.declared.others.MessageKind.TheVariants.{Sync, FollowUp, DelayReq, DelayResp}
use Rattle.recording_summary.specs.declared.others.Met.{Met}
use Rattle.recording_summary.specs.declared.others.Met.TheVariants.{First, Repeat, Master, Slave, Domain}
use Rattle.recording_summary.specs.declared.others.Numbered.{Numbered}

abbrev pub is_sync : MessageKind → Bool
is_sync Sync = true
is_sync FollowUp = false
is_sync DelayReq = false
is_sync DelayResp = false

-- both are of one kind
abbrev pub is_same_kind : MessageKind → MessageKind → Bool
is_same_kind Sync other = is_sync other
is_same_kind FollowUp FollowUp = true
is_same_kind FollowUp other = false
is_same_kind DelayReq DelayReq = true
is_same_kind DelayReq other = false
is_same_kind DelayResp DelayResp = true
is_same_kind DelayResp other = false

-- the number and the time of a message of this kind that is the first of its number
abbrev pub first_by : Met → MessageKind → (time : ℕ) → Option Numbered
first_by (First own number) kind time =
    if is_same_kind kind own then Some (record { number = number; time = time }) else None
first_by (Repeat own number) kind time = None
first_by (Master own port) kind time = None
first_by (Slave port) kind time = None
first_by (Domain domain) kind time = None
