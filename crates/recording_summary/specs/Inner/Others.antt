-- What is kept of one message more.
use Rattle.std.specs.Prelude.{ℕ, Some}
use Rattle.recording_summary.specs.declared.others.Meeting.{Meeting}
use Rattle.recording_summary.specs.declared.others.MessageKind.{MessageKind}
use Rattle.recording_summary.specs.declared.others.MessageKind.TheVariants.{Sync, FollowUp, DelayReq, DelayResp}
use Rattle.recording_summary.specs.declared.others.Met.{Met}
use Rattle.recording_summary.specs.declared.others.Met.TheVariants.{First, Repeat, Master, Slave, Domain}
use Rattle.recording_summary.specs.declared.others.Numbered.{Numbered}
use Rattle.recording_summary.specs.declared.others.Repeats.{Repeats}

-- the last of its kind that is the first of its number
abbrev pub with_first : MessageKind → Numbered → Repeats → Repeats
with_first Sync first r = record r { sync = Some first }
with_first FollowUp first r = record r { follow_up = Some first }
with_first DelayReq first r = record r { request = Some first }
with_first DelayResp first r = record r { response = Some first }

abbrev pub with_met : Met → (time : ℕ) → Repeats → Repeats
with_met (First kind number) time r = with_first kind (record { number = number; time = time }) r
with_met (Repeat kind number) time r = r
with_met (Master kind port) time r = r
with_met (Slave port) time r = r
with_met (Domain domain) time r = r

abbrev pub with_kept : Meeting → Repeats → Repeats
with_kept m r = with_met m.met m.time r
