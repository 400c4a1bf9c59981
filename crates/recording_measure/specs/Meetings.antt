-- Of whom a message is, by what became of it.
use Rattle.std.specs.Prelude.{ℕ, Bool, Option, Some, None, option_map}
use Rattle.event_codec.specs.declared.message.Body.{Body}
use Rattle.event_codec.specs.declared.message.Body.TheVariants as bodies
use Rattle.event_codec.specs.declared.message.Header.{Header}
use Rattle.recording_summary.specs.declared.others.Meeting.{Meeting}
use Rattle.recording_summary.specs.declared.others.MessageKind.{MessageKind}
use Rattle.recording_summary.specs.declared.others.MessageKind.TheVariants.{Sync, FollowUp, DelayReq, DelayResp}
use Rattle.recording_summary.specs.declared.others.Met.{Met}
use Rattle.recording_summary.specs.declared.others.Met.TheVariants.{First, Repeat, Master, Slave, Domain}
use Rattle.recording_summary.specs.declared.no_report.NoReport.{NoReport}
use Rattle.recording_summary.specs.declared.no_report.NoReport.TheVariants as whys

-- which message it is
abbrev pub message_kind : Body → MessageKind
message_kind (bodies.Sync origin) = Sync
message_kind (bodies.FollowUp precise) = FollowUp
message_kind (bodies.DelayReq origin) = DelayReq
message_kind (bodies.DelayResp receive requesting) = DelayResp

-- another slave sends requests; what is sent to it is the master's
abbrev pub slave_by : MessageKind → Header → Option Met
slave_by Sync header = None
slave_by FollowUp header = None
slave_by DelayReq header = Some (Slave header.source)
slave_by DelayResp header = None

-- of whom a message is that gave no report for this reason
abbrev pub met_as : MessageKind → NoReport → Header → Option Met
met_as kind whys.Held header = Some (First kind header.sequence)
met_as kind whys.Alone header = Some (First kind header.sequence)
met_as kind whys.OfSlave header = Some (First kind header.sequence)
met_as kind whys.Again header = Some (Repeat kind header.sequence)
met_as kind whys.Before header = Some (Repeat kind header.sequence)
met_as kind whys.OtherDomain header = Some (Domain header.domain)
met_as kind whys.OtherMaster header = Some (Master kind header.source)
met_as kind whys.OtherSlave header = slave_by kind header
met_as kind whys.TooBig header = Some (First kind header.sequence)
met_as kind whys.NotNewer header = Some (First kind header.sequence)
met_as kind whys.Unrecorded header = Some (First kind header.sequence)
met_as kind whys.PeerDelay header = None
met_as kind whys.TooEarly header = None
met_as kind whys.NoPart header = None

-- of whom one is that gave a report, or none for a reason
abbrev pub met_by : MessageKind → Option NoReport → Header → Option Met
met_by kind None header = Some (First kind header.sequence)
met_by kind (Some why) header = met_as kind why header

-- what a message tells, with its line and time, and with which its sender begins anew or doesn't
abbrev pub meeting_at : (line time : ℕ) → Body → Header → Option NoReport → (begins : Bool) → Option Meeting
meeting_at line time body header why begins = option_map (λ met. record {
  line = line;
  time = time;
  met = met;
  header = header;
  why = why;
  begins = begins;
}) (met_by (message_kind body) why header)
