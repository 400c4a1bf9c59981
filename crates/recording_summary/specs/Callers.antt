-- Who sent messages while it isn't known whom to watch.
use Rattle.event_codec.specs.declared.message.Body.{Body}
use Rattle.event_codec.specs.declared.message.Body.TheVariants.{Sync, DelayReq, FollowUp, DelayResp}
use Rattle.event_codec.specs.declared.port.PortIdentity.{PortIdentity}
use Rattle.recording_summary.specs.declared.callers.Callers.{Callers}
use Rattle.recording_summary.specs.Others.{nobody, with_sender}

-- before the first message
abbrev pub no_callers : Callers
no_callers = record { masters = nobody; slaves = nobody }

-- one message more of a port: a Sync counts as a master's, a Delay_Req as a slave's
abbrev pub with_message : PortIdentity → Body → Callers → Callers
with_message port (Sync origin) callers = record callers { masters = with_sender port callers.masters }
with_message port (DelayReq origin) callers = record callers { slaves = with_sender port callers.slaves }
with_message port (FollowUp precise) callers = callers
with_message port (DelayResp receive requesting) callers = callers
