-- The law: what stands for a record brings a report once the other half is there. `laws::each_used_record_is_reported` promises it, of
-- whatever is recorded: of one-step Syncs, as a record of a Sync stands for one, and of Delay_Resps.
use Rattle.std.specs.Prelude.{◌≡◌, ◌<◌, ℕ, Bool, true, false, not, ◌&&◌, ◌||◌, ◌==◌, nat_lt, List, ◌∷◌, ◌++◌, count_by, Some, Ok}
use Rattle.std.specs.Option.{option_map_or}
use Rattle.std.specs.Result.{result_ok}
use Rattle.ptp_units.specs.Moment.{Stamp}
use Rattle.ptp_units.specs.Sequence.{ahead}
use Rattle.event_codec.specs.declared.message.Body.{Body}
use Rattle.event_codec.specs.declared.message.Body.TheVariants as bodies
use Rattle.event_codec.specs.declared.port.PortIdentity.{PortIdentity}
use Rattle.event_codec.specs.Packet.{Contents}
use Rattle.sync_watch.specs.Judged.{judged_sync}
use Rattle.slave_port.specs.History.{next_number}
use Rattle.slave_port.specs.Usable.{is_two_step}
use Rattle.recording_model.specs.declared.watched.Watched.{Watched}
use Rattle.recording_model.specs.Begins.{is_beginning}
use Rattle.recording_model.specs.Finds.{EachAfter, is_master_sync, says}
use Rattle.recording_model.specs.Listening.{Listening, after_all, arrival_of, is_of, is_used, setup_in, table_capacity, ticks_every}
use Rattle.recording_model.specs.Recorded.{Recorded}
use Rattle.recording_measure.specs.Made.{Measured}
use Rattle.recording_measure.specs.Measured.{measured_at}
use Rattle.recording_measure.specs.Row.{Row, datagrams}

-- a message by which a port begins anew: a Sync of the master that says so by what its number is, or a Delay_Req of the slave whose number
-- is neither its last one's again nor 1 to 256 ahead of that
abbrev pub begins_by : Watched → (time : ℕ) → Contents → Body → Listening → Bool
begins_by w time m (bodies.Sync origin) l =
    is_of w w.master m.header && is_beginning (judged_sync (arrival_of m.header time) table_capacity l.heard)
begins_by w time m (bodies.DelayReq origin) l =
    is_of w w.slave m.header
    && not ((not l.asked || nat_lt (ahead m.header.sequence.0 (next_number (setup_in w l) l.calls)) table_capacity)
    || ahead m.header.sequence.0 (next_number (setup_in w l) l.calls) == 65535)
begins_by w time m (bodies.FollowUp precise) l = false
begins_by w time m (bodies.DelayResp receive requesting) l = false

-- the same of any datagram
abbrev pub begins_at : Watched → Recorded → Listening → Bool
begins_at w d l = option_map_or (λ m. begins_by w d.time m m.body l) (result_ok d.said) false

-- a one-step Sync
pub record IsOneStepSync (d : Recorded) : Type 0 where
  pub m : Contents
  pub said : d.said ≡ Ok m
  pub origin : Stamp
  pub body : m.body ≡ bodies.Sync origin
  pub one_step : is_two_step m.header ≡ false

-- a Delay_Resp
pub record IsDelayResp (d : Recorded) : Type 0 where
  pub m : Contents
  pub said : d.said ≡ Ok m
  pub receive : Stamp
  pub requesting : PortIdentity
  pub body : m.body ≡ bodies.DelayResp receive requesting

-- In front of a row stands one of a kind that the port used, behind which it didn't begin anew, and fewer than 4,096 Syncs of the master
-- came.
pub record StandsInFront (w : Watched) (Is : Recorded → Type 0) (earlier : List Row) (row : Row) : Type 0 where
  pub later : List Row
  pub last : Row
  pub before : List Row
  pub there : earlier ≡ later ++ last ∷ before
  pub is : Is last.datagram
  pub used : is_used w (datagrams before) last.datagram ≡ true
  pub one_life : EachAfter (λ ds d. begins_at w d (after_all w ds) ≡ false) (datagrams (row ∷ later)) (datagrams (last ∷ before))
  pub few : count_by (says (is_master_sync w)) (datagrams later) < ticks_every

-- a report is measured at a row
abbrev pub IsMeasuredAt : Watched → (earlier : List Row) → Row → Type 0
IsMeasuredAt w earlier row = (m : Measured) × (measured_at w earlier row ≡ Some m)

-- Whatever is recorded: a one-step Sync that the port uses brings a report where a Delay_Resp stands in front that it used, and such a
-- Delay_Resp where a one-step Sync does.
pub record EachUsedRecordIsReported : Type 0 where
  pub sync : (w : Watched) (earlier : List Row) (row : Row) → IsOneStepSync row.datagram
      → is_used w (datagrams earlier) row.datagram ≡ true → StandsInFront w IsDelayResp earlier row → IsMeasuredAt w earlier row
  pub response : (w : Watched) (earlier : List Row) (row : Row) → IsDelayResp row.datagram
      → is_used w (datagrams earlier) row.datagram ≡ true → StandsInFront w IsOneStepSync earlier row → IsMeasuredAt w earlier row
