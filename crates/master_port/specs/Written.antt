-- What a master writes, from its configuration, a number and a time (IEEE 1588-2019, 11.3 and 13.6 to 13.8).
use Rattle.std.specs.Prelude.{ℕ, pos, int_lt, [], ◌∷◌, ◌==◌, if◌then◌else◌, Ok, Err, Result}
use Rattle.ptp_units.specs.Moment.{stamp, stamp_of, fraction_of}
use Rattle.ptp_units.specs.Interval.{least, less_fraction}
use Rattle.event_codec.specs.declared.message.Header.{Header}
use Rattle.event_codec.specs.declared.message.Body.{Body}
use Rattle.event_codec.specs.declared.message.Body.TheVariants.{Sync, DelayReq, FollowUp, DelayResp}
use Rattle.event_codec.specs.declared.port.PortConfig.{PortConfig}
use Rattle.event_codec.specs.Packet.{Contents}
use Rattle.event_codec.specs.Profile.{header_of}
use Rattle.event_codec.specs.Reading.{Reading}
use Rattle.master_port.specs.declared.refusal.MasterRefusal.{MasterRefusal}
use Rattle.master_port.specs.declared.refusal.MasterRefusal.TheVariants.{Decode, NotRequest, OtherDomain}
use Rattle.master_port.specs.declared.refusal.MasterRefusal.TheVariants.{CorrectionTooLow}

-- the two-step Sync of this number: its time comes with the Follow_Up
abbrev pub sync : PortConfig → (number : ℕ) → Contents
sync config number = record {
  header = header_of config (2 ∷ 0 ∷ []) (pos 0) number 0 config.log;
  body = Sync (stamp 0 0);
  suffix = [];
}

-- the one-step Sync of this number, which leaves at the moment t1: the fraction of t1 stands in the correction
abbrev pub one_step_sync : PortConfig → (number t1 : ℕ) → Contents
one_step_sync config number t1 = record {
  header = header_of config (0 ∷ 0 ∷ []) (pos (fraction_of t1)) number 0 config.log;
  body = Sync (stamp_of t1);
  suffix = [];
}

-- the Follow_Up of the Sync of this number, which left at the moment t1: the fraction of t1 stands in the correction
abbrev pub follow_up : PortConfig → ℕ → ℕ → Contents
follow_up config number t1 = record {
  header = header_of config (0 ∷ 0 ∷ []) (pos (fraction_of t1)) number 2 config.log;
  body = FollowUp (stamp_of t1);
  suffix = [];
}

-- the Delay_Resp to a Delay_Req with this header that arrived at the moment t4: the correction is less its fraction
abbrev pub delay_resp : PortConfig → Header → ℕ → Contents
delay_resp config request t4 = record {
  header = header_of config (0 ∷ 0 ∷ [])
      (less_fraction request.correction.0 (fraction_of t4)) request.sequence.0 3 config.log;
  body = DelayResp (stamp_of t4) request.source;
  suffix = [];
}

-- the same, where its correction is in range
abbrev pub delay_resp_in_range : PortConfig → Header → ℕ → Result Contents MasterRefusal
delay_resp_in_range config request t4 =
    if int_lt (less_fraction request.correction.0 (fraction_of t4)) least then Err CorrectionTooLow
    else Ok (delay_resp config request t4)

-- the answer to a Delay_Req with this header: it has to be of the master's domain
abbrev pub answer_to_request : PortConfig → Header → ℕ → Result Contents MasterRefusal
answer_to_request config request t4 =
    if request.domain == config.domain then delay_resp_in_range config request t4 else Err OtherDomain

-- the answer to a message with this body and header
abbrev pub answer_to : PortConfig → Body → Header → ℕ → Result Contents MasterRefusal
answer_to config (Sync origin) header t4 = Err NotRequest
answer_to config (DelayReq origin) header t4 = answer_to_request config header t4
answer_to config (FollowUp precise) header t4 = Err NotRequest
answer_to config (DelayResp receive requesting) header t4 = Err NotRequest

-- the answer to what octets say that arrived at t4: a Delay_Resp, or the first refusal that applies
abbrev pub answer : PortConfig → Reading → ℕ → Result Contents MasterRefusal
answer config (Err refusal) t4 = Err (Decode refusal)
answer config (Ok m) t4 = answer_to config m.body m.header t4
