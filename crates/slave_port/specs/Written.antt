-- What a slave port writes.
use Rattle.std.specs.Prelude.{ℕ, pos, [], ◌∷◌}
use Rattle.ptp_units.specs.Moment.{stamp}
use Rattle.event_codec.specs.declared.message.Body.TheVariants.{DelayReq}
use Rattle.event_codec.specs.declared.port.PortConfig.{PortConfig}
use Rattle.event_codec.specs.Packet.{Contents}
use Rattle.event_codec.specs.Profile.{header_of}

-- the Delay_Req of this number: no flags, correction 0, controlField 1, logMessageInterval 7F, originTimestamp 0
-- (IEEE 1588-2019, 11.3.2 and 13.6)
abbrev pub delay_req : PortConfig → (number : ℕ) → Contents
delay_req config number = record {
  header = header_of config (0 ∷ 0 ∷ []) (pos 0) number 1 (pos 127);
  body = DelayReq (stamp 0 0);
  suffix = [];
}
