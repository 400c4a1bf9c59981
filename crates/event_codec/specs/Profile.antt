-- The messages that this profile's ports write.
use Rattle.std.specs.Prelude.{ℕ, ℤ, List, [], ◌∷◌}
use Rattle.event_codec.specs.declared.message.Header.{Header}
use Rattle.event_codec.specs.declared.port.PortConfig.{PortConfig}
use Rattle.event_codec.specs.declared.profile.PortMessage.{PortMessage}
use Rattle.event_codec.specs.Packet.{Contents}

-- sdoId 0, version 2.1, messageTypeSpecific 0, and domain and identity of the port
abbrev pub header_of : PortConfig → (flags : List ℕ) → (correction : ℤ) → (number : ℕ) → (control : ℕ) → (log : ℤ)
    → Header
header_of config flags correction number control log = record {
  major_sdo = 0;
  minor_version = 1;
  domain = config.domain;
  minor_sdo = 0;
  flags = flags;
  correction = record { 0 = correction };
  specific = 0 ∷ 0 ∷ 0 ∷ 0 ∷ [];
  source = config.identity;
  sequence = record { 0 = number };
  control = control;
  log = log;
}

-- a message that has no suffix
abbrev pub contents_of : PortMessage → Contents
contents_of message = record { header = message.header; body = message.body; suffix = [] }
