-- Master ports as C keeps them (IEEE 1588-2019, 11.3).
use Rattle.std.specs.Prelude.{◌≡◌, ℕ, List, if◌then◌else◌, Some, None, MatchResult}
use Rattle.event_codec.specs.declared.port.PortConfig.{PortConfig}
use Rattle.event_codec.specs.Packet.{Packet}
use Rattle.event_codec.specs.Reading.{Reading}
use Rattle.master_port.specs.Port.{Port}
use Rattle.master_port.specs.Refusal.{code_of}
use Rattle.master_port.specs.Written.{answer}
use Rattle.ptpx_c.specs.declared.master.RawMaster.{RawMaster}
use Rattle.ptpx_c.specs.declared.master.RawPortConfig.{RawPortConfig}
use Rattle.ptpx_c.specs.Messages.{identity_of}

-- the configuration that the fields say
abbrev pub config_of : RawPortConfig → PortConfig
config_of config = record { identity = identity_of config.identity; domain = config.domain; log = config.log }

-- the port that the fields say
abbrev pub port_of : RawMaster → Port
port_of master = record {
  config = config_of master.config;
  next = master.next;
  waiting = if master.waits then Some master.waiting else None;
}

-- the octets of the answer to what octets say that arrived at t4 are put there, or it is refused and what was there
-- stays
abbrev pub IsAnswered : PortConfig → Reading → (t4 : ℕ) → (code : ℕ) → (old new : List ℕ) → Type 0
IsAnswered config said t4 code old new = MatchResult (answer config said t4)
    (λ response. (code ≡ 0) × Packet response new)
    (λ refusal. (code ≡ code_of refusal) × (new ≡ old))
