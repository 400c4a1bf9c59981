-- A master port: its configuration, the next number, and the number of the two-step Sync that waits for its departure.
use Rattle.std.specs.Prelude.{ℕ, Option, None}
use Rattle.event_codec.specs.declared.port.PortConfig.{PortConfig}

-- what a master port keeps
pub record Port : Type 0 where
  pub config : PortConfig
  pub next : ℕ
  pub waiting : Option ℕ

-- a port that has drawn no number yet
abbrev pub new_port : PortConfig → ℕ → Port
new_port config first = record { config = config; next = first; waiting = None }
