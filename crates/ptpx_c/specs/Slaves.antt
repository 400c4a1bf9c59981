-- Slave ports as C keeps them (IEEE 1588-2019, 11.3).
use Rattle.std.specs.Prelude.{◌≡◌, ℕ, List, [], Option, Some, if◌then◌else◌}
use Rattle.event_codec.specs.declared.port.PortConfig.{PortConfig}
use Rattle.event_codec.specs.Packet.{Packet}
use Rattle.slave_port.specs.declared.heard.Heard.{Heard}
use Rattle.slave_port.specs.declared.heard.Heard.TheVariants as answers
use Rattle.slave_port.specs.declared.reason.Reason.{Reason}
use Rattle.slave_port.specs.History.{Setup, Call, setup_of, next_number}
use Rattle.slave_port.specs.Requests.{is_held}
use Rattle.slave_port.specs.StandsFor.{Port, StandsFor, StandsAfter, IsAnswer}
use Rattle.slave_port.specs.Exchange.{last_exchange}
use Rattle.slave_port.specs.Written.{delay_req}
use Rattle.ptpx_c.specs.declared.exchange.RawExchange.{RawExchange}
use Rattle.ptpx_c.specs.declared.handle.RawSlave.{RawSlave}
use Rattle.ptpx_c.specs.declared.heard.RawHeard.{RawHeard}
use Rattle.ptpx_c.specs.declared.ring.RingSlave.{RingSlave}
use Rattle.ptpx_c.specs.declared.ring.WideRingSlave.{WideRingSlave}
use Rattle.ptpx_c.specs.declared.wide_handle.RawWideSlave.{RawWideSlave}
use Rattle.ptpx_c.specs.Answers.{Says}
use Rattle.ptpx_c.specs.Exchanges.{IsPut}

-- slave ports as C keeps them: the handles and the ports, how many Syncs, Follow_Ups and requests each holds at most,
-- what it keeps, the port in a handle's memory, once there is one, and the handle with another there
pub record Kind : Type 1 where
  pub Handle : Type 0
  pub Slave : Type 0
  pub capacity : ℕ
  pub kept : Slave → Port
  pub held : Handle → Option Slave
  pub with_port : Handle → Slave → Handle

-- the handle, with this port in its memory
abbrev pub with_port : RawSlave → RingSlave → RawSlave
with_port handle slave = record handle { port = Some slave }

abbrev pub with_wide_port : RawWideSlave → WideRingSlave → RawWideSlave
with_wide_port handle slave = record handle { port = Some slave }

-- ports with rings of 16
abbrev pub slaves : Kind
slaves = record {
  Handle = RawSlave;
  Slave = RingSlave;
  capacity = 16;
  kept = λ slave. slave.port;
  held = λ handle. handle.port;
  with_port = with_port;
}

-- ports with rings of 256
abbrev pub wide_slaves : Kind
wide_slaves = record {
  Handle = RawWideSlave;
  Slave = WideRingSlave;
  capacity = 256;
  kept = λ slave. slave.port;
  held = λ handle. handle.port;
  with_port = with_wide_port;
}

module _ (kind : Kind) where
  -- the memory holds a new port of this configuration
  abbrev pub IsMade : PortConfig → (first : ℕ) → (old new : kind.Handle) → Type 0
  IsMade config first old new = (slave : kind.Slave) × ((new ≡ kind.with_port old slave)
      × StandsFor (setup_of config first kind.capacity kind.capacity kind.capacity) (kind.kept slave) [])

  -- the port in the memory becomes another, and this holds of the two
  abbrev pub Becomes : (old new : kind.Handle) → (Port → Port → Type 0) → Type 0
  Becomes old new Relates = (before : kind.Slave) → kind.held old ≡ Some before
      → (after : kind.Slave) × ((new ≡ kind.with_port old after) × Relates (kind.kept before) (kind.kept after))

  -- the Delay_Req of the next number, and the number
  abbrev pub IsRequested : kind.Handle → (octets : List ℕ) → (number : ℕ) → Type 0
  IsRequested old octets number = (before : kind.Slave) → kind.held old ≡ Some before
      → (setup : Setup) (history : List Call) → StandsFor setup (kind.kept before) history
      → Packet (delay_req setup.config (next_number setup history)) octets × (number ≡ next_number setup history)

  -- 0 where a request of this number is held, else 511, and nothing changed
  abbrev pub IsNoted : (number code : ℕ) → (old new : kind.Handle) → Type 0
  IsNoted number code old new = (before : kind.Slave) → kind.held old ≡ Some before
      → ((setup : Setup) (history : List Call) → StandsFor setup (kind.kept before) history
      → code ≡ (if is_held setup history number then 0 else 511))
      × (code ≡ 511 → new ≡ old)

  -- the answer to a call that hears a message, and the port after it; where it is ignored the port is as before
  abbrev pub IsHeard : Call → (old new : kind.Handle) → RawHeard → Type 0
  IsHeard call old new said = (before : kind.Slave) → kind.held old ≡ Some before
      → (after : kind.Slave) × (answer : Heard) × ((new ≡ kind.with_port old after) × Says said answer
      × IsAnswer call (kind.kept before) answer × StandsAfter call (kind.kept before) (kind.kept after)
      × ((reason : Reason) → answer ≡ answers.Ignored reason → kind.kept after ≡ kind.kept before))

  -- the exchange of the last report is put there, or there is none: 910, and what was there stays
  abbrev pub IsLast : kind.Handle → (code : ℕ) → (old new : RawExchange) → Type 0
  IsLast handle code old new = (before : kind.Slave) → kind.held handle ≡ Some before
      → (setup : Setup) (history : List Call) → StandsFor setup (kind.kept before) history
      → IsPut (last_exchange setup history) code old new

-- whatever setup a port stood for, it is as new with another first number
abbrev pub IsRestarted : (first : ℕ) → (old new : Port) → Type 0
IsRestarted first old new = (setup : Setup) (history : List Call) → StandsFor setup old history
    → StandsFor (record setup { first = first }) new []
