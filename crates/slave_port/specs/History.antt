-- The history of a slave port: its calls since it was made, newest first, each with its arguments.
use Rattle.std.specs.Prelude.{ℕ, ◌+◌, ◌%◌, List, [], ◌∷◌, Option, Some, None}
use Rattle.event_codec.specs.declared.port.PortConfig.{PortConfig}
use Rattle.event_codec.specs.declared.port.PortIdentity.{PortIdentity}
use Rattle.event_codec.specs.Reading.{Reading}

-- how many Syncs, Follow_Ups and requests a slave port holds at most
pub record Capacities : Type 0 where
  pub syncs : ℕ
  pub follows : ℕ
  pub requests : ℕ

-- what a slave port is set up with; its requests are numbered from `first` on
pub record Setup : Type 0 where
  pub config : PortConfig
  pub first : ℕ
  pub capacities : Capacities

-- this setup
abbrev pub setup_of : PortConfig → (first syncs follows requests : ℕ) → Setup
setup_of config first syncs follows requests = record {
  config = config;
  first = first;
  capacities = record { syncs = syncs; follows = follows; requests = requests };
}

-- a call of a slave port; what octets say stands in their place, and times are moments
pub data Call : Type 0 where
  SetMaster : (master : PortIdentity) → Call
  Tick : Call
  NextRequest : (tag : ℕ) → Call
  RequestLeft : (number : ℕ) (t3 : ℕ) → Call
  Event : (heard : Reading) (t2 : ℕ) (tag : ℕ) → Call
  General : (heard : Reading) (tag : ℕ) → Call

-- the master that was set last, if one was
abbrev pub present_master : List Call → Option PortIdentity
present_master [] = None
present_master (SetMaster master ∷ earlier) = Some master
present_master (_ ∷ earlier) = present_master earlier

-- how many requests were drawn
abbrev pub requests_drawn : List Call → ℕ
requests_drawn [] = 0
requests_drawn (NextRequest tag ∷ earlier) = requests_drawn earlier + 1
requests_drawn (_ ∷ earlier) = requests_drawn earlier

-- the sequenceId of the next Delay_Req
abbrev pub next_number : Setup → List Call → ℕ
next_number setup history = (setup.first + requests_drawn history) % 65536
