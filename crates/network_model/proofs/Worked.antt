-- Worked networks and runs: what the definitions say of them is computed.
use Rattle.std.proofs.Common.{ℕ, pos, List, [], ◌∷◌, Result}
use Rattle.ptp_units.specs.Moment.{stamp, moment}
use Rattle.event_codec.specs.declared.port.PortConfig.{PortConfig}
use Rattle.network_model.specs.declared.event.Event.{Event}
use Rattle.network_model.specs.declared.node.NodeKind.TheVariants.{Master, Slave, Clock}
use Rattle.network_model.specs.declared.node.NodeSpec.{NodeSpec}
use Rattle.network_model.specs.declared.refusal.WorldRefusal.{WorldRefusal}
use Rattle.network_model.specs.declared.stepped.Outcome.{Outcome}
use Rattle.network_model.specs.Network.{Network, NodeName}
use Rattle.network_model.specs.Run.{Run}
use Rattle.network_model.specs.Outcome.{outcome_of}

-- nodes called M, S, T, A and B
abbrev pub m : NodeName
m = 77 ∷ []

abbrev pub s : NodeName
s = 83 ∷ []

abbrev pub t : NodeName
t = 84 ∷ []

abbrev pub a : NodeName
a = 65 ∷ []

abbrev pub b : NodeName
b = 66 ∷ []

abbrev configured : List ℕ → PortConfig
configured clock = record { identity = record { clock = clock; port = 1 }; domain = 0; log = pos 0 }

abbrev pub m_config : PortConfig
m_config = configured (0 ∷ 17 ∷ 34 ∷ 255 ∷ 254 ∷ 51 ∷ 68 ∷ 85 ∷ [])

abbrev pub b_config : PortConfig
b_config = configured (0 ∷ 17 ∷ 34 ∷ 255 ∷ 254 ∷ 51 ∷ 68 ∷ 86 ∷ [])

abbrev pub s_config : PortConfig
s_config = configured (0 ∷ 170 ∷ 187 ∷ 255 ∷ 254 ∷ 204 ∷ 221 ∷ 238 ∷ [])

-- a master whose numbers begin here
abbrev pub master : NodeName → PortConfig → ℕ → NodeSpec
master name config first = record { name = name; kind = Master config (record { 0 = first }) }

-- a slave whose numbers begin at 0
abbrev pub slave_of : NodeName → PortConfig → NodeSpec
slave_of name config = record { name = name; kind = Slave config (record { 0 = 0 }) }

-- the slave S
abbrev pub slave : NodeSpec
slave = slave_of s s_config

-- a transparent clock
abbrev pub clock : NodeName → NodeSpec
clock name = record { name = name; kind = Clock }

-- a master, a slave and a transparent clock
abbrev pub small_network : Network
small_network = master m m_config 0 ∷ slave ∷ clock t ∷ []

-- two masters and a slave; the numbers of the first master begin here
abbrev pub two_masters : ℕ → Network
two_masters first = master a m_config first ∷ master b b_config 0 ∷ slave ∷ []

-- the moment of these seconds, nanoseconds and units of 2^-16 ns
abbrev pub at : ℕ → ℕ → ℕ → ℕ
at seconds nanoseconds fraction = moment (stamp seconds nanoseconds) fraction

-- what one event after the other answers after a run, the oldest first
abbrev pub answers_after : Network → Run → List Event → List (Result Outcome WorldRefusal)
answers_after network run [] = []
answers_after network run (event ∷ later) = outcome_of network run event ∷ answers_after network (event ∷ run) later
