-- Whom a recording is of: what isn't asked for, its messages tell. A list of datagrams has the newest in front, and the
-- first of a kind is the one behind all others.
use Rattle.std.specs.Prelude.{ℕ, Bool, true, false, List, [], ◌∷◌, ◌==◌, if◌then◌else◌, Option, Some, None}
use Rattle.std.specs.Prelude.{option_map, option_and_then}
use Rattle.std.specs.Option.{option_or, option_map_or}
use Rattle.std.specs.Result.{result_ok}
use Rattle.event_codec.specs.declared.message.Header.{Header}
use Rattle.event_codec.specs.declared.message.Body.{Body}
use Rattle.event_codec.specs.declared.message.Body.TheVariants.{DelayReq}
use Rattle.event_codec.specs.declared.port.PortIdentity.{PortIdentity}
use Rattle.event_codec.specs.Port.{is_same_port}
use Rattle.recording_model.specs.declared.watched.Watched.{Watched}
use Rattle.recording_model.specs.Recorded.{Recorded}
use Rattle.recording_model.specs.Told.{is_sync, where_is}
use Rattle.recording_measure.specs.declared.watch.WantedPorts.{WantedPorts}

-- a Delay_Req
abbrev pub is_request : Body → Bool
is_request (DelayReq origin) = true
is_request _ = false

-- the header of the message that a datagram is, where it is of this kind
abbrev pub header_in : (Body → Bool) → Recorded → Option Header
header_in kind d = option_map (λ m. m.header) (option_and_then (where_is kind) (result_ok d.said))

-- what the first datagram tells that tells anything
abbrev pub first_told : {T : Type 0} → (Recorded → Option T) → List Recorded → Option T
first_told tells [] = None
first_told tells (d ∷ earlier) = option_or (first_told tells earlier) (tells d)

-- the source of a message, where it is of this domain
abbrev pub source_in : (domain : ℕ) → Header → Option PortIdentity
source_in domain header = if header.domain == domain then Some header.source else None

-- the source of a message of this kind and domain
abbrev pub source_told : (Body → Bool) → (domain : ℕ) → Recorded → Option PortIdentity
source_told kind domain d = option_and_then (source_in domain) (header_in kind d)

-- the domain of a message, where it is from this port or none is asked for
abbrev pub domain_from : (port : Option PortIdentity) → Header → Option ℕ
domain_from port header =
    if option_map_or (is_same_port header.source) port true then Some header.domain else None

-- the domain of a Sync, of the master that is asked for if one is
abbrev pub domain_told : (master : Option PortIdentity) → Recorded → Option ℕ
domain_told master d = option_and_then (domain_from master) (header_in is_sync d)

-- the domain: the one that is asked for, or that of the first such Sync
abbrev pub domain_in : WantedPorts → List Recorded → Option ℕ
domain_in w ds = option_or w.domain (first_told (domain_told w.master) ds)

-- a port: the one that is asked for, or the source of the first message of a kind in the domain
abbrev pub port_in : (Body → Bool) → (asked : Option PortIdentity) → (domain : Option ℕ) → List Recorded
    → Option PortIdentity
port_in kind asked domain ds =
    option_or asked (option_and_then (λ known. first_told (source_told kind known) ds) domain)

-- the three, where each is known
abbrev pub watched_by : (domain : Option ℕ) → (slave master : Option PortIdentity) → Option Watched
watched_by (Some domain) (Some slave) (Some master) =
    Some (record { slave = slave; master = master; domain = domain })
watched_by _ _ _ = None

-- Whom a recording is of, where its messages tell: the master sent the first Sync of the domain, and the slave its
-- first Delay_Req, unless others are asked for.
abbrev pub watched_in : WantedPorts → List Recorded → Option Watched
watched_in w ds = watched_by (domain_in w ds)
    (port_in is_request w.slave (domain_in w ds) ds)
    (port_in is_sync w.master (domain_in w ds) ds)
