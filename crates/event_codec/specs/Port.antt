-- Ports, by their identities (IEEE 1588-2019, 5.3.5).
use Rattle.std.specs.Prelude.{Bool, ◌&&◌, ◌==◌}
use Rattle.std.specs.Str.{bytes_eq}
use Rattle.event_codec.specs.declared.port.PortIdentity.{PortIdentity}

-- whether two identities are of the same port: one clockIdentity and one portNumber, as `==` compares them
abbrev pub is_same_port : PortIdentity → PortIdentity → Bool
is_same_port a b = bytes_eq a.clock b.clock && a.port == b.port
