-- The same port has one identity.
use Rattle.std.proofs.Common.{◌≡◌, Decides, arith}
use Rattle.std.proofs.lemmas.Bool.Decides.{Decides-eqb}
use Rattle.std.proofs.lemmas.Slice.Eq.{bytes_eq-Decides}
use Rattle.event_codec.specs.declared.port.PortIdentity.{PortIdentity}
use Rattle.event_codec.specs.Port.{is_same_port}

pub is_same_port-Decides : (a b : PortIdentity) → Decides (is_same_port a b) (a ≡ b)
is_same_port-Decides a b = grind (arith, bytes_eq-Decides, Decides-eqb)
