-- Two streams are one exactly where their sdoIds, VLANs and slaves are.
use Rattle.std.proofs.Common.{◌≡◌, ◌==◌, Bool, Option, Some, None, refl, ap}
use Rattle.std.specs.Prelude.{Decides}
use Rattle.std.specs.Option.{option_eq}
use Rattle.std.proofs.lemmas.Bool.Decides.{Decides-and, Decides-eqb}
use Rattle.capture_frame.specs.declared.route.Address.{Address}
use Rattle.capture_frame.specs.declared.route.Address.TheVariants.{Ethernet, Ipv4, Ipv6}
use Rattle.datagram_source.specs.declared.stream.Stream.{Stream}
use Rattle.datagram_source.specs.Stream.{is_same_address, is_same_stream}

same_option : {A : Type 0} (eq : A → A → Bool) → ((x y : A) → Decides (eq x y) (x ≡ y)) → (one other : Option A)
    → Decides (option_eq eq one other) (one ≡ other)
same_option eq each None None = (λ e. refl, λ e. refl)
same_option eq each None (Some y) = (λ e. absurd cc, λ e. absurd cc)
same_option eq each (Some x) None = (λ e. absurd cc, λ e. absurd cc)
same_option eq each (Some x) (Some y) = let those = each x y in (λ e. ap Some (those.0 e), λ e. those.1 cc)

same_address : (one other : Address) → Decides (is_same_address one other) (one ≡ other)
same_address (Ethernet x) (Ethernet y) = let those = Decides-eqb x y in (λ e. ap Ethernet (those.0 e), λ e. those.1 cc)
same_address (Ipv4 x) (Ipv4 y) = let those = Decides-eqb x y in (λ e. ap Ipv4 (those.0 e), λ e. those.1 cc)
same_address (Ipv6 x) (Ipv6 y) = let those = Decides-eqb x y in (λ e. ap Ipv6 (those.0 e), λ e. those.1 cc)
same_address (Ethernet x) (Ipv4 y) = (λ e. absurd cc, λ e. absurd cc)
same_address (Ethernet x) (Ipv6 y) = (λ e. absurd cc, λ e. absurd cc)
same_address (Ipv4 x) (Ethernet y) = (λ e. absurd cc, λ e. absurd cc)
same_address (Ipv4 x) (Ipv6 y) = (λ e. absurd cc, λ e. absurd cc)
same_address (Ipv6 x) (Ethernet y) = (λ e. absurd cc, λ e. absurd cc)
same_address (Ipv6 x) (Ipv4 y) = (λ e. absurd cc, λ e. absurd cc)

pub same_stream : (one other : Stream) → Decides (is_same_stream one other) (one ≡ other)
same_stream one other =
    let those = Decides-and _ _ (Decides-eqb one.sdo other.sdo) (Decides-and _ _ (same_option ◌==◌ Decides-eqb one.vlan other.vlan)
    (same_option is_same_address same_address one.slave other.slave)) in
    (λ e. alike (those.0 e), λ e. those.1 (ap (λ (s : Stream). s.sdo) e, (ap (λ (s : Stream). s.vlan) e, ap (λ (s : Stream). s.slave) e)))
  where
    alike : (one.sdo ≡ other.sdo) × ((one.vlan ≡ other.vlan) × (one.slave ≡ other.slave)) → one ≡ other
    alike (sdo, (vlan, slave)) = λ i. record { sdo = sdo i; vlan = vlan i; slave = slave i }
