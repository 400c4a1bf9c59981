-- Tags.
use Rattle.std.proofs.Common.{◌≡◌, ℕ, List, None, inl, inr, refl, arith}
use Rattle.capture_frame.specs.Tags.{CarriesByType, tag_size}
use Rattle.capture_frame.specs.Payload.{Payload}
use Rattle.capture_frame.proofs.Chains.{IsWalkable}
use Rattle.capture_frame.proofs.Only.{IsSame}
use Rattle.capture_frame.specs.Ipv4.{IsIpv4}
use Rattle.capture_frame.specs.Ipv6.{IsIpv6}

no_tag : (kind : ℕ) (octets : List ℕ) (payload : Payload) → CarriesByType kind octets payload → tag_size kind octets ≡ None
no_tag kind octets payload (inl h) = rw h.0 refl
no_tag kind octets payload (inr (inl h)) = rw h.0 refl
no_tag kind octets payload (inr (inr h)) = rw h.0 refl

pub tags : IsWalkable tag_size CarriesByType
tags = record {
  longer = λ kind header behind h. h;
  shorter = λ kind header behind h. h;
  ends = no_tag;
}

ipv4_back : (octets : List ℕ) (payload : Payload) → CarriesByType 0x0800 octets payload → IsIpv4 octets payload
ipv4_back octets payload (inl h) = absurd (omega (arith, h.0))
ipv4_back octets payload (inr (inl h)) = h.1
ipv4_back octets payload (inr (inr h)) = absurd (omega (arith, h.0))

pub ipv4_by_type : (octets : List ℕ) → IsSame (IsIpv4 octets) (CarriesByType 0x0800 octets)
ipv4_by_type octets = record { to = λ payload h. inr (inl (refl, h)); back = ipv4_back octets }

ipv6_back : (octets : List ℕ) (payload : Payload) → CarriesByType 0x86dd octets payload → IsIpv6 octets payload
ipv6_back octets payload (inl h) = absurd (omega (arith, h.0))
ipv6_back octets payload (inr (inl h)) = absurd (omega (arith, h.0))
ipv6_back octets payload (inr (inr h)) = h.1

pub ipv6_by_type : (octets : List ℕ) → IsSame (IsIpv6 octets) (CarriesByType 0x86dd octets)
ipv6_by_type octets = record { to = λ payload h. inr (inr (refl, h)); back = ipv6_back octets }
