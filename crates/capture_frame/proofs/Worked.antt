-- Worked cases: packets of recordings, octet for octet, and some that were written by hand.
use Rattle.std.proofs.Common.{ℕ, List, [], ◌∷◌, take, drop, refl, inl, inr, arith}
use Rattle.capture_frame.specs.Found.{IsFound, Datagram, Fragment, OtherLink, Other}
use Rattle.capture_frame.specs.Ipv6.{CarriesOverIpv6, extension_size, next_header}
use Rattle.capture_frame.specs.Payload.{Payload, Whole}
use Rattle.capture_frame.specs.Tags.{CarriesByType, next_type, tag_size}
use Rattle.capture_frame.proofs.Chains.{chain_front, chain_none, chain_stops}
use Rattle.capture_frame.proofs.Frames.{frame_at}
use Rattle.capture_frame.proofs.Tagged.{tags}

-- a Sync over Ethernet
abbrev over_ethernet : List ℕ
over_ethernet =
    0x01 ∷ 0x1b ∷ 0x19 ∷ 0x00 ∷ 0x00 ∷ 0x00 ∷ 0x02 ∷ 0x00 ∷ 0x00 ∷ 0x11 ∷ 0x22 ∷ 0x33 ∷ 0x88 ∷ 0xf7
    ∷ 0x00 ∷ 0x02 ∷ 0x00 ∷ 0x2c ∷ 0x00 ∷ 0x00 ∷ 0x02 ∷ 0x00 ∷ 0x00 ∷ 0x00 ∷ 0x00 ∷ 0x00 ∷ 0x00 ∷ 0x00
    ∷ 0x00 ∷ 0x00 ∷ 0x00 ∷ 0x00 ∷ 0x00 ∷ 0x00 ∷ 0x02 ∷ 0x00 ∷ 0x00 ∷ 0xff ∷ 0xfe ∷ 0x11 ∷ 0x22 ∷ 0x33
    ∷ 0x00 ∷ 0x01 ∷ 0x00 ∷ 0x00 ∷ 0x00 ∷ 0x00 ∷ 0x00 ∷ 0x00 ∷ 0x00 ∷ 0x00 ∷ 0x00 ∷ 0x00 ∷ 0x00 ∷ 0x00
    ∷ 0x00 ∷ 0x00 ∷ []

sync_over_ethernet : IsFound 1 over_ethernet (Datagram (drop 14 over_ethernet))
sync_over_ethernet = (
  record {
    header = take 14 over_ethernet;
    behind = drop 14 over_ethernet;
    parts = refl;
    size = refl;
    carries = chain_none tag_size next_type CarriesByType 0x88f7 (drop 14 over_ethernet) (Whole (drop 14 over_ethernet))
        (inl (refl, refl));
  },
  omega arith,
)

-- a Sync over UDP and IPv4
abbrev over_ipv4 : List ℕ
over_ipv4 =
    0x01 ∷ 0x00 ∷ 0x5e ∷ 0x00 ∷ 0x01 ∷ 0x81 ∷ 0x02 ∷ 0x00 ∷ 0x00 ∷ 0x11 ∷ 0x22 ∷ 0x33 ∷ 0x08 ∷ 0x00
    ∷ 0x45 ∷ 0x00 ∷ 0x00 ∷ 0x48 ∷ 0x25 ∷ 0x54 ∷ 0x40 ∷ 0x00 ∷ 0x01 ∷ 0x11 ∷ 0xb0 ∷ 0xce ∷ 0xc0 ∷ 0x00
    ∷ 0x02 ∷ 0x01 ∷ 0xe0 ∷ 0x00 ∷ 0x01 ∷ 0x81 ∷ 0x01 ∷ 0x3f ∷ 0x01 ∷ 0x3f ∷ 0x00 ∷ 0x34 ∷ 0xa3 ∷ 0xc8
    ∷ 0x00 ∷ 0x02 ∷ 0x00 ∷ 0x2c ∷ 0x00 ∷ 0x00 ∷ 0x02 ∷ 0x00 ∷ 0x00 ∷ 0x00 ∷ 0x00 ∷ 0x00 ∷ 0x00 ∷ 0x00
    ∷ 0x00 ∷ 0x00 ∷ 0x00 ∷ 0x00 ∷ 0x00 ∷ 0x00 ∷ 0x02 ∷ 0x00 ∷ 0x00 ∷ 0xff ∷ 0xfe ∷ 0x11 ∷ 0x22 ∷ 0x33
    ∷ 0x00 ∷ 0x01 ∷ 0x00 ∷ 0x00 ∷ 0x00 ∷ 0x00 ∷ 0x00 ∷ 0x00 ∷ 0x00 ∷ 0x00 ∷ 0x00 ∷ 0x00 ∷ 0x00 ∷ 0x00
    ∷ 0x00 ∷ 0x00 ∷ []

sync_over_ipv4 : IsFound 1 over_ipv4 (Datagram (drop 42 over_ipv4))
sync_over_ipv4 = (
  record {
    header = take 14 over_ipv4;
    behind = drop 14 over_ipv4;
    parts = refl;
    size = refl;
    carries = chain_none tag_size next_type CarriesByType 0x0800 (drop 14 over_ipv4) (Whole (drop 42 over_ipv4))
        (inr (inl (
          refl,
          record {
            header = take 20 (drop 14 over_ipv4);
            behind = drop 34 over_ipv4;
            parts = refl;
            is_header = record { version = refl; size = refl; least = omega arith; total_length = inr (omega arith); protocol = refl };
            carries = (
              refl,
              record {
                header = take 8 (drop 34 over_ipv4);
                behind = drop 42 over_ipv4;
                parts = refl;
                size = refl;
                destination = inl refl;
                least = omega arith;
                captured = refl;
              },
            );
          },
        )));
  },
  omega arith,
)

-- three octets over UDP and IPv6 on a Mac's loopback, behind hop-by-hop options and with two octets of padding
abbrev over_ipv6 : List ℕ
over_ipv6 =
    0x1e ∷ 0x00 ∷ 0x00 ∷ 0x00 ∷ 0x60 ∷ 0x00 ∷ 0x00 ∷ 0x00 ∷ 0x00 ∷ 0x13 ∷ 0x00 ∷ 0x01 ∷ 0xfe ∷ 0x80
    ∷ 0x00 ∷ 0x00 ∷ 0x00 ∷ 0x00 ∷ 0x00 ∷ 0x00 ∷ 0x00 ∷ 0x00 ∷ 0x00 ∷ 0x00 ∷ 0x00 ∷ 0x00 ∷ 0x00 ∷ 0x01
    ∷ 0xff ∷ 0x02 ∷ 0x00 ∷ 0x00 ∷ 0x00 ∷ 0x00 ∷ 0x00 ∷ 0x00 ∷ 0x00 ∷ 0x00 ∷ 0x00 ∷ 0x00 ∷ 0x00 ∷ 0x00
    ∷ 0x01 ∷ 0x81 ∷ 0x11 ∷ 0x00 ∷ 0x01 ∷ 0x04 ∷ 0x00 ∷ 0x00 ∷ 0x00 ∷ 0x00 ∷ 0xc0 ∷ 0x00 ∷ 0x01 ∷ 0x40
    ∷ 0x00 ∷ 0x0b ∷ 0x00 ∷ 0x00 ∷ 0x50 ∷ 0x54 ∷ 0x50 ∷ 0x00 ∷ 0x00 ∷ []

three_over_ipv6 : IsFound 0 over_ipv6 (Datagram (0x50 ∷ 0x54 ∷ 0x50 ∷ []))
three_over_ipv6 = (
  inr (record {
    family = 30;
    behind = drop 4 over_ipv6;
    parts = refl;
    carries = inr (
      inr (inr refl),
      record {
        header = take 40 (drop 4 over_ipv6);
        behind = drop 44 over_ipv6;
        parts = refl;
        size = refl;
        version = refl;
        carries = chain_front extension_size next_header CarriesOverIpv6 0 (Whole (0x50 ∷ 0x54 ∷ 0x50 ∷ []))
            (take 8 (drop 44 over_ipv6)) (take 11 (drop 52 over_ipv6)) refl
            (chain_none extension_size next_header CarriesOverIpv6 17 (take 11 (drop 52 over_ipv6)) (Whole (0x50 ∷ 0x54 ∷ 0x50 ∷ [])) (
              refl,
              record {
                header = take 8 (drop 52 over_ipv6);
                behind = 0x50 ∷ 0x54 ∷ 0x50 ∷ [];
                parts = refl;
                size = refl;
                destination = inr refl;
                least = omega arith;
                captured = refl;
              },
            ));
      },
    );
  }),
  omega arith,
)

-- the first part of a datagram
abbrev first_part : List ℕ
first_part =
    0x45 ∷ 0x00 ∷ 0x00 ∷ 0x1c ∷ 0x00 ∷ 0x01 ∷ 0x20 ∷ 0x00 ∷ 0x40 ∷ 0x11 ∷ 0x00 ∷ 0x00 ∷ 0xc0 ∷ 0x00
    ∷ 0x02 ∷ 0x01 ∷ 0xc0 ∷ 0x00 ∷ 0x02 ∷ 0x02 ∷ 0x01 ∷ 0x3f ∷ 0x01 ∷ 0x3f ∷ 0x05 ∷ 0xdc ∷ 0x00 ∷ 0x00 ∷ []

a_part : IsFound 228 first_part Fragment
a_part = record {
  header = take 20 first_part;
  behind = drop 20 first_part;
  parts = refl;
  is_header = record { version = refl; size = refl; least = omega arith; total_length = inr (omega arith); protocol = refl };
  carries = refl;
}

-- ARP carries nothing
abbrev arp : List ℕ
arp =
    0xff ∷ 0xff ∷ 0xff ∷ 0xff ∷ 0xff ∷ 0xff ∷ 0x02 ∷ 0x00 ∷ 0x00 ∷ 0x11 ∷ 0x22 ∷ 0x33 ∷ 0x08 ∷ 0x06
    ∷ 0x00 ∷ 0x00 ∷ 0x00 ∷ 0x00 ∷ []

not_by_arp : (octets : List ℕ) (payload : Payload) → CarriesByType 0x0806 octets payload → ⊥
not_by_arp octets payload (inl h) = omega (arith, h.0)
not_by_arp octets payload (inr (inl h)) = omega (arith, h.0)
not_by_arp octets payload (inr (inr h)) = omega (arith, h.0)

nothing_in_arp : IsFound 1 arp Other
nothing_in_arp payload frame =
    let tagged = frame_at 14 12 arp (take 14 arp) (drop 14 arp) payload (record { parts = refl; size = refl }) frame in
    not_by_arp (drop 14 arp) payload (chain_stops tag_size next_type CarriesByType tags 0x0806 (drop 14 arp) payload refl tagged)

-- USB isn't looked into
usb : IsFound 189 over_ethernet OtherLink
usb = refl
