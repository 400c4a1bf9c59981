-- A packet of IP, by its version or its family.
use Rattle.std.proofs.Common.{◌≡◌, ◌∙◌, ℕ, ◌/◌, ◌⊎◌, List, [], ◌∷◌, ◌-◌, ◌≤◌, length, take, drop, ap, get_or, inl, inr, refl, sym, arith}
use Rattle.std.proofs.lemmas.List.{take_rest}
use Rattle.capture_frame.specs.Ipv4.{IsIpv4}
use Rattle.capture_frame.specs.Ipv6.{IsIpv6}
use Rattle.capture_frame.specs.Link.{IsOfFamily, IsBigEndian, IsLittleEndian}
use Rattle.capture_frame.specs.Payload.{Payload}
use Rattle.capture_frame.proofs.Ipv4Headers.{ipv4_version}
use Rattle.capture_frame.proofs.Ipv6Headers.{ipv6_version}
use Rattle.capture_frame.proofs.Only.{IsSame}

raw_ipv4 : (octets : List ℕ) (payload : Payload) → get_or octets 0 0 / 16 ≡ 4 → IsIpv4 octets payload ⊎ IsIpv6 octets payload → IsIpv4 octets payload
raw_ipv4 octets payload e (inl h) = h
raw_ipv4 octets payload e (inr h) = absurd (omega (arith, e, ipv6_version octets payload h))

pub ipv4_by_version : (octets : List ℕ) → get_or octets 0 0 / 16 ≡ 4 → IsSame (IsIpv4 octets) (λ payload. IsIpv4 octets payload ⊎ IsIpv6 octets payload)
ipv4_by_version octets e = record { to = λ payload h. inl h; back = λ payload h. raw_ipv4 octets payload e h }

raw_ipv6 : (octets : List ℕ) (payload : Payload) → (get_or octets 0 0 / 16 ≡ 4 → ⊥) → IsIpv4 octets payload ⊎ IsIpv6 octets payload → IsIpv6 octets payload
raw_ipv6 octets payload e (inl h) = absurd (e (ipv4_version octets payload h))
raw_ipv6 octets payload e (inr h) = h

pub ipv6_by_version : (octets : List ℕ) → (get_or octets 0 0 / 16 ≡ 4 → ⊥) → IsSame (IsIpv6 octets) (λ payload. IsIpv4 octets payload ⊎ IsIpv6 octets payload)
ipv6_by_version octets e = record { to = λ payload h. inr h; back = λ payload h. raw_ipv6 octets payload e h }

family_ipv4 : (octets : List ℕ) (payload : Payload) → IsOfFamily 2 octets payload → IsIpv4 octets payload
family_ipv4 octets payload (inl h) = h.1
family_ipv4 octets payload (inr (inl h, _)) = absurd (omega (arith, h))
family_ipv4 octets payload (inr (inr (inl h), _)) = absurd (omega (arith, h))
family_ipv4 octets payload (inr (inr (inr h), _)) = absurd (omega (arith, h))

pub ipv4_by_family : (octets : List ℕ) → IsSame (IsIpv4 octets) (IsOfFamily 2 octets)
ipv4_by_family octets = record { to = λ payload h. inl (refl, h); back = family_ipv4 octets }

family_ipv6 : (family : ℕ) (octets : List ℕ) (payload : Payload) → (family ≡ 2 → ⊥) → IsOfFamily family octets payload → IsIpv6 octets payload
family_ipv6 family octets payload e (inl h) = absurd (e h.0)
family_ipv6 family octets payload e (inr h) = h.1

other_family : (family : ℕ) → (family ≡ 24) ⊎ ((family ≡ 28) ⊎ (family ≡ 30)) → family ≡ 2 → ⊥
other_family family (inl h) e = omega arith
other_family family (inr (inl h)) e = omega arith
other_family family (inr (inr h)) e = omega arith

pub ipv6_by_family : (family : ℕ) (octets : List ℕ) → (family ≡ 24) ⊎ ((family ≡ 28) ⊎ (family ≡ 30)) → IsSame (IsIpv6 octets) (IsOfFamily family octets)
ipv6_by_family family octets is = record {
  to = λ payload h. inr (is, h);
  back = λ payload h. family_ipv6 family octets payload (other_family family is) h;
}

pub big_endian : (octets behind : List ℕ) (family : ℕ) → octets ≡ 0 ∷ 0 ∷ 0 ∷ family ∷ behind → IsSame (IsOfFamily family behind) (IsBigEndian octets)
big_endian octets behind family e = record {
  to = λ payload h. record { family = family; behind = behind; parts = e; carries = h };
  back = λ payload h.
      let k : h.family ≡ family = cc (e, h.parts) in
      let b : h.behind ≡ behind = cc (e, h.parts) in
      rw (k, b) at h.carries;
}

pub little_endian : (octets behind : List ℕ) (family : ℕ) → octets ≡ family ∷ 0 ∷ 0 ∷ 0 ∷ behind → IsSame (IsOfFamily family behind) (IsLittleEndian octets)
little_endian octets behind family e = record {
  to = λ payload h. record { family = family; behind = behind; parts = e; carries = h };
  back = λ payload h.
      let k : h.family ≡ family = cc (e, h.parts) in
      let b : h.behind ≡ behind = cc (e, h.parts) in
      rw (k, b) at h.carries;
}

-- family 0 is none
family_0 : (octets : List ℕ) (payload : Payload) → IsOfFamily 0 octets payload → ⊥
family_0 octets payload (inl h) = omega (arith, h.0)
family_0 octets payload (inr (inl h, _)) = omega (arith, h)
family_0 octets payload (inr (inr (inl h), _)) = omega (arith, h)
family_0 octets payload (inr (inr (inr h), _)) = omega (arith, h)

zero_family : (family : ℕ) (octets : List ℕ) (payload : Payload) → family ≡ 0 → IsOfFamily family octets payload → ⊥
zero_family family octets payload e h = family_0 octets payload (rw e at h)

null_back : (octets : List ℕ) (payload : Payload) → get_or octets 0 0 ≡ 0 → IsBigEndian octets payload ⊎ IsLittleEndian octets payload → IsBigEndian octets payload
null_back octets payload e (inl h) = h
null_back octets payload e (inr h) =
    let k : h.family ≡ 0 = sym (ap (λ (o : List ℕ). get_or o 0 0) h.parts) ∙ e in
    absurd (zero_family h.family h.behind payload k h.carries)

-- where the first octet is 0, the most significant one is first
pub null_big : (octets : List ℕ) → get_or octets 0 0 ≡ 0 → IsSame (IsBigEndian octets) (λ payload. IsBigEndian octets payload ⊎ IsLittleEndian octets payload)
null_big octets e = record { to = λ payload h. inl h; back = λ payload h. null_back octets payload e h }

little_back : (octets : List ℕ) (payload : Payload) → (get_or octets 0 0 ≡ 0 → ⊥) → IsBigEndian octets payload ⊎ IsLittleEndian octets payload → IsLittleEndian octets payload
little_back octets payload e (inl h) = absurd (e (ap (λ (o : List ℕ). get_or o 0 0) h.parts))
little_back octets payload e (inr h) = h

pub null_little : (octets : List ℕ) → (get_or octets 0 0 ≡ 0 → ⊥) → IsSame (IsLittleEndian octets) (λ payload. IsBigEndian octets payload ⊎ IsLittleEndian octets payload)
null_little octets e = record { to = λ payload h. inr h; back = λ payload h. little_back octets payload e h }

-- octets from the fifth on, behind the first four
pub four : (octets : List ℕ) → 4 ≤ length octets
    → octets ≡ get_or octets 0 0 ∷ get_or octets 1 0 ∷ get_or octets 2 0 ∷ get_or octets 3 0 ∷ take (length octets - 4) (drop 4 octets)
four (a ∷ b ∷ c ∷ d ∷ rest) h = rw (take_rest (a ∷ b ∷ c ∷ d ∷ rest) 4) refl
four (a ∷ b ∷ c ∷ []) h = absurd (omega arith)
four (a ∷ b ∷ []) h = absurd (omega arith)
four (a ∷ []) h = absurd (omega arith)
four [] h = absurd (omega arith)
