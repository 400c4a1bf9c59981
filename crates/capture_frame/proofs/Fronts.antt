-- What the front of a packet carries is a front of what the packet carries.
use Rattle.std.proofs.Common.{◌≡◌, ◌∙◌, ℕ, zero, suc, ◌-◌, ◌<◌, ◌≤◌, ◌⊎◌, Bool, true, false, List, [], ◌∷◌, ◌++◌, length, take, get_or, Option, Some, None}
use Rattle.std.proofs.Common.{refl, sym, ap, subst, inl, inr, arith, append_assoc, length-append, if◌then◌else◌, ◌==◌}
use Rattle.std.specs.List.{concat}
use Rattle.std.proofs.lemmas.Bool.{cases_lt}
use Rattle.std.proofs.lemmas.List.{get_or_append_left}
use Rattle.capture_frame.specs.Captured.{IsFrontOf}
use Rattle.capture_frame.specs.Chain.{IsChain}
use Rattle.capture_frame.specs.Found.{Answer, Datagram, Fragment, TooLong, OtherLink, Other, IsAnswer, IsFoundBehind, datagram_limit}
use Rattle.capture_frame.specs.Ipv4.{IsIpv4, CarriesOverIpv4, ipv4_data}
use Rattle.capture_frame.specs.Ipv6.{IsIpv6, CarriesOverIpv6, extension_size, is_whole, next_header}
use Rattle.capture_frame.specs.Link.{Carries, IsBigEndian, IsFrame, IsLittleEndian, IsOfFamily}
use Rattle.capture_frame.specs.declared.link_type.LinkType.{LinkType}
use Rattle.capture_frame.specs.declared.link_type.LinkType.TheVariants.{Null, Ethernet, Raw, Loop, Cooked, Ipv4, Ipv6, Cooked2}
use Rattle.capture_frame.specs.Octets.{two_octets}
use Rattle.capture_frame.specs.Payload.{Payload, Whole, Part}
use Rattle.capture_frame.specs.Tags.{CarriesByType, IsTagged, next_type, tag_size}
use Rattle.capture_frame.specs.Udp.{IsUdp}

-- a payload is as much of another as was captured
abbrev IsFront : Payload → Payload → Type 0
IsFront (Whole captured) (Whole whole) = (rest : List ℕ) × (whole ≡ captured ++ rest)
IsFront (Whole captured) Part = ⊥
IsFront Part (Whole whole) = ⊥
IsFront Part Part = Unit {0}

-- with more octets there is a payload of which this one is a front
abbrev Grows : (Payload → Type 0) → Payload → Type 0
Grows Carried payload = (whole : Payload) × Carried whole × IsFront payload whole

grown : (P Q : Payload → Type 0) → ((p : Payload) → P p → Q p) → (payload : Payload) → Grows P payload → Grows Q payload
grown P Q f payload (whole, h, front) = (whole, f whole h, front)

take_both : (n : ℕ) (xs ys : List ℕ) → take n (xs ++ ys) ≡ take n xs ++ take (n - length xs) ys
take_both zero xs ys = let e : 0 - length xs ≡ 0 = omega arith in rw e refl
take_both (suc n) [] ys = let e : suc n - 0 ≡ suc n = omega arith in rw e refl
take_both (suc n) (x ∷ xs) ys =
    let e : suc n - suc (length xs) ≡ n - length xs = omega arith in
    rw e (ap (λ (t : List ℕ). x ∷ t) (take_both n xs ys))

-- ---- UDP

udp_grows : (octets rest datagram : List ℕ) → IsUdp octets datagram → (more : List ℕ) × IsUdp (octets ++ rest) (datagram ++ more)
udp_grows octets rest datagram udp =
    let n = two_octets udp.header 4 - 8 in (
      take (n - length udp.behind) rest,
      record {
        header = udp.header;
        behind = udp.behind ++ rest;
        parts = ap (λ (o : List ℕ). o ++ rest) udp.parts ∙ append_assoc udp.header udp.behind rest;
        size = udp.size;
        destination = udp.destination;
        least = udp.least;
        captured = ap (λ (o : List ℕ). o ++ take (n - length udp.behind) rest) udp.captured ∙ sym (take_both n udp.behind rest);
      },
    )

udp_front : (octets rest datagram : List ℕ) → IsUdp octets datagram
    → (whole : List ℕ) × IsUdp (octets ++ rest) whole × ((more : List ℕ) × (whole ≡ datagram ++ more))
udp_front octets rest datagram udp = let (more, grown) = udp_grows octets rest datagram udp in (datagram ++ more, grown, (more, refl))

-- ---- IPv4

data_grows : (test : Bool) (n : ℕ) (behind rest : List ℕ)
    → (more : List ℕ) × ((if test then behind ++ rest else take n (behind ++ rest)) ≡ (if test then behind else take n behind) ++ more)
data_grows true n behind rest = (rest, refl)
data_grows false n behind rest = (take (n - length behind) rest, take_both n behind rest)

over_ipv4_grows : (header behind rest : List ℕ) (payload : Payload) → CarriesOverIpv4 header behind payload
    → Grows (CarriesOverIpv4 header (behind ++ rest)) payload
over_ipv4_grows header behind rest (Whole datagram) (whole, udp) =
    let (more, longer) = data_grows (two_octets header 2 == 0) (two_octets header 2 - length header) behind rest in
    let (all, grown, front) = udp_front (ipv4_data header behind) more datagram udp in
    (Whole all, (whole, subst (λ (o : List ℕ). IsUdp o all) (sym longer) grown), front)
over_ipv4_grows header behind rest Part h = (Part, h, tt)

ipv4_grows : (octets rest : List ℕ) (payload : Payload) → IsIpv4 octets payload → Grows (IsIpv4 (octets ++ rest)) payload
ipv4_grows octets rest payload ip =
    grown (CarriesOverIpv4 ip.header (ip.behind ++ rest)) (IsIpv4 (octets ++ rest)) (λ p h. record {
      header = ip.header;
      behind = ip.behind ++ rest;
      parts = ap (λ (o : List ℕ). o ++ rest) ip.parts ∙ append_assoc ip.header ip.behind rest;
      is_header = ip.is_header;
      carries = h;
    }) payload (over_ipv4_grows ip.header ip.behind rest payload ip.carries)

-- ---- headers in a row

chain_grows : (size : ℕ → List ℕ → Option ℕ) (next : List ℕ → ℕ) (Carries : ℕ → List ℕ → Payload → Type 0) (rest : List ℕ)
    → ((kind : ℕ) (octets : List ℕ) (payload : Payload) → Carries kind octets payload → Grows (Carries kind (octets ++ rest)) payload)
    → (kind : ℕ) (octets : List ℕ) (payload : Payload) → IsChain size next Carries kind octets payload
    → Grows (IsChain size next Carries kind (octets ++ rest)) payload
chain_grows size next Carries rest grows kind octets payload chain =
    grown (Carries chain.last (chain.behind ++ rest)) (IsChain size next Carries kind (octets ++ rest)) (λ p h. record {
      headers = chain.headers;
      last = chain.last;
      behind = chain.behind ++ rest;
      parts = ap (λ (o : List ℕ). o ++ rest) chain.parts ∙ append_assoc (concat chain.headers) chain.behind rest;
      in_row = chain.in_row;
      carries = h;
    }) payload (grows chain.last chain.behind payload chain.carries)

-- ---- IPv6

whole_same : (octets rest : List ℕ) → 8 ≤ length octets → is_whole (octets ++ rest) ≡ is_whole octets
whole_same octets rest least =
    rw (get_or_append_left octets rest 0 2 (omega arith), get_or_append_left octets rest 0 3 (omega arith)) refl

over_ipv6_grows : (rest : List ℕ) (kind : ℕ) (octets : List ℕ) (payload : Payload) → CarriesOverIpv6 kind octets payload
    → Grows (CarriesOverIpv6 kind (octets ++ rest)) payload
over_ipv6_grows rest kind octets (Whole datagram) (is, udp) =
    let (all, grown, front) = udp_front octets rest datagram udp in
    (Whole all, (is, grown), front)
over_ipv6_grows rest kind octets Part (is, least, part) =
    (Part, (is, omega (arith, length-append octets rest), whole_same octets rest least ∙ part), tt)

ipv6_grows : (octets rest : List ℕ) (payload : Payload) → IsIpv6 octets payload → Grows (IsIpv6 (octets ++ rest)) payload
ipv6_grows octets rest payload ip =
    let n = two_octets ip.header 4 in
    let more = take (n - length ip.behind) rest in
    let first = get_or ip.header 6 0 in
    grown (IsChain extension_size next_header CarriesOverIpv6 first (take n ip.behind ++ more)) (IsIpv6 (octets ++ rest)) (λ p h. record {
      header = ip.header;
      behind = ip.behind ++ rest;
      parts = ap (λ (o : List ℕ). o ++ rest) ip.parts ∙ append_assoc ip.header ip.behind rest;
      size = ip.size;
      version = ip.version;
      carries = subst (λ (o : List ℕ). IsChain extension_size next_header CarriesOverIpv6 first o p) (sym (take_both n ip.behind rest)) h;
    }) payload (chain_grows extension_size next_header CarriesOverIpv6 more (over_ipv6_grows more) first (take n ip.behind) payload ip.carries)

-- ---- EtherTypes and link types

by_type_grows : (rest : List ℕ) (kind : ℕ) (octets : List ℕ) (payload : Payload) → CarriesByType kind octets payload
    → Grows (CarriesByType kind (octets ++ rest)) payload
by_type_grows rest kind octets payload (inl (is, e)) =
    (Whole (octets ++ rest), inl (is, refl), subst (λ (p : Payload). IsFront p (Whole (octets ++ rest))) (sym e) (rest, refl))
by_type_grows rest kind octets payload (inr (inl (is, ip))) =
    grown (IsIpv4 (octets ++ rest)) (CarriesByType kind (octets ++ rest)) (λ p h. inr (inl (is, h))) payload (ipv4_grows octets rest payload ip)
by_type_grows rest kind octets payload (inr (inr (is, ip))) =
    grown (IsIpv6 (octets ++ rest)) (CarriesByType kind (octets ++ rest)) (λ p h. inr (inr (is, h))) payload (ipv6_grows octets rest payload ip)

frame_grows : (count place : ℕ) (octets rest : List ℕ) (payload : Payload) → IsFrame count place octets payload
    → Grows (IsFrame count place (octets ++ rest)) payload
frame_grows count place octets rest payload frame =
    let kind = two_octets frame.header place in
    grown (IsTagged kind (frame.behind ++ rest)) (IsFrame count place (octets ++ rest)) (λ p h. record {
      header = frame.header;
      behind = frame.behind ++ rest;
      parts = ap (λ (o : List ℕ). o ++ rest) frame.parts ∙ append_assoc frame.header frame.behind rest;
      size = frame.size;
      carries = h;
    }) payload (chain_grows tag_size next_type CarriesByType rest (by_type_grows rest) kind frame.behind payload frame.carries)

family_grows : (family : ℕ) (octets rest : List ℕ) (payload : Payload) → IsOfFamily family octets payload
    → Grows (IsOfFamily family (octets ++ rest)) payload
family_grows family octets rest payload (inl (is, ip)) =
    grown (IsIpv4 (octets ++ rest)) (IsOfFamily family (octets ++ rest)) (λ p h. inl (is, h)) payload (ipv4_grows octets rest payload ip)
family_grows family octets rest payload (inr (is, ip)) =
    grown (IsIpv6 (octets ++ rest)) (IsOfFamily family (octets ++ rest)) (λ p h. inr (is, h)) payload (ipv6_grows octets rest payload ip)

big_grows : (octets rest : List ℕ) (payload : Payload) → IsBigEndian octets payload → Grows (IsBigEndian (octets ++ rest)) payload
big_grows octets rest payload h =
    grown (IsOfFamily h.family (h.behind ++ rest)) (IsBigEndian (octets ++ rest)) (λ p k. record {
      family = h.family;
      behind = h.behind ++ rest;
      parts = ap (λ (o : List ℕ). o ++ rest) h.parts;
      carries = k;
    }) payload (family_grows h.family h.behind rest payload h.carries)

little_grows : (octets rest : List ℕ) (payload : Payload) → IsLittleEndian octets payload → Grows (IsLittleEndian (octets ++ rest)) payload
little_grows octets rest payload h =
    grown (IsOfFamily h.family (h.behind ++ rest)) (IsLittleEndian (octets ++ rest)) (λ p k. record {
      family = h.family;
      behind = h.behind ++ rest;
      parts = ap (λ (o : List ℕ). o ++ rest) h.parts;
      carries = k;
    }) payload (family_grows h.family h.behind rest payload h.carries)

link_grows : (link : LinkType) (octets rest : List ℕ) (payload : Payload) → Carries link octets payload
    → Grows (Carries link (octets ++ rest)) payload
link_grows Ethernet octets rest payload h = frame_grows 14 12 octets rest payload h
link_grows Cooked octets rest payload h = frame_grows 16 14 octets rest payload h
link_grows Cooked2 octets rest payload h = frame_grows 20 0 octets rest payload h
link_grows Ipv4 octets rest payload h = ipv4_grows octets rest payload h
link_grows Ipv6 octets rest payload h = ipv6_grows octets rest payload h
link_grows Loop octets rest payload h = big_grows octets rest payload h
link_grows Raw octets rest payload (inl h) =
    grown (IsIpv4 (octets ++ rest)) (Carries Raw (octets ++ rest)) (λ p k. inl k) payload (ipv4_grows octets rest payload h)
link_grows Raw octets rest payload (inr h) =
    grown (IsIpv6 (octets ++ rest)) (Carries Raw (octets ++ rest)) (λ p k. inr k) payload (ipv6_grows octets rest payload h)
link_grows Null octets rest payload (inl h) =
    grown (IsBigEndian (octets ++ rest)) (Carries Null (octets ++ rest)) (λ p k. inl k) payload (big_grows octets rest payload h)
link_grows Null octets rest payload (inr h) =
    grown (IsLittleEndian (octets ++ rest)) (Carries Null (octets ++ rest)) (λ p k. inr k) payload (little_grows octets rest payload h)

-- ---- answers

longer : (captured whole more : List ℕ) → whole ≡ captured ++ more → length captured ≤ length whole
longer captured whole more e = omega (arith, ap (length {A = ℕ}) e, length-append captured more)

whole_front : (Carried : Payload → Type 0) (captured whole : List ℕ) (other : Answer)
    → ((answer : Answer) → IsAnswer Carried answer → answer ≡ other) → Carried (Whole whole)
    → (rest : List ℕ) × (whole ≡ captured ++ rest)
    → (datagram_limit < length whole) ⊎ (length whole ≤ datagram_limit) → IsFrontOf (Datagram captured) other
whole_front Carried captured whole other only h front (inl long) =
    subst (λ (a : Answer). IsFrontOf (Datagram captured) a) (only TooLong (whole, h, long)) tt
whole_front Carried captured whole other only h front (inr short) =
    subst (λ (a : Answer). IsFrontOf (Datagram captured) a) (only (Datagram whole) (h, short)) front

datagram_front : (Carried : Payload → Type 0) (captured : List ℕ) (other : Answer)
    → ((answer : Answer) → IsAnswer Carried answer → answer ≡ other) → Grows Carried (Whole captured)
    → IsFrontOf (Datagram captured) other
datagram_front Carried captured other only (Whole whole, h, front) =
    whole_front Carried captured whole other only h front (cases_lt datagram_limit (length whole))
datagram_front Carried captured other only (Part, h, front) = absurd front

long_front : (Carried : Payload → Type 0) (captured : List ℕ) (other : Answer) → ((answer : Answer) → IsAnswer Carried answer → answer ≡ other)
    → datagram_limit < length captured → Grows Carried (Whole captured) → other ≡ TooLong
long_front Carried captured other only long (Whole whole, h, (more, e)) =
    sym (only TooLong (whole, h, omega (arith, longer captured whole more e)))
long_front Carried captured other only long (Part, h, front) = absurd front

part_front : (Carried : Payload → Type 0) (other : Answer) → ((answer : Answer) → IsAnswer Carried answer → answer ≡ other)
    → Grows Carried Part → other ≡ Fragment
part_front Carried other only (Whole whole, h, front) = absurd front
part_front Carried other only (Part, h, front) = sym (only Fragment h)

not_other_link : (Carried : Payload → Type 0) (other : Answer) → IsAnswer Carried other → other ≡ OtherLink → ⊥
not_other_link Carried other h e = subst (IsAnswer Carried) e h

answer_front : (Captured Carried : Payload → Type 0) → ((payload : Payload) → Captured payload → Grows Carried payload)
    → (other : Answer) → IsAnswer Carried other → ((answer : Answer) → IsAnswer Carried answer → answer ≡ other)
    → (answer : Answer) → IsAnswer Captured answer → IsFrontOf answer other
answer_front Captured Carried grows other is only (Datagram captured) h = datagram_front Carried captured other only (grows (Whole captured) h.0)
answer_front Captured Carried grows other is only TooLong (captured, h, long) = long_front Carried captured other only long (grows (Whole captured) h)
answer_front Captured Carried grows other is only Fragment h = part_front Carried other only (grows Part h)
answer_front Captured Carried grows other is only OtherLink h = absurd h
answer_front Captured Carried grows other is only Other h = not_other_link Carried other is

pub front_found : (link : Option LinkType) (octets rest : List ℕ) (other : Answer) → IsFoundBehind link (octets ++ rest) other
    → ((answer : Answer) → IsFoundBehind link (octets ++ rest) answer → answer ≡ other)
    → (answer : Answer) → IsFoundBehind link octets answer → IsFrontOf answer other
front_found (Some link) octets rest other is only answer h =
    answer_front (Carries link octets) (Carries link (octets ++ rest)) (link_grows link octets rest) other is only answer h
front_found None octets rest other is only answer h = subst (λ (a : Answer). IsFrontOf a other) (sym h) is
