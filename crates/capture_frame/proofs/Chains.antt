-- Headers in a row, from the first one on.
use Rattle.std.proofs.Common.{◌≡◌, ◌∙◌, ℕ, ◌<◌, ◌≤◌, List, [], ◌∷◌, ◌++◌, length, Option, Some, None, refl, sym, ap, subst, arith, append_assoc}
use Rattle.std.specs.List.{concat}
use Rattle.capture_frame.specs.Chain.{InRow, IsChain}
use Rattle.capture_frame.specs.Payload.{Payload}
use Rattle.capture_frame.specs.Inner.Walk.{IsCut}
use Rattle.capture_frame.proofs.Cuts.{one_cut, front_within}
use Rattle.capture_frame.proofs.Only.{IsSame}

-- what the walk needs to know of a kind of headers: what follows a header doesn't change its size, and what carries is no
-- header that is passed over
pub record IsWalkable (size : ℕ → List ℕ → Option ℕ) (Carries : ℕ → List ℕ → Payload → Type 0) : Type 0 where
  pub longer : (kind : ℕ) (header behind : List ℕ) → size kind header ≡ Some (length header)
      → size kind (header ++ behind) ≡ Some (length header)
  pub shorter : (kind : ℕ) (header behind : List ℕ) → size kind (header ++ behind) ≡ Some (length header)
      → size kind header ≡ Some (length header)
  pub ends : (kind : ℕ) (octets : List ℕ) (payload : Payload) → Carries kind octets payload → size kind octets ≡ None

-- no headers
pub chain_none : (size : ℕ → List ℕ → Option ℕ) (next : List ℕ → ℕ) (Carries : ℕ → List ℕ → Payload → Type 0)
    (kind : ℕ) (octets : List ℕ) (payload : Payload) → Carries kind octets payload → IsChain size next Carries kind octets payload
chain_none size next Carries kind octets payload h = record {
  headers = [];
  last = kind;
  behind = octets;
  parts = refl;
  in_row = refl;
  carries = h;
}

-- one header in front
pub chain_front : (size : ℕ → List ℕ → Option ℕ) (next : List ℕ → ℕ) (Carries : ℕ → List ℕ → Payload → Type 0)
    (kind : ℕ) (payload : Payload) (header behind : List ℕ) → size kind header ≡ Some (length header)
    → IsChain size next Carries (next header) behind payload → IsChain size next Carries kind (header ++ behind) payload
chain_front size next Carries kind payload header behind sized chain = record {
  headers = header ∷ chain.headers;
  last = chain.last;
  behind = chain.behind;
  parts = ap (λ (rest : List ℕ). header ++ rest) chain.parts ∙ sym (append_assoc header (concat chain.headers) chain.behind);
  in_row = (sized, chain.in_row);
  carries = chain.carries;
}

-- one header more
pub chain_more : (size : ℕ → List ℕ → Option ℕ) (next : List ℕ → ℕ) (Carries : ℕ → List ℕ → Payload → Type 0)
    → IsWalkable size Carries → (kind : ℕ) (octets : List ℕ) (payload : Payload) (n : ℕ) (header behind : List ℕ)
    → size kind octets ≡ Some n → IsCut octets n header behind
    → IsChain size next Carries (next header) behind payload → IsChain size next Carries kind octets payload
chain_more size next Carries walk kind octets payload n header behind sized cut chain =
    let whole : size kind (header ++ behind) ≡ Some (length header) =
    ap (size kind) (sym cut.parts) ∙ sized ∙ ap (λ (k : ℕ). Some k) (sym cut.size) in
    subst (λ (o : List ℕ). IsChain size next Carries kind o payload) (sym cut.parts)
    (chain_front size next Carries kind payload header behind (walk.shorter kind header behind whole) chain)

-- where no header is passed over, what stands there carries
stops : (size : ℕ → List ℕ → Option ℕ) (next : List ℕ → ℕ) (Carries : ℕ → List ℕ → Payload → Type 0)
    → IsWalkable size Carries → (kind last : ℕ) (octets behind : List ℕ) (payload : Payload) (headers : List (List ℕ))
    → size kind octets ≡ None → octets ≡ concat headers ++ behind → InRow size next headers kind last
    → Carries last behind payload → Carries kind octets payload
stops size next Carries walk kind last octets behind payload [] none parts row h =
    subst (λ (o : List ℕ). Carries kind o payload) (sym parts) (subst (λ (k : ℕ). Carries k behind payload) row h)
stops size next Carries walk kind last octets behind payload (header ∷ headers) none parts row h =
    let cut : octets ≡ header ++ (concat headers ++ behind) = parts ∙ append_assoc header (concat headers) behind in
    let some : size kind octets ≡ Some (length header) =
    ap (size kind) cut ∙ walk.longer kind header (concat headers ++ behind) row.0 in
    absurd (cc (none, some))

pub chain_stops : (size : ℕ → List ℕ → Option ℕ) (next : List ℕ → ℕ) (Carries : ℕ → List ℕ → Payload → Type 0)
    → IsWalkable size Carries → (kind : ℕ) (octets : List ℕ) (payload : Payload) → size kind octets ≡ None
    → IsChain size next Carries kind octets payload → Carries kind octets payload
chain_stops size next Carries walk kind octets payload none chain =
    stops size next Carries walk kind chain.last octets chain.behind payload chain.headers none chain.parts chain.in_row chain.carries

-- where a header is passed over, it fits, and the chain goes on behind it
goes_on : (size : ℕ → List ℕ → Option ℕ) (next : List ℕ → ℕ) (Carries : ℕ → List ℕ → Payload → Type 0)
    → IsWalkable size Carries → (kind last : ℕ) (octets behind : List ℕ) (payload : Payload) (n : ℕ) (headers : List (List ℕ))
    → size kind octets ≡ Some n → octets ≡ concat headers ++ behind → InRow size next headers kind last
    → Carries last behind payload
    → (header : List ℕ) × (rest : List ℕ) × (octets ≡ header ++ rest) × (length header ≡ n) × IsChain size next Carries (next header) rest payload
goes_on size next Carries walk kind last octets behind payload n [] sized parts row h =
    let none = walk.ends kind octets payload (subst (λ (o : List ℕ). Carries kind o payload) (sym parts) (subst (λ (k : ℕ). Carries k behind payload) row h)) in
    absurd (cc (none, sized))
goes_on size next Carries walk kind last octets behind payload n (header ∷ headers) sized parts row h =
    let cut : octets ≡ header ++ (concat headers ++ behind) = parts ∙ append_assoc header (concat headers) behind in
    let some : size kind octets ≡ Some (length header) =
    ap (size kind) cut ∙ walk.longer kind header (concat headers ++ behind) row.0 in (
      header,
      concat headers ++ behind,
      cut,
      cc (some, sized),
      record {
        headers = headers;
        last = last;
        behind = behind;
        parts = refl;
        in_row = row.1;
        carries = h;
      },
    )

pub chain_goes_on : (size : ℕ → List ℕ → Option ℕ) (next : List ℕ → ℕ) (Carries : ℕ → List ℕ → Payload → Type 0)
    → IsWalkable size Carries → (kind : ℕ) (octets : List ℕ) (payload : Payload) (n : ℕ) (header behind : List ℕ)
    → size kind octets ≡ Some n → IsCut octets n header behind
    → IsChain size next Carries kind octets payload → IsChain size next Carries (next header) behind payload
chain_goes_on size next Carries walk kind octets payload n header behind sized cut chain =
    let (first, rest, parts, long, on) = goes_on size next Carries walk kind chain.last octets chain.behind payload n chain.headers sized chain.parts chain.in_row chain.carries in
    let same = one_cut first rest header behind (sym parts ∙ cut.parts) (long ∙ sym cut.size) in
    subst (λ (o : List ℕ). IsChain size next Carries (next header) o payload) same.1
    (subst (λ (o : List ℕ). IsChain size next Carries (next o) rest payload) same.0 on)

pub chain_fits : (size : ℕ → List ℕ → Option ℕ) (next : List ℕ → ℕ) (Carries : ℕ → List ℕ → Payload → Type 0)
    → IsWalkable size Carries → (kind : ℕ) (octets : List ℕ) (payload : Payload) (n : ℕ)
    → size kind octets ≡ Some n → IsChain size next Carries kind octets payload → n ≤ length octets
chain_fits size next Carries walk kind octets payload n sized chain =
    let (first, rest, parts, long, on) = goes_on size next Carries walk kind chain.last octets chain.behind payload n chain.headers sized chain.parts chain.in_row chain.carries in
    omega (arith, front_within octets first rest parts, long)

-- one header on
pub chain_step : (size : ℕ → List ℕ → Option ℕ) (next : List ℕ → ℕ) (Carries : ℕ → List ℕ → Payload → Type 0)
    → IsWalkable size Carries → (kind kind' : ℕ) (octets : List ℕ) (n : ℕ) (header behind : List ℕ)
    → size kind octets ≡ Some n → IsCut octets n header behind → kind' ≡ next header
    → IsSame (IsChain size next Carries kind' behind) (IsChain size next Carries kind octets)
chain_step size next Carries walk kind kind' octets n header behind sized cut is = record {
  to = λ payload chain. chain_more size next Carries walk kind octets payload n header behind sized cut
      (subst (λ (k : ℕ). IsChain size next Carries k behind payload) is chain);
  back = λ payload chain. subst (λ (k : ℕ). IsChain size next Carries k behind payload) (sym is)
      (chain_goes_on size next Carries walk kind octets payload n header behind sized cut chain);
}

-- no header more
pub chain_end : (size : ℕ → List ℕ → Option ℕ) (next : List ℕ → ℕ) (Carries : ℕ → List ℕ → Payload → Type 0)
    → IsWalkable size Carries → (kind : ℕ) (octets : List ℕ) → size kind octets ≡ None
    → IsSame (Carries kind octets) (IsChain size next Carries kind octets)
chain_end size next Carries walk kind octets none = record {
  to = λ payload h. chain_none size next Carries kind octets payload h;
  back = λ payload chain. chain_stops size next Carries walk kind octets payload none chain;
}

-- a header that was cut
pub chain_cut : (size : ℕ → List ℕ → Option ℕ) (next : List ℕ → ℕ) (Carries : ℕ → List ℕ → Payload → Type 0)
    → IsWalkable size Carries → (kind : ℕ) (octets : List ℕ) (n : ℕ) → size kind octets ≡ Some n → length octets < n
    → (payload : Payload) → IsChain size next Carries kind octets payload → ⊥
chain_cut size next Carries walk kind octets n sized short payload chain =
    omega (arith, chain_fits size next Carries walk kind octets payload n sized chain)
