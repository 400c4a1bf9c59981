-- Octets in front of others, and numbers in them.
use Rattle.std.proofs.Common.{◌≡◌, ℕ, ◌+◌, ◌-◌, ◌≤◌, List, [], ◌++◌, length, take, drop, sym, ap, ◌∙◌, arith, Bool, Option, Some, None, Ok, refl, subst, append-nil}
use Rattle.std.specs.Prelude.{slice_range}
use Rattle.std.proofs.lemmas.List.{take-append-le, drop-append-le, length-drop}
use Rattle.std.specs.Int.{w16, w32}
use Rattle.std.specs.Option.{ForSome}
use Rattle.std.specs.Io.KnownBytes.{Consumes, IsAtEnd, prepend_known}
use Rattle.capture_file.specs.declared.part.PartStop.{PartStop}
use Rattle.capture_file.specs.declared.part.PartStop.TheVariants.{Read, Memory, Fault}
use Rattle.capture_file.specs.declared.fault.CaptureFault.{CaptureFault}
use Rattle.capture_file.specs.Inner.Octets.{Fills, FillsTo}
use Rattle.capture_file.specs.Inner.Reading.{StopsBy}
use Rattle.std.proofs.KnownBytes.{Consumes-trans}
use Rattle.text_lines.proofs.KnownOctets.{Consumes-known}
use Rattle.capture_file.specs.declared.order.ByteOrder.{ByteOrder}
use Rattle.capture_file.specs.Order.{number_of, number16, number32}
use Rattle.capture_file.specs.Pcap.{is_pcap_version}

pub slice_front : (front rest : List ℕ) (i j : ℕ) → i ≤ j → j ≤ length front → slice_range (front ++ rest) i j ≡ slice_range front i j
slice_front front rest i j up within =
    ap (take (j - i)) (drop-append-le i front rest (omega arith))
    ∙ take-append-le (j - i) (drop i front) rest (rw (length-drop i front) (omega arith))

pub number16_front : (order : ByteOrder) (front rest : List ℕ) (i : ℕ) → i + 2 ≤ length front → number16 order (front ++ rest) i ≡ number16 order front i
number16_front order front rest i within = ap (number_of order w16) (slice_front front rest i (i + 2) (omega arith) within)

pub number32_front : (order : ByteOrder) (front rest : List ℕ) (i : ℕ) → i + 4 ≤ length front → number32 order (front ++ rest) i ≡ number32 order front i
number32_front order front rest i within = ap (number_of order w32) (slice_front front rest i (i + 4) (omega arith) within)

pub version_front : (order : ByteOrder) (front rest : List ℕ) → 8 ≤ length front → is_pcap_version order (front ++ rest) ≡ is_pcap_version order front
version_front order front rest within = rw (number16_front order front rest 4 (omega arith), number16_front order front rest 6 (omega arith)) refl

-- these were read, and nothing is behind them
pub all_read : (a c : Option (List ℕ)) (front octets : List ℕ) → Consumes a c front → IsAtEnd c → a ≡ Some octets → octets ≡ front
all_read a c front octets read end known =
    let (rest, left, split) = Consumes-known a c front octets read known in
    split ∙ ap (λ r. front ++ r) (at_end c rest end left) ∙ append-nil front
  where
    at_end : (c : Option (List ℕ)) (rest : List ℕ) → IsAtEnd c → c ≡ Some rest → rest ≡ []
    at_end None rest end left = absurd cc
    at_end (Some xs) rest end left = let same : xs ≡ rest = cc in sym same ∙ end

-- ---- octets that stand before those that are left

pub consumes_front : (b : Option (List ℕ)) (front : List ℕ) → Consumes (prepend_known front b) b front
consumes_front None front = tt
consumes_front (Some xs) front = refl

-- so are those that were read behind them
pub fills_front : (b c : Option (List ℕ)) (old new : List ℕ) → Fills old new b c → Consumes (prepend_known old b) c new
fills_front b c old new (more, is, next) = rw is (Consumes-trans (prepend_known old b) b c old more (consumes_front b old) next)

-- whether so many are there
pub filled_is : (size : ℕ) (there known : Bool) (old new : List ℕ) (b c : Option (List ℕ)) → there ≡ known → FillsTo size (Ok there) old new b c
    → FillsTo size (Ok known) old new b c
filled_is size there known old new b c is filled = subst (λ (t : Bool). FillsTo size (Ok t) old new b c) is filled

-- what is consumed of both is consumed
pub consumes_from : (a b c : Option (List ℕ)) (front octets : List ℕ) → Consumes a b front → Consumes (prepend_known front b) c octets → Consumes a c octets
consumes_from None b c front octets first both = tt
consumes_from (Some xs) None c front octets first both = absurd first
consumes_from (Some xs) (Some ys) c front octets first both = subst (λ (k : List ℕ). Consumes (Some k) c octets) (sym first) both

-- what holds of both, where they are known, holds of all that stand behind the front
known_from : (a b : Option (List ℕ)) (front : List ℕ) (P : List ℕ → Type 0) → Consumes a b front → ForSome (prepend_known front b) P
    → (octets : List ℕ) → a ≡ Some octets → ((rest : List ℕ) × (octets ≡ front ++ rest)) × P octets
known_from None b front P first both octets known = absurd cc
known_from (Some xs) None front P first both octets known = absurd first
known_from (Some xs) (Some ys) front P first both octets known =
    let same : xs ≡ octets = cc in ((ys, sym same ∙ first), both octets (ap Some (sym first) ∙ known))

-- why octets behind others aren't read is why both aren't
pub stops_from : (a b c : Option (List ℕ)) (front : List ℕ) (Wrong Faulty : List ℕ → CaptureFault → ℕ → Type 0) (stop : PartStop)
    → ((rest : List ℕ) (fault : CaptureFault) (place : ℕ) → Wrong (front ++ rest) fault place → Faulty (front ++ rest) fault place) → Consumes a b front
    → StopsBy Wrong stop (prepend_known front b) c → StopsBy Faulty stop a c
stops_from a b c front Wrong Faulty Read wider first (seen, read) = (seen, consumes_from a b c front seen first read)
stops_from a b c front Wrong Faulty Memory wider first (seen, read) = (seen, consumes_from a b c front seen first read)
stops_from a b c front Wrong Faulty (Fault fault place) wider first ((seen, read), faulty) = (
  (seen, consumes_from a b c front seen first read),
  λ octets known.
      let ((rest, is), wrong) = known_from a b front (λ o. Wrong o fault place) first faulty octets known in
      rw is (wider rest fault place (subst (λ (o : List ℕ). Wrong o fault place) is wrong)),
)
