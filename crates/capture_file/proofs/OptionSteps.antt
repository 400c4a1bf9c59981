-- One option more.
use Rattle.std.proofs.Common.{◌≡◌, ◌≢◌, ℕ, ◌+◌, ◌-◌, ◌≤◌, List, ◌∷◌, length, take, drop, true, sym, ap, ◌∙◌, refl, arith}
use Rattle.std.specs.Prelude.{slice_range}
use Rattle.std.proofs.lemmas.List.{length-take-le, length-drop, take_all}
use Rattle.capture_file.specs.declared.order.ByteOrder.{ByteOrder}
use Rattle.capture_file.specs.Order.{number16}
use Rattle.capture_file.specs.Pcapng.{padded}
use Rattle.capture_file.specs.Options.{OptionOf, FoundOf, AreFirst, is_size_of, with_option, found_in}

-- so many octets from the fourth on
value_length : (octets : List ℕ) (size : ℕ) → 4 + padded size ≤ length octets → length (slice_range octets 4 (4 + size)) ≡ size
value_length octets size within =
    length-take-le (4 + size - 4) (drop 4 octets) (rw (length-drop 4 octets) (omega (arith, within))) ∙ omega arith

-- a value is cut out in two steps
pub value_is : (octets : List ℕ) (size : ℕ) → take size (take (length octets - 4) (drop 4 octets)) ≡ slice_range octets 4 (4 + size)
value_is octets size =
    ap (take size) (take_all (length octets - 4) (drop 4 octets) (rw (length-drop 4 octets) (omega arith)))
    ∙ ap (λ n. take n (drop 4 octets)) (omega arith)

pub rest_is : (octets : List ℕ) (whole : ℕ) → take (length octets - whole) (drop whole octets) ≡ drop whole octets
rest_is octets whole = take_all (length octets - whole) (drop whole octets) (rw (length-drop whole octets) (omega arith))

pub one_more : (order : ByteOrder) (left : ℕ) (octets : List ℕ) (options : List OptionOf) (before : ℕ) (behind : List ℕ) (found found' : FoundOf) (size whole : ℕ)
    (value rest : List ℕ) → AreFirst order left octets options before behind → found ≡ found_in order options → size ≡ number16 order behind 2 → whole ≡ 4 + padded size
    → 4 ≤ length behind → number16 order behind 0 ≢ 0 → is_size_of (number16 order behind 0) size ≡ true → whole ≤ before → whole ≤ length behind
    → value ≡ slice_range behind 4 (4 + size) → rest ≡ drop whole behind → found' ≡ with_option order (number16 order behind 0) value found
    → (options' : List OptionOf) × AreFirst order left octets options' (before - whole) rest × (found' ≡ found_in order options')
one_more order left octets options before behind found found' size whole value rest first is size_is whole_is head some known fits within value_is rest_is found_is = (
  record { code = number16 order behind 0; value = value } ∷ options,
  (
    before,
    behind,
    first,
    record {
      head = head;
      code_is = refl;
      some = some;
      size_is = sym size_is ∙ sym size_of;
      size_fits = rw size_of known;
      fits = rw taken fits;
      whole = rw taken within;
      value_is = rw size_of value_is;
    },
    ap (λ n. before - whole + n) taken ∙ omega (arith, fits),
    rest_is ∙ ap (λ n. drop n behind) (sym taken),
  ),
  found_is ∙ ap (with_option order (number16 order behind 0) value) is,
)
  where
    size_of : length value ≡ size
    size_of = ap length value_is ∙ value_length behind size (omega (arith, within, whole_is))

    taken : 4 + padded (length value) ≡ whole
    taken = ap (λ n. 4 + padded n) size_of ∙ sym whole_is
