-- What one more read brings.
use Rattle.std.proofs.Common.{◌≡◌, ℕ, ◌+◌, ◌-◌, ◌≤◌, List, ◌++◌, length, take, drop, refl, sym, ap, ◌∙◌, subst, arith, Option, Some}
use Rattle.std.proofs.Common.{append_assoc, take-append-drop, length-append}
use Rattle.std.proofs.lemmas.List.{take_at, drop_at, length-take-le}
use Rattle.std.specs.Io.KnownBytes.{Consumes}
use Rattle.text_lines.specs.declared.counted.Counted.{Counted}
use Rattle.text_lines.specs.Counted.{device_of, HasGiven}
use Rattle.text_lines.specs.Lines.{GivesWithin}
use Rattle.text_lines.proofs.Bounds.{gives_more, gives_less}
use Rattle.text_lines.proofs.KnownOctets.{Consumes-known}

-- a read into the room behind the front lengthens it by what was read
front_grows : (room buf post : List ℕ) (size count : ℕ) → size ≤ length room → count ≤ length buf
    → take (size + count) (take size room ++ (buf ++ post)) ≡ take size room ++ take count buf
front_grows room buf post size count fits read =
    ap (λ b. take (size + count) (take size room ++ (b ++ post))) (sym (take-append-drop count buf))
    ∙ ap (λ b. take (size + count) (take size room ++ b)) (append_assoc (take count buf) (drop count buf) post)
    ∙ ap (take (size + count)) (sym (append_assoc (take size room) (take count buf) (drop count buf ++ post)))
    ∙ take_at (take size room ++ take count buf) (drop count buf ++ post) (size + count) both
  where
    both : length (take size room ++ take count buf) ≡ size + count
    both = length-append (take size room) (take count buf)
        ∙ (λ i. length-take-le size room fits i + length-take-le count buf read i)

-- the same, where the front began with these and then more
pub front_more : (start more room buf post : List ℕ) (size count : ℕ) → size ≤ length room → count ≤ length buf → take size room ≡ start ++ more
    → take (size + count) (take size room ++ (buf ++ post)) ≡ start ++ (more ++ take count buf)
front_more start more room buf post size count fits read there =
    front_grows room buf post size count fits read ∙ ap (λ f. f ++ take count buf) there ∙ append_assoc start more (take count buf)

-- a read that gave these
gives_read : {R : Type 0} (remaining : R → Option (List ℕ)) (x y : Counted R) (bs : List ℕ) → Consumes (remaining (device_of x)) (remaining (device_of y)) bs
    → HasGiven (length bs) x y → GivesWithin remaining (length bs) x y
gives_read remaining x y bs consumed counted = record {
  given = length bs;
  within = omega arith;
  counted = counted;
  gone = λ octets known.
      let (rest, left, split) = Consumes-known (remaining (device_of x)) (remaining (device_of y)) bs octets consumed known in
      left ∙ ap Some (sym (ap (drop (length bs)) split ∙ drop_at bs rest (length bs) refl));
}

-- so many more were given
pub gives_front : {R : Type 0} (remaining : R → Option (List ℕ)) (x y z : Counted R) (from size count : ℕ) (buf : List ℕ) → from ≤ size → count ≤ length buf
    → GivesWithin remaining (size - from) x y → Consumes (remaining (device_of y)) (remaining (device_of z)) (take count buf) → HasGiven count y z
    → GivesWithin remaining (size + count - from) x z
gives_front remaining x y z from size count buf behind within gives read counted =
    gives_less remaining (size - from + count) (size + count - from) x z (gives_more remaining (size - from) count x y z gives last) (omega (arith, behind))
  where
    counts : length (take count buf) ≡ count
    counts = length-take-le count buf within

    last : GivesWithin remaining count y z
    last = subst (λ (n : ℕ). GivesWithin remaining n y z) counts (gives_read remaining y z (take count buf) read (subst (λ (n : ℕ). HasGiven n y z) (sym counts) counted))
