-- How many octets are given, whatever becomes of the lines.
use Rattle.std.proofs.Common.{if◌then◌else◌, ◌≡◌, ℕ, ◌+◌, ◌-◌, ◌*◌, ◌^◌, ◌<◌, ◌≤◌, List, [], ◌∷◌, ◌++◌, Bool, true, false, length, drop, Option, Some, refl, sym, ap, ◌∙◌, arith, length-append}
use Rattle.std.proofs.lemmas.List.{drop-drop, drop_at}
use Rattle.std.proofs.lemmas.Bool.{ltb-false}
use Rattle.std.specs.Prelude.{nat_lt}
use Rattle.std.specs.Io.KnownBytes.{Consumes, Keeps, prepend_known}
use Rattle.text_lines.specs.declared.counted.Counted.{Counted}
use Rattle.text_lines.specs.Counted.{device_of, given_of, with_more, HasGiven}
use Rattle.text_lines.specs.declared.counted.octets.Stop.{Stop}
use Rattle.text_lines.specs.declared.counted.octets.Stop.TheVariants.{LineFeed, End, TooLong, Failed}
use Rattle.text_lines.specs.Inner.Reading.{StopsAt, count_read}
use Rattle.text_lines.specs.Lines.{line_limit, input_limit, room_of, GivesWithin}
use Rattle.text_lines.proofs.KnownOctets.{Consumes-known, Keeps-known}

more_more : (x a b : ℕ) → with_more (with_more x a) b ≡ with_more x (a + b)
more_more x a b = omega arith

no_more : (x : ℕ) → x < 2 ^ 64 → x ≡ with_more x 0
no_more x within = omega arith

pub gives_less : {R : Type 0} (remaining : R → Option (List ℕ)) (a b : ℕ) (x y : Counted R) → GivesWithin remaining a x y → a ≤ b → GivesWithin remaining b x y
gives_less remaining a b x y gives less = record {
  given = gives.given;
  within = omega (arith, gives.within, less);
  counted = gives.counted;
  gone = gives.gone;
}

-- a read that gave these, but for the first, which were read before
gives_behind : {R : Type 0} (remaining : R → Option (List ℕ)) (x y : Counted R) (begun bs : List ℕ) (n : ℕ) → Consumes (prepend_known begun (remaining (device_of x))) (remaining (device_of y)) bs
    → length bs ≡ length begun + n → HasGiven n x y → GivesWithin remaining n x y
gives_behind remaining x y begun bs n consumed size counted = record {
  given = n;
  within = omega arith;
  counted = counted;
  gone = λ octets known.
      let (rest, left, split) = Consumes-known _ (remaining (device_of y)) bs (begun ++ octets) consumed (ap (prepend_known begun) known) in
      let behind : drop (length begun + n) (begun ++ octets) ≡ rest = ap (λ k. drop k (begun ++ octets)) (sym size) ∙ ap (drop (length bs)) split ∙ drop_at bs rest (length bs) refl in
      left ∙ ap Some (sym behind ∙ sym (drop-drop n (length begun) (begun ++ octets)) ∙ ap (drop n) (drop_at begun octets (length begun) refl));
}

-- the octets of a line, but for the first, which were read before
pub gives_line : {R : Type 0} (remaining : R → Option (List ℕ)) (x y : Counted R) (stop : Stop) (begun line : List ℕ) (n : ℕ) → StopsAt stop (prepend_known begun (remaining (device_of x))) (remaining (device_of y)) line
    → length begun ≡ n → n ≤ length line → length line ≤ line_limit → HasGiven (count_read stop line - n) x y → GivesWithin remaining (line_limit + 1) x y
gives_line remaining x y LineFeed begun line n stops size longer fits counted =
    gives_less remaining _ _ x y (gives_behind remaining x y begun (line ++ 10 ∷ []) (length line + 1 - n) stops (simp length-append (omega arith)) counted) (omega arith)
gives_line remaining x y End begun line n stops size longer fits counted =
    gives_less remaining _ _ x y (gives_behind remaining x y begun line (length line - n) stops.0 (omega arith) counted) (omega arith)
gives_line remaining x y TooLong begun line n (octet, other, full, stops) size longer fits counted =
    gives_less remaining _ _ x y (gives_behind remaining x y begun (line ++ octet ∷ []) (length line + 1 - n) stops (simp length-append (omega arith)) counted) (omega arith)
gives_line remaining x y Failed begun line n stops size longer fits counted =
    gives_less remaining _ _ x y (gives_behind remaining x y begun line (length line - n) stops (omega arith) counted) (omega arith)

-- none were given
pub gives_none : {R : Type 0} (remaining : R → Option (List ℕ)) (x y : Counted R) → given_of x < 2 ^ 64 → given_of y ≡ given_of x
    → Keeps (remaining (device_of x)) (remaining (device_of y)) → GivesWithin remaining 0 x y
gives_none remaining x y range counted kept = record {
  given = 0;
  within = omega arith;
  counted = counted ∙ no_more (given_of x) range;
  gone = λ octets known. Keeps-known (remaining (device_of x)) (remaining (device_of y)) octets kept known;
}

-- one read after another
pub gives_more : {R : Type 0} (remaining : R → Option (List ℕ)) (a b : ℕ) (x y z : Counted R) → GivesWithin remaining a x y → GivesWithin remaining b y z
    → GivesWithin remaining (a + b) x z
gives_more remaining a b x y z first next = record {
  given = first.given + next.given;
  within = omega (arith, first.within, next.within);
  counted = next.counted ∙ ap (λ n. with_more n next.given) first.counted ∙ more_more (given_of x) first.given next.given;
  gone = λ octets known. next.gone (drop first.given octets) (first.gone octets known) ∙ ap Some (drop-drop next.given first.given octets);
}

-- whole lines, and one more
pub line_more : {R : Type 0} (remaining : R → Option (List ℕ)) (limit count : ℕ) (x y z : Counted R) → GivesWithin remaining (count * (line_limit + 1)) x y
    → GivesWithin remaining (room_of limit (count + 1) + 1) y z → GivesWithin remaining ((count + 1) * (line_limit + 1)) x z
line_more remaining limit count x y z so_far line =
    gives_less remaining _ _ x z (gives_more remaining _ _ x y z so_far line) (go (nat_lt limit (count + 1)))
  where
    go : (beyond : Bool) → count * (line_limit + 1) + ((if beyond then 0 else line_limit) + 1) ≤ (count + 1) * (line_limit + 1)
    go true = omega arith
    go false = omega arith

-- whole lines, and the octets of a last one, are within the limit
pub input_within : {R : Type 0} (remaining : R → Option (List ℕ)) (limit count : ℕ) (x y z : Counted R) → count ≤ limit → GivesWithin remaining (count * (line_limit + 1)) x y
    → GivesWithin remaining (room_of limit (count + 1) + 1) y z → GivesWithin remaining (input_limit limit) x z
input_within remaining limit count x y z allowed so_far line =
    gives_less remaining _ _ x z (gives_more remaining _ _ x y z so_far line) (go (nat_lt limit (count + 1)) refl)
  where
    go : (beyond : Bool) → nat_lt limit (count + 1) ≡ beyond → count * (line_limit + 1) + ((if beyond then 0 else line_limit) + 1) ≤ input_limit limit
    go true is = omega arith
    go false is = let below = ltb-false limit (count + 1) is in omega arith
