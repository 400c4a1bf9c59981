-- What reading a line answers, over what was consumed on the way.
use Rattle.std.proofs.Common.{◌≡◌, ◌≢◌, ℕ, zero, suc, ◌+◌, ◌<◌, ◌≤◌, ◌==◌, List, [], ◌∷◌, ◌++◌, true, false, not, length, take, drop, get_or, Option, Some, None, refl, ap, sym, subst, ◌∙◌, arith, append-nil, append_assoc, length-append}
use Rattle.std.proofs.lemmas.Bool.{le-ltb, lt-ltb, true≢false}
use Rattle.std.proofs.lemmas.List.{take_at, drop_at}
use Rattle.std.proofs.Math.Dec.{eqb-suc-zero}
use Rattle.std.specs.Io.KnownBytes.{Consumes, IsAtEnd}
use Rattle.std.proofs.KnownBytes.{Consumes-trans}
use Rattle.text_lines.specs.declared.fault.ReadingFault.TheVariants.{Read, LineTooLong, TooManyLines}
use Rattle.text_lines.specs.Lines.{lines_of, lfs_in, line_limit, reading_fault}
use Rattle.text_lines.specs.declared.counted.octets.Stop.{Stop}
use Rattle.text_lines.specs.declared.counted.octets.Stop.TheVariants.{LineFeed, End, TooLong, Failed}
use Rattle.text_lines.specs.Inner.Reading.{IsUnended, ReadsLine, StopsAt, StopsPartAt, StopsReading}
use Rattle.text_lines.proofs.KnownOctets.{Consumes-known}
use Rattle.text_lines.proofs.Cutting.{lines_of-ended, drop_through-ended, lfs_in-ended, lines_of-last, drop_through-last, first_line, longer_line}

-- a part behind what was read of a line
pub part_stops : (left : ℕ) (stop : Stop) (a b c : Option (List ℕ)) (front part : List ℕ) → Consumes a b front → StopsPartAt left stop b c part
    → length front + left ≡ line_limit → StopsAt stop a c (front ++ part)
part_stops left LineFeed a b c front part before stops room = subst (Consumes a c) (sym (append_assoc front part (10 ∷ []))) (Consumes-trans a b c front _ before stops)
part_stops left End a b c front part before stops room = (Consumes-trans a b c front part before stops.0, stops.1)
part_stops left TooLong a b c front part before (x, other, full, stops) room =
    (x, other, simp length-append (omega (arith, full, room)), subst (Consumes a c) (sym (append_assoc front part (x ∷ []))) (Consumes-trans a b c front _ before stops))
part_stops left Failed a b c front part before stops room = Consumes-trans a b c front part before stops

-- a read of one octet, after those of a line
pub read_one : (a b c : Option (List ℕ)) (line buf : List ℕ) (n : ℕ) → Consumes a b line → Consumes b c (take n buf) → n ≢ 0 → n ≤ length buf → length buf ≡ 1
    → Consumes a c (line ++ get_or buf 0 0 ∷ [])
read_one a b c line [] n first next some within one = absurd cc
read_one a b c line (x ∷ y ∷ ys) n first next some within one = absurd (omega (arith, one))
read_one a b c line (x ∷ []) zero first next some within one = absurd (some refl)
read_one a b c line (x ∷ []) (suc zero) first next some within one = Consumes-trans a b c line (x ∷ []) first next
read_one a b c line (x ∷ []) (suc (suc n)) first next some within one = absurd (omega (arith, within))

no_fault : (limit count : ℕ) (line : List ℕ) → count < limit → length line ≤ line_limit → reading_fault limit (count + 1) line ≡ None
no_fault limit count line allowed fits = rw (le-ltb limit (count + 1) (omega arith), le-ltb line_limit (length line) fits)

-- the octets end where a reader at its end has nothing left
at_end : (c : Option (List ℕ)) (front rest octets : List ℕ) → IsAtEnd c → c ≡ Some rest → octets ≡ front ++ rest → (octets ≡ front) × (c ≡ Some [])
at_end None front rest octets end left split = absurd cc
at_end (Some xs) front rest octets end left split =
    let none : rest ≡ [] = cc in (split ∙ ap (λ r. front ++ r) none ∙ append-nil front, ap Some end)

pub line_ended : (a c : Option (List ℕ)) (line : List ℕ) (limit count : ℕ) (octets : List ℕ) → Consumes a c (line ++ 10 ∷ [])
    → IsUnended line → length line ≤ line_limit → count < limit → a ≡ Some octets → ReadsLine true limit (count + 1) line false octets c
line_ended a c line limit count octets read unended fits allowed known =
    let (rest, left, split) = Consumes-known a c _ octets read known in
    let whole : octets ≡ line ++ 10 ∷ rest = split ∙ append_assoc line (10 ∷ []) rest in
    let behind = drop_through-ended line rest unended in
    rw whole (
      lines_of-ended line rest unended ∙ ap (λ r. line ∷ lines_of r) (sym behind),
      no_fault limit count line allowed fits,
      left ∙ ap Some (sym behind),
      λ _. lfs_in-ended line rest unended ∙ ap (λ r. lfs_in r + 1) (sym behind),
    )

line_or_none : (c : Option (List ℕ)) (line : List ℕ) (limit count : ℕ) → c ≡ Some [] → IsUnended line → reading_fault limit (count + 1) line ≡ None
    → ReadsLine (not (length line == 0)) limit (count + 1) line true line c
line_or_none c [] limit count left unended fine = (refl, left)
line_or_none c (x ∷ xs) limit count left unended fine =
    let behind = drop_through-last (x ∷ xs) unended in
    rw (eqb-suc-zero (length xs)) (lines_of-last x xs unended ∙ ap (λ r. (x ∷ xs) ∷ lines_of r) (sym behind), fine, left ∙ ap Some (sym behind), λ unended. absurd (true≢false unended))

pub line_last : (a c : Option (List ℕ)) (line : List ℕ) (limit count : ℕ) (octets : List ℕ) → Consumes a c line → IsAtEnd c
    → IsUnended line → length line ≤ line_limit → count < limit → a ≡ Some octets → ReadsLine (not (length line == 0)) limit (count + 1) line true octets c
line_last a c line limit count octets read end unended fits allowed known =
    let (rest, left, split) = Consumes-known a c _ octets read known in
    let (whole, nothing) = at_end c line rest octets end left split in
    rw whole (line_or_none c line limit count nothing unended (no_fault limit count line allowed fits))

too_long : (limit count : ℕ) (line : List ℕ) → count < limit → line_limit < length line → reading_fault limit (count + 1) line ≡ Some LineTooLong
too_long limit count line allowed long = rw (le-ltb limit (count + 1) (omega arith), lt-ltb line_limit (length line) long)

pub line_too_long : (a c : Option (List ℕ)) (line : List ℕ) (x limit count : ℕ) (octets : List ℕ) → Consumes a c (line ++ x ∷ []) → x ≢ 10
    → IsUnended line → length line ≡ line_limit → count < limit → a ≡ Some octets → StopsReading LineTooLong limit (count + 1) octets c
line_too_long a c line x limit count octets read other unended full allowed known =
    let (rest, left, split) = Consumes-known a c _ octets read known in
    let (longer, others, e, long) = longer_line line x rest unended other in
    let whole : octets ≡ line ++ x ∷ rest = split ∙ append_assoc line (x ∷ []) rest in
    let passed : length (line ++ x ∷ []) ≡ 4097 = simp length-append (omega arith) in (
      longer,
      others,
      ap lines_of whole ∙ e,
      too_long limit count longer allowed (omega arith),
      left ∙ ap Some (sym (ap (drop 4097) split ∙ drop_at (line ++ x ∷ []) rest 4097 passed)),
    )

pub line_failed : (a c : Option (List ℕ)) (line : List ℕ) (limit count : ℕ) (octets : List ℕ) → Consumes a c line
    → IsUnended line → length line ≤ line_limit → count < limit → a ≡ Some octets → StopsReading Read limit (count + 1) octets c
line_failed a c line limit count octets read unended fits allowed known =
    let (rest, left, split) = Consumes-known a c _ octets read known in (
      length line,
      rw (le-ltb limit (count + 1) (omega arith)) fits,
      rw (split, take_at line rest (length line) refl) unended,
      left ∙ ap Some (sym (ap (drop (length line)) split ∙ drop_at line rest (length line) refl)),
    )

pub beyond_last : (a b : Option (List ℕ)) (x limit : ℕ) (octets : List ℕ) → Consumes a b (x ∷ []) → a ≡ Some octets → StopsReading TooManyLines limit (limit + 1) octets b
beyond_last a b x limit octets first known =
    let (rest, left, split) = Consumes-known a b _ octets first known in
    let (line, others, e) = first_line x rest in
    (line, others, ap lines_of split ∙ e, rw (lt-ltb limit (limit + 1) (omega arith)) refl, left ∙ ap Some (sym (ap (drop 1) split)))
