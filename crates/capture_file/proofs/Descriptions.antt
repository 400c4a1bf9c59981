-- What the reading of an interface description comes to.
use Rattle.std.proofs.Common.{◌≡◌, ℕ, ◌+◌, ◌-◌, ◌≤◌, ◌<◌, min, List, [], ◌++◌, length, take, drop, Bool, true, false, sym, ap, ◌∙◌, subst, refl, inl, inr, arith, Option, Result, Ok}
use Rattle.std.proofs.Common.{length-append, append-nil}
use Rattle.std.specs.Prelude.{nat_le, ◌==◌, ◌%◌}
use Rattle.std.specs.Io.KnownBytes.{IsAtEnd}
use Rattle.std.proofs.lemmas.Bool.{and_parts, leb-true}
use Rattle.std.proofs.lemmas.List.{take_all, take_at, drop-append-le, length-drop}
use Rattle.text_lines.proofs.KnownOctets.{Consumes-known}
use Rattle.capture_file.specs.declared.fault.CaptureFault.TheVariants.{Length, CutOff}
use Rattle.capture_file.specs.declared.part.PartStop.TheVariants.{Fault}
use Rattle.capture_file.specs.declared.octets.ReadFailed.{ReadFailed}
use Rattle.capture_file.specs.Order.{number16}
use Rattle.capture_file.specs.Options.{OptionOf, AreOptions, HasWrongOption, found_in}
use Rattle.capture_file.specs.Pcapng.{is_length_of, description_type, IsBlock}
use Rattle.capture_file.specs.Section.{SectionOf, IsDescription, description_of, options_there}
use Rattle.capture_file.specs.Wrong.{total_of, IsBegun, IsBlockFault}
use Rattle.capture_file.specs.Inner.Octets.{Fills, FillsTo}
use Rattle.capture_file.specs.Inner.Reading.{StopsBy}
use Rattle.capture_file.proofs.Fronts.{number16_front, number32_front, all_read}
use Rattle.capture_file.proofs.Blocks.{IsInBlock, AreSound, begun_of, block_cut, take_both}

pub least_description : (total : ℕ) → is_length_of description_type total ≡ true → 20 ≤ total
least_description total size = leb-true 20 total (and_parts (nat_le 20 total) (total % 4 == 0) size).0

-- ---- the options that are there

-- of octets that aren't more than are kept
pub options_partial : (total : ℕ) (front : List ℕ) → length front ≤ total - 4 → length front ≤ 65600 → options_there total front ≡ drop 16 front
options_partial total front most limit =
    ap (take 65584) (take_all (total - 4 - 16) (drop 16 front) (rw (length-drop 16 front) (omega (arith, most))))
    ∙ take_all 65584 (drop 16 front) (rw (length-drop 16 front) (omega (arith, limit)))

-- of a whole block, of which so many octets are kept
pub options_whole : (total kept : ℕ) (front rest : List ℕ) → 20 ≤ total → length front ≡ kept → kept ≡ min (total - 4) 65600 → options_there total (front ++ rest) ≡ drop 16 front
options_whole total kept front rest least size is =
    ap (λ l. take 65584 (take (total - 4 - 16) l)) (drop-append-le 16 front rest (omega (arith, size, is, least)))
    ∙ take_both 65584 (total - 4 - 16) (drop 16 front ++ rest)
    ∙ take_at (drop 16 front) rest (min 65584 (total - 4 - 16)) (length-drop 16 front ∙ omega (arith, size, is, least))

-- what of a description is there is sound
sound_by : (s : SectionOf) (total : ℕ) (octets : List ℕ) (options : List OptionOf) → total_of s.order octets ≡ total
    → AreOptions s.order (total - 20) options (options_there total octets) → AreSound s description_type octets
sound_by s total octets options whole are = record {
  described = λ is least. absurd (omega (arith, is));
  fits = λ is least. absurd (omega (arith, is));
  options = λ is least. (options, subst (λ (t : ℕ). AreOptions s.order (t - 20) options (options_there t octets)) (sym whole) are);
}

pub sound_head : (s : SectionOf) (octets : List ℕ) → length octets < 16 → AreSound s description_type octets
sound_head s octets short = record {
  described = λ is least. absurd (omega (arith, is));
  fits = λ is least. absurd (omega (arith, is));
  options = λ is least. absurd (omega (arith, short, least));
}

pub sound_whole : (a b : Option (List ℕ)) (s : SectionOf) (total kept : ℕ) (front rest : List ℕ) (options : List OptionOf) → IsInBlock a b s description_type total front → 20 ≤ total
    → length front ≡ kept → kept ≡ min (total - 4) 65600 → (there : List ℕ) → there ≡ drop 16 front → AreOptions s.order (total - 20) options there → AreSound s description_type (front ++ rest)
sound_whole a b s total kept front rest options i least size is there there_is are =
    sound_by s total (front ++ rest) options
    (number32_front s.order front rest 4 (let head = i.head in omega arith) ∙ i.total_is)
    (subst (λ (o : List ℕ). AreOptions s.order (total - 20) options o) (there_is ∙ sym (options_whole total kept front rest least size is)) are)

-- ---- where it stops

-- the input ends within the options, and those that are there are sound
pub cut_options : (a c : Option (List ℕ)) (s : SectionOf) (total kept : ℕ) (front : List ℕ) (options : List OptionOf) → IsInBlock a c s description_type total front → 20 ≤ total
    → (there : List ℕ) → there ≡ drop 16 front → IsAtEnd c → length front < kept → kept ≡ min (total - 4) 65600 → AreOptions s.order (total - 20) options there
    → StopsBy (IsBlockFault s) (Fault CutOff 0) a c
cut_options a c s total kept front options i least there there_is end short is are =
    block_cut a c s description_type total front i end
    (sound_by s total front options i.total_is
    (subst (λ (o : List ℕ). AreOptions s.order (total - 20) options o) (there_is ∙ sym (options_partial total front (omega (arith, short, is)) (omega (arith, short, is)))) are))
    (omega (arith, short, is, least))

-- an option is wrong
pub wrong_option : (a m c : Option (List ℕ)) (s : SectionOf) (total kept place : ℕ) (head front : List ℕ) (whole : Bool) → IsInBlock a c s description_type total front → 20 ≤ total
    → 16 ≤ length front → kept ≡ min (total - 4) 65600 → length head ≤ kept → FillsTo kept (Ok whole) head front m c → (there : List ℕ) → there ≡ drop 16 front → HasWrongOption s.order (total - 20) there place
    → StopsBy (IsBlockFault s) (Fault Length (16 + place)) a c
wrong_option a m c s total kept place head front true i least some is before (fills, size) there there_is wrong = (
  (front, i.read),
  λ all known.
      let (rest, left, split) = Consumes-known a c front all i.read known in
      let same : total_of s.order (front ++ rest) ≡ total = number32_front s.order front rest 4 (omega (arith, some)) ∙ i.total_is in
      rw split (inr (inr (inl (
        begun_of a c s description_type total front rest i,
        rw (length-append front rest) (omega (arith, some)),
        place,
        subst (λ (t : ℕ). HasWrongOption s.order (t - 20) (options_there t (front ++ rest)) place) (sym same)
            (subst (λ (o : List ℕ). HasWrongOption s.order (total - 20) o place) (there_is ∙ sym (options_whole total kept front rest least (size before) is)) wrong),
        refl,
      )))),
)
wrong_option a m c s total kept place head front false i least some is before (fills, short, end) there there_is wrong = (
  (front, i.read),
  λ all known. rw (all_read a c front all i.read end known) (inr (inr (inl (
    subst (λ (o : List ℕ). IsBegun s.order description_type o) (append-nil front) (begun_of a c s description_type total front [] i),
    some,
    place,
    subst (λ (t : ℕ). HasWrongOption s.order (t - 20) (options_there t front) place) (sym i.total_is)
        (subst (λ (o : List ℕ). HasWrongOption s.order (total - 20) o place) (there_is ∙ sym (options_partial total front (omega (arith, short, is)) (omega (arith, short, is)))) wrong),
    refl,
  )))),
)

-- ---- a whole description

pub is_description : (a b : Option (List ℕ)) (s : SectionOf) (total kept : ℕ) (front rest : List ℕ) (options : List OptionOf) (link : ℕ) → IsInBlock a b s description_type total front
    → 20 ≤ total → 16 ≤ length front → length front ≡ kept → kept ≡ min (total - 4) 65600 → length (front ++ rest) ≡ total → IsBlock s.order description_type (front ++ rest)
    → (there : List ℕ) → there ≡ drop 16 front → AreOptions s.order (total - 20) options there → link ≡ number16 s.order front 8
    → IsDescription s (front ++ rest) (description_of link s.interfaces (found_in s.order options))
is_description a b s total kept front rest options link i least some size is whole block there there_is are link_is = record {
  block = block;
  options = options;
  are = subst (λ (t : ℕ). AreOptions s.order (t - 20) options (options_there t (front ++ rest))) (sym whole)
      (subst (λ (o : List ℕ). AreOptions s.order (total - 20) options o) (there_is ∙ sym (options_whole total kept front rest least size is)) are);
  said = ap (λ l. description_of l s.interfaces (found_in s.order options)) (link_is ∙ sym (number16_front s.order front rest 8 (omega (arith, some))));
}

-- ---- what filling comes to

pub filled_as : (kept : ℕ) (r r' : Result Bool ReadFailed) (old new : List ℕ) (b c : Option (List ℕ)) → r ≡ r' → FillsTo kept r old new b c → FillsTo kept r' old new b c
filled_as kept r r' old new b c is fills = subst (λ (x : Result Bool ReadFailed). FillsTo kept x old new b c) is fills

pub fills_any : (kept : ℕ) (whole : Bool) (old new : List ℕ) (b c : Option (List ℕ)) → FillsTo kept (Ok whole) old new b c → Fills old new b c
fills_any kept true old new b c fills = fills.0
fills_any kept false old new b c fills = fills.0

pub longer : (old new : List ℕ) (b c : Option (List ℕ)) → Fills old new b c → length old ≤ length new
longer old new b c (more, is, next) = rw (is, length-append old more) (omega arith)
