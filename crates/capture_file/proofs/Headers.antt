-- What the reading of a section header comes to.
use Rattle.std.proofs.Common.{◌≡◌, ℕ, ◌-◌, ◌≤◌, List, ◌++◌, length, true, false, sym, ap, ◌∙◌, refl, inl, inr, arith, Option, Some, None, Result, Ok, Err}
use Rattle.std.proofs.Common.{length-append}
use Rattle.std.specs.Prelude.{⊤}
use Rattle.std.specs.Io.KnownBytes.{Consumes, IsAtEnd, prepend_known}
use Rattle.std.proofs.KnownBytes.{Consumes-trans}
use Rattle.text_lines.proofs.KnownOctets.{Consumes-known}
use Rattle.capture_file.specs.declared.fault.CaptureFault.{CaptureFault}
use Rattle.capture_file.specs.declared.fault.CaptureFault.TheVariants.{NoCapture, Version, ByteOrderMagic, Length, Interface, CutOff}
use Rattle.capture_file.specs.declared.order.ByteOrder.{ByteOrder}
use Rattle.capture_file.specs.declared.order.ByteOrder.TheVariants.{Big, Little}
use Rattle.capture_file.specs.declared.part.PartStop.{PartStop}
use Rattle.capture_file.specs.declared.part.PartStop.TheVariants.{Read, Memory, Fault}
use Rattle.capture_file.specs.Order.{number32}
use Rattle.capture_file.specs.Pcapng.{BeginsSection, IsSection, section_type, is_length_of, order_of_magic, is_section_version}
use Rattle.capture_file.specs.Wrong.{total_of, IsHeaderSoFar, IsSectionFault}
use Rattle.capture_file.specs.Inner.Octets.{Fills}
use Rattle.capture_file.specs.Inner.Reading.{StopsBy, Wants, Closes, ReadsSection}
use Rattle.capture_file.proofs.Ends.{last_of}
use Rattle.capture_file.proofs.Fronts.{number16_front, number32_front, all_read, consumes_front}

-- ---- numbers, where more octets are there

pub magic_front : (front rest : List ℕ) → 12 ≤ length front → order_of_magic (front ++ rest) ≡ order_of_magic front
magic_front front rest least = rw (number32_front Big front rest 8 least, number32_front Little front rest 8 least) refl

pub section_version_front : (order : ByteOrder) (front rest : List ℕ) → 16 ≤ length front → is_section_version order (front ++ rest) ≡ is_section_version order front
section_version_front order front rest least =
    rw (number16_front order front rest 12 (omega (arith, least)), number16_front order front rest 14 least) refl

-- ---- what was read of a section header

-- the octets that were read of a section header
pub record IsInHeader (a b : Option (List ℕ)) (front : List ℕ) : Type 0 where
  pub read : Consumes a b front
  pub least : 4 ≤ length front
  pub kind : BeginsSection front

pub in_header : (b : Option (List ℕ)) (front : List ℕ) → 4 ≤ length front → BeginsSection front → IsInHeader (prepend_known front b) b front
in_header b front least kind = record { read = consumes_front b front; least = least; kind = kind }

-- with more octets
pub in_header_more : (a b c : Option (List ℕ)) (front new : List ℕ) → IsInHeader a b front → Fills front new b c → IsInHeader a c new
in_header_more a b c front new header (more, is, next) = record {
  read = rw is (Consumes-trans a b c front more header.read next);
  least = rw (is, length-append front more) (let least = header.least in omega arith);
  kind = rw is (number32_front Big front more 0 header.least ∙ header.kind);
}

-- twelve octets that are sound
pub twelve_sound : (order : ByteOrder) (front : List ℕ) → length front ≡ 12 → order_of_magic front ≡ Some order → is_length_of section_type (total_of order front) ≡ true
    → IsHeaderSoFar order front
twelve_sound order front there magic size =
    record { there = omega (arith, there); magic = magic; size = size; version = λ least. absurd (omega (arith, there, least)) }

-- with more octets
so_far_more : (order : ByteOrder) (front more : List ℕ) → IsHeaderSoFar order front
    → (16 ≤ length (front ++ more) → is_section_version order (front ++ more) ≡ true) → IsHeaderSoFar order (front ++ more)
so_far_more order front more so_far version = record {
  there = rw (length-append front more) (let there = so_far.there in omega arith);
  magic = magic_front front more so_far.there ∙ so_far.magic;
  size = rw (number32_front order front more 4 (let there = so_far.there in omega arith)) so_far.size;
  version = version;
}

pub so_far_filled : (order : ByteOrder) (b c : Option (List ℕ)) (front new : List ℕ) → IsHeaderSoFar order front → Fills front new b c
    → (16 ≤ length new → is_section_version order new ≡ true) → IsHeaderSoFar order new
so_far_filled order b c front new so_far (more, is, next) version =
    rw is (so_far_more order front more so_far (λ least. rw (sym is) (version (rw is least))))

pub total_filled : (order : ByteOrder) (b c : Option (List ℕ)) (front new : List ℕ) → 8 ≤ length front → Fills front new b c → total_of order new ≡ total_of order front
total_filled order b c front new least (more, is, next) = rw is (number32_front order front more 4 least)

-- with more octets behind a version that is known
so_far_behind : (order : ByteOrder) (front rest : List ℕ) → 16 ≤ length front → IsHeaderSoFar order front → IsHeaderSoFar order (front ++ rest)
so_far_behind order front rest least so_far =
    so_far_more order front rest so_far (λ more. section_version_front order front rest least ∙ so_far.version least)

-- ---- why a section header isn't read

pub reads_no_header : (a c : Option (List ℕ)) (r : Result (ByteOrder × ℕ) PartStop) (stop : PartStop) → r ≡ Err stop → StopsBy IsSectionFault stop a c → ReadsSection r a c
reads_no_header a c (Ok header) stop is stops = absurd cc
reads_no_header a c (Err other) stop is stops = let same : other ≡ stop = cc in rw same stops

-- a fault of octets that were read, whatever is behind them
stops_at : (a b : Option (List ℕ)) (front : List ℕ) (fault : CaptureFault) (place : ℕ) → Consumes a b front
    → ((rest : List ℕ) → IsSectionFault (front ++ rest) fault place) → StopsBy IsSectionFault (Fault fault place) a b
stops_at a b front fault place read wrong = (
  (front, read),
  λ octets known.
      let (rest, left, split) = Consumes-known a b front octets read known in
      rw split (wrong rest),
)

-- an input that ends behind them
cut_at : (a c : Option (List ℕ)) (all : List ℕ) (place : ℕ) → Consumes a c all → IsAtEnd c → place ≡ 0 → IsSectionFault all CutOff 0 → StopsBy IsSectionFault (Fault CutOff place) a c
cut_at a c all place read end first cut =
    ((all, read), λ octets known. rw (all_read a c all octets read end known, first) cut)

-- fewer octets than tell the order
pub twelve_stop : (a b c : Option (List ℕ)) (front new : List ℕ) (stop : PartStop) → IsInHeader a b front → Wants {T = ⊤} 12 (Err stop) front new b c
    → StopsBy IsSectionFault stop a c
twelve_stop a b c front new Read header fills = let after = in_header_more a b c front new header fills in (new, after.read)
twelve_stop a b c front new Memory header wants = absurd wants
twelve_stop a b c front new (Fault CutOff place) header (fills, short, end, first) =
    let after = in_header_more a b c front new header fills in cut_at a c new place after.read end first (refl, inl short)
twelve_stop a b c front new (Fault NoCapture place) header wants = absurd wants
twelve_stop a b c front new (Fault Version place) header wants = absurd wants
twelve_stop a b c front new (Fault ByteOrderMagic place) header wants = absurd wants
twelve_stop a b c front new (Fault Length place) header wants = absurd wants
twelve_stop a b c front new (Fault Interface place) header wants = absurd wants

-- no order
pub wrong_magic : (a b : Option (List ℕ)) (front : List ℕ) → IsInHeader a b front → length front ≡ 12 → order_of_magic front ≡ None
    → StopsBy IsSectionFault (Fault ByteOrderMagic 8) a b
wrong_magic a b front header there none =
    stops_at a b front ByteOrderMagic 8 header.read
    (λ rest. (rw (length-append front rest) (omega (arith, there)), magic_front front rest (omega (arith, there)) ∙ none, refl))

-- a total length that is none
pub wrong_size : (a b : Option (List ℕ)) (order : ByteOrder) (front : List ℕ) → IsInHeader a b front → length front ≡ 12 → order_of_magic front ≡ Some order
    → is_length_of section_type (total_of order front) ≡ false → StopsBy IsSectionFault (Fault Length 4) a b
wrong_size a b order front header there magic wrong =
    stops_at a b front Length 4 header.read
    (λ rest. (
      order,
      inl (
        rw (length-append front rest) (omega (arith, there)),
        magic_front front rest (omega (arith, there)) ∙ magic,
        rw (number32_front order front rest 4 (omega (arith, there))) wrong,
        refl,
      ),
    ))

-- fewer octets than tell the version
pub sixteen_stop : (a b c : Option (List ℕ)) (order : ByteOrder) (front new : List ℕ) (stop : PartStop) → IsInHeader a b front → IsHeaderSoFar order front
    → 16 ≤ total_of order front → Wants {T = ⊤} 16 (Err stop) front new b c → StopsBy IsSectionFault stop a c
sixteen_stop a b c order front new Read header so_far least fills = let after = in_header_more a b c front new header fills in (new, after.read)
sixteen_stop a b c order front new Memory header so_far least wants = absurd wants
sixteen_stop a b c order front new (Fault CutOff place) header so_far least (fills, short, end, first) =
    let after = in_header_more a b c front new header fills in
    let same = total_filled order b c front new (let there = so_far.there in omega arith) fills in
    cut_at a c new place after.read end first (
      refl,
      inr (order, so_far_filled order b c front new so_far fills (λ long. absurd (omega (arith, short, long))), omega (arith, short, least, same)),
    )
sixteen_stop a b c order front new (Fault NoCapture place) header so_far least wants = absurd wants
sixteen_stop a b c order front new (Fault Version place) header so_far least wants = absurd wants
sixteen_stop a b c order front new (Fault ByteOrderMagic place) header so_far least wants = absurd wants
sixteen_stop a b c order front new (Fault Length place) header so_far least wants = absurd wants
sixteen_stop a b c order front new (Fault Interface place) header so_far least wants = absurd wants

-- a version that isn't known
pub wrong_version : (a b c : Option (List ℕ)) (order : ByteOrder) (front new : List ℕ) → IsInHeader a b front → IsHeaderSoFar order front → Fills front new b c
    → length new ≡ 16 → is_section_version order new ≡ false → StopsBy IsSectionFault (Fault Version 12) a c
wrong_version a b c order front new header so_far fills there wrong =
    let after = in_header_more a b c front new header fills in
    let same = total_filled order b c front new (let there = so_far.there in omega arith) fills in
    stops_at a c new Version 12 after.read
    (λ rest. (
      order,
      rw (length-append new rest) (omega (arith, there)),
      magic_front new rest (omega (arith, there)) ∙ magic_filled fills,
      rw (number32_front order new rest 4 (omega (arith, there)), same) so_far.size,
      section_version_front order new rest (omega (arith, there)) ∙ wrong,
      refl,
    ))
  where
    magic_filled : Fills front new b c → order_of_magic new ≡ Some order
    magic_filled (more, is, next) = rw is (magic_front front more so_far.there ∙ so_far.magic)

-- an end that is cut off, or is another
pub end_stops : (a b c : Option (List ℕ)) (order : ByteOrder) (total : ℕ) (front : List ℕ) (stop : PartStop) → Consumes a b front → length front ≡ 16
    → IsHeaderSoFar order front → total_of order front ≡ total → Closes {T = ⊤} order total 16 (Err stop) b c → StopsBy IsSectionFault stop a c
end_stops a b c order total front Read first there so_far is (rest, read) = (front ++ rest, Consumes-trans a b c front rest first read)
end_stops a b c order total front Memory first there so_far is closes = absurd closes
end_stops a b c order total front (Fault CutOff place) first there so_far is (rest, read, short, end, start) =
    cut_at a c (front ++ rest) place (Consumes-trans a b c front rest first read) end start (
      refl,
      inr (
        order,
        so_far_behind order front rest (omega (arith, there)) so_far,
        rw (length-append front rest, number32_front order front rest 4 (omega (arith, there)), there, is) short,
      ),
    )
end_stops a b c order total front (Fault Length place) first there so_far is (rest, read, least, whole, other, before_end) =
    stops_at a c (front ++ rest) Length place (Consumes-trans a b c front rest first read) wrong
  where
    all : length (front ++ rest) ≡ total
    all = length-append front rest ∙ omega (arith, there, whole)

    last : (more : List ℕ) → number32 order ((front ++ rest) ++ more) (total - 4) ≡ number32 order rest (length rest - 4)
    last more =
        number32_front order (front ++ rest) more (total - 4) (omega (arith, all, whole))
        ∙ ap (λ n. number32 order (front ++ rest) (n - 4)) (sym all)
        ∙ last_of order front rest least

    total_is : (more : List ℕ) → total_of order ((front ++ rest) ++ more) ≡ total
    total_is more =
        number32_front order (front ++ rest) more 4 (omega (arith, all, whole))
        ∙ number32_front order front rest 4 (omega (arith, there))
        ∙ is

    wrong : (more : List ℕ) → IsSectionFault ((front ++ rest) ++ more) Length place
    wrong more = (
      order,
      inr (
        so_far_behind order (front ++ rest) more (omega (arith, all, whole)) (so_far_behind order front rest (omega (arith, there)) so_far),
        (
          rw (total_is more, length-append (front ++ rest) more) (omega (arith, all)),
          rw (total_is more) (λ same. other (sym (last more) ∙ same)),
          rw (total_is more) before_end,
        ),
      ),
    )
end_stops a b c order total front (Fault NoCapture place) first there so_far is closes = absurd closes
end_stops a b c order total front (Fault Version place) first there so_far is closes = absurd closes
end_stops a b c order total front (Fault ByteOrderMagic place) first there so_far is closes = absurd closes
end_stops a b c order total front (Fault Interface place) first there so_far is closes = absurd closes

-- ---- a section header that is whole

is_section : (order : ByteOrder) (total : ℕ) (front rest : List ℕ) → BeginsSection front → length front ≡ 16 → IsHeaderSoFar order front → total_of order front ≡ total
    → 4 ≤ length rest → length (front ++ rest) ≡ total → number32 order rest (length rest - 4) ≡ total → IsSection order (front ++ rest)
is_section order total front rest kind there so_far is least whole again = record {
  kind_is = number32_front Big front rest 0 (omega (arith, there)) ∙ kind;
  magic = magic_front front rest (omega (arith, there)) ∙ so_far.magic;
  size = ap (is_length_of section_type) (whole ∙ sym is) ∙ so_far.size;
  version = section_version_front order front rest (omega (arith, there)) ∙ so_far.version (omega (arith, there));
  total_length = number32_front order front rest 4 (omega (arith, there)) ∙ is ∙ sym whole;
  total_length_again = last_of order front rest least ∙ again ∙ sym whole;
}

pub reads_header : (a b c : Option (List ℕ)) (order : ByteOrder) (total : ℕ) (front : List ℕ) → IsInHeader a b front → length front ≡ 16 → IsHeaderSoFar order front
    → total_of order front ≡ total → Closes {T = ⊤} order total 16 (Ok tt) b c
    → (octets : List ℕ) × Consumes a c octets × IsSection order octets × (length octets ≡ total)
reads_header a b c order total front header there so_far is (rest, read, least, whole, again) = (
  front ++ rest,
  Consumes-trans a b c front rest header.read read,
  is_section order total front rest header.kind there so_far is least all again,
  all,
)
  where
    all : length (front ++ rest) ≡ total
    all = length-append front rest ∙ omega (arith, there, whole)
