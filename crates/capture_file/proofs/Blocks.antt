-- What the reading of a block comes to.
use Rattle.std.proofs.Common.{◌≡◌, ◌≢◌, ◌⊎◌, ℕ, ◌+◌, ◌-◌, ◌≤◌, ◌<◌, List, [], ◌++◌, length, Bool, true, false, sym, ap, ◌∙◌, subst, refl, inl, inr, arith, Option, Some, None, Result, Ok, Err}
use Rattle.std.proofs.Common.{length-append, append_assoc}
use Rattle.std.proofs.Common.{take, drop, min, ◌*◌, ◌^◌}
use Rattle.std.specs.Prelude.{slice_range}
use Rattle.std.proofs.lemmas.List.{take_all, take_at, take-take, length-take, drop-append-le, length-drop}
use Rattle.ptp_units.specs.Moment.{Stamp}
use Rattle.capture_file.specs.Clock.{time_at}
use Rattle.capture_file.specs.Packet.{InterfaceOf, PacketOf, Captured, packet_at}
use Rattle.std.proofs.lemmas.Bool.{and_parts, leb-true, leb-false}
use Rattle.std.specs.Prelude.{nat_le, ◌==◌, ◌%◌}
use Rattle.std.specs.Prelude.{⊤, slice_get}
use Rattle.std.specs.Io.KnownBytes.{Consumes, IsAtEnd, prepend_known}
use Rattle.std.proofs.KnownBytes.{Consumes-trans}
use Rattle.text_lines.proofs.KnownOctets.{Consumes-known}
use Rattle.capture_file.specs.declared.fault.CaptureFault.TheVariants.{NoCapture, Version, ByteOrderMagic, Length, Interface, CutOff}
use Rattle.capture_file.specs.declared.order.ByteOrder.TheVariants.{Big}
use Rattle.capture_file.specs.declared.packet.Packet.{Packet}
use Rattle.capture_file.specs.declared.part.PartStop.{PartStop}
use Rattle.capture_file.specs.declared.part.PartStop.TheVariants.{Read, Memory, Fault}
use Rattle.capture_file.specs.Order.{number32}
use Rattle.capture_file.specs.Options.{OptionOf, AreOptions}
use Rattle.capture_file.specs.Pcapng.{BeginsSection, IsBlock, is_length_of, padded, enhanced_packet_type, description_type, simple_packet_type, old_packet_type}
use Rattle.capture_file.specs.Section.{DescriptionOf, SectionOf, IsSimple, options_there, packet_time}
use Rattle.capture_file.specs.Wrong.{total_of, IsBegun, IsBlockSoFar, IsBlockFault}
use Rattle.capture_file.specs.Inner.Octets.{Fills}
use Rattle.capture_file.specs.Inner.Reading.{Wants, Closes, StopsBy, IsBlockHead, ReadsBlock, ReadsBlockHead}
use Rattle.capture_file.proofs.Ends.{last_of}
use Rattle.capture_file.proofs.Fronts.{number32_front, all_read, consumes_front}

-- ---- within a block

-- the octets that were read of a block, by its type and its total length
pub record IsInBlock (a b : Option (List ℕ)) (s : SectionOf) (kind total : ℕ) (octets : List ℕ) : Type 0 where
  pub read : Consumes a b octets
  pub head : 8 ≤ length octets
  pub kind_is : number32 s.order octets 0 ≡ kind
  pub total_is : number32 s.order octets 4 ≡ total
  pub size : is_length_of kind total ≡ true
  pub other : BeginsSection octets → ⊥

pub in_block : (b : Option (List ℕ)) (s : SectionOf) (kind total : ℕ) (front : List ℕ) → IsBlockHead s.order kind total front
    → IsInBlock (prepend_known front b) b s kind total front
in_block b s kind total front h = record {
  read = consumes_front b front;
  head = (let size = h.length_is in omega arith);
  kind_is = h.kind_is;
  total_is = h.total_is;
  size = h.size;
  other = h.other;
}

-- with those behind them
pub in_block_more : (a b c : Option (List ℕ)) (s : SectionOf) (kind total : ℕ) (front more : List ℕ) → IsInBlock a b s kind total front → Consumes b c more
    → IsInBlock a c s kind total (front ++ more)
in_block_more a b c s kind total front more i next = record {
  read = Consumes-trans a b c front more i.read next;
  head = rw (length-append front more) (let head = i.head in omega arith);
  kind_is = number32_front s.order front more 0 (let head = i.head in omega arith) ∙ i.kind_is;
  total_is = number32_front s.order front more 4 (let head = i.head in omega arith) ∙ i.total_is;
  size = i.size;
  other = λ begins. i.other (sym (number32_front Big front more 0 (let head = i.head in omega arith)) ∙ begins);
}

pub in_block_filled : (a b c : Option (List ℕ)) (s : SectionOf) (kind total : ℕ) (front new : List ℕ) → IsInBlock a b s kind total front → Fills front new b c
    → IsInBlock a c s kind total new
in_block_filled a b c s kind total front new i (more, is, next) = rw is (in_block_more a b c s kind total front more i next)

-- what of the fields is there is sound
pub record AreSound (s : SectionOf) (kind : ℕ) (octets : List ℕ) : Type 0 where
  pub described : kind ≡ enhanced_packet_type → 12 ≤ length octets
      → (interface : DescriptionOf) × (slice_get s.interfaces (number32 s.order octets 8) ≡ Some interface)
  pub fits : kind ≡ enhanced_packet_type → 24 ≤ length octets → 32 + padded (number32 s.order octets 20) ≤ total_of s.order octets
  pub options : kind ≡ description_type → 16 ≤ length octets → (options : List OptionOf) × AreOptions s.order
      (total_of s.order octets - 20) options (options_there (total_of s.order octets) octets)

so_far : (a b : Option (List ℕ)) (s : SectionOf) (kind total : ℕ) (octets : List ℕ) → IsInBlock a b s kind total octets → AreSound s kind octets → IsBlockSoFar s octets
so_far a b s kind total octets i sound = record {
  kind = kind;
  begun = record { head = i.head; kind_is = i.kind_is; size = ap (is_length_of kind) i.total_is ∙ i.size };
  other = i.other;
  described = sound.described;
  fits = sound.fits;
  options = sound.options;
}

-- ---- where it stops

not_empty : (octets : List ℕ) → 8 ≤ length octets → octets ≢ []
not_empty octets least is = absurd (omega (arith, least, ap length is))

-- the input ends within the block
pub block_cut : (a c : Option (List ℕ)) (s : SectionOf) (kind total : ℕ) (octets : List ℕ) → IsInBlock a c s kind total octets → IsAtEnd c → AreSound s kind octets
    → length octets < total → StopsBy (IsBlockFault s) (Fault CutOff 0) a c
block_cut a c s kind total octets i end sound short = (
  (octets, i.read),
  λ all known. rw (all_read a c octets all i.read end known) (
    refl,
    not_empty octets i.head,
    inr (so_far a c s kind total octets i sound, (let is = i.total_is in omega (arith, short))),
  ),
)

-- octets that are wanted aren't there
pub block_stops : (a b c : Option (List ℕ)) (s : SectionOf) (kind total size : ℕ) (front new : List ℕ) (stop : PartStop) → IsInBlock a b s kind total front → size ≤ total
    → Wants {T = ⊤} size (Err stop) front new b c → (length new < size → Fills front new b c → AreSound s kind new) → StopsBy (IsBlockFault s) stop a c
block_stops a b c s kind total size front new Read i most (more, is, next) sound = (new, (in_block_filled a b c s kind total front new i (more, is, next)).read)
block_stops a b c s kind total size front new Memory i most wants sound = absurd wants
block_stops a b c s kind total size front new (Fault CutOff place) i most (fills, short, end, first) sound =
    rw first (block_cut a c s kind total new (in_block_filled a b c s kind total front new i fills) end (sound short fills) (omega (arith, short, most)))
block_stops a b c s kind total size front new (Fault NoCapture place) i most wants sound = absurd wants
block_stops a b c s kind total size front new (Fault Version place) i most wants sound = absurd wants
block_stops a b c s kind total size front new (Fault ByteOrderMagic place) i most wants sound = absurd wants
block_stops a b c s kind total size front new (Fault Length place) i most wants sound = absurd wants
block_stops a b c s kind total size front new (Fault Interface place) i most wants sound = absurd wants

-- the block isn't closed
pub close_stops : (a b c : Option (List ℕ)) (s : SectionOf) (kind total seen : ℕ) (front : List ℕ) (stop : PartStop) → IsInBlock a b s kind total front → seen ≡ length front
    → ((rest : List ℕ) → AreSound s kind (front ++ rest)) → Closes {T = ⊤} s.order total seen (Err stop) b c → StopsBy (IsBlockFault s) stop a c
close_stops a b c s kind total seen front Read i is sound (rest, read) = (front ++ rest, Consumes-trans a b c front rest i.read read)
close_stops a b c s kind total seen front Memory i is sound closes = absurd closes
close_stops a b c s kind total seen front (Fault CutOff place) i is sound (rest, read, short, end, first) =
    rw first (block_cut a c s kind total (front ++ rest) (in_block_more a b c s kind total front rest i read) end (sound rest)
    (rw (length-append front rest) (omega (arith, is, short))))
close_stops a b c s kind total seen front (Fault Length place) i is sound (rest, read, least, size, differs, at) =
    let all = in_block_more a b c s kind total front rest i read in
    let whole : length (front ++ rest) ≡ total = length-append front rest ∙ omega (arith, is, size) in (
      (front ++ rest, all.read),
      λ octets known.
          let (unread, left, split) = Consumes-known a c (front ++ rest) octets all.read known in
          rw split (inr (inr (inr (
            so_far_behind unread all,
            (
              rw (length-append (front ++ rest) unread) (omega (arith, whole, total_behind unread all)),
              (λ same. differs (sym (end_is unread all whole) ∙ same ∙ total_behind unread all)),
              at ∙ sym (total_behind unread all),
            ),
          )))),
    )
  where
    total_behind : (unread : List ℕ) → IsInBlock a c s kind total (front ++ rest) → total_of s.order ((front ++ rest) ++ unread) ≡ total
    total_behind unread all = number32_front s.order (front ++ rest) unread 4 (let head = all.head in omega arith) ∙ all.total_is

    end_is : (unread : List ℕ) → IsInBlock a c s kind total (front ++ rest) → length (front ++ rest) ≡ total
        → number32 s.order ((front ++ rest) ++ unread) (total_of s.order ((front ++ rest) ++ unread) - 4) ≡ number32 s.order rest (length rest - 4)
    end_is unread all whole =
        ap (λ n. number32 s.order ((front ++ rest) ++ unread) (n - 4)) (total_behind unread all ∙ sym whole)
        ∙ number32_front s.order (front ++ rest) unread (length (front ++ rest) - 4) (rw (length-append front rest) (omega (arith, least)))
        ∙ last_of s.order front rest least

    in_block_again : (unread : List ℕ) → IsInBlock a c s kind total (front ++ rest)
        → IsInBlock (prepend_known ((front ++ rest) ++ unread) (Some [])) (Some []) s kind total ((front ++ rest) ++ unread)
    in_block_again unread all = record {
      read = consumes_front (Some []) ((front ++ rest) ++ unread);
      head = rw (length-append (front ++ rest) unread) (let head = all.head in omega arith);
      kind_is = number32_front s.order (front ++ rest) unread 0 (let head = all.head in omega arith) ∙ all.kind_is;
      total_is = total_behind unread all;
      size = all.size;
      other = λ begins. all.other (sym (number32_front Big (front ++ rest) unread 0 (let head = all.head in omega arith)) ∙ begins);
    }

    so_far_behind : (unread : List ℕ) → IsInBlock a c s kind total (front ++ rest) → IsBlockSoFar s ((front ++ rest) ++ unread)
    so_far_behind unread all =
        so_far (prepend_known ((front ++ rest) ++ unread) (Some [])) (Some []) s kind total ((front ++ rest) ++ unread)
        (in_block_again unread all) (rw (append_assoc front rest unread) (sound (rest ++ unread)))
close_stops a b c s kind total seen front (Fault NoCapture place) i is sound closes = absurd closes
close_stops a b c s kind total seen front (Fault Version place) i is sound closes = absurd closes
close_stops a b c s kind total seen front (Fault ByteOrderMagic place) i is sound closes = absurd closes
close_stops a b c s kind total seen front (Fault Interface place) i is sound closes = absurd closes

pub reads_no_block : (a c : Option (List ℕ)) (old new : SectionOf) (total : ℕ) (r : Result (Option Packet) PartStop) (stop : PartStop) → r ≡ Err stop
    → StopsBy (IsBlockFault old) stop a c → ReadsBlock old new total r a c
reads_no_block a c old new total (Ok packet) stop is stops = absurd cc
reads_no_block a c old new total (Err other) stop is stops = let same : other ≡ stop = cc in rw same stops

-- ---- a whole block

pub is_block : (a b c : Option (List ℕ)) (s : SectionOf) (kind total seen : ℕ) (front rest : List ℕ) → IsInBlock a b s kind total front → seen ≡ length front → Consumes b c rest
    → 4 ≤ length rest → seen + length rest ≡ total → number32 s.order rest (length rest - 4) ≡ total → (length (front ++ rest) ≡ total) × IsBlock s.order kind (front ++ rest)
is_block a b c s kind total seen front rest i is next least size same =
    let all = in_block_more a b c s kind total front rest i next in
    let whole : length (front ++ rest) ≡ total = length-append front rest ∙ omega (arith, is, size) in (
      whole,
      record {
        kind_is = all.kind_is;
        size = ap (is_length_of kind) whole ∙ all.size;
        total_length = all.total_is ∙ sym whole;
        total_length_again = last_of s.order front rest least ∙ same ∙ sym whole;
      },
    )

-- of a block of another type nothing can be unsound
pub sound_type : (s : SectionOf) (kind : ℕ) (octets : List ℕ) → kind ≢ enhanced_packet_type → kind ≢ description_type → AreSound s kind octets
sound_type s kind octets enhanced description = record {
  described = λ is least. absurd (enhanced is);
  fits = λ is least. absurd (enhanced is);
  options = λ is least. absurd (description is);
}

-- ---- simple packets, and those of the old kind

pub not_enhanced : (kind : ℕ) → (kind ≡ simple_packet_type) ⊎ (kind ≡ old_packet_type) → kind ≢ enhanced_packet_type
not_enhanced kind (inl is) other = absurd (omega (arith, is, other))
not_enhanced kind (inr is) other = absurd (omega (arith, is, other))

pub not_description : (kind : ℕ) → (kind ≡ simple_packet_type) ⊎ (kind ≡ old_packet_type) → kind ≢ description_type
not_description kind (inl is) other = absurd (omega (arith, is, other))
not_description kind (inr is) other = absurd (omega (arith, is, other))

pub is_simple : (s : SectionOf) (kind : ℕ) (octets : List ℕ) → (kind ≡ simple_packet_type) ⊎ (kind ≡ old_packet_type) → IsBlock s.order kind octets → IsSimple s octets
is_simple s kind octets (inl is) block = inl (subst (λ (k : ℕ). IsBlock s.order k octets) is block)
is_simple s kind octets (inr is) block = inr (subst (λ (k : ℕ). IsBlock s.order k octets) is block)

-- ---- enhanced packets

pub least_enhanced : (total : ℕ) → is_length_of enhanced_packet_type total ≡ true → 32 ≤ total
least_enhanced total size = leb-true 32 total (and_parts (nat_le 32 total) (total % 4 == 0) size).0

-- before the interface is there
pub enhanced_head : (s : SectionOf) (octets : List ℕ) → length octets < 12 → AreSound s enhanced_packet_type octets
enhanced_head s octets short = record {
  described = λ is least. absurd (omega (arith, short, least));
  fits = λ is least. absurd (omega (arith, short, least));
  options = λ is least. absurd (omega (arith, is));
}

-- before the length of what was captured is there
pub enhanced_described : (s : SectionOf) (octets : List ℕ) (d : DescriptionOf) → slice_get s.interfaces (number32 s.order octets 8) ≡ Some d → length octets < 24
    → AreSound s enhanced_packet_type octets
enhanced_described s octets d found short = record {
  described = λ is least. (d, found);
  fits = λ is least. absurd (omega (arith, short, least));
  options = λ is least. absurd (omega (arith, is));
}

pub enhanced_sound : (s : SectionOf) (octets : List ℕ) (d : DescriptionOf) → slice_get s.interfaces (number32 s.order octets 8) ≡ Some d
    → 32 + padded (number32 s.order octets 20) ≤ total_of s.order octets → AreSound s enhanced_packet_type octets
enhanced_sound s octets d found fits = record {
  described = λ is least. (d, found);
  fits = λ is least. fits;
  options = λ is least. absurd (omega (arith, is));
}

-- the interface stays the same with more octets
pub found_more : (b c : Option (List ℕ)) (s : SectionOf) (front new : List ℕ) (d : DescriptionOf) → 12 ≤ length front → Fills front new b c
    → slice_get s.interfaces (number32 s.order front 8) ≡ Some d → slice_get s.interfaces (number32 s.order new 8) ≡ Some d
found_more b c s front new d least (more, is, next) found =
    rw is (ap (slice_get s.interfaces) (number32_front s.order front more 8 least) ∙ found)

pub begun_of : (a b : Option (List ℕ)) (s : SectionOf) (kind total : ℕ) (octets rest : List ℕ) → IsInBlock a b s kind total octets → IsBegun s.order kind (octets ++ rest)
begun_of a b s kind total octets rest i = record {
  head = rw (length-append octets rest) (let head = i.head in omega arith);
  kind_is = number32_front s.order octets rest 0 (let head = i.head in omega arith) ∙ i.kind_is;
  size = ap (is_length_of kind) (number32_front s.order octets rest 4 (let head = i.head in omega arith) ∙ i.total_is) ∙ i.size;
}

-- an interface that wasn't described
pub undescribed : (a b : Option (List ℕ)) (s : SectionOf) (total : ℕ) (octets : List ℕ) → IsInBlock a b s enhanced_packet_type total octets → 12 ≤ length octets
    → slice_get s.interfaces (number32 s.order octets 8) ≡ None → StopsBy (IsBlockFault s) (Fault Interface 8) a b
undescribed a b s total octets i least none = (
  (octets, i.read),
  λ all known.
      let (rest, left, split) = Consumes-known a b octets all i.read known in
      rw split (
        begun_of a b s enhanced_packet_type total octets rest i,
        rw (length-append octets rest) (omega (arith, least)),
        ap (slice_get s.interfaces) (number32_front s.order octets rest 8 least) ∙ none,
        refl,
      ),
)

-- captured octets that don't fit
pub does_not_fit : (a b : Option (List ℕ)) (s : SectionOf) (total : ℕ) (octets : List ℕ) (d : DescriptionOf) → IsInBlock a b s enhanced_packet_type total octets → 24 ≤ length octets
    → slice_get s.interfaces (number32 s.order octets 8) ≡ Some d → total < 32 + padded (number32 s.order octets 20) → StopsBy (IsBlockFault s) (Fault Length 20) a b
does_not_fit a b s total octets d i least found long = (
  (octets, i.read),
  λ all known.
      let (rest, left, split) = Consumes-known a b octets all i.read known in
      let captured : number32 s.order (octets ++ rest) 20 ≡ number32 s.order octets 20 = number32_front s.order octets rest 20 least in
      let whole : total_of s.order (octets ++ rest) ≡ total = number32_front s.order octets rest 4 (omega (arith, least)) ∙ i.total_is in
      rw split (inr (inl (
        begun_of a b s enhanced_packet_type total octets rest i,
        rw (length-append octets rest) (omega (arith, least)),
        (d, ap (slice_get s.interfaces) (number32_front s.order octets rest 8 (omega (arith, least))) ∙ found),
        rw (captured, whole) long,
        refl,
      ))),
)

pub padded_least : (size : ℕ) → size ≤ padded size
padded_least size = omega arith

-- with more octets, once the length of what was captured is there
pub sound_more : (a b : Option (List ℕ)) (s : SectionOf) (total : ℕ) (front new : List ℕ) (d : DescriptionOf) (captured : ℕ) → IsInBlock a b s enhanced_packet_type total front
    → 24 ≤ length front → (b' c : Option (List ℕ)) → Fills front new b' c → slice_get s.interfaces (number32 s.order front 8) ≡ Some d → captured ≡ number32 s.order front 20
    → 32 + padded captured ≤ total → AreSound s enhanced_packet_type new
sound_more a b s total front new d captured i least b' c (more, is, next) found captured_is fits =
    rw is (enhanced_sound s (front ++ more) d
    (ap (slice_get s.interfaces) (number32_front s.order front more 8 (omega (arith, least))) ∙ found)
    (rw (number32_front s.order front more 20 least, sym captured_is, number32_front s.order front more 4 (omega (arith, least)) ∙ i.total_is) fits))

pub sound_behind : (a b : Option (List ℕ)) (s : SectionOf) (total : ℕ) (front new rest : List ℕ) (d : DescriptionOf) (captured : ℕ) → IsInBlock a b s enhanced_packet_type total front
    → 24 ≤ length front → (b' c : Option (List ℕ)) → Fills front new b' c → slice_get s.interfaces (number32 s.order front 8) ≡ Some d → captured ≡ number32 s.order front 20
    → 32 + padded captured ≤ total → AreSound s enhanced_packet_type (new ++ rest)
sound_behind a b s total front new rest d captured i least b' c (more, is, next) found captured_is fits =
    sound_more a b s total front (new ++ rest) d captured i least None None (more ++ rest, ap (λ n. n ++ rest) is ∙ append_assoc front more rest, tt) found captured_is fits

pub behind_interface : (b c : Option (List ℕ)) (s : SectionOf) (front new rest : List ℕ) (d : DescriptionOf) → 24 ≤ length front → Fills front new b c
    → slice_get s.interfaces (number32 s.order front 8) ≡ Some d → slice_get s.interfaces (number32 s.order (new ++ rest) 8) ≡ Some d
behind_interface b c s front new rest d least (more, is, next) found =
    found_more None None s front (new ++ rest) d (omega (arith, least)) (more ++ rest, ap (λ n. n ++ rest) is ∙ append_assoc front more rest, tt) found

pub take_both : (m n : ℕ) (xs : List ℕ) → take m (take n xs) ≡ take (min m n) xs
take_both m n xs = go (nat_le n m) refl
  where
    go : (small : Bool) → nat_le n m ≡ small → take m (take n xs) ≡ take (min m n) xs
    go true is =
        let least = leb-true n m is in
        take_all m (take n xs) (rw (length-take n xs) (omega (arith, least))) ∙ ap (λ k. take k xs) (omega (arith, least))
    go false is =
        let more = leb-false n m is in
        take-take m n xs (omega (arith, more)) ∙ ap (λ k. take k xs) (omega (arith, more))

pub enhanced_is : (time : Option Stamp) (t : Stamp) (interface other : InterfaceOf) (link captured : ℕ) (octets : List ℕ) → time ≡ Some t → interface ≡ other → captured ≤ 65536
    → Captured interface t link (take (28 + captured - 28) (drop 28 octets)) ≡ packet_at time other link (slice_range octets 28 (28 + captured))
enhanced_is time t interface other link captured octets is same most =
    rw (is, sym same) (ap (Captured interface t link) (sym (take_all 65536 (take (28 + captured - 28) (drop 28 octets)) (rw (length-take (28 + captured - 28) (drop 28 octets)) (omega (arith, most))))))

-- those that nobody looks at change no packet
pub packet_kept : (s : SectionOf) (d : DescriptionOf) (front rest : List ℕ) (captured kept : ℕ) → length front ≡ 28 + kept → kept ≡ min captured 65536
    → number32 s.order front 20 ≡ captured → (packet : PacketOf)
    → packet ≡ packet_at (packet_time d s.order front) (record { place = number32 s.order front 8; name = d.name }) d.link (slice_range front 28 (28 + kept))
    → packet ≡ packet_at (packet_time d s.order (front ++ rest)) (record { place = number32 s.order (front ++ rest) 8; name = d.name }) d.link
    (slice_range (front ++ rest) 28 (28 + number32 s.order (front ++ rest) 20))
packet_kept s d front rest captured kept size least captured_is packet is =
    is
    ∙ (λ i. packet_at (time_at d.resolution d.offset (sym (number32_front s.order front rest 12 (omega (arith, size))) i * 2 ^ 32 + sym (number32_front s.order front rest 16 (omega (arith, size))) i))
    (record { place = sym (number32_front s.order front rest 8 (omega (arith, size))) i; name = d.name }) d.link (slice_range front 28 (28 + kept)))
    ∙ same_packet (packet_time d s.order (front ++ rest)) (record { place = number32 s.order (front ++ rest) 8; name = d.name }) d.link _ _ octets_same
  where
    same_packet : (time : Option Stamp) (interface : InterfaceOf) (link : ℕ) (xs ys : List ℕ) → take 65536 xs ≡ take 65536 ys → packet_at time interface link xs ≡ packet_at time interface link ys
    same_packet None interface link xs ys same = refl
    same_packet (Some time) interface link xs ys same = ap (Captured interface time link) same

    captured_there : number32 s.order (front ++ rest) 20 ≡ captured
    captured_there = number32_front s.order front rest 20 (omega (arith, size)) ∙ captured_is

    behind : length (drop 28 front) ≡ kept
    behind = length-drop 28 front ∙ omega (arith, size)

    front_is : take 65536 (slice_range front 28 (28 + kept)) ≡ drop 28 front
    front_is =
        ap (take 65536) (ap (λ n. take n (drop 28 front)) (omega arith) ∙ take_all kept (drop 28 front) (omega (arith, behind)))
        ∙ take_all 65536 (drop 28 front) (omega (arith, behind, least))

    number_is : 28 + captured - 28 ≡ captured
    number_is = omega arith

    whole_is : take 65536 (slice_range (front ++ rest) 28 (28 + captured)) ≡ drop 28 front
    whole_is =
        ap (take 65536) ((λ i. take (number_is i) (drop-append-le 28 front rest (omega (arith, size)) i)))
        ∙ take_both 65536 captured (drop 28 front ++ rest)
        ∙ take_at (drop 28 front) rest (min 65536 captured) (behind ∙ least ∙ omega arith)

    octets_same : take 65536 (slice_range front 28 (28 + kept)) ≡ take 65536 (slice_range (front ++ rest) 28 (28 + number32 s.order (front ++ rest) 20))
    octets_same = front_is ∙ sym whole_is ∙ ap (λ n. take 65536 (slice_range (front ++ rest) 28 (28 + n))) (sym captured_there)

pub same_captured : (b c : Option (List ℕ)) (s : SectionOf) (front new : List ℕ) → 24 ≤ length front → Fills front new b c → number32 s.order new 20 ≡ number32 s.order front 20
same_captured b c s front new least (more, is, next) = rw is (number32_front s.order front more 20 least)

-- memory was refused behind octets that were read
pub no_memory : (a c : Option (List ℕ)) (s : SectionOf) (stop : PartStop) (octets : List ℕ) → stop ≡ Memory → Consumes a c octets → StopsBy (IsBlockFault s) stop a c
no_memory a c s stop octets is read = rw is (octets, read)

-- there is a head
pub block_head_is : (a b : Option (List ℕ)) (there : Bool) (front : List ℕ) → there ≡ true → ReadsBlockHead (Ok there) front a b → Consumes a b front × (length front ≡ 8)
block_head_is a b true front is read = read
block_head_is a b false front is read = absurd cc
