-- Blocks of pcapng that are written are read.
use Rattle.std.proofs.Common.{◌≡◌, ℕ, zero, suc, ◌+◌, ◌-◌, ◌*◌, ◌/◌, ◌%◌, ◌^◌, ◌<◌, ◌≤◌, List, [], ◌∷◌, ◌++◌, length, take, drop, true, refl, sym, ap, ◌∙◌, subst, inl, inr, arith, Option, Some, None}
use Rattle.std.proofs.Common.{length-append, append_assoc, append-nil}
use Rattle.std.specs.Prelude.{All, reverse, replicate, slice_range, IfSome, pos, ◌+ℤ◌, slice_get}
use Rattle.std.specs.List.{flat_map}
use Rattle.std.proofs.lemmas.Bool.{lt-ltb, le-leb, eq-eqb, ne_eqb}
use Rattle.std.proofs.lemmas.List.{reverse-append, take_at, take_all, drop_at, length-replicate}
use Rattle.std.proofs.lemmas.List.Elements.{All-head, All-tail, All-nil, All-cons, All-append}
use Rattle.capture_file.specs.declared.order.ByteOrder.{ByteOrder}
use Rattle.capture_file.specs.declared.order.ByteOrder.TheVariants.{Big, Little}
use Rattle.ptp_units.specs.Moment.{stamp}
use Rattle.capture_file.specs.Clock.{ResolutionOf, time_at, seconds_at}
use Rattle.capture_file.specs.Order.{AreOctets, number16, number32}
use Rattle.capture_file.specs.Options.{OptionOf, FoundOf, IsOption, AreFirst, AreOptions, is_size_of, option_length, name_code, resolution_code, with_option, found_in}
use Rattle.capture_file.specs.Packet.{packet_at}
use Rattle.capture_file.specs.Pcapng.{IsBlock, IsSection, BeginsSection, order_of_magic, is_section_version, padded, least_of, is_length_of, section_type, description_type, enhanced_packet_type}
use Rattle.capture_file.specs.Section.{SectionOf, DescriptionOf, IsDescription, IsEnhanced, IsOther, description_of, options_there, own_name, packet_time}
use Rattle.capture_file.specs.declared.pcap.FractionUnit.{FractionUnit}
use Rattle.capture_file.specs.declared.pcap.FractionUnit.TheVariants.{Microseconds, Nanoseconds}
use Rattle.capture_laws.specs.Writing.{in_two, in_four, unit_size, padding, block_octets, section_header_octets, option_octets, options_octets}
use Rattle.capture_laws.specs.Writing.{WrittenInterface, times_in, decimals_of, name_options, unit_options, interface_options, description_octets, PacketAt, ticks_of}
use Rattle.capture_laws.specs.Writing.{Captures, written_octets, read_name, FitsOption, TellsOther, IsName, FitsInterface, FitsPcapng, FitsPassedOver, pcapng_packet}
use Rattle.capture_file.proofs.Ends.{last_of}
use Rattle.capture_laws.proofs.FirstFour.{no_section}
use Rattle.capture_laws.proofs.Writing.{no_octets, one_octet, both_octets, two_octets, four_octets, two_read, four_read, flat_octets}

-- ---- padding

padding_length : (size : ℕ) → length (padding size) + size ≡ padded size
padding_length size = omega (arith, length-replicate {A = ℕ} (padded size - size) 0)

zeros : (n : ℕ) → AreOctets (replicate n 0)
zeros zero = no_octets
zeros (suc n) = one_octet 0 (replicate n 0) (omega arith) (zeros n)

-- ---- a block

four_length : (order : ByteOrder) (n : ℕ) → length (in_four order n) ≡ 4
four_length Big n = refl
four_length Little n = refl

block_length : (order : ByteOrder) (kind : ℕ) (body : List ℕ) → length (block_octets order kind body) ≡ 12 + length body
block_length Big kind body = omega (arith, length-append body (in_four Big (12 + length body)))
block_length Little kind body = omega (arith, length-append body (in_four Little (12 + length body)))

kind_at : (order : ByteOrder) (kind : ℕ) (body : List ℕ) → kind < 2 ^ 32 → number32 order (block_octets order kind body) 0 ≡ kind
kind_at Big kind body fits = four_read Big kind fits
kind_at Little kind body fits = four_read Little kind fits

total_at : (order : ByteOrder) (kind : ℕ) (body : List ℕ) → 12 + length body < 2 ^ 32 → number32 order (block_octets order kind body) 4 ≡ 12 + length body
total_at Big kind body fits = four_read Big (12 + length body) fits
total_at Little kind body fits = four_read Little (12 + length body) fits

alone : (order : ByteOrder) (n : ℕ) → n < 2 ^ 32 → number32 order (in_four order n) (length (in_four order n) - 4) ≡ n
alone Big n fits = four_read Big n fits
alone Little n fits = four_read Little n fits

block_read : (order : ByteOrder) (kind : ℕ) (body : List ℕ) → kind < 2 ^ 32 → 12 + length body < 2 ^ 32 → is_length_of kind (12 + length body) ≡ true
    → IsBlock order kind (block_octets order kind body)
block_read order kind body kind_fits fits size =
    let total = 12 + length body in
    record {
      kind_is = kind_at order kind body kind_fits;
      size = ap (is_length_of kind) (block_length order kind body) ∙ size;
      total_length = total_at order kind body fits ∙ sym (block_length order kind body);
      total_length_again = last_of order (in_four order kind ++ in_four order total ++ body) (in_four order total) (omega (arith, four_length order total))
          ∙ alone order total fits ∙ sym (block_length order kind body);
    }

pub block_are_octets : (order : ByteOrder) (kind : ℕ) (body : List ℕ) → AreOctets body → AreOctets (block_octets order kind body)
block_are_octets order kind body are =
    let total = in_four order (12 + length body) in
    both_octets (in_four order kind ++ total ++ body) total
    (both_octets (in_four order kind ++ total) body
    (both_octets (in_four order kind) total (four_octets order kind) (four_octets order (12 + length body))) are)
    (four_octets order (12 + length body))

-- ---- options

option_size : (order : ByteOrder) (option : OptionOf) → length (option_octets order option) ≡ option_length option
option_size Big option = omega (arith, length-append option.value (padding (length option.value)), padding_length (length option.value))
option_size Little option = omega (arith, length-append option.value (padding (length option.value)), padding_length (length option.value))

code_at : (order : ByteOrder) (option : OptionOf) (rest : List ℕ) → option.code < 2 ^ 16 → number16 order (option_octets order option ++ rest) 0 ≡ option.code
code_at Big option rest fits = two_read Big option.code fits
code_at Little option rest fits = two_read Little option.code fits

size_at : (order : ByteOrder) (option : OptionOf) (rest : List ℕ) → length option.value < 2 ^ 16
    → number16 order (option_octets order option ++ rest) 2 ≡ length option.value
size_at Big option rest fits = two_read Big (length option.value) fits
size_at Little option rest fits = two_read Little (length option.value) fits

behind_sizes : (order : ByteOrder) (option : OptionOf) (rest : List ℕ)
    → drop 4 (option_octets order option ++ rest) ≡ option.value ++ padding (length option.value) ++ rest
behind_sizes Big option rest = refl
behind_sizes Little option rest = refl

value_at : (order : ByteOrder) (option : OptionOf) (rest : List ℕ)
    → slice_range (option_octets order option ++ rest) 4 (4 + length option.value) ≡ option.value
value_at order option rest =
    let size = length option.value in
    let same : 4 + size - 4 ≡ size = omega arith in
    rw (same, behind_sizes order option rest, append_assoc option.value (padding size) rest)
    (take_at option.value (padding size ++ rest) size refl)

option_read : (order : ByteOrder) (option : OptionOf) (rest : List ℕ) (left : ℕ) → FitsOption option → is_size_of option.code (length option.value) ≡ true
    → left ≡ option_length option + length rest
    → IsOption order left option (option_octets order option ++ rest)
option_read order option rest left fits sized is =
    let long : length (option_octets order option ++ rest) ≡ option_length option + length rest =
    length-append (option_octets order option) rest ∙ ap (λ n. n + length rest) (option_size order option) in
    record {
      head = omega (arith, long);
      code_is = code_at order option rest fits.code;
      some = fits.some;
      size_is = size_at order option rest fits.size;
      size_fits = sized;
      fits = omega (arith, is);
      whole = omega (arith, long);
      value_is = sym (value_at order option rest);
    }

-- of a length that it may have
abbrev pub IsWhole : OptionOf → Type 0
IsWhole option = FitsOption option × (is_size_of option.code (length option.value) ≡ true)

-- one behind the other
options_read : (order : ByteOrder) (left : ℕ) (octets : List ℕ) (xs : List OptionOf) → All IsWhole xs → (end : List ℕ)
    → (earlier : List OptionOf) (before : ℕ) → before ≡ length (flat_map (option_octets order) xs ++ end)
    → AreFirst order left octets earlier before (flat_map (option_octets order) xs ++ end)
    → AreFirst order left octets (reverse xs ++ earlier) (length end) end
options_read order left octets [] all end earlier before is are = subst (λ (n : ℕ). AreFirst order left octets earlier n end) is are
options_read order left octets (x ∷ xs) all end earlier before is are =
    let rest = flat_map (option_octets order) xs ++ end in
    let same : option_octets order x ++ flat_map (option_octets order) xs ++ end ≡ option_octets order x ++ rest =
    append_assoc (option_octets order x) (flat_map (option_octets order) xs) end in
    let long : before ≡ option_length x + length rest =
    is ∙ ap length same ∙ length-append (option_octets order x) rest ∙ ap (λ n. n + length rest) (option_size order x) in
    let one : AreFirst order left octets (x ∷ earlier) (length rest) rest = (
      before,
      option_octets order x ++ rest,
      subst (λ (o : List ℕ). AreFirst order left octets earlier before o) same are,
      option_read order x rest before (All-head IsWhole x xs all).0 (All-head IsWhole x xs all).1 long,
      omega (arith, long),
      sym (drop_at (option_octets order x) rest (option_length x) (option_size order x)),
    ) in
    subst (λ (o : List OptionOf). AreFirst order left octets o (length end) end)
    (sym (append_assoc (reverse xs) (x ∷ []) earlier) ∙ ap (λ o. o ++ earlier) (sym (reverse-append (x ∷ []) xs)))
    (options_read order left octets xs (All-tail IsWhole x xs all) end (x ∷ earlier) (length rest) refl one)

-- with their end
ends : (order : ByteOrder) → number16 order (in_two order 0 ++ in_two order 0) 0 ≡ 0
ends Big = refl
ends Little = refl

end_length : (order : ByteOrder) → length (in_two order 0 ++ in_two order 0) ≡ 4
end_length Big = refl
end_length Little = refl

all_options_read : (order : ByteOrder) (xs : List OptionOf) → All IsWhole xs → AreOptions order (length (options_octets order xs)) (reverse xs) (options_octets order xs)
all_options_read order [] all = (0, [], (refl, refl), inl refl)
all_options_read order (x ∷ xs) all =
    let end = in_two order 0 ++ in_two order 0 in
    let octets = options_octets order (x ∷ xs) in (
      length end,
      end,
      subst (λ (o : List OptionOf). AreFirst order (length octets) octets o (length end) end) (append-nil (reverse (x ∷ xs)))
          (options_read order (length octets) octets (x ∷ xs) all end [] (length octets) refl (refl, refl)),
      inr (inr (inl (omega (arith, end_length order), ends order))),
    )

options_are_octets : (order : ByteOrder) (xs : List OptionOf) → All FitsOption xs → AreOctets (options_octets order xs)
options_are_octets order [] all = no_octets
options_are_octets order (x ∷ xs) all =
    both_octets (flat_map (option_octets order) (x ∷ xs)) (in_two order 0 ++ in_two order 0)
    (flat_octets FitsOption (option_octets order) option_is_octets (x ∷ xs) all)
    (both_octets (in_two order 0) (in_two order 0) (two_octets order 0) (two_octets order 0))
  where
    option_is_octets : (option : OptionOf) → FitsOption option → AreOctets (option_octets order option)
    option_is_octets option fits =
        both_octets _ (padding (length option.value))
        (both_octets _ option.value
        (both_octets (in_two order option.code) (in_two order (length option.value)) (two_octets order option.code) (two_octets order (length option.value)))
        fits.octets)
        (zeros (padded (length option.value) - length option.value))

-- how long they are
option_words : (size : ℕ) → (4 + padded size) % 4 ≡ 0
option_words size = omega arith

flat_words : (order : ByteOrder) (xs : List OptionOf) → length (flat_map (option_octets order) xs) % 4 ≡ 0
flat_words order [] = refl
flat_words order (x ∷ xs) =
    let long = length-append (option_octets order x) (flat_map (option_octets order) xs) in
    let one = option_size order x in
    let rest = flat_words order xs in
    omega arith

options_words : (order : ByteOrder) (xs : List OptionOf) → length (options_octets order xs) % 4 ≡ 0
options_words order [] = refl
options_words order (x ∷ xs) =
    let long = length-append (flat_map (option_octets order) (x ∷ xs)) (in_two order 0 ++ in_two order 0) in
    let words = flat_words order (x ∷ xs) in
    let end = end_length order in
    omega arith

-- ---- a section header

length_fits : (kind least total : ℕ) → least_of kind ≡ least → least ≤ total → total % 4 ≡ 0 → is_length_of kind total ≡ true
length_fits kind least total is enough words = rw (is, le-leb least total enough, eq-eqb (total % 4) 0 words) refl

section_body : ByteOrder → List ℕ → List ℕ
section_body order options =
    in_four order 0x1a2b3c4d ++ in_two order 1 ++ in_two order 0 ++ in_four order 0xffffffff ++ in_four order 0xffffffff ++ options

section_body_length : (order : ByteOrder) (options : List ℕ) → length (section_body order options) ≡ 16 + length options
unfolding section_body
section_body_length Big options = omega arith
section_body_length Little options = omega arith

section_kind : (order : ByteOrder) (options : List ℕ) → BeginsSection (block_octets order section_type (section_body order options))
unfolding section_body
section_kind Big options = refl
section_kind Little options = refl

section_magic : (order : ByteOrder) (options : List ℕ) → order_of_magic (block_octets order section_type (section_body order options)) ≡ Some order
unfolding section_body
section_magic Big options = refl
section_magic Little options = refl

section_version : (order : ByteOrder) (options : List ℕ) → is_section_version order (block_octets order section_type (section_body order options)) ≡ true
unfolding section_body
section_version Big options = refl
section_version Little options = refl

pub section_read : (order : ByteOrder) (options : List OptionOf) → length (options_octets order options) < 2 ^ 32 - 64 → IsSection order (section_header_octets order options)
unfolding section_body
section_read order options fits =
    let octets = options_octets order options in
    let body = section_body order octets in
    let inner : length body ≡ 16 + length octets = section_body_length order octets in
    let words : length octets % 4 ≡ 0 = options_words order options in
    let block : IsBlock order section_type (block_octets order section_type body) =
    block_read order section_type body (omega arith) (omega (arith, inner)) (length_fits section_type 28 (12 + length body) refl (omega (arith, inner)) (omega (arith, inner))) in
    record {
      kind_is = section_kind order octets;
      magic = section_magic order octets;
      size = block.size;
      version = section_version order octets;
      total_length = block.total_length;
      total_length_again = block.total_length_again;
    }

pub section_are_octets : (order : ByteOrder) (options : List OptionOf) → All FitsOption options → AreOctets (section_header_octets order options)
section_are_octets order options all =
    block_are_octets order section_type _
    (both_octets _ (options_octets order options)
    (both_octets _ (in_four order 0xffffffff)
    (both_octets _ (in_four order 0xffffffff)
    (both_octets _ (in_two order 0)
    (both_octets (in_four order 0x1a2b3c4d) (in_two order 1) (four_octets order 0x1a2b3c4d) (two_octets order 1))
    (two_octets order 0))
    (four_octets order 0xffffffff))
    (four_octets order 0xffffffff))
    (options_are_octets order options all))

-- ---- the options of an interface

decimals_less : (unit : FractionUnit) → decimals_of unit < 256
decimals_less Microseconds = omega arith
decimals_less Nanoseconds = omega arith

name_options_fit : (name : Option (List ℕ)) → IfSome name IsName → All IsWhole (name_options name)
name_options_fit None is = All-nil IsWhole
name_options_fit (Some name) is =
    All-cons IsWhole (record { code = name_code; value = name }) []
    (record { code = omega arith; some = λ e. omega arith; octets = is.octets; size = is.size }, refl) (All-nil IsWhole)

unit_options_fit : (told : Option FractionUnit) → All IsWhole (unit_options told)
unit_options_fit None = All-nil IsWhole
unit_options_fit (Some unit) =
    All-cons IsWhole (record { code = resolution_code; value = decimals_of unit ∷ [] }) []
    (record { code = omega arith; some = λ e. omega arith; octets = one_octet (decimals_of unit) [] (decimals_less unit) no_octets; size = omega arith }, refl) (All-nil IsWhole)

-- of other options any length will do
other_whole : (option : OptionOf) → TellsOther option → is_size_of option.code (length option.value) ≡ true
other_whole option (no_name, no_resolution, no_offset) = rw (ne_eqb option.code 9 no_resolution, ne_eqb option.code 14 no_offset) refl

others_whole : (xs : List OptionOf) → All FitsOption xs → All TellsOther xs → All IsWhole xs
others_whole xs fit tell k d within = (fit k d within, other_whole _ (tell k d within))

interface_options_fit : (order : ByteOrder) (interface : WrittenInterface) → FitsInterface order interface → All IsWhole (interface_options interface)
interface_options_fit order interface fits =
    All-append IsWhole (name_options interface.name ++ unit_options interface.told) interface.others
    (All-append IsWhole (name_options interface.name) (unit_options interface.told) (name_options_fit interface.name fits.name) (unit_options_fit interface.told))
    (others_whole interface.others fits.others fits.tell_other)

whole_fit : (xs : List OptionOf) → All IsWhole xs → All FitsOption xs
whole_fit xs all k d within = (all k d within).0

-- they say nothing
other_says : (order : ByteOrder) (option : OptionOf) (found : FoundOf) → TellsOther option → with_option order option.code option.value found ≡ found
other_says order option found (no_name, no_resolution, no_offset) =
    rw (ne_eqb option.code 2 no_name, ne_eqb option.code 9 no_resolution, ne_eqb option.code 14 no_offset) refl

others_say : (order : ByteOrder) (xs : List OptionOf) → All TellsOther xs → (rest : List OptionOf) → found_in order (reverse xs ++ rest) ≡ found_in order rest
others_say order [] all rest = refl
others_say order (x ∷ xs) all rest =
    ap (found_in order) (ap (λ o. o ++ rest) (reverse-append (x ∷ []) xs) ∙ append_assoc (reverse xs) (x ∷ []) rest)
    ∙ others_say order xs (All-tail TellsOther x xs all) (x ∷ rest)
    ∙ other_says order x (found_in order rest) (All-head TellsOther x xs all)

-- what the first of them say
first_say : (order : ByteOrder) (link : ℕ) (earlier : List DescriptionOf) (name : Option (List ℕ)) (told : Option FractionUnit)
    → description_of link earlier (found_in order (reverse (name_options name ++ unit_options told)))
    ≡ record { link = link; resolution = record { base = 10; exponent = decimals_of (times_in told) }; offset = pos 0; name = own_name earlier name }
first_say order link earlier None None = refl
first_say order link earlier None (Some Microseconds) = refl
first_say order link earlier None (Some Nanoseconds) = refl
first_say order link earlier (Some name) None = refl
first_say order link earlier (Some name) (Some Microseconds) = refl
first_say order link earlier (Some name) (Some Nanoseconds) = refl

description_is : (order : ByteOrder) (earlier : List DescriptionOf) (interface : WrittenInterface) → All TellsOther interface.others
    → description_of interface.link earlier (found_in order (reverse (interface_options interface)))
    ≡ record { link = interface.link; resolution = record { base = 10; exponent = decimals_of (times_in interface.told) }; offset = pos 0; name = own_name earlier interface.name }
description_is order earlier interface tell =
    let first = name_options interface.name ++ unit_options interface.told in
    ap (λ o. description_of interface.link earlier (found_in order o)) (reverse-append first interface.others)
    ∙ ap (description_of interface.link earlier) (others_say order interface.others tell (reverse first))
    ∙ first_say order interface.link earlier interface.name interface.told

-- ---- an interface description

description_head : (order : ByteOrder) (link snap_length : ℕ) (options : List ℕ)
    → length (in_two order link ++ in_two order 0 ++ in_four order snap_length ++ options) ≡ 8 + length options
description_head Big link snap_length options = omega arith
description_head Little link snap_length options = omega arith

link_at : (order : ByteOrder) (link snap_length : ℕ) (options : List ℕ) → link < 2 ^ 16
    → number16 order (block_octets order description_type (in_two order link ++ in_two order 0 ++ in_four order snap_length ++ options)) 8 ≡ link
link_at Big link snap_length options fits = two_read Big link fits
link_at Little link snap_length options fits = two_read Little link fits

behind_link : (order : ByteOrder) (link snap_length : ℕ) (options : List ℕ)
    → drop 16 (block_octets order description_type (in_two order link ++ in_two order 0 ++ in_four order snap_length ++ options))
    ≡ options ++ in_four order (12 + length (in_two order link ++ in_two order 0 ++ in_four order snap_length ++ options))
behind_link Big link snap_length options = refl
behind_link Little link snap_length options = refl

options_at : (order : ByteOrder) (link snap_length total : ℕ) (options : List ℕ) → length options ≤ 65584 → total ≡ 20 + length options
    → options_there total (block_octets order description_type (in_two order link ++ in_two order 0 ++ in_four order snap_length ++ options)) ≡ options
options_at order link snap_length total options most is =
    let end = in_four order (12 + length (in_two order link ++ in_two order 0 ++ in_four order snap_length ++ options)) in
    ap (λ o. take 65584 (take (total - 4 - 16) o)) (behind_link order link snap_length options)
    ∙ ap (take 65584) (take_at options end (total - 4 - 16) (omega (arith, is)))
    ∙ take_all 65584 options (omega (arith, most))

-- an interface is described so, where no earlier one has its name
abbrev pub described : WrittenInterface → DescriptionOf
described interface = record {
  link = interface.link;
  resolution = record { base = 10; exponent = decimals_of (times_in interface.told) };
  offset = pos 0;
  name = read_name interface.name;
}

pub description_read : (s : SectionOf) (interface : WrittenInterface) → FitsInterface s.order interface → own_name s.interfaces interface.name ≡ read_name interface.name
    → IsDescription s (description_octets s.order interface) (described interface)
description_read s interface fits own =
    let order = s.order in
    let xs = interface_options interface in
    let options = options_octets order xs in
    let body = in_two order interface.link ++ in_two order 0 ++ in_four order interface.snap_length ++ options in
    let block = block_octets order description_type body in
    let most : length options ≤ 65584 = fits.size in
    let words : length options % 4 ≡ 0 = options_words order xs in
    let inner : length body ≡ 8 + length options = description_head order interface.link interface.snap_length options in
    let long : length block ≡ 20 + length options = block_length order description_type body ∙ omega (arith, inner) in
    let there : options_there (length block) block ≡ options = options_at order interface.link interface.snap_length (length block) options most long in
    let left : length block - 20 ≡ length options = omega (arith, long) in
    record {
      block = block_read order description_type body (omega arith) (omega (arith, inner, most))
          (length_fits description_type 20 (12 + length body) refl (omega (arith, inner)) (omega (arith, inner, words)));
      options = reverse xs;
      are = subst (λ (n : ℕ). AreOptions order n (reverse xs) (options_there (length block) block)) (sym left)
          (subst (λ (o : List ℕ). AreOptions order (length options) (reverse xs) o) (sym there)
          (all_options_read order xs (interface_options_fit order interface fits)));
      said = sym (
          ap (λ l. description_of l s.interfaces (found_in order (reverse xs))) (link_at order interface.link interface.snap_length options fits.link)
          ∙ description_is order s.interfaces interface fits.tell_other
          ∙ ap (λ n. record { link = interface.link; resolution = record { base = 10; exponent = decimals_of (times_in interface.told) }; offset = pos 0; name = n }) own
          );
    }

pub description_are_octets : (order : ByteOrder) (interface : WrittenInterface) → FitsInterface order interface → AreOctets (description_octets order interface)
description_are_octets order interface fits =
    block_are_octets order description_type _
    (both_octets _ (options_octets order (interface_options interface))
    (both_octets _ (in_four order interface.snap_length)
    (both_octets (in_two order interface.link) (in_two order 0) (two_octets order interface.link) (two_octets order 0))
    (four_octets order interface.snap_length))
    (options_are_octets order (interface_options interface) (whole_fit (interface_options interface) (interface_options_fit order interface fits))))

-- ---- an enhanced packet

-- the numbers in front of its octets
place_at : (order : ByteOrder) (place high low captured original : ℕ) (octets pads : List ℕ) → place < 2 ^ 32
    → number32 order (block_octets order enhanced_packet_type (in_four order place ++ in_four order high ++ in_four order low ++ in_four order captured ++ in_four order original ++ octets ++ pads)) 8 ≡ place
place_at Big place high low captured original octets pads fits = four_read Big place fits
place_at Little place high low captured original octets pads fits = four_read Little place fits

high_at : (order : ByteOrder) (place high low captured original : ℕ) (octets pads : List ℕ) → high < 2 ^ 32
    → number32 order (block_octets order enhanced_packet_type (in_four order place ++ in_four order high ++ in_four order low ++ in_four order captured ++ in_four order original ++ octets ++ pads)) 12 ≡ high
high_at Big place high low captured original octets pads fits = four_read Big high fits
high_at Little place high low captured original octets pads fits = four_read Little high fits

low_at : (order : ByteOrder) (place high low captured original : ℕ) (octets pads : List ℕ) → low < 2 ^ 32
    → number32 order (block_octets order enhanced_packet_type (in_four order place ++ in_four order high ++ in_four order low ++ in_four order captured ++ in_four order original ++ octets ++ pads)) 16 ≡ low
low_at Big place high low captured original octets pads fits = four_read Big low fits
low_at Little place high low captured original octets pads fits = four_read Little low fits

captured_at : (order : ByteOrder) (place high low captured original : ℕ) (octets pads : List ℕ) → captured < 2 ^ 32
    → number32 order (block_octets order enhanced_packet_type (in_four order place ++ in_four order high ++ in_four order low ++ in_four order captured ++ in_four order original ++ octets ++ pads)) 20 ≡ captured
captured_at Big place high low captured original octets pads fits = four_read Big captured fits
captured_at Little place high low captured original octets pads fits = four_read Little captured fits

behind_numbers : (order : ByteOrder) (place high low captured original : ℕ) (octets pads : List ℕ)
    → drop 28 (block_octets order enhanced_packet_type (in_four order place ++ in_four order high ++ in_four order low ++ in_four order captured ++ in_four order original ++ octets ++ pads))
    ≡ octets ++ pads ++ in_four order (12 + length (in_four order place ++ in_four order high ++ in_four order low ++ in_four order captured ++ in_four order original ++ octets ++ pads))
behind_numbers Big place high low captured original octets pads = refl
behind_numbers Little place high low captured original octets pads = refl

body_length : (order : ByteOrder) (place high low captured original : ℕ) (octets pads : List ℕ)
    → length (in_four order place ++ in_four order high ++ in_four order low ++ in_four order captured ++ in_four order original ++ octets ++ pads) ≡ 20 + length octets + length pads
body_length Big place high low captured original octets pads = omega (arith, length-append octets pads)
body_length Little place high low captured original octets pads = omega (arith, length-append octets pads)

captured_read : (order : ByteOrder) (place high low captured original : ℕ) (octets pads : List ℕ) → captured ≡ length octets
    → slice_range (block_octets order enhanced_packet_type (in_four order place ++ in_four order high ++ in_four order low ++ in_four order captured ++ in_four order original ++ octets ++ pads)) 28 (28 + captured)
    ≡ octets
captured_read order place high low captured original octets pads is =
    let end = in_four order (12 + length (in_four order place ++ in_four order high ++ in_four order low ++ in_four order captured ++ in_four order original ++ octets ++ pads)) in
    ap (take (28 + captured - 28)) (behind_numbers order place high low captured original octets pads ∙ append_assoc octets pads end)
    ∙ take_at octets (pads ++ end) (28 + captured - 28) (omega (arith, is))

-- the time
halves : (ticks : ℕ) → ticks / 2 ^ 32 * 2 ^ 32 + ticks % 2 ^ 32 ≡ ticks
halves ticks = omega arith

positive : (seconds nanos : ℕ) → seconds < 2 ^ 48 → seconds_at (pos 0 +ℤ pos seconds) nanos ≡ Some (stamp seconds nanos)
positive seconds nanos within = let same : 0 + seconds ≡ seconds = omega arith in rw (same, lt-ltb seconds (2 ^ 48) within) refl

-- so many nanoseconds
time_of : (seconds nanos whole : ℕ) → whole ≡ seconds * 10 ^ 9 + nanos → nanos < 10 ^ 9 → seconds < 2 ^ 48
    → seconds_at (pos 0 +ℤ pos (whole / 10 ^ 9)) (whole % 10 ^ 9) ≡ Some (stamp seconds nanos)
time_of seconds nanos whole is less within =
    let high : whole / 10 ^ 9 ≡ seconds = omega arith in
    let low : whole % 10 ^ 9 ≡ nanos = omega arith in
    (λ i. seconds_at (pos 0 +ℤ pos (high i)) (low i)) ∙ positive seconds nanos within

time_read : (unit : FractionUnit) (seconds nanos : ℕ) → nanos < 10 ^ 9 → nanos % unit_size unit ≡ 0 → seconds * 10 ^ decimals_of unit + nanos / unit_size unit < 2 ^ 64
    → time_at (record { base = 10; exponent = decimals_of unit }) (pos 0) (seconds * 10 ^ decimals_of unit + nanos / unit_size unit) ≡ Some (stamp seconds nanos)
time_read Microseconds seconds nanos less whole fits =
    time_of seconds nanos ((seconds * 10 ^ 6 + nanos / 1000) * 10 ^ 9 / 10 ^ 6) (omega arith) less (omega arith)
time_read Nanoseconds seconds nanos less whole fits =
    time_of seconds nanos ((seconds * 10 ^ 9 + nanos / 1) * 10 ^ 9 / 10 ^ 9) (omega arith) less (omega arith)

pub enhanced_read : (s : SectionOf) (interfaces : List WrittenInterface) (at : PacketAt) → slice_get s.interfaces at.place ≡ Some (described at.interface)
    → FitsPcapng s.order interfaces at → IsEnhanced s (written_octets s.order (Captures at)) (pcapng_packet at)
enhanced_read s interfaces at is fits =
    let order = s.order in
    let place = at.place in
    let unit = times_in at.interface.told in
    let packet = at.packet in
    let ticks = ticks_of unit packet in
    let high = ticks / 2 ^ 32 in
    let low = ticks % 2 ^ 32 in
    let captured = length packet.octets in
    let original = packet.original_length in
    let octets = packet.octets in
    let options = options_octets order at.options in
    let pads = padding captured ++ options in
    let body = in_four order place ++ in_four order high ++ in_four order low ++ in_four order captured ++ in_four order original ++ octets ++ pads in
    let block = block_octets order enhanced_packet_type body in
    let pad : length pads + captured ≡ padded captured + length options = ap (λ n. n + captured) (length-append (padding captured) options) ∙ omega (arith, padding_length captured) in
    let words : length options % 4 ≡ 0 = options_words order at.options in
    let inner : length body ≡ 20 + padded captured + length options = body_length order place high low captured original octets pads ∙ omega arith in
    let long : length block ≡ 32 + padded captured + length options = block_length order enhanced_packet_type body ∙ omega (arith, inner) in
    let most : captured + length options < 2 ^ 32 - 64 = fits.size in
    let captured_fits : captured < 2 ^ 32 = omega arith in
    let total_fits : 12 + length body < 2 ^ 32 = omega (arith, inner) in
    let high_fits : high < 2 ^ 32 = let time = fits.time in omega arith in
    let low_fits : low < 2 ^ 32 = omega arith in
    let place_is = place_at order place high low captured original octets pads fits.place in
    let captured_is = captured_at order place high low captured original octets pads captured_fits in
    let resolution : ResolutionOf = record { base = 10; exponent = decimals_of unit } in
    let read : packet_at (packet_time (described at.interface) order block) (record { place = number32 order block 8; name = read_name at.interface.name }) at.interface.link
    (slice_range block 28 (28 + number32 order block 20)) ≡ pcapng_packet at =
    (λ i. packet_at
    (time_at resolution (pos 0) (high_at order place high low captured original octets pads high_fits i * 2 ^ 32 + low_at order place high low captured original octets pads low_fits i))
    (record { place = place_is i; name = read_name at.interface.name })
    at.interface.link
    (slice_range block 28 (28 + captured_is i)))
    ∙ (λ i. packet_at
    (time_at resolution (pos 0) (halves ticks i))
    (record { place = place; name = read_name at.interface.name })
    at.interface.link
    (captured_read order place high low captured original octets pads refl i))
    ∙ ap (λ t. packet_at t (record { place = place; name = read_name at.interface.name }) at.interface.link octets)
    (time_read unit packet.time.seconds packet.time.nanos fits.nanos fits.whole fits.time) in
    record {
      block = block_read order enhanced_packet_type body (omega arith) total_fits
          (length_fits enhanced_packet_type 32 (12 + length body) refl (omega (arith, inner)) (omega (arith, inner)));
      interface = described at.interface;
      described = ap (slice_get s.interfaces) place_is ∙ is;
      fits = rw (captured_is, long) (omega arith);
      packet_is = sym read;
    }

pub enhanced_are_octets : (order : ByteOrder) (interfaces : List WrittenInterface) (at : PacketAt) → FitsPcapng order interfaces at → AreOctets (written_octets order (Captures at))
enhanced_are_octets order interfaces at fits =
    let ticks = ticks_of (times_in at.interface.told) at.packet in
    let pads = padding (length at.packet.octets) in
    block_are_octets order enhanced_packet_type _
    (both_octets _ (pads ++ options_octets order at.options)
    (both_octets _ at.packet.octets
    (both_octets _ (in_four order at.packet.original_length)
    (both_octets _ (in_four order (length at.packet.octets))
    (both_octets _ (in_four order (ticks % 2 ^ 32))
    (both_octets (in_four order at.place) (in_four order (ticks / 2 ^ 32)) (four_octets order at.place) (four_octets order (ticks / 2 ^ 32)))
    (four_octets order (ticks % 2 ^ 32)))
    (four_octets order (length at.packet.octets)))
    (four_octets order at.packet.original_length))
    fits.octets)
    (both_octets pads (options_octets order at.options) (zeros (padded (length at.packet.octets) - length at.packet.octets)) (options_are_octets order at.options fits.options)))

-- ---- a block that is passed over

pub passed_read : (s : SectionOf) (kind : ℕ) (body : List ℕ) → FitsPassedOver kind body → IsOther s (block_octets s.order kind body)
passed_read s kind body fits =
    let octets = block_octets s.order kind body in
    let least : 4 ≤ length octets = omega (arith, block_length s.order kind body) in (
      kind,
      fits.other,
      no_section s.order octets kind (block_are_octets s.order kind body fits.octets) least (kind_at s.order kind body fits.within) fits.no_section,
      block_read s.order kind body fits.within fits.total_length fits.size,
    )
