-- Sections of pcapng that are written are read.
use Rattle.std.proofs.Common.{◌≡◌, ◌≢◌, ℕ, zero, suc, List, [], ◌∷◌, ◌++◌, Bool, true, false, refl, sym, ap, ◌∙◌, subst, inl, inr, Option, Some, None}
use Rattle.std.proofs.Common.{append-nil}
use Rattle.std.specs.Prelude.{All, map, reverse, IfSome, slice_get, ◌||◌, if◌then◌else◌}
use Rattle.std.specs.List.{flat_map, list_any}
use Rattle.std.specs.Option.{option_map_or}
use Rattle.std.specs.Str.{bytes_eq}
use Rattle.std.proofs.lemmas.List.{reverse-append, map-append, map_push}
use Rattle.std.proofs.lemmas.List.Elements.{All-head, All-tail}
use Rattle.std.proofs.lemmas.Slice.Eq.{bytes_eq-Decides}
use Rattle.capture_file.specs.declared.order.ByteOrder.{ByteOrder}
use Rattle.capture_file.specs.Name.{is_like_place}
use Rattle.capture_file.specs.Order.{AreOctets}
use Rattle.capture_file.specs.Packet.{PacketOf}
use Rattle.capture_file.specs.Parts.{Form, Start, Section, Part, IsPart, AreParts, form_behind}
use Rattle.capture_file.specs.Section.{SectionOf, begun, has_name, own_name}
use Rattle.capture_laws.specs.Writing.{block_octets, section_header_octets, WrittenInterface, description_octets, PacketAt, written_octets, WrittenBlock}
use Rattle.capture_laws.specs.Writing.{Describes, Captures, PassedOver, WrittenSection, section_octets, pcapng_octets, packets_among, read_name, IsName, FitsInterface}
use Rattle.capture_laws.specs.Writing.{FitsPcapng, HaveOtherNames, FitBehind, FitsSection, pcapng_packet, pcapng_packets, PcapngIsRead}
use Rattle.capture_laws.proofs.WritingBlocks.{block_are_octets, section_read, section_are_octets, described, description_read, description_are_octets}
use Rattle.capture_laws.proofs.WritingBlocks.{enhanced_read, enhanced_are_octets, passed_read}
use Rattle.capture_laws.proofs.Writing.{no_octets, both_octets, flat_octets, AreMore, none_more, one_more, then_more, more_read}

-- ---- names

not_named : (name : List ℕ) (other : Option (List ℕ)) → other ≢ Some name → option_map_or (bytes_eq name) other false ≡ false
not_named name None differs = refl
not_named name (Some other) differs =
    go (bytes_eq name other) refl
  where
    go : (b : Bool) → bytes_eq name other ≡ b → bytes_eq name other ≡ false
    go true is = absurd (differs (ap (λ n. Some n) (sym ((bytes_eq-Decides name other).0 is))))
    go false is = is

not_read : (name : List ℕ) (other : Option (List ℕ)) → other ≢ Some name → option_map_or (bytes_eq name) (read_name other) false ≡ false
not_read name None differs = refl
not_read name (Some other) differs = go (is_like_place other)
  where
    go : (like : Bool) → option_map_or (bytes_eq name) (if like then None else Some other) false ≡ false
    go true = refl
    go false = not_named name (Some other) differs

none_named : (name : List ℕ) (xs : List WrittenInterface) → All (λ x. x.name ≢ Some name) xs → list_any (has_name name) (map described xs) ≡ false
none_named name [] all = refl
none_named name (x ∷ xs) all =
    rw (not_read name x.name (All-head (λ x. x.name ≢ Some name) x xs all)) (none_named name xs (All-tail (λ x. x.name ≢ Some name) x xs all))

unless_like : (like any : Bool) (name : List ℕ) → any ≡ false → (if like || any then None else Some name) ≡ (if like then None else Some name)
unless_like true any name is = refl
unless_like false any name is = rw is refl

-- a name that no earlier interface has is an interface's own, unless it is as that of a place
own_is : (xs : List WrittenInterface) (name : Option (List ℕ)) → IfSome name IsName → ((n : List ℕ) → name ≡ Some n → All (λ x. x.name ≢ Some n) xs)
    → own_name (map described xs) name ≡ read_name name
own_is xs None is others = refl
own_is xs (Some []) is others = absurd (is.some refl)
own_is xs (Some (c ∷ cs)) is others =
    unless_like (is_like_place (c ∷ cs)) (list_any (has_name (c ∷ cs)) (map described xs)) (c ∷ cs) (none_named (c ∷ cs) xs (others (c ∷ cs) refl))

earlier_others : (xs : List WrittenInterface) (y : WrittenInterface) → All (λ earlier. HaveOtherNames earlier y) xs → (n : List ℕ) → y.name ≡ Some n → All (λ x. x.name ≢ Some n) xs
earlier_others xs y all n is k d within same = all k d within n same is

-- ---- blocks one behind the other

-- a section with these interfaces
abbrev pub section_with : ByteOrder → List WrittenInterface → SectionOf
section_with order interfaces = record { order = order; interfaces = map described interfaces }

get_described : (xs : List WrittenInterface) (place : ℕ) (x : WrittenInterface) → slice_get xs place ≡ Some x → slice_get (map described xs) place ≡ Some (described x)
get_described [] place x is = absurd cc
get_described (y ∷ ys) zero x is = let same : y ≡ x = cc in ap (λ w. Some (described w)) same
get_described (y ∷ ys) (suc place) x is = get_described ys place x is

describes_part : (order : ByteOrder) (xs : List WrittenInterface) (y : WrittenInterface) → FitsInterface order y → All (λ earlier. HaveOtherNames earlier y) xs
    → IsPart (Section (section_with order xs)) (description_octets order y) None (Section (section_with order (xs ++ y ∷ [])))
describes_part order xs y fits others =
    let s = section_with order xs in
    inr (inl (
      described y,
      description_read s y fits (own_is xs y.name fits.name (earlier_others xs y others)),
      ap (λ l. Section (record { order = order; interfaces = l })) (map_push described xs y),
    ))

captures_part : (order : ByteOrder) (xs : List WrittenInterface) (at : PacketAt) → FitsPcapng order xs at
    → IsPart (Section (section_with order xs)) (written_octets order (Captures at)) (Some (pcapng_packet at)) (Section (section_with order xs))
captures_part order xs at fits = (inl (enhanced_read (section_with order xs) xs at (get_described xs at.place at.interface fits.there) fits), refl)

-- the interfaces behind blocks
interfaces_behind : List WrittenInterface → List WrittenBlock → List WrittenInterface
interfaces_behind xs [] = xs
interfaces_behind xs (Describes y ∷ blocks) = interfaces_behind (xs ++ y ∷ []) blocks
interfaces_behind xs (Captures at ∷ blocks) = interfaces_behind xs blocks
interfaces_behind xs (PassedOver kind body ∷ blocks) = interfaces_behind xs blocks

blocks_more : (order : ByteOrder) (xs : List WrittenInterface) (blocks : List WrittenBlock) → FitBehind order xs blocks → (before : List Part) → AreParts before
    → form_behind before ≡ Section (section_with order xs)
    → AreMore before (flat_map (written_octets order) blocks) (reverse (map pcapng_packet (packets_among blocks))) (Section (section_with order (interfaces_behind xs blocks)))
unfolding interfaces_behind
blocks_more order xs [] fit before are is = none_more before (Section (section_with order xs)) are is
blocks_more order xs (Describes y ∷ blocks) (fits, others, rest) before are is =
    let new = Section (section_with order (xs ++ y ∷ [])) in
    subst (λ (p : List PacketOf). AreMore before (flat_map (written_octets order) (Describes y ∷ blocks)) p (Section (section_with order (interfaces_behind (xs ++ y ∷ []) blocks))))
    (append-nil (reverse (map pcapng_packet (packets_among blocks))))
    (then_more before (description_octets order y) (flat_map (written_octets order) blocks) [] (reverse (map pcapng_packet (packets_among blocks))) new
    (Section (section_with order (interfaces_behind (xs ++ y ∷ []) blocks)))
    (one_more before (Section (section_with order xs)) (description_octets order y) None new are is (describes_part order xs y fits others))
    (blocks_more order (xs ++ y ∷ []) blocks rest))
blocks_more order xs (Captures at ∷ blocks) (fits, rest) before are is =
    let form = Section (section_with order xs) in
    subst (λ (p : List PacketOf). AreMore before (flat_map (written_octets order) (Captures at ∷ blocks)) p (Section (section_with order (interfaces_behind xs blocks))))
    (sym (reverse-append (pcapng_packet at ∷ []) (map pcapng_packet (packets_among blocks))))
    (then_more before (written_octets order (Captures at)) (flat_map (written_octets order) blocks) (pcapng_packet at ∷ []) (reverse (map pcapng_packet (packets_among blocks))) form
    (Section (section_with order (interfaces_behind xs blocks)))
    (one_more before form (written_octets order (Captures at)) (Some (pcapng_packet at)) form are is (captures_part order xs at fits))
    (blocks_more order xs blocks rest))
blocks_more order xs (PassedOver kind body ∷ blocks) (fits, rest) before are is =
    let form = Section (section_with order xs) in
    subst (λ (p : List PacketOf). AreMore before (flat_map (written_octets order) (PassedOver kind body ∷ blocks)) p (Section (section_with order (interfaces_behind xs blocks))))
    (append-nil (reverse (map pcapng_packet (packets_among blocks))))
    (then_more before (block_octets order kind body) (flat_map (written_octets order) blocks) [] (reverse (map pcapng_packet (packets_among blocks))) form
    (Section (section_with order (interfaces_behind xs blocks)))
    (one_more before form (block_octets order kind body) None form are is (inr (inr (passed_read (section_with order xs) kind body fits, refl))))
    (blocks_more order xs blocks rest))

blocks_are_octets : (order : ByteOrder) (xs : List WrittenInterface) (blocks : List WrittenBlock) → FitBehind order xs blocks → AreOctets (flat_map (written_octets order) blocks)
blocks_are_octets order xs [] fit = no_octets
blocks_are_octets order xs (Describes y ∷ blocks) (fits, others, rest) =
    both_octets (description_octets order y) (flat_map (written_octets order) blocks) (description_are_octets order y fits) (blocks_are_octets order (xs ++ y ∷ []) blocks rest)
blocks_are_octets order xs (Captures at ∷ blocks) (fits, rest) =
    both_octets (written_octets order (Captures at)) (flat_map (written_octets order) blocks) (enhanced_are_octets order xs at fits) (blocks_are_octets order xs blocks rest)
blocks_are_octets order xs (PassedOver kind body ∷ blocks) (fits, rest) =
    both_octets (block_octets order kind body) (flat_map (written_octets order) blocks) (block_are_octets order kind body fits.octets) (blocks_are_octets order xs blocks rest)

-- ---- a section

-- what stands behind it
behind : WrittenSection → SectionOf
behind x = section_with x.order (interfaces_behind [] x.blocks)

section_more : (x : WrittenSection) → FitsSection x → (before : List Part) (old : Form) → AreParts before → form_behind before ≡ old
    → IsPart old (section_header_octets x.order x.options) None (Section (begun x.order))
    → AreMore before (section_octets x) (reverse (map pcapng_packet (packets_among x.blocks))) (Section (behind x))
unfolding behind
section_more x fits before old are is begins =
    let order = x.order in
    let packets = reverse (map pcapng_packet (packets_among x.blocks)) in
    subst (λ (p : List PacketOf). AreMore before (section_octets x) p (Section (behind x))) (append-nil packets)
    (then_more before (section_header_octets order x.options) (flat_map (written_octets order) x.blocks) [] packets (Section (begun order)) (Section (behind x))
    (one_more before old (section_header_octets order x.options) None (Section (begun order)) are is begins)
    (blocks_more order [] x.blocks fits.blocks))

section_octets_are : (x : WrittenSection) → FitsSection x → AreOctets (section_octets x)
section_octets_are x fits =
    both_octets (section_header_octets x.order x.options) (flat_map (written_octets x.order) x.blocks)
    (section_are_octets x.order x.options fits.options) (blocks_are_octets x.order [] x.blocks fits.blocks)

-- ---- sections one behind the other

last_behind : SectionOf → List WrittenSection → SectionOf
last_behind s [] = s
last_behind s (x ∷ xs) = last_behind (behind x) xs

packets_of_more : (x : WrittenSection) (xs : List WrittenSection)
    → reverse (map pcapng_packet (pcapng_packets xs)) ++ reverse (map pcapng_packet (packets_among x.blocks))
    ≡ reverse (map pcapng_packet (pcapng_packets (x ∷ xs)))
packets_of_more x xs =
    let rest = pcapng_packets xs in
    sym (reverse-append (map pcapng_packet (packets_among x.blocks)) (map pcapng_packet rest)) ∙ ap reverse (sym (map-append pcapng_packet (packets_among x.blocks) rest))

sections_more : (s : SectionOf) (xs : List WrittenSection) → All FitsSection xs → (before : List Part) → AreParts before → form_behind before ≡ Section s
    → AreMore before (flat_map section_octets xs) (reverse (map pcapng_packet (pcapng_packets xs))) (Section (last_behind s xs))
unfolding last_behind
sections_more s [] all before are is = none_more before (Section s) are is
sections_more s (x ∷ xs) all before are is =
    subst (λ (p : List PacketOf). AreMore before (flat_map section_octets (x ∷ xs)) p (Section (last_behind (behind x) xs))) (packets_of_more x xs)
    (then_more before (section_octets x) (flat_map section_octets xs) (reverse (map pcapng_packet (packets_among x.blocks)))
    (reverse (map pcapng_packet (pcapng_packets xs))) (Section (behind x)) (Section (last_behind (behind x) xs))
    (section_more x (All-head FitsSection x xs all) before (Section s) are is (inl (x.order, section_read x.order x.options (All-head FitsSection x xs all).size, refl)))
    (sections_more (behind x) xs (All-tail FitsSection x xs all)))

pub pcapng_is_read : PcapngIsRead
pcapng_is_read [] some all = absurd (some refl)
pcapng_is_read (x ∷ xs) some all =
    more_read (pcapng_octets (x ∷ xs)) (reverse (map pcapng_packet (pcapng_packets (x ∷ xs)))) (Section (last_behind (behind x) xs))
    (flat_octets FitsSection section_octets section_octets_are (x ∷ xs) all)
    (λ start. absurd cc)
    (subst (λ (p : List PacketOf). AreMore [] (pcapng_octets (x ∷ xs)) p (Section (last_behind (behind x) xs))) (packets_of_more x xs)
    (then_more [] (section_octets x) (flat_map section_octets xs) (reverse (map pcapng_packet (packets_among x.blocks)))
    (reverse (map pcapng_packet (pcapng_packets xs))) (Section (behind x)) (Section (last_behind (behind x) xs))
    (section_more x (All-head FitsSection x xs all) [] Start tt refl (section_read x.order x.options (All-head FitsSection x xs all).size, refl))
    (sections_more (behind x) xs (All-tail FitsSection x xs all))))
