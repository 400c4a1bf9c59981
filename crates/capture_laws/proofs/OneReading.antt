-- Octets have one reading: one part, or one fault.
use Rattle.std.proofs.Common.{◌≡◌, ◌≢◌, ◌⊎◌, ℕ, ◌+◌, List, [], ◌∷◌, ◌++◌, length, Option, Some, None, refl, sym, ap, ◌∙◌, inl, inr, arith, subst}
use Rattle.std.proofs.Common.{length-append, append_assoc, append-nil}
use Rattle.std.proofs.lemmas.List.{append_cancel_left, get_or-append-add}
use Rattle.capture_file.specs.declared.fault.CaptureFault.{CaptureFault}
use Rattle.capture_file.specs.declared.fault.CaptureFault.TheVariants.{NoCapture, Version, ByteOrderMagic, Length, Interface, CutOff}
use Rattle.capture_file.specs.declared.order.ByteOrder.TheVariants.{Big}
use Rattle.capture_file.specs.Order.{AreOctets}
use Rattle.capture_file.specs.Packet.{PacketOf}
use Rattle.capture_file.specs.Parts.{Form, Start, Pcap, Section, Part, IsPart, AreParts, form_behind, octets_of}
use Rattle.capture_file.specs.Wrong.{IsFault}
use Rattle.capture_file.proofs.Fronts.{number32_front}
use Rattle.capture_laws.proofs.Next.{Whole, Wrong, next}
use Rattle.capture_laws.proofs.NextHeader.{least_header, section_whole}
use Rattle.capture_laws.proofs.NextStart.{start_section, head_whole, start_fault, packet_fault, packet_whole}
use Rattle.capture_laws.proofs.NextBlock.{part_fault, packet_part, block_part}

-- ---- what stands next

next_part : (form : Form) (octets rest : List ℕ) (packet : Option PacketOf) (later : Form) → AreOctets (octets ++ rest) → IsPart form octets packet later
    → next form (octets ++ rest) ≡ Whole (record { octets = octets; packet = packet; later = later })
next_part Start octets rest (Some packet) later are is = absurd is
next_part Start octets rest None Start are is = absurd is
next_part Start octets rest None (Pcap pcap) are is = head_whole pcap octets rest are is
next_part Start octets rest None (Section section) are (is, same) =
    let least = least_header (length octets) is.size in
    start_section (octets ++ rest) (rw (length-append octets rest) (omega (arith, least))) (number32_front Big octets rest 0 (omega (arith, least)) ∙ is.kind_is)
    ∙ section_whole section.order octets rest is
    ∙ ap (λ s. Whole (record { octets = octets; packet = None; later = Section s })) (sym same)
next_part (Pcap pcap) octets rest None later are is = absurd is
next_part (Pcap pcap) octets rest (Some packet) later are (same, is) =
    packet_whole pcap octets rest packet is ∙ ap (λ l. Whole (record { octets = octets; packet = Some packet; later = l })) (sym same)
next_part (Section section) octets rest None later are is = block_part section octets rest later are is
next_part (Section section) octets rest (Some packet) later are is = packet_part section octets rest packet later are is

next_fault : (form : Form) (octets : List ℕ) (fault : CaptureFault) (place : ℕ) → AreOctets octets → IsFault form octets fault place → next form octets ≡ Wrong fault place
next_fault Start octets fault place are is = start_fault octets fault place are is
next_fault (Pcap pcap) octets fault place are is = packet_fault pcap octets fault place is
next_fault (Section section) octets fault place are is = part_fault section octets fault place are is

-- this part is the next one
abbrev pub IsNext : Form → Part → Type 0
IsNext form part = IsPart form part.octets part.packet part.later

-- one part stands next
pub one_part : (form : Form) (octets : List ℕ) (one other : Part) (rest rest' : List ℕ) → AreOctets octets → octets ≡ one.octets ++ rest → octets ≡ other.octets ++ rest'
    → IsNext form one → IsNext form other → other ≡ one
one_part form octets one other rest rest' are split split' is is' =
    let here : next form octets ≡ Whole one =
    ap (next form) split ∙ next_part form one.octets rest one.packet one.later (subst AreOctets split are) is in
    let there : next form octets ≡ Whole other =
    ap (next form) split' ∙ next_part form other.octets rest' other.packet other.later (subst AreOctets split' are) is' in
    cc (here, there)

-- and no fault
pub part_or_fault : (form : Form) (octets : List ℕ) (part : Part) (rest : List ℕ) (fault : CaptureFault) (place : ℕ) → AreOctets octets → octets ≡ part.octets ++ rest
    → IsNext form part → IsFault form octets fault place → ⊥
part_or_fault form octets part rest fault place are split is wrong =
    let here : next form octets ≡ Whole part =
    ap (next form) split ∙ next_part form part.octets rest part.packet part.later (subst AreOctets split are) is in
    let there : next form octets ≡ Wrong fault place = next_fault form octets fault place are wrong in
    absurd (cc (here, there))

-- or one fault
pub one_fault : (form : Form) (octets : List ℕ) (fault fault' : CaptureFault) (place place' : ℕ) → AreOctets octets → IsFault form octets fault place
    → IsFault form octets fault' place' → (fault' ≡ fault) × (place' ≡ place)
one_fault form octets fault fault' place place' are wrong wrong' =
    let here : next form octets ≡ Wrong fault place = next_fault form octets fault place are wrong in
    let there : next form octets ≡ Wrong fault' place' = next_fault form octets fault' place' are wrong' in
    (cc (here, there), cc (here, there))

-- ---- nothing stands next

nothing_next : (form : Form) → (fault : CaptureFault) × (next form [] ≡ Wrong fault 0)
nothing_next Start = (NoCapture, refl)
nothing_next (Pcap pcap) = (CutOff, refl)
nothing_next (Section section) = (CutOff, refl)

no_octets : AreOctets []
no_octets k within = absurd (omega (arith, within))

-- a part has octets
pub some_octets : (form : Form) (part : Part) → IsNext form part → part.octets ≢ []
some_octets form part is none =
    let (fault, wrong) = nothing_next form in
    let here : next form [] ≡ Whole part =
    ap (λ o. next form (o ++ [])) (sym none)
    ∙ next_part form part.octets [] part.packet part.later (subst AreOctets (sym (append-nil part.octets) ∙ refl) (subst AreOctets (sym none) no_octets)) is in
    absurd (cc (here, wrong))

pub no_part : (form : Form) (octets : List ℕ) (part : Part) (rest : List ℕ) → IsNext form part → octets ≡ [] → octets ≡ part.octets ++ rest → ⊥
no_part form octets part rest is none split =
    some_octets form part is (none_of part.octets rest (sym split ∙ none))
  where
    none_of : (xs ys : List ℕ) → xs ++ ys ≡ [] → xs ≡ []
    none_of [] ys same = refl
    none_of (x ∷ xs) ys same = absurd cc

-- behind a part the end is no fault
pub no_fault_at_end : (form : Form) (fault : CaptureFault) (place : ℕ) → form ≢ Start → IsFault form [] fault place → ⊥
no_fault_at_end Start fault place other wrong = other refl
no_fault_at_end (Pcap pcap) CutOff place other (some, short, at) = some refl
no_fault_at_end (Pcap pcap) NoCapture place other wrong = wrong
no_fault_at_end (Pcap pcap) Version place other wrong = wrong
no_fault_at_end (Pcap pcap) ByteOrderMagic place other wrong = wrong
no_fault_at_end (Pcap pcap) Length place other wrong = wrong
no_fault_at_end (Pcap pcap) Interface place other wrong = wrong
no_fault_at_end (Section s) fault place other (inl wrong) = absurd (omega (arith, wrong.0))
no_fault_at_end (Section s) Length place other (inr (inl wrong)) = absurd (omega (arith, wrong.0))
no_fault_at_end (Section s) Length place other (inr (inr (inl wrong))) = absurd (let head = wrong.0.head in omega arith)
no_fault_at_end (Section s) Length place other (inr (inr (inr (inl wrong)))) = absurd (let head = wrong.0.head in omega arith)
no_fault_at_end (Section s) Length place other (inr (inr (inr (inr (so_far, wrong))))) = absurd (let head = so_far.begun.head in omega arith)
no_fault_at_end (Section s) Interface place other (inr wrong) = absurd (let head = wrong.0.head in omega arith)
no_fault_at_end (Section s) CutOff place other (inr (at, some, wrong)) = some refl
no_fault_at_end (Section s) NoCapture place other (inr wrong) = wrong
no_fault_at_end (Section s) Version place other (inr wrong) = wrong
no_fault_at_end (Section s) ByteOrderMagic place other (inr wrong) = wrong

-- ---- parts one behind the other

-- the first of further parts
pub record IsOldest (newer earlier : List Part) : Type 0 where
  pub part : Part
  pub later : List Part
  pub split : newer ++ earlier ≡ later ++ part ∷ earlier
  pub are : AreParts (part ∷ earlier)
  pub more : List ℕ
  pub octets : octets_of (newer ++ earlier) ≡ octets_of earlier ++ (part.octets ++ more)

pub oldest : (newest : Part) (newer earlier : List Part) → AreParts ((newest ∷ newer) ++ earlier) → IsOldest (newest ∷ newer) earlier
oldest newest [] earlier are = record {
  part = newest;
  later = [];
  split = refl;
  are = are;
  more = [];
  octets = ap (λ o. octets_of earlier ++ o) (sym (append-nil newest.octets));
}
oldest newest (next ∷ newer) earlier are =
    let inner = oldest next newer earlier are.0 in record {
      part = inner.part;
      later = newest ∷ inner.later;
      split = ap (λ parts. newest ∷ parts) inner.split;
      are = inner.are;
      more = inner.more ++ newest.octets;
      octets = ap (λ o. o ++ newest.octets) inner.octets
          ∙ append_assoc (octets_of earlier) (inner.part.octets ++ inner.more) newest.octets
          ∙ ap (λ o. octets_of earlier ++ o) (append_assoc inner.part.octets inner.more newest.octets);
    }

pub octets_behind : (xs ys : List ℕ) → AreOctets (xs ++ ys) → AreOctets ys
octets_behind xs ys are k within =
    rw (sym (get_or-append-add xs ys k 0)) (are (length xs + k) (rw (length-append xs ys) (omega (arith, within))))

-- of two readings one goes on where the other ends
pub meet : (octets : List ℕ) (parts parts' : List Part) (rest rest' : List ℕ) → AreOctets octets → AreParts parts → AreParts parts' → octets ≡ octets_of parts ++ rest
    → octets ≡ octets_of parts' ++ rest' → ((newer : List Part) × (parts' ≡ newer ++ parts)) ⊎ ((newer : List Part) × (parts ≡ newer ++ parts'))
meet octets parts [] rest rest' are p p' split split' = inr (parts, sym (append-nil parts))
meet octets parts (part' ∷ earlier') rest rest' are p p' split split' =
    go (meet octets parts earlier' rest (part'.octets ++ rest') are p p'.0 split behind)
  where
    behind : octets ≡ octets_of earlier' ++ (part'.octets ++ rest')
    behind = split' ∙ append_assoc (octets_of earlier') part'.octets rest'

    go : ((newer : List Part) × (earlier' ≡ newer ++ parts)) ⊎ ((newer : List Part) × (parts ≡ newer ++ earlier'))
        → ((newer : List Part) × (part' ∷ earlier' ≡ newer ++ parts)) ⊎ ((newer : List Part) × (parts ≡ newer ++ part' ∷ earlier'))
    go (inl (newer, is)) = inl (part' ∷ newer, ap (λ l. part' ∷ l) is)
    go (inr ([], is)) = inl (part' ∷ [], ap (λ l. part' ∷ l) (sym is))
    go (inr (newest ∷ newer, is)) =
        let o = oldest newest newer earlier' (subst AreParts is p) in
        let first : octets ≡ octets_of earlier' ++ (o.part.octets ++ (o.more ++ rest)) =
        split ∙ ap (λ l. octets_of l ++ rest) is ∙ ap (λ l. l ++ rest) o.octets
        ∙ append_assoc (octets_of earlier') (o.part.octets ++ o.more) rest
        ∙ ap (λ l. octets_of earlier' ++ l) (append_assoc o.part.octets o.more rest) in
        let same : o.part ≡ part' =
        one_part (form_behind earlier') (part'.octets ++ rest') part' o.part rest' (o.more ++ rest)
        (octets_behind (octets_of earlier') (part'.octets ++ rest') (subst AreOctets behind are)) refl
        (append_cancel_left (octets_of earlier') (part'.octets ++ rest') (o.part.octets ++ (o.more ++ rest)) (sym behind ∙ first)) p'.1 o.are.1 in
        inr (o.later, is ∙ o.split ∙ ap (λ x. o.later ++ x ∷ earlier') same)

-- all of the octets
pub one_chain : (octets : List ℕ) (parts parts' : List Part) → AreOctets octets → AreParts parts → octets ≡ octets_of parts → AreParts parts' → octets ≡ octets_of parts'
    → parts' ≡ parts
one_chain octets parts parts' are p split p' split' =
    go (meet octets parts parts' [] [] are p p' (split ∙ sym (append-nil (octets_of parts))) (split' ∙ sym (append-nil (octets_of parts'))))
  where
    further : (newest : Part) (newer earlier : List Part) → AreParts ((newest ∷ newer) ++ earlier) → octets_of ((newest ∷ newer) ++ earlier) ≡ octets_of earlier → ⊥
    further newest newer earlier are same =
        let o = oldest newest newer earlier are in
        no_part (form_behind earlier) (o.part.octets ++ o.more) o.part o.more o.are.1
        (append_cancel_left (octets_of earlier) (o.part.octets ++ o.more) [] (sym o.octets ∙ same ∙ sym (append-nil (octets_of earlier)))) refl

    go : ((newer : List Part) × (parts' ≡ newer ++ parts)) ⊎ ((newer : List Part) × (parts ≡ newer ++ parts')) → parts' ≡ parts
    go (inl ([], is)) = is
    go (inl (newest ∷ newer, is)) = absurd (further newest newer parts (subst AreParts is p') (ap octets_of (sym is) ∙ sym split' ∙ split))
    go (inr ([], is)) = sym is
    go (inr (newest ∷ newer, is)) = absurd (further newest newer parts' (subst AreParts is p) (ap octets_of (sym is) ∙ sym split ∙ split'))
