-- No two interfaces of a section are called alike.
use Rattle.std.proofs.Common.{◌≡◌, ◌∙◌, ◌⊎◌, inl, inr, ℕ, zero, suc, ◌<◌, ◌^◌, Bool, true, false, true≢false, not, ◌||◌, ◌&&◌, List, [], ◌∷◌, ◌++◌, length, drop}
use Rattle.std.proofs.Common.{Option, Some, None, refl, sym, ap, subst, arith, rules}
use Rattle.std.specs.Prelude.{slice_get, if◌then◌else◌}
use Rattle.std.specs.Char.{is_ascii_digit}
use Rattle.std.specs.Fmt.{decimal}
use Rattle.std.specs.List.{list_any, list_all}
use Rattle.std.specs.Option.{option_map_or}
use Rattle.std.specs.Str.{bytes_eq}
use Rattle.std.specs.Str.Parse.{digits_value}
use Rattle.std.proofs.lemmas.Bool.{and_from, or_parts}
use Rattle.std.proofs.lemmas.Fmt.{digits_decimal, decimal_nonempty, decimal_injective}
use Rattle.std.proofs.lemmas.Str.Parse.{IsNumeralModel, numerals_by_value}
use Rattle.std.proofs.lemmas.Slice.Eq.{bytes_eq-Decides}
use Rattle.capture_file.specs.Name.{is_like_place, place_text, called}
use Rattle.capture_file.specs.Options.{found_in}
use Rattle.capture_file.specs.Packet.{PacketOf}
use Rattle.capture_file.specs.Parts.{Form, Start, Pcap, Section, Part, IsPart, AreParts, form_behind}
use Rattle.capture_file.specs.Section.{DescriptionOf, SectionOf, has_name, own_name}
use Rattle.capture_laws.specs.Called.{InterfacesAreCalledApart}

-- ---- a place's text is as that of a place
own : IsNumeralModel (λ ds. list_all is_ascii_digit ds ≡ true) (digits_value 10)
own = numerals_by_value _ (search rules)

some_there : (xs : List ℕ) → 0 < length xs → not (bytes_eq xs []) ≡ true
some_there [] some = absurd (omega (arith, some))
some_there (x ∷ xs) some = refl

place_like : (place : ℕ) → place < 2 ^ 32 → is_like_place (place_text place) ≡ true
place_like place within =
    and_from (not (bytes_eq (decimal place) [])) (list_all is_ascii_digit (decimal place))
    (some_there (decimal place) (decimal_nonempty place (omega (arith, within))))
    (digits_decimal own place (omega (arith, within)))

-- ---- names of their own
-- none is as that of a place, and no two are alike
record AreApart (ds : List DescriptionOf) : Type 0 where
  plain : (i : ℕ) (d : DescriptionOf) (name : List ℕ) → slice_get ds i ≡ Some d → d.name ≡ Some name → is_like_place name ≡ false
  apart : (i j : ℕ) (d e : DescriptionOf) (name : List ℕ) → slice_get ds i ≡ Some d → slice_get ds j ≡ Some e
      → d.name ≡ Some name → e.name ≡ Some name → i ≡ j

none_apart : AreApart []
none_apart = record { plain = λ i d name is named. absurd cc; apart = λ i j d e name is is' named named'. absurd cc }

get_more : (ds : List DescriptionOf) (d x : DescriptionOf) (i : ℕ) → slice_get (ds ++ d ∷ []) i ≡ Some x
    → (slice_get ds i ≡ Some x) ⊎ ((i ≡ length ds) × (x ≡ d))
get_more [] d x zero is = let same : x ≡ d = cc in inr (refl, same)
get_more [] d x (suc i) is = absurd cc
get_more (y ∷ ds) d x zero is = inl is
get_more (y ∷ ds) d x (suc i) is = go (get_more ds d x i is)
  where
    go : (slice_get ds i ≡ Some x) ⊎ ((i ≡ length ds) × (x ≡ d))
        → (slice_get ds i ≡ Some x) ⊎ ((suc i ≡ suc (length ds)) × (x ≡ d))
    go (inl there) = inl there
    go (inr (at, same)) = inr (ap (λ k. suc k) at, same)

has_self : (name : List ℕ) (x : DescriptionOf) → x.name ≡ Some name → has_name name x ≡ true
has_self name x named = ap (λ (o : Option (List ℕ)). option_map_or (bytes_eq name) o false) named ∙ (bytes_eq-Decides name name).1 refl

none_has : (name : List ℕ) (ds : List DescriptionOf) → list_any (has_name name) ds ≡ false → (i : ℕ) (x : DescriptionOf)
    → slice_get ds i ≡ Some x → x.name ≡ Some name → ⊥
none_has name [] none i x is named = absurd cc
none_has name (y ∷ ds) none zero x is named =
    let same : x ≡ y = cc in
    let here = (or_parts (has_name name y) (list_any (has_name name) ds) none).0 in
    true≢false (sym (has_self name x named) ∙ ap (has_name name) same ∙ here)
none_has name (y ∷ ds) none (suc i) x is named =
    none_has name ds (or_parts (has_name name y) (list_any (has_name name) ds) none).1 i x is named

-- what a name of its own is
own_told : (ds : List DescriptionOf) (o : Option (List ℕ)) (name : List ℕ) → own_name ds o ≡ Some name
    → (is_like_place name ≡ false) × (list_any (has_name name) ds ≡ false)
own_told ds None name is = absurd cc
own_told ds (Some own) name is = go (bytes_eq own []) (is_like_place own) (list_any (has_name own) ds) refl refl is
  where
    go : (empty like any : Bool) → is_like_place own ≡ like → list_any (has_name own) ds ≡ any
        → (if empty || like || any then None else Some own) ≡ Some name
        → (is_like_place name ≡ false) × (list_any (has_name name) ds ≡ false)
    go true like any is_like is_any so = absurd cc
    go false true any is_like is_any so = absurd cc
    go false false true is_like is_any so = absurd cc
    go false false false is_like is_any so =
        let same : own ≡ name = cc in
        (sym (ap (λ n. is_like_place n) same) ∙ is_like, sym (ap (λ n. list_any (has_name n) ds) same) ∙ is_any)

one_more : (ds : List DescriptionOf) (d : DescriptionOf) (o : Option (List ℕ)) → d.name ≡ own_name ds o → AreApart ds → AreApart (ds ++ d ∷ [])
one_more ds d o told are = record { plain = plain; apart = apart }
  where
    mine : (x : DescriptionOf) (name : List ℕ) → x ≡ d → x.name ≡ Some name → (is_like_place name ≡ false) × (list_any (has_name name) ds ≡ false)
    mine x name same named = own_told ds o name (sym told ∙ sym (ap (λ (e : DescriptionOf). e.name) same) ∙ named)

    plain : (i : ℕ) (x : DescriptionOf) (name : List ℕ) → slice_get (ds ++ d ∷ []) i ≡ Some x → x.name ≡ Some name → is_like_place name ≡ false
    plain i x name is named = go (get_more ds d x i is)
      where
        go : (slice_get ds i ≡ Some x) ⊎ ((i ≡ length ds) × (x ≡ d)) → is_like_place name ≡ false
        go (inl there) = are.plain i x name there named
        go (inr (at, same)) = (mine x name same named).0

    apart : (i j : ℕ) (x y : DescriptionOf) (name : List ℕ) → slice_get (ds ++ d ∷ []) i ≡ Some x → slice_get (ds ++ d ∷ []) j ≡ Some y
        → x.name ≡ Some name → y.name ≡ Some name → i ≡ j
    apart i j x y name is is' named named' = go (get_more ds d x i is) (get_more ds d y j is')
      where
        go : (slice_get ds i ≡ Some x) ⊎ ((i ≡ length ds) × (x ≡ d)) → (slice_get ds j ≡ Some y) ⊎ ((j ≡ length ds) × (y ≡ d)) → i ≡ j
        go (inl there) (inl there') = are.apart i j x y name there there' named named'
        go (inl there) (inr (at, same)) = absurd (none_has name ds (mine y name same named').1 i x there named)
        go (inr (at, same)) (inl there) = absurd (none_has name ds (mine x name same named).1 j y there named')
        go (inr (at, same)) (inr (at', same')) = at ∙ sym at'

-- ---- sections
apart_behind : (form : Form) → ((s : SectionOf) → form ≡ Section s → AreApart s.interfaces) → (octets : List ℕ) (packet : Option PacketOf) (later : Form)
    → IsPart form octets packet later → (section : SectionOf) → later ≡ Section section → AreApart section.interfaces
apart_behind Start before octets (Some packet) later it section is = absurd it
apart_behind Start before octets None Start it section is = absurd it
apart_behind Start before octets None (Pcap pcap) it section is = absurd cc
apart_behind Start before octets None (Section s) (header, begun_is) section is =
    let same : [] ≡ section.interfaces = cc (begun_is, is) in subst AreApart same none_apart
apart_behind (Pcap pcap) before octets None later it section is = absurd it
apart_behind (Pcap pcap) before octets (Some packet) later (same, it) section is = absurd cc
apart_behind (Section s) before octets (Some packet) later (it, same) section is =
    let here : s ≡ section = cc in subst (λ (t : SectionOf). AreApart t.interfaces) here (before s refl)
apart_behind (Section s) before octets None later (inl (order, header, same)) section is =
    let here : [] ≡ section.interfaces = cc (same, is) in subst AreApart here none_apart
apart_behind (Section s) before octets None later (inr (inl (d, it, same))) section is =
    let here : s.interfaces ++ d ∷ [] ≡ section.interfaces = cc (same, is) in
    subst AreApart here (one_more s.interfaces d (found_in s.order it.options).name (ap (λ (e : DescriptionOf). e.name) it.said) (before s refl))
apart_behind (Section s) before octets None later (inr (inr (it, same))) section is =
    let here : s ≡ section = cc in subst (λ (t : SectionOf). AreApart t.interfaces) here (before s refl)

apart_in : (parts : List Part) → AreParts parts → (section : SectionOf) → form_behind parts ≡ Section section → AreApart section.interfaces
apart_in [] are section is = absurd cc
apart_in (part ∷ earlier) (are, it) section is =
    apart_behind (form_behind earlier) (apart_in earlier are) part.octets part.packet part.later it section is

pub called_apart : InterfacesAreCalledApart
called_apart parts section are is i j one other within within' there there' same = go one.name other.name refl refl
  where
    interfaces : AreApart section.interfaces
    interfaces = apart_in parts are section is

    alike : (a b : Option (List ℕ)) → one.name ≡ a → other.name ≡ b → called i a ≡ called j b
    alike a b is_one is_other = ap (called i) (sym is_one) ∙ same ∙ ap (called j) is_other

    never : (place : ℕ) (name : List ℕ) → place < 2 ^ 32 → place_text place ≡ name → is_like_place name ≡ false → ⊥
    never place name few text plain = true≢false (sym (place_like place few) ∙ ap (λ n. is_like_place n) text ∙ plain)

    go : (a b : Option (List ℕ)) → one.name ≡ a → other.name ≡ b → i ≡ j
    go None None is_one is_other =
        decimal_injective i j (omega (arith, within)) (omega (arith, within')) (ap (drop 2) (alike None None is_one is_other))
    go None (Some name) is_one is_other =
        absurd (never i name within (alike None (Some name) is_one is_other) (interfaces.plain j other name there' is_other))
    go (Some name) None is_one is_other =
        absurd (never j name within' (sym (alike (Some name) None is_one is_other)) (interfaces.plain i one name there is_one))
    go (Some name) (Some name') is_one is_other =
        interfaces.apart i j one other name there there' is_one
        (is_other ∙ ap (λ n. Some n) (sym (alike (Some name) (Some name') is_one is_other)))
