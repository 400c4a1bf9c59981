-- What the tap of an interface is called.
use Rattle.std.proofs.Common.{◌≡◌, ◌∙◌, ℕ, ◌+◌, ◌≤◌, ◌^◌, ◌<◌, List, ◌∷◌, ◌++◌, length, take, get_or, true, Bor, Option, Some, None, sym, ap, subst, lit<, arith}
use Rattle.std.specs.Prelude.{◌↔◌, IsSome, IfSome, option_map}
use Rattle.std.specs.Char.{is_ascii_digit}
use Rattle.std.specs.Fmt.{decimal}
use Rattle.std.specs.List.{AllPass}
use Rattle.std.proofs.lemmas.Bool.Decides.{nat_tests}
use Rattle.std.proofs.Math.Seq.{take-append_seam}
use Rattle.std.proofs.lemmas.Fmt.{digits_decimal, length-decimal-le}
use Rattle.std.proofs.lemmas.List.Sums.{AllPass-from_list_all, list_all-from_AllPass}
use Rattle.capture_file.specs.declared.packet.Interface.{Interface}
use Rattle.capture_file.specs.Name.{place_text}
use Rattle.capture_file.specs.Packet.{interface_of}
use Rattle.recording_lines.proofs.Times.{own}
use Rattle.tap_choice.specs.TapName.{IsTapName, is_tap_octet}
use Rattle.tap_follow.specs.Datagram.{IsTapOf, Own, Place}

pub own_name : (interface : Interface) (name : Bor (List ℕ)) (tap : List ℕ) → interface.name ≡ Some name → tap ≡ name.now
    → IsTapName name.now → IsTapOf (interface_of interface) tap
own_name interface name tap is same named =
    Own (interface_of interface) tap (ap (option_map (λ n. n.now)) is ∙ ap Some (sym same)) (subst IsTapName (sym same) named)

-- an interface whose own name is no tap's
pub other_name : (interface : Interface) (name : Bor (List ℕ)) (o : Option (List ℕ)) → interface.name ≡ Some name
    → (IsTapName name.now → ⊥) → o ≡ Some (place_text interface.place) → IfSome o (λ tap. IsTapOf (interface_of interface) tap)
other_name interface name o is never at =
    rw at (Place (interface_of interface) (λ own has named.
    never (subst IsTapName (cc (ap (option_map (λ n. n.now)) is, has)) named)))

-- one without a name
pub no_name : (interface : Interface) (o : Option (List ℕ)) → interface.name ≡ None
    → o ≡ Some (place_text interface.place) → IfSome o (λ tap. IsTapOf (interface_of interface) tap)
no_name interface o is at =
    rw at (Place (interface_of interface) (λ own has named. cc (ap (option_map (λ n. n.now)) is, has)))

-- a name that was taken
pub taken_name : (o : Option (List ℕ)) (octets text : List ℕ) → (IsSome o ↔ IsTapName octets) → IfSome o (λ name. name ≡ octets)
    → octets ≡ text → IsTapName text → o ≡ Some text
taken_name None octets text some is same named = absurd (cc (some.1 (subst IsTapName (sym same) named)))
taken_name (Some name) octets text some is same named = ap Some (is ∙ same)

-- ---- the place of an interface
digit_octet : (octet : ℕ) → is_ascii_digit octet ≡ true → is_tap_octet octet ≡ true
digit_octet octet digit = grind (arith, nat_tests)

pub IsTapName-place : (place : ℕ) → place < 2 ^ 32 → IsTapName (place_text place)
IsTapName-place place within =
    let long : length (decimal place) ≤ 10 = length-decimal-le 10 place (lit< tt) (omega (arith, within)) (omega (arith, within)) in
    let digits : AllPass is_ascii_digit (decimal place) =
    AllPass-from_list_all is_ascii_digit (decimal place) (digits_decimal own place (omega (arith, within))) in
    let octets : AllPass is_tap_octet (decimal place) = λ k d less. digit_octet (get_or (decimal place) k d) (digits k d less) in record {
      some = omega arith;
      fits = omega (arith, long);
      octets = AllPass-from_list_all is_tap_octet (105 ∷ 102 ∷ decimal place) (list_all-from_AllPass is_tap_octet (decimal place) octets);
    }

pub front_name : (digits copied rest text : List ℕ) → copied ≡ digits → digits ≡ text
    → take (2 + length digits) (105 ∷ 102 ∷ (copied ++ rest)) ≡ 105 ∷ 102 ∷ text
front_name digits copied rest text same told =
    let long : 2 + length digits ≡ length (105 ∷ 102 ∷ copied) = omega (arith, ap (length {A = ℕ}) same) in
    ap (λ (k : ℕ). take k (105 ∷ 102 ∷ (copied ++ rest))) long ∙ take-append_seam (105 ∷ 102 ∷ copied) rest
    ∙ ap (λ (ds : List ℕ). 105 ∷ 102 ∷ ds) (same ∙ told)
