-- The test of a name.
use Rattle.std.proofs.Common.{◌≡◌, ◌≤◌, ℕ, true, false, List, length, nat_le, Bool, ◌&&◌, Option, Some, None, IsSome, IfSome, ◌↔◌, if◌then◌else◌, refl, ap, arith}
use Rattle.std.specs.List.{list_all}
use Rattle.std.proofs.lemmas.Bool.Decides.{nat_tests}
use Rattle.std.proofs.lemmas.List.Sums.{AllPass-from_list_all, list_all-from_AllPass}
use Rattle.network_model.specs.Name.{IsName, is_name_octet}
use Rattle.schedule_lines.specs.Json.{is_name}

parts : (some fits octets : Bool) → (some && fits && octets) ≡ true → (some ≡ true) × (fits ≡ true) × (octets ≡ true)
parts true true true h = (refl, refl, refl)
parts true true false h = (refl, refl, h)
parts true false octets h = absurd (cc)
parts false fits octets h = absurd (cc)

pub IsName-from_test : (text : List ℕ) → is_name text ≡ true → IsName text
IsName-from_test text h =
    let p = parts (nat_le 1 (length text)) (nat_le (length text) 16) (list_all is_name_octet text) h in
    let some : 1 ≤ length text = grind (arith, nat_tests, p.0) in
    let fits : length text ≤ 16 = grind (arith, nat_tests, p.1) in
    record { some = some; fits = fits; octets = AllPass-from_list_all is_name_octet text p.2 }

pub test-from_IsName : (text : List ℕ) → IsName text → is_name text ≡ true
test-from_IsName text name =
    let some : nat_le 1 (length text) ≡ true = grind (arith, nat_tests, name.some) in
    let fits : nat_le (length text) 16 ≡ true = grind (arith, nat_tests, name.fits) in
    rw (some, fits, list_all-from_AllPass is_name_octet text name.octets) refl

at_test : (b : Bool) (text : List ℕ) (r : Option (List ℕ)) → (b ≡ true → IsSome r) → (IsSome r → b ≡ true) → IfSome r (λ n. n ≡ text) → r ≡ (if b then Some text else None)
at_test true text (Some n) to from is = ap Some is
at_test true text None to from is = cc (to refl)
at_test false text (Some n) to from is = cc (from refl)
at_test false text None to from is = refl

-- a name is made of just the texts that pass the test
pub made_name : (text : List ℕ) (r : Option (List ℕ)) → (IsSome r ↔ IsName text) → IfSome r (λ n. n ≡ text) → r ≡ (if is_name text then Some text else None)
made_name text r some is = at_test (is_name text) text r (λ h. some.1 (IsName-from_test text h)) (λ h. test-from_IsName text (some.0 h)) is
