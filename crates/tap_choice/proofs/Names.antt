-- Texts of names.
use Rattle.std.proofs.Common.{◌≡◌, ◌∙◌, ℕ, ◌-◌, ◌<◌, true, List, ◌++◌, length, take, drop, replicate, IsUtf8, sym, ap, subst, arith}
use Rattle.std.proofs.Math.Seq.{take-append_seam}
use Rattle.std.proofs.lemmas.Bool.Decides.{nat_tests}
use Rattle.std.proofs.lemmas.List.{drop-replicate, length-append}
use Rattle.std.proofs.lemmas.Str.{IsUtf8-from_ascii}
use Rattle.std.proofs.lemmas.Str.Ascii.{IsAscii-from_all}
use Rattle.tap_choice.specs.TapName.{IsTapName, is_tap_octet}
use Rattle.tap_choice.specs.Inner.Padding.{IsKept, padded}

is_ascii : (octet : ℕ) → is_tap_octet octet ≡ true → octet < 128
is_ascii octet h = grind (arith, nat_tests)

-- a name is of ASCII, so it is UTF-8
pub IsUtf8_name : (text : List ℕ) → IsTapName text → IsUtf8 text
IsUtf8_name text name = IsUtf8-from_ascii text (IsAscii-from_all text (λ k d h. is_ascii _ (name.octets k d h)))

IsKept-padded : (text : List ℕ) → IsTapName text → IsKept (length text) (padded text)
IsKept-padded text name =
    let front : take (length text) (padded text) ≡ text = take-append_seam text (replicate (16 - length text) 0) in
    record {
      within = omega (arith, length-append text (replicate (16 - length text) 0));
      zeros = sym (ap padded front);
      name = subst IsTapName (sym front) name;
    }

-- a name is kept by copying it over zeros
pub IsKept-copied : (text copied : List ℕ) → copied ≡ text → IsTapName text → IsKept (length text) (copied ++ drop (length text) (replicate 16 0))
IsKept-copied text copied same name =
    let all : copied ++ drop (length text) (replicate 16 0) ≡ padded text = ap (λ xs. xs ++ drop (length text) (replicate 16 0)) same ∙ ap (λ zeros. text ++ zeros) (drop-replicate (length text) 16 0) in
    subst (IsKept (length text)) (sym all) (IsKept-padded text name)
