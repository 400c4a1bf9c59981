-- One more call.
use Rattle.std.proofs.Common.{◌≡◌, ◌∙◌, ℕ, ◌+◌, ◌<◌, List, [], ◌∷◌, ◌++◌, map, length, get_or, take, sym, ap, arith}
use Rattle.std.specs.Prelude.{flat_map}
use Rattle.std.specs.List.{concat}
use Rattle.std.proofs.lemmas.List.{flat_map_more, length-map, take_more}
use Rattle.std.proofs.lemmas.List.Concat.{concat_is}
use Rattle.capture_extract.specs.declared.calls.Call.{Call}
use Rattle.capture_extract.specs.Inner.Lines.{line_of_call}
use Rattle.capture_extract.proofs.Laying.{read}

pub more_calls : (calls : List Call) (i : ℕ) (call : Call) (before now later : List ℕ) → i < length calls → call ≡ get_or calls i call
    → now ≡ before ++ concat (take i (map line_of_call calls)) → later ≡ now ++ line_of_call call
    → later ≡ before ++ concat (take (i + 1) (map line_of_call calls))
more_calls calls i call before now later within is so_far more =
    let all : List (List ℕ) = map line_of_call calls in
    let at : take (i + 1) all ≡ take i all ++ line_of_call call ∷ [] =
    take_more all i (line_of_call call) (omega (arith, length-map calls line_of_call))
    ∙ ap (λ (x : List ℕ). take i all ++ x ∷ []) (read line_of_call calls i call (line_of_call call) within is) in
    more ∙ ap (λ (t : List ℕ). t ++ line_of_call call) so_far
    ∙ ap (λ (t : List ℕ). (before ++ t) ++ line_of_call call) (concat_is (take i all))
    ∙ flat_map_more (λ (x : List ℕ). x) before (take i all) (line_of_call call)
    ∙ ap (λ (ls : List (List ℕ)). before ++ flat_map (λ (x : List ℕ). x) ls) (sym at)
    ∙ ap (λ (t : List ℕ). before ++ t) (sym (concat_is (take (i + 1) all)))
