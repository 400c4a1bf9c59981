-- Items, one after the other.
use Rattle.std.proofs.Common.{◌≡◌, ℕ, zero, suc, List, [], ◌∷◌, ◌++◌, length, slice_get, Option, Some, None, option_map, option_and_then, refl, ap, ◌∙◌}
use Rattle.json.specs.Json as json
use Rattle.serde_json.specs.Data.{Items, no_items, item}
use Rattle.serde_json.specs.Events.{items_len}
use Rattle.serde_json.specs.Find.{get_item}
use Rattle.serde_json.specs.Read.{of_items}
use Rattle.line_object.specs.PlainValue.{item_data, items_data}
use Rattle.line_object.specs.Inner.Reads.{Reads}

abbrev pub before : List (Option ℕ) → Items → Items
before [] rest = rest
before (s ∷ ss) rest = item (item_data s) (before ss rest)

pub before_none : (ss : List (Option ℕ)) → before ss no_items ≡ items_data ss
before_none [] = refl
before_none (s ∷ ss) = ap (item (item_data s)) (before_none ss)

one_more : (ss : List (Option ℕ)) (s : Option ℕ) (rest : Items) → before ss (item (item_data s) rest) ≡ before (ss ++ s ∷ []) rest
one_more [] s rest = refl
one_more (x ∷ ss) s rest = ap (item (item_data x)) (one_more ss s rest)

mapped : (ss : List (Option ℕ)) (s : Option ℕ) (o : Option Items) → option_map (before ss) (option_map (item (item_data s)) o) ≡ option_map (before (ss ++ s ∷ [])) o
mapped ss s None = refl
mapped ss s (Some rest) = ap Some (one_more ss s rest)

pub next_item : (js rest : json.Items) (j : json.Json) (ss : List (Option ℕ)) (s : Option ℕ) → Reads j (item_data s) 0
    → of_items js ≡ option_map (before ss) (of_items (json.item j rest)) → of_items js ≡ option_map (before (ss ++ s ∷ [])) (of_items rest)
next_item js rest j ss s reads so =
    so ∙ ap (λ o. option_map (before ss) (option_and_then (λ d. option_map (item d) (of_items rest)) o)) reads.0 ∙ mapped ss s (of_items rest)

-- as many items as there are
pub as_many : (ss : List (Option ℕ)) → items_len (items_data ss) ≡ length ss
as_many [] = refl
as_many (s ∷ ss) = ap suc (as_many ss)

-- the item at an index
pub item_at : (ns : List (Option ℕ)) (i : ℕ) → option_map item_data (slice_get ns i) ≡ get_item i (items_data ns)
item_at [] i = refl
item_at (n ∷ ns) zero = refl
item_at (n ∷ ns) (suc i) = item_at ns i
