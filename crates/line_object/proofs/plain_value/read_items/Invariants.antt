use Rattle.std.proofs.Common.{◌≡◌, ◌≤◌, length, option_map}
use Rattle.json.specs.Json as spec
use Rattle.json.specs.Find.{InItems}
use Rattle.json.specs.Tree.{items_depth}
use Rattle.serde_json.specs.Read.{of_items}
use Rattle.line_object.proofs.Items.{before}
use Rattle.line_object.proofs.plain_value.read_items.Given as goal

abbrev pub invariant-loop-element : goal.invariant-loop-element
invariant-loop-element l =
    (js : spec.Items) → InItems l.initial.items js → (rest : spec.Items) × InItems l.items rest
    × (of_items js ≡ option_map (before l.found.items) (of_items rest)) × (items_depth rest ≤ 0 → items_depth js ≤ 0)

abbrev pub decreases-loop-element : goal.decreases-loop-element
decreases-loop-element l = length l.items
