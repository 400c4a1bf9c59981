use Rattle.std.proofs.Common.{◌≡◌, ◌≤◌, true, length}
use Rattle.json.specs.Json.{Json, Members, object}
use Rattle.json.specs.Find.{BeginsWith, InMembers}
use Rattle.json.specs.Tree.{members_depth}
use Rattle.serde_json.specs.Data.{no_members}
use Rattle.serde_json.specs.Read.{of_members}
use Rattle.line_object.specs.Inner.Apart.{are_apart}
use Rattle.line_object.specs.Object.{members_from}
use Rattle.line_object.proofs.object.LineObject.fill.Given as goal

abbrev pub invariant-loop-text : goal.invariant-loop-text
invariant-loop-text l =
    (are_apart l.self.members.items ≡ true)
    × ((j : Json) → BeginsWith l.element j → (ms : Members) × (rest : Members) × (j ≡ object ms) × InMembers l.left rest
    × (of_members ms no_members ≡ of_members rest (members_from no_members l.self.members.items)) × (members_depth rest ≤ 1 → members_depth ms ≤ 1))

abbrev pub decreases-loop-text : goal.decreases-loop-text
decreases-loop-text l = length l.left
