-- A table of two places, computed by hand.
use Rattle.std.proofs.Common.{◌≡◌, ℕ, refl, Some, None}
use Rattle.pairing.specs.Marked.{Marked, entry, empty, push, find, set, tick}

-- 1, 3 and then 1 again, each with a value; the first has gone
abbrev three : Marked ℕ
three = push 2 (entry 1 30) (push 2 (entry 3 20) (push 2 (entry 1 10) empty))

newest_of_two : find 1 three ≡ Some 30
newest_of_two = refl

one_of_one : find 3 three ≡ Some 20
one_of_one = refl

none_of_none : find 5 three ≡ None
none_of_none = refl

set_changes_one : find 3 (set 1 31 three) ≡ Some 20
set_changes_one = refl

-- two are marked, one of them goes for the new one, and the other at the tick
abbrev later : Marked ℕ
later = tick (push 2 (entry 5 40) (tick three))

new_stays : find 5 later ≡ Some 40
new_stays = refl

marked_went : find 1 later ≡ None
marked_went = refl

all_marked : later.marked ≡ 1
all_marked = refl
