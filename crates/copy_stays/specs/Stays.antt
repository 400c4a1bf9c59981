-- What is kept of stays and of the copies that left after them, and what this stands for. Copies make a tree: one grew from
-- another that entered the clock which it left, and is one deeper. They stand in an order, each linked to the next: after a copy
-- comes all that grew from it, up to the first that isn't deeper. A copy is marked, and is not `once`, if a stay of its journey
-- was left again; a marked one is taken out of the order, but for the first that left the stay.
use Rattle.std.specs.Prelude.{◌≡◌, ℕ, ◌+◌, ◌<◌, ◌≤◌, Bool, true, ◌&&◌, List, [], ◌∷◌, slice_get}
use Rattle.std.specs.Prelude.{unwrap_or, is_some, Option, Some, None, Result, MatchResult}
use Rattle.std.specs.BTreeMap.{get}
use Rattle.std.specs.Ordering.{nat_cmp}
use Rattle.std.specs.Option.{option_map_or}
use Rattle.copy_stays.specs.declared.stays.CopyState.{CopyState}
use Rattle.copy_stays.specs.declared.stays.Stays.{Stays}
use Rattle.copy_stays.specs.Leaves.{LastStays, with_stay, Leaves, is_once, Once, Firsts}

-- what is kept of each copy
abbrev pub CopyStates : Type 0
CopyStates = ℕ → CopyState

-- a copy of which nothing is kept
abbrev pub root : CopyState
root = record { once = true; depth = 0; next = None }

-- what a list has of each copy
abbrev pub state_in : List CopyState → CopyStates
state_in states copy = unwrap_or (slice_get states copy) root

-- the copies through which the order leads from a link to a copy, each deeper than this
abbrev pub IsStretch : (depth : ℕ → ℕ) → (next : ℕ → Option ℕ) → (above : ℕ) → Option ℕ → List ℕ → ℕ → Type 0
IsStretch depth next above from [] to = from ≡ Some to
IsStretch depth next above from (copy ∷ later) to =
    (from ≡ Some copy) × (above < depth copy) × IsStretch depth next above (next copy) later to

-- there are such copies
pub record Stretch (depth : ℕ → ℕ) (next : ℕ → Option ℕ) (above : ℕ) (from : Option ℕ) (to : ℕ) : Type 0 where
  pub through : List ℕ
  pub leads : IsStretch depth next above from through to

-- how deep each copy is, and which one comes after it
abbrev pub depths : CopyStates → ℕ → ℕ
depths states copy = (states copy).depth

abbrev pub nexts : CopyStates → ℕ → Option ℕ
nexts states copy = (states copy).next

-- The order of the copies below a number. Of copies that aren't marked, the links lead from a copy to each that
-- grew from it directly, through copies deeper than the first.
pub record IsOrdered (states : CopyStates) (firsts : Firsts) (stays : LastStays) (leaves : Leaves)
    (number : ℕ) : Type 0 where
  -- a copy grew from an older one
  pub within : (n transit copy : ℕ) → stays n ≡ Some (transit, copy) → (copy < n) × (n < number)
  -- its last stay has a first Leave line, as each stay that was left
  pub ended : (n transit copy : ℕ) → stays n ≡ Some (transit, copy) → is_some (firsts transit) ≡ true
  pub known : (transit : ℕ) → is_some (firsts transit) ≡ is_some (leaves transit)
  -- which is below the number, and names that stay
  pub earlier : (transit first : ℕ) → firsts transit ≡ Some first → first < number
  pub of_first : (transit first other copy : ℕ) → firsts transit ≡ Some first → stays first ≡ Some (other, copy)
      → other ≡ transit
  -- a copy that isn't marked left by the first Leave line of its stay
  pub first : (n transit copy : ℕ) → stays n ≡ Some (transit, copy) → (states n).once ≡ true
      → firsts transit ≡ Some n
  -- how deep copies are
  pub flat : (n : ℕ) → stays n ≡ None → (states n).depth ≡ 0
  pub low : (n : ℕ) → (states n).depth ≤ n
  pub deeper : (n transit copy : ℕ) → stays n ≡ Some (transit, copy) → (states n).once ≡ true
      → (states n).depth ≡ (states copy).depth + 1
  -- the links lead from a copy to what grew from it, never two to one copy, and none to a copy without a stay
  pub runs : (n transit copy : ℕ) → stays n ≡ Some (transit, copy) → (states n).once ≡ true
      → (states copy).once ≡ true
      → Stretch (depths states) (nexts states) (states copy).depth (states copy).next n
  pub one_before : (one other n : ℕ) → (states one).next ≡ Some n → (states other).next ≡ Some n → one ≡ other
  pub no_link_to_a_root : (n after : ℕ) → (states n).next ≡ Some after → 0 < (states after).depth

-- whether a copy's last stay was left once and, by what is kept, each one before it
abbrev pub is_whole : CopyStates → Leaves → Option (ℕ × ℕ) → Bool
is_whole states leaves stay = option_map_or (λ s. is_once (leaves s.0) && (states s.1).once) stay true

-- what is kept of each copy below a number, with these last stays
pub record AreCopyStates (states : CopyStates) (firsts : Firsts) (stays : LastStays) (leaves : Leaves)
    (number : ℕ) : Type 0 where
  pub ordered : IsOrdered states firsts stays leaves number
  pub once : (n : ℕ) → (states n).once ≡ is_whole states leaves (stays n)

-- the first line that leaves each stay, as it is kept
abbrev pub first_leaves : Stays → Firsts
first_leaves kept = get nat_cmp kept.firsts

-- what is kept stands for these last stays of copies, and for which stays were left, by the lines before this number
abbrev pub AreStays : Stays → LastStays → Leaves → ℕ → Type 0
AreStays kept stays leaves number =
    AreCopyStates (state_in kept.states.items) (first_leaves kept) stays leaves number

-- the line of this number gives its copy this last stay, if any, and changes which stays were left; where memory is
-- refused, what is kept says the same as before
abbrev pub StaysAfter : {E : Type 0} → (old new : Stays) → ℕ → Option (ℕ × ℕ) → (Leaves → Leaves) → Result (Unit {0}) E
    → Type 0
StaysAfter old new number stay ended result =
    (stays : LastStays) (leaves : Leaves) → AreStays old stays leaves number → MatchResult result
    (λ _. AreStays new (with_stay number stay stays) (ended leaves) (number + 1))
    (λ _. AreStays new stays leaves number)

-- of each copy whether each stay of its journey was left once, as it is kept
abbrev pub once_in : Stays → Once
once_in kept copy = (state_in kept.states.items copy).once
