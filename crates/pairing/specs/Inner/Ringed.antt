-- What the slots of a ring stand for, and how those of one bucket are linked. No public clause rests on it.
use Rattle.std.specs.Prelude.{◌≡◌, ℕ, ◌+◌, ◌-◌, ◌%◌, ◌<◌, ◌≤◌, List, ◌++◌, take, drop, map, Option, Some, None}
use Rattle.std.specs.Prelude.{unwrap_or, nat_lt, if◌then◌else◌, slice_index, slice_index_or}
use Rattle.ptp_units.specs.declared.sequence.Seq.{Seq}

-- the slot that is so many places after the oldest, around the end
abbrev pub slot_at : (capacity oldest place : ℕ) → ℕ
slot_at capacity oldest place =
    if nat_lt place (capacity - oldest) then oldest + place else place - (capacity - oldest)

-- how many places after the oldest a slot is
abbrev pub place_of : (capacity oldest slot : ℕ) → ℕ
place_of capacity oldest slot =
    if nat_lt slot oldest then slot + (capacity - oldest) else slot - oldest

-- what stands in so many slots, from the oldest on
abbrev pub members : {X : Type 0} → (oldest count : ℕ) → List X → List X
members oldest count slots = take count (drop oldest slots ++ take oldest slots)

-- the number of each slot
abbrev pub numbers_of : {V : Type 0} → List (Seq × V) → List ℕ
numbers_of slots = map (λ p. p.0.0) slots

-- the slot of a link, or else the first
abbrev pub slot_of : Option ℕ → ℕ
slot_of link = unwrap_or link 0

-- the place of a link's slot, after all of them where there is none
abbrev pub place_at : (capacity oldest : ℕ) → Option ℕ → ℕ
place_at capacity oldest None = capacity
place_at capacity oldest (Some slot) = place_of capacity oldest slot

-- where a slot of the bucket is older than the place, the link is to the newest of these
abbrev pub LeadsBack : (capacity oldest : ℕ) (numbers : List ℕ) (link : Option ℕ) (place bucket : ℕ) → Type 0
LeadsBack capacity oldest numbers link place bucket =
    (slot : ℕ) → slot < capacity → place_of capacity oldest slot < place
    → slice_index numbers slot % capacity ≡ bucket
    → (place_of capacity oldest slot ≤ place_at capacity oldest link) × (place_at capacity oldest link < place)
    × (slice_index numbers (slot_of link) % capacity ≡ bucket)

-- each bucket leads to its newest member, and each member to the newest that is older
pub record IsLinked (capacity oldest count : ℕ) (numbers : List ℕ) (older newest : List (Option ℕ)) : Type 0 where
  pub newest_in : (bucket : ℕ) → slot_of (slice_index_or newest bucket None) < capacity
  pub older_in : (slot : ℕ) → slot_of (slice_index_or older slot None) < capacity
  pub newest_leads : (bucket : ℕ) → LeadsBack capacity oldest numbers (slice_index_or newest bucket None) count bucket
  pub older_leads : (slot : ℕ) → slot < capacity → place_of capacity oldest slot < count
      → LeadsBack capacity oldest numbers (slice_index_or older slot None) (place_of capacity oldest slot)
      (slice_index numbers slot % capacity)
