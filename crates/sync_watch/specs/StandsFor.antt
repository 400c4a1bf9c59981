-- What a watch keeps, and what was told that this stands for.
use Rattle.std.specs.Prelude.{◌≡◌, ℕ, Bool, true, false, List, take}
use Rattle.pairing.specs.Marked.{Entry, Marked, newest_first}
use Rattle.sync_watch.specs.declared.judgement.Judgement.{Judgement}
use Rattle.sync_watch.specs.declared.newest.NewestSyncs.{NewestSyncs}
use Rattle.sync_watch.specs.Told.{Told, syncs, follow_ups}
use Rattle.sync_watch.specs.Life.{newest}

-- messages of a kind, those with unicastFlag apart from the others
pub record KnownTimes : Type 0 where
  pub multicast : Marked ℕ
  pub unicast : Marked ℕ

-- what a watch keeps
pub record Watch : Type 0 where
  pub capacity : ℕ
  pub syncs : KnownTimes
  pub follow_ups : KnownTimes
  pub newest : NewestSyncs

-- the latest of these entries are kept, newest first, by their flag
pub record HoldsKnown (capacity : ℕ) (entries : Bool → List (Entry ℕ)) (known : KnownTimes) : Type 0 where
  pub multicast : newest_first known.multicast ≡ take capacity (entries false)
  pub unicast : newest_first known.unicast ≡ take capacity (entries true)

-- the newest of these entries is kept, by its flag
pub record HoldsNewest (entries : Bool → List (Entry ℕ)) (kept : NewestSyncs) : Type 0 where
  pub multicast : kept.multicast ≡ newest (entries false)
  pub unicast : kept.unicast ≡ newest (entries true)

-- a watch that keeps this stands for what was told
pub record StandsFor (capacity : ℕ) (watch : Watch) (told : List Told) : Type 0 where
  pub capacity_is : watch.capacity ≡ capacity
  pub syncs_held : HoldsKnown capacity (λ flag. syncs flag told) watch.syncs
  pub follow_ups_held : HoldsKnown capacity (λ flag. follow_ups flag told) watch.follow_ups
  pub newest_held : HoldsNewest (λ flag. syncs flag told) watch.newest

-- whatever a watch stood for, it stands for this after a call
abbrev pub StandsAfter : ((capacity : ℕ) → List Told → List Told) → (old new : Watch) → Type 0
StandsAfter change old new =
    (capacity : ℕ) (told : List Told) → StandsFor capacity old told → StandsFor capacity new (change capacity told)

-- whatever a watch stands for, this is its answer
abbrev pub IsJudged : ((capacity : ℕ) → List Told → Judgement) → Watch → Judgement → Type 0
IsJudged judged watch result =
    (capacity : ℕ) (told : List Told) → StandsFor capacity watch told → result ≡ judged capacity told

-- what is kept of Delay_Resps
pub record Responses : Type 0 where
  pub capacity : ℕ
  pub responses : Marked ℕ

-- it stands for these, newest first
pub record StandsForResponses (capacity : ℕ) (watch : Responses) (responses : List (Entry ℕ)) : Type 0 where
  pub capacity_is : watch.capacity ≡ capacity
  pub latest : newest_first watch.responses ≡ take capacity responses
