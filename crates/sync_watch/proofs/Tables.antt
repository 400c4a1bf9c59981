-- Tables that hold the latest entries, and what a watch stands for once they have one more.
use Rattle.std.proofs.Common.{◌≡◌, ◌∙◌, ℕ, Bool, true, false, List, ◌∷◌, take, sym, ap, subst}
use Rattle.std.proofs.Common.{Option, if◌then◌else◌}
use Rattle.pairing.specs.Marked.{Entry, Marked, entry, push, newest_first}
use Rattle.sync_watch.specs.declared.arrival.Arrival.{Arrival}
use Rattle.sync_watch.specs.declared.newest.NewestSyncs.{NewestSyncs}
use Rattle.sync_watch.specs.Told.{Told, Sync, FollowUp, of_flag, syncs, follow_ups, known}
use Rattle.sync_watch.specs.Life.{newest}
use Rattle.sync_watch.specs.Judged.{judged_sync, sync_judgement, is_repeat, is_repeated}
use Rattle.sync_watch.specs.StandsFor.{KnownTimes, Watch, HoldsKnown, HoldsNewest, StandsFor, Responses, StandsForResponses}
use Rattle.pairing.proofs.Lists.{take-more}
use Rattle.pairing.proofs.Laws.{newest_first-push}

-- one more
pub latest-push : (capacity : ℕ) (e : Entry ℕ) (table new : Marked ℕ) (entries : List (Entry ℕ))
    → new ≡ push capacity e table → newest_first table ≡ take capacity entries
    → newest_first new ≡ take capacity (e ∷ entries)
latest-push capacity e table new entries is held =
    ap newest_first is ∙ newest_first-push capacity e table ∙ ap (λ (es : List (Entry ℕ)). take capacity (e ∷ es)) held
    ∙ take-more capacity e entries

-- one more of a flag
pub held-unicast : {capacity : ℕ} {entries : Bool → List (Entry ℕ)} {old : KnownTimes} (a : Arrival) (new : Marked ℕ)
    → HoldsKnown capacity entries old → a.is_unicast ≡ true → new ≡ push capacity (entry a.number.0 a.time) old.unicast
    → HoldsKnown capacity (λ flag. of_flag flag a (entries flag))
    (record { multicast = old.multicast; unicast = new })
held-unicast {capacity} {entries} {old} a new held flag is =
    let one : Entry ℕ = entry a.number.0 a.time in
    record {
      multicast = held.multicast
          ∙ sym (ap (λ (b : Bool). take capacity (if b then entries false else one ∷ entries false)) flag);
      unicast = latest-push capacity one old.unicast new (entries true) is held.unicast
          ∙ sym (ap (λ (b : Bool). take capacity (if b then one ∷ entries true else entries true)) flag);
    }

pub held-multicast : {capacity : ℕ} {entries : Bool → List (Entry ℕ)} {old : KnownTimes} (a : Arrival) (new : Marked ℕ)
    → HoldsKnown capacity entries old → a.is_unicast ≡ false → new ≡ push capacity (entry a.number.0 a.time) old.multicast
    → HoldsKnown capacity (λ flag. of_flag flag a (entries flag))
    (record { multicast = new; unicast = old.unicast })
held-multicast {capacity} {entries} {old} a new held flag is =
    let one : Entry ℕ = entry a.number.0 a.time in
    record {
      multicast = latest-push capacity one old.multicast new (entries false) is held.multicast
          ∙ sym (ap (λ (b : Bool). take capacity (if b then entries false else one ∷ entries false)) flag);
      unicast = held.unicast
          ∙ sym (ap (λ (b : Bool). take capacity (if b then one ∷ entries true else entries true)) flag);
    }

-- what a push does to what is known of a kind
abbrev pub Pushes : (capacity : ℕ) → Arrival → (old new : KnownTimes) → Type 0
Pushes capacity a old new =
    (entries : Bool → List (Entry ℕ)) → HoldsKnown capacity entries old
    → HoldsKnown capacity (λ flag. of_flag flag a (entries flag)) new

-- what a Sync does to the newest ones
abbrev pub Takes : Arrival → (old new : NewestSyncs) → Type 0
Takes a old new =
    (entries : Bool → List (Entry ℕ)) → HoldsNewest entries old
    → HoldsNewest (λ flag. of_flag flag a (entries flag)) new

-- the newest one of its flag
abbrev pub IsNewest : Arrival → NewestSyncs → Option (Entry ℕ) → Type 0
IsNewest a kept one =
    (entries : Bool → List (Entry ℕ)) → HoldsNewest entries kept → one ≡ newest (entries a.is_unicast)

-- what is found of a number and a flag
abbrev pub Finds : (capacity : ℕ) → Arrival → KnownTimes → Option ℕ → Type 0
Finds capacity a known_times time =
    (entries : Bool → List (Entry ℕ)) → HoldsKnown capacity entries known_times
    → time ≡ known capacity a.number.0 (entries a.is_unicast)

-- the same of the capacity that what was told is told with
module _ {capacity : ℕ} {told : List Told} {old : Watch} (a : Arrival) (stands : StandsFor capacity old told) where
  pub stands-sync : (new : KnownTimes) (newest : NewestSyncs) → Pushes old.capacity a old.syncs new
      → Takes a old.newest newest
      → StandsFor capacity (record old { syncs = new; newest = newest }) (Sync a ∷ told)
  stands-sync new newest pushes takes =
      let at : Pushes capacity a old.syncs new =
      subst (λ (n : ℕ). Pushes n a old.syncs new) stands.capacity_is pushes in
      record {
        capacity_is = stands.capacity_is;
        syncs_held = at (λ flag. syncs flag told) stands.syncs_held;
        follow_ups_held = stands.follow_ups_held;
        newest_held = takes (λ flag. syncs flag told) stands.newest_held;
      }

  pub stands-follow_up : (new : KnownTimes) → Pushes old.capacity a old.follow_ups new
      → StandsFor capacity (record old { follow_ups = new }) (FollowUp a ∷ told)
  stands-follow_up new pushes =
      let at : Pushes capacity a old.follow_ups new =
      subst (λ (n : ℕ). Pushes n a old.follow_ups new) stands.capacity_is pushes in
      record {
        capacity_is = stands.capacity_is;
        syncs_held = stands.syncs_held;
        follow_ups_held = at (λ flag. follow_ups flag told) stands.follow_ups_held;
        newest_held = stands.newest_held;
      }

  module _ (sync follow_up : Option ℕ) (one : Option (Entry ℕ)) (finds_sync : Finds old.capacity a old.syncs sync)
      (finds_follow_up : Finds old.capacity a old.follow_ups follow_up) (is_newest : IsNewest a old.newest one) where
    sync_is : sync ≡ known capacity a.number.0 (syncs a.is_unicast told)
    sync_is =
        let at : Finds capacity a old.syncs sync =
        subst (λ (n : ℕ). Finds n a old.syncs sync) stands.capacity_is finds_sync in
        at (λ flag. syncs flag told) stands.syncs_held

    follow_up_is : follow_up ≡ known capacity a.number.0 (follow_ups a.is_unicast told)
    follow_up_is =
        let at : Finds capacity a old.follow_ups follow_up =
        subst (λ (n : ℕ). Finds n a old.follow_ups follow_up) stands.capacity_is finds_follow_up in
        at (λ flag. follow_ups flag told) stands.follow_ups_held

    newest_is : one ≡ newest (syncs a.is_unicast told)
    newest_is = is_newest (λ flag. syncs flag told) stands.newest_held

    pub judged : sync_judgement a sync follow_up one ≡ judged_sync a capacity told
    judged = λ i. sync_judgement a (sync_is i) (follow_up_is i) (newest_is i)

    pub repeated : is_repeat a sync follow_up one ≡ is_repeated a capacity told
    repeated = λ i. is_repeat a (sync_is i) (follow_up_is i) (newest_is i)

-- one more Delay_Resp
pub stands-response : {capacity : ℕ} {responses : List (Entry ℕ)} {old : Responses} (e : Entry ℕ) (new : Marked ℕ)
    → StandsForResponses capacity old responses → new ≡ push old.capacity e old.responses
    → StandsForResponses capacity (record old { responses = new }) (e ∷ responses)
stands-response {capacity} {responses} {old} e new stands is = record {
  capacity_is = stands.capacity_is;
  latest = latest-push capacity e old.responses new responses
      (is ∙ ap (λ (n : ℕ). push n e old.responses) stands.capacity_is) stands.latest;
}
