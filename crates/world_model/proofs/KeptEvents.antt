-- What is kept of events, as entries.
use Rattle.std.proofs.Common.{◌≡◌, ◌∙◌, ℕ, zero, suc, ◌<◌, ◌==◌, Bool, true, false, List, [], ◌∷◌, ◌++◌, length, slice_get, slice_set, if◌then◌else◌, Option, Some, None, option_map, IsSome, is_some, refl, sym, ap, subst, arith}
use Rattle.std.proofs.lemmas.List.{map-append}
use Rattle.network_model.specs.declared.event.Event.{Event}
use Rattle.network_model.specs.Run.{Run, place}
use Rattle.network_model.specs.Kinds.{entered_copy}
use Rattle.network_model.specs.Clock.{reading}
use Rattle.world_model.specs.declared.entry.Octets.TheVariants as sizes
use Rattle.world_model.specs.declared.entry.Left.{Left}
use Rattle.world_model.specs.declared.entry.Left.TheVariants as lefts
use Rattle.world_model.specs.declared.events.Slot.{Slot}
use Rattle.world_model.specs.declared.events.Slot.TheVariants as slots
use Rattle.world_model.specs.declared.events.Kept.{Kept}
use Rattle.world_model.specs.Inner.Stands.{Entry, stay_in, stay_at, ended, left_stay, entering}
use Rattle.world_model.specs.Inner.Kept.{Lists, copied, stayed, left_in, entry_of, entries_in, IsStored, AllStored, Extends}
use Rattle.world_model.proofs.Entries.{get-push}

-- what is there is there in a longer list
get-more : {X : Type 0} (xs more : List X) (i : ℕ) (x : X) → slice_get xs i ≡ Some x → slice_get (xs ++ more) i ≡ Some x
get-more [] more i x there = cc
get-more (y ∷ ys) more zero x there = there
get-more (y ∷ ys) more (suc i) x there = get-more ys more i x there

get-longer : {X : Type 0} (xs more longer : List X) (i : ℕ) (x : X) → longer ≡ xs ++ more → slice_get xs i ≡ Some x → slice_get longer i ≡ Some x
get-longer xs more longer i x same there = ap (λ ys. slice_get ys i) same ∙ get-more xs more i x there

module _ (old new : Lists) (extends : Extends old new) where
  same_left : (event : Event) (slot : Slot) → IsStored old event slot → left_in new slot ≡ left_in old slot
  same_left event (slots.Short i) stored =
      ap (λ o. copied (option_map sizes.Short o)) (get-longer old.short extends.short.0 new.short i stored.0 extends.short.1 stored.1 ∙ sym stored.1)
  same_left event (slots.Long i) stored =
      ap (λ o. copied (option_map sizes.Long o)) (get-longer old.long extends.long.0 new.long i stored.0 extends.long.1 stored.1 ∙ sym stored.1)
  same_left event (slots.Stay i) stored =
      ap stayed (get-longer old.stays extends.stays.0 new.stays i stored.0 extends.stays.1 stored.1 ∙ sym stored.1)
  same_left event slots.Nothing stored = refl

  still_stored : (event : Event) (slot : Slot) → IsStored old event slot → IsStored new event slot
  still_stored event (slots.Short i) stored = (stored.0, get-longer old.short extends.short.0 new.short i stored.0 extends.short.1 stored.1)
  still_stored event (slots.Long i) stored = (stored.0, get-longer old.long extends.long.0 new.long i stored.0 extends.long.1 stored.1)
  still_stored event (slots.Stay i) stored = (stored.0, get-longer old.stays extends.stays.0 new.stays i stored.0 extends.stays.1 stored.1, stored.2, stored.3)
  still_stored event slots.Nothing stored = tt

  same_entries : (kept : List Kept) → AllStored old kept → entries_in new kept ≡ entries_in old kept
  same_entries [] all = refl
  same_entries (k ∷ kept) all = λ i. (record { event = k.event.value; left = same_left k.event.value k.slot (all 0 k refl) i }) ∷ same_entries kept (λ j. all (suc j)) i

  -- one more event with what it leaves
  pub entries-push : (kept : List Kept) (k : Kept) (event : Event) (left : Left) → AllStored old kept → k.event.value ≡ event → left_in new k.slot ≡ left
      → entries_in new (kept ++ k ∷ []) ≡ entries_in old kept ++ (record { event = event; left = left }) ∷ []
  entries-push kept k event left all is_event is_left =
      map-append (entry_of new) kept (k ∷ [])
      ∙ ap (λ (es : List Entry). es ++ entry_of new k ∷ []) (same_entries kept all)
      ∙ (λ i. entries_in old kept ++ (record { event = is_event i; left = is_left i }) ∷ [])

  pub AllStored-push : (kept : List Kept) (k : Kept) → AllStored old kept → IsStored new k.event.value k.slot → AllStored new (kept ++ k ∷ [])
  AllStored-push kept k all stored i other there = by_test (length kept == i) (sym (get-push kept k i) ∙ there)
    where
      by_test : (b : Bool) → (if b then Some k else slice_get kept i) ≡ Some other → IsStored new other.event.value other.slot
      by_test true is = let same : k ≡ other = cc in subst (λ (x : Kept). IsStored new x.event.value x.slot) same stored
      by_test false is = still_stored other.event.value other.slot (all i other is)

-- a stay is that of an event that is there
pub stay-within : (lists : Lists) (kept : List Kept) (tag entered : ℕ) → stay_at (entries_in lists kept) tag ≡ Some entered → tag < length kept
stay-within lists [] tag entered stay = absurd (cc)
stay-within lists (k ∷ kept) zero entered stay = omega arith
stay-within lists (k ∷ kept) (suc tag) entered stay = let less : tag < length kept = stay-within lists kept tag entered stay in omega arith

ended-stay : (left : Left) (entered : ℕ) → stay_in left ≡ Some entered → ended left ≡ lefts.Nothing
ended-stay (lefts.Copy octets) entered stay = absurd (cc)
ended-stay _ entered stay = refl

-- the same where a stay was taken out
pub entries-out : (lists : Lists) (kept : List Kept) (tag entered : ℕ) (k : Kept) → slice_get kept tag ≡ Some k → stay_at (entries_in lists kept) tag ≡ Some entered
    → entries_in lists (slice_set kept tag (record { event = k.event; slot = slots.Nothing })) ≡ left_stay tag (entries_in lists kept)
entries-out lists [] tag entered k there stay = refl
entries-out lists (first ∷ kept) zero entered k there stay =
    let same : first ≡ k = cc in
    subst (λ (o : Kept). (record { event = o.event.value; left = lefts.Nothing }) ∷ entries_in lists kept ≡ left_stay zero (entries_in lists (first ∷ kept))) same
    (λ i. (record { event = first.event.value; left = sym (ended-stay (left_in lists first.slot) entered stay) i }) ∷ entries_in lists kept)
entries-out lists (first ∷ kept) (suc tag) entered k there stay = ap (λ rest. entry_of lists first ∷ rest) (entries-out lists kept tag entered k there stay)

pub AllStored-out : (lists : Lists) (kept : List Kept) (tag : ℕ) (k : Kept) → k.slot ≡ slots.Nothing → AllStored lists kept → AllStored lists (slice_set kept tag k)
AllStored-out lists [] tag k none all i other there = all i other there
AllStored-out lists (first ∷ kept) zero k none all zero other there =
    let same : k ≡ other = cc in
    subst (λ (x : Kept). IsStored lists x.event.value x.slot) same (subst (λ (s : Slot). IsStored lists k.event.value s) (sym none) tt)
AllStored-out lists (first ∷ kept) zero k none all (suc i) other there = all (suc i) other there
AllStored-out lists (first ∷ kept) (suc tag) k none all zero other there = all zero other there
AllStored-out lists (first ∷ kept) (suc tag) k none all (suc i) other there = AllStored-out lists kept tag k none (λ j. all (suc j)) i other there

-- only what enters leaves a stay
pub entered-some : (event : Event) (run : Run) (left : Left) → stay_in left ≡ option_map reading (entering (place event run)) → IsSome (stay_in left) → IsSome (entered_copy event)
entered-some event run left same some = by_copy (entered_copy event) same
  where
    by_copy : (o : Option ℕ) → stay_in left ≡ option_map reading (if is_some o then Some (place event run) else None) → IsSome o
    by_copy None is = let none : is_some (stay_in left) ≡ false = ap is_some is in absurd (cc)
    by_copy (Some copy) is = refl
