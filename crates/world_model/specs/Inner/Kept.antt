-- What a world has in memory of its events: where what each left is kept, in which list. Clauses alone know of the events
-- themselves. All of it stands for a list of entries, and functions above the one that has it speak of that list.
use Rattle.std.specs.Prelude.{◌≡◌, ◌<◌, ◌++◌, ℕ, List, map, slice_get, Option, Some, None, option_map, unwrap_or, vec_len, vec_capacity}
use Rattle.network_model.specs.declared.event.Event.{Event}
use Rattle.network_model.specs.Run.{site_of}
use Rattle.network_model.specs.Kinds.{entered_copy}
use Rattle.world_model.specs.declared.entry.Octets.{Octets}
use Rattle.world_model.specs.declared.entry.Octets.TheVariants as sizes
use Rattle.world_model.specs.declared.entry.Left.{Left}
use Rattle.world_model.specs.declared.entry.Left.TheVariants as lefts
use Rattle.world_model.specs.declared.events.Stay.{Stay}
use Rattle.world_model.specs.declared.events.Stores.{Stores}
use Rattle.world_model.specs.declared.events.Slot.{Slot}
use Rattle.world_model.specs.declared.events.Slot.TheVariants as slots
use Rattle.world_model.specs.declared.events.Kept.{Kept}
use Rattle.world_model.specs.declared.events.Events.{Events}
use Rattle.network_model.specs.Network.{Network}
use Rattle.world_model.specs.declared.station.Station.{Station}
use Rattle.world_model.specs.Inner.Stands.{Entry, IsWorld}

-- what the stores have
pub record Lists : Type 0 where
  pub short : List (List ℕ)
  pub long : List (List ℕ)
  pub stays : List Stay

abbrev pub lists : Stores → Lists
lists stores = record { short = stores.short.items; long = stores.long.items; stays = stores.stays.items }

-- a copy, where it is there
abbrev pub copied : Option Octets → Left
copied None = lefts.Nothing
copied (Some octets) = lefts.Copy octets

-- a stay, where it is there
abbrev pub stayed : Option Stay → Left
stayed None = lefts.Nothing
stayed (Some stay) = lefts.Stay stay.entered

-- what is kept there
abbrev pub left_in : Lists → Slot → Left
left_in lists (slots.Short index) = copied (option_map sizes.Short (slice_get lists.short index))
left_in lists (slots.Long index) = copied (option_map sizes.Long (slice_get lists.long index))
left_in lists (slots.Stay index) = stayed (slice_get lists.stays index)
left_in lists slots.Nothing = lefts.Nothing

-- where what the event of this tag left is kept
abbrev pub slot_at : List Kept → ℕ → Slot
slot_at kept tag = unwrap_or (option_map (λ k. k.slot) (slice_get kept tag)) slots.Nothing

-- the entry for which it stands
abbrev pub entry_of : Lists → Kept → Entry
entry_of lists kept = record { event = kept.event.value; left = left_in lists kept.slot }

abbrev pub entries_in : Lists → List Kept → List Entry
entries_in lists kept = map (entry_of lists) kept

-- the entries of all events
abbrev pub entries_of : Events → List Entry
entries_of events = entries_in (lists events.stores) events.kept.items

-- what this event left is there, and a stay is that of its event
abbrev pub IsStored : Lists → Event → Slot → Type 0
IsStored lists event (slots.Short index) = (octets : List ℕ) × (slice_get lists.short index ≡ Some octets)
IsStored lists event (slots.Long index) = (octets : List ℕ) × (slice_get lists.long index ≡ Some octets)
IsStored lists event (slots.Stay index) =
    (stay : Stay) × (slice_get lists.stays index ≡ Some stay)
    × (entered_copy event ≡ Some stay.copy) × (site_of event ≡ stay.clock)
IsStored lists event slots.Nothing = Unit {0}

-- the same of all events
abbrev pub AllStored : Lists → List Kept → Type 0
AllStored lists kept = (index : ℕ) (k : Kept) → slice_get kept index ≡ Some k → IsStored lists k.event.value k.slot

-- lists that have more at their ends
pub record Extends (old new : Lists) : Type 0 where
  pub short : (more : List (List ℕ)) × (new.short ≡ old.short ++ more)
  pub long : (more : List (List ℕ)) × (new.long ≡ old.long ++ more)
  pub stays : (more : List Stay) × (new.stays ≡ old.stays ++ more)

-- room for what one more event leaves
pub record HasPlace (stores : Stores) : Type 0 where
  pub short : vec_len stores.short < vec_capacity stores.short
  pub long : vec_len stores.long < vec_capacity stores.long
  pub stays : vec_len stores.stays < vec_capacity stores.stays

-- room for one more event
pub record HasRoom (events : Events) : Type 0 where
  pub kept : vec_len events.kept < vec_capacity events.kept
  pub stores : HasPlace events.stores

-- what a world has in memory keeps its run
pub record IsKeptWorld (network : Network) (stations : List Station) (events : Events) : Type 0 where
  pub world : IsWorld network stations (entries_of events)
  pub stored : AllStored (lists events.stores) events.kept.items
