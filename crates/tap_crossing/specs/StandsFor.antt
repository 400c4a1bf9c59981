-- What is kept of the records, and the messages that this stands for.
use Rattle.std.specs.Prelude.{◌≡◌, ℕ, List, ◌∷◌, take}
use Rattle.pairing.specs.Marked.{Marked, newest_first}
use Rattle.tap_crossing.specs.declared.sighting.Kind.TheVariants as kinds
use Rattle.tap_crossing.specs.declared.sighting.Placed.{Placed}
use Rattle.tap_crossing.specs.declared.places.Record.{Record}
use Rattle.tap_crossing.specs.declared.crossing.MessageOutcome.{MessageOutcome}
use Rattle.tap_crossing.specs.Records.{records}
use Rattle.tap_crossing.specs.Open.{HoldsOpen}
use Rattle.tap_crossing.specs.Told.{told}

-- what is kept: of each kind a table, and how many records are open
pub record Tables : Type 0 where
  pub capacity : ℕ
  pub syncs : Marked Record
  pub requests : Marked Record
  pub open_syncs : List ℕ
  pub open_requests : List ℕ

-- the tables stand for the messages that were met, newest first: they hold the records that were opened last,
-- and tell how many of all are open
pub record StandsFor (capacity : ℕ) (tables : Tables) (met : List Placed) : Type 0 where
  pub capacity_is : tables.capacity ≡ capacity
  pub syncs_held : newest_first tables.syncs ≡ take capacity (records capacity kinds.Sync met)
  pub requests_held : newest_first tables.requests ≡ take capacity (records capacity kinds.DelayReq met)
  pub syncs_open : HoldsOpen tables.open_syncs (records capacity kinds.Sync met)
  pub requests_open : HoldsOpen tables.open_requests (records capacity kinds.DelayReq met)

-- whatever they stood for, they stand for one more message
abbrev pub StandsAfter : Placed → (old new : Tables) → Type 0
StandsAfter p old new =
    (capacity : ℕ) (met : List Placed) → StandsFor capacity old met → StandsFor capacity new (p ∷ met)

-- whatever they stand for, this is told of one more message
abbrev pub IsTold : Placed → Tables → MessageOutcome → Type 0
IsTold p tables outcome =
    (capacity : ℕ) (met : List Placed) → StandsFor capacity tables met → outcome ≡ told capacity p met
