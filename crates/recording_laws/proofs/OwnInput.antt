-- The rows of own readings that are heard are those of records, one behind the other; the first may be a Delay_Resp.
use Rattle.std.proofs.Common.{◌≡◌, Bool, true, false, true≢false, List, [], ◌∷◌, length, Option, Some, None, refl, sym}
use Rattle.std.specs.Prelude.{◌&&◌, if◌then◌else◌, nat_le, is_some}
use Rattle.std.specs.Option.{option_or}
use Rattle.event_codec.specs.declared.port.PortIdentity.{PortIdentity}
use Rattle.datagram_source.specs.Datagram.{DatagramOf}
use Rattle.recording_model.specs.declared.watched.Watched.{Watched}
use Rattle.recording_measure.specs.declared.watch.WantedPorts.{WantedPorts}
use Rattle.recording_measure.specs.Chosen.{chosen, chosen_by, heard_with, heard_at, watched_at}
use Rattle.recording_measure.specs.Places.{PlaceName, PlacedRow, is_among, is_same_place, places_in, rows_at}
use Rattle.recording_measure.specs.Row.{Row, datagrams, kept_most}
use Rattle.recording_measure.proofs.Places.{same_place}
use Rattle.recording_laws.proofs.OwnRecords.{AreRecords, Nothing, Late, OneSync, OneExchange}
use Rattle.recording_laws.proofs.OwnRows.{AreExchangeRows, AreOfOne, AreOwnRows, ExchangeRows, IsSyncRow, NoRow, SyncRow, are_messages, joins, own_kinds}

module _ (watched : Watched) (w : WantedPorts) (ds : List DatagramOf) (slave : PortIdentity) where
  abbrev pub AreHeard : List Row → Type 0
  AreHeard rows = AreRecords watched (own_kinds w ds slave) (AreOfOne w ds slave) (joins w ds slave) (are_messages w ds slave) (datagrams rows)

  sync_too : (row : Row) (rows : List Row) → IsSyncRow w ds slave row → AreHeard rows → AreHeard (row ∷ rows)
  sync_too row rows is are = OneSync row.datagram (datagrams rows) is.says is.origin is.body are

  exchange_too : (q d : Row) (rows : List Row) → AreExchangeRows w ds slave q d → AreHeard rows → AreHeard (d ∷ q ∷ rows)
  exchange_too q d rows is are = OneExchange q.datagram d.datagram (datagrams rows) is.request is.origin is.asks is.response is.receive
      is.requesting is.answers is.one are

  response_alone : (q d : Row) → AreExchangeRows w ds slave q d → AreHeard (d ∷ [])
  response_alone q d is = Late d.datagram is.response is.receive is.requesting is.answers

  -- ---- those at a place
  sync_if : (same : Bool) (row : Row) (rows : List Row) → IsSyncRow w ds slave row → AreHeard rows
      → AreHeard (if same then row ∷ rows else rows)
  sync_if true row rows is are = sync_too row rows is are
  sync_if false row rows is are = are

  exchange_if : (same : Bool) (q d : Row) (rows : List Row) → AreExchangeRows w ds slave q d → AreHeard rows
      → AreHeard (if same then d ∷ (if same then q ∷ rows else rows) else (if same then q ∷ rows else rows))
  exchange_if true q d rows is are = exchange_too q d rows is are
  exchange_if false q d rows is are = are

  pub at_place : (place : PlaceName) {xs : List PlacedRow} → AreOwnRows w ds slave xs → AreHeard (rows_at place xs)
  at_place place NoRow = Nothing
  at_place place (SyncRow x xs is are) = sync_if (is_same_place place x.place) x.row (rows_at place xs) is (at_place place are)
  at_place place (ExchangeRows other q d xs is are) =
      exchange_if (is_same_place place other) q d (rows_at place xs) is (at_place place are)

  -- ---- those that are heard
  sync_few : (few : Bool) (x : PlacedRow) (rows : List Row) → IsSyncRow w ds slave x.row → AreHeard rows
      → AreHeard (if few then rows else x.row ∷ [])
  sync_few true x rows is are = are
  sync_few false x rows is are = sync_too x.row [] is Nothing

  sync_heard : (before now : Option PlaceName) (x : PlacedRow) (xs : List PlacedRow) (heard : List Row) → IsSyncRow w ds slave x.row
      → AreOwnRows w ds slave xs → AreHeard heard → AreHeard (heard_with before now x xs heard)
  sync_heard (Some place) now x xs heard is are those = sync_if (is_same_place place x.place) x.row heard is those
  sync_heard None None x xs heard is are those = Nothing
  sync_heard None (Some place) x xs heard is are those =
      sync_few (nat_le (length (x ∷ xs)) kept_most) x (rows_at place (x ∷ xs)) is (at_place place (SyncRow x xs is are))

  -- a place that a row is the first to tell is its own
  own_place : (w : WantedPorts) (x : PlacedRow) (xs : List PlacedRow) (place : PlaceName) → chosen_by w x xs ≡ Some place
      → is_same_place place x.place ≡ true
  own_place w x xs place is = by (is_among x.place (places_in (x ∷ xs))
      && is_some (watched_at w x.place (datagrams (rows_at x.place (x ∷ xs))))) is
    where
      by : (tells : Bool) → (if tells then Some x.place else None) ≡ Some place → is_same_place place x.place ≡ true
      by true is = let same : x.place ≡ place = cc in (same_place place x.place).1 (sym same)
      by false is = cc

  module _ (other : PlaceName) (q d : Row) (xs : List PlacedRow) (is : AreExchangeRows w ds slave q d) (are : AreOwnRows w ds slave xs)
      (heard : List Row) (those : AreHeard heard) where
    abbrev qs : PlacedRow
    qs = record { place = other; row = q }

    abbrev dqs : PlacedRow
    dqs = record { place = other; row = d }

    -- the Delay_Req tells the place
    by_request : (place : PlaceName) (same few : Bool) → same ≡ true
        → AreHeard (if same then d ∷ (if few then (if same then q ∷ rows_at place xs else rows_at place xs) else q ∷ [])
        else (if few then (if same then q ∷ rows_at place xs else rows_at place xs) else q ∷ []))
    by_request place true true told = exchange_too q d (rows_at place xs) is (at_place place are)
    by_request place true false told = exchange_too q d [] is Nothing
    by_request place false few told = absurd (true≢false (sym told))

    -- or the Delay_Resp does
    by_response : (few : Bool) (place : PlaceName) → AreHeard (if few then rows_at place (dqs ∷ qs ∷ xs) else d ∷ [])
    by_response true place = at_place place (ExchangeRows other q d xs is are)
    by_response false place = response_alone q d is

    exchange_heard : (before first now : Option PlaceName) → ((place : PlaceName) → first ≡ Some place → is_same_place place other ≡ true)
        → AreHeard (heard_with (option_or before first) (option_or (option_or before first) now) dqs (qs ∷ xs)
        (heard_with before (option_or before first) qs xs heard))
    exchange_heard (Some place) first now told = exchange_if (is_same_place place other) q d heard is those
    exchange_heard None (Some place) now told =
        by_request place (is_same_place place other) (nat_le (length (qs ∷ xs)) kept_most) (told place refl)
    exchange_heard None None (Some place) told = by_response (nat_le (length (dqs ∷ qs ∷ xs)) kept_most) place
    exchange_heard None None None told = Nothing

  pub are_heard : {xs : List PlacedRow} → AreOwnRows w ds slave xs → AreHeard (heard_at w xs)
  are_heard NoRow = Nothing
  are_heard (SyncRow x xs is are) = sync_heard (chosen w xs) (chosen w (x ∷ xs)) x xs (heard_at w xs) is are (are_heard are)
  are_heard (ExchangeRows other q d xs is are) =
      exchange_heard other q d xs is are (heard_at w xs) (are_heard are) (chosen w xs)
      (chosen_by w (record { place = other; row = q }) xs)
      (chosen_by w (record { place = other; row = d }) (record { place = other; row = q } ∷ xs))
      (own_place w (record { place = other; row = q }) xs)
