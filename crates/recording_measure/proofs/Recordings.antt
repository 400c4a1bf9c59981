-- What is known of the places of a capture, with one datagram more.
use Rattle.std.proofs.Common.{◌≡◌, ◌≢◌, ◌∙◌, ◌⊎◌, inl, inr, ℕ, zero, suc, ◌+◌, ◌<◌, ◌≤◌, nat_le, Bool, true, false, ◌==◌, ◌||◌}
use Rattle.std.proofs.Common.{List, [], ◌∷◌, ◌++◌, length, get_or, map, slice_set, Option, Some, None, Ok, refl, sym, ap, subst, arith}
use Rattle.std.specs.Prelude.{if◌then◌else◌}
use Rattle.std.specs.List.{All}
use Rattle.std.specs.Option.{option_map_or}
use Rattle.std.specs.Result.{result_ok}
use Rattle.std.proofs.lemmas.Bool.{cases_lt, cases_eq, lt-leb}
use Rattle.std.proofs.lemmas.List.{length-append, length-map, length-set, map-append, get_or-map, get_or_push, get_or-set_same, get_or-set_other}
use Rattle.std.proofs.lemmas.List.Elements.{All-push}
use Rattle.event_codec.specs.declared.message.Header.{Header}
use Rattle.event_codec.specs.declared.port.PortIdentity.{PortIdentity}
use Rattle.event_codec.specs.Packet.{Contents}
use Rattle.event_codec.specs.Port.{is_same_port}
use Rattle.std.specs.String.{string_bytes}
use Rattle.event_codec.specs.Reading.{Reading, IsReading}
use Rattle.datagram_source.specs.declared.datagram.Datagram.{Datagram}
use Rattle.datagram_source.specs.Said.{reading_of}
use Rattle.datagram_source.specs.Datagram.{datagram_of}
use Rattle.recording_model.specs.Recorded.{Recorded}
use Rattle.recording_measure.specs.declared.recording.Kept.{Kept}
use Rattle.recording_measure.specs.declared.recording.Sought.{Sought}
use Rattle.recording_measure.specs.declared.recording.Recording.{Recording}
use Rattle.recording_measure.specs.declared.watch.WantedPorts.{WantedPorts}
use Rattle.recording_measure.specs.Row.{Row, row_of, datagrams, kept_most}
use Rattle.recording_measure.specs.Places.{PlaceName, PlacedRow, is_same_place, rows_at, is_among, with_place, places_in}
use Rattle.recording_measure.specs.Places.{places_most}
use Rattle.recording_measure.specs.Chosen.{tells, is_domain_met, is_port_met}
use Rattle.recording_measure.specs.Counts.{Fate, early_at, IsCounts}
use Rattle.recording_measure.specs.Inner.Recordings.{IsRowOf, IsSought, IsNoticed, IsFresh, AreKeptRows, IsRecording, AreRecordings}
use Rattle.recording_measure.specs.Told.{place_in}
use Rattle.recording_measure.specs.Inner.Recordings.{HasAdded, IsFoundAt, KeepsMore}
use Rattle.recording_measure.proofs.Places.{AreDistinct, distinct_in, not_among, no_rows, same_place}
use Rattle.recording_measure.proofs.Chosen.{or_stays}
use Rattle.datagram_source.proofs.OneCourse.{one_reading}

-- ---- what was met
or_swap : (a b : Bool) → (a || b) ≡ (b || a)
or_swap true true = refl
or_swap true false = refl
or_swap false true = refl
or_swap false false = refl

tells_said : (is : Header → Bool) (d : Recorded) (m : Contents) → d.said ≡ Ok m → tells is d ≡ is m.header
tells_said is d m said = ap (λ s. option_map_or (λ (x : Contents). is x.header) (result_ok s) false) said

domain_more : (domain : Option ℕ) (d : Recorded) (ds : List Recorded) (m : Contents) (old new : Bool) → d.said ≡ Ok m
    → old ≡ is_domain_met domain ds → new ≡ (old || option_map_or (λ n. m.header.domain == n) domain false)
    → new ≡ is_domain_met domain (d ∷ ds)
domain_more None d ds m old new said was is = is ∙ ap (λ b. b || false) was
domain_more (Some domain) d ds m old new said was is =
    is ∙ ap (λ b. b || (m.header.domain == domain)) was
    ∙ or_swap (is_domain_met (Some domain) ds) (m.header.domain == domain)
    ∙ ap (λ b. b || is_domain_met (Some domain) ds) (sym (tells_said (λ header. header.domain == domain) d m said))

port_more : (port : Option PortIdentity) (d : Recorded) (ds : List Recorded) (m : Contents) (old new : Bool) → d.said ≡ Ok m
    → old ≡ is_port_met port ds → new ≡ (old || option_map_or (is_same_port m.header.source) port false)
    → new ≡ is_port_met port (d ∷ ds)
port_more None d ds m old new said was is = is ∙ ap (λ b. b || false) was
port_more (Some port) d ds m old new said was is =
    is ∙ ap (λ b. b || is_same_port m.header.source port) was
    ∙ or_swap (is_port_met (Some port) ds) (is_same_port m.header.source port)
    ∙ ap (λ b. b || is_port_met (Some port) ds) (sym (tells_said (λ header. is_same_port header.source port) d m said))

pub IsSought-said : (w : WantedPorts) (d : Recorded) (ds : List Recorded) (m : Contents) (old new : Sought) → d.said ≡ Ok m
    → IsSought w ds old → new.domain ≡ (old.domain || option_map_or (λ n. m.header.domain == n) w.domain false)
    → new.master ≡ (old.master || option_map_or (is_same_port m.header.source) w.master false)
    → new.slave ≡ (old.slave || option_map_or (is_same_port m.header.source) w.slave false) → IsSought w (d ∷ ds) new
IsSought-said w d ds m old new said is domain master slave = record {
  domain = domain_more w.domain d ds m old.domain new.domain said is.domain domain;
  master = port_more w.master d ds m old.master new.master said is.master master;
  slave = port_more w.slave d ds m old.slave new.slave said is.slave slave;
}

-- ---- one more is kept
pub AreKeptRows-more : (earlier rows : List Row) (kept : List Kept) (k : Kept) (row : Row) → AreKeptRows earlier kept rows
    → IsRowOf k row → AreKeptRows earlier (kept ++ k ∷ []) (row ∷ rows)
AreKeptRows-more earlier rows [] k row are is = (row, is, ap (λ (r : List Row). row ∷ r) are)
AreKeptRows-more earlier rows (x ∷ kept) k row are is =
    (are.0, are.1, AreKeptRows-more (are.0 ∷ earlier) rows kept k row are.2 is)

-- ---- which of them is that of a place
-- none of one more is at a place
pub one_more_differs : (place : PlaceName) (xs : List Recording) (n : ℕ)
    → ((k : ℕ) (d : Recording) → k < n → is_same_place (place_in (get_or xs k d)) place ≡ false)
    → ((d : Recording) → is_same_place (place_in (get_or xs n d)) place ≡ false)
    → (k : ℕ) (d : Recording) → k < n + 1 → is_same_place (place_in (get_or xs k d)) place ≡ false
one_more_differs place xs n before here k d below = go (cases_lt k n)
  where
    go : (k < n) ⊎ (n ≤ k) → is_same_place (place_in (get_or xs k d)) place ≡ false
    go (inl less) = before k d less
    go (inr more) =
        let same : k ≡ n = omega (arith, more, below) in
        ap (λ (i : ℕ). is_same_place (place_in (get_or xs i d)) place) same ∙ here d

pub none_among : (place : PlaceName) (xs : List Recording)
    → ((k : ℕ) (d : Recording) → k < length xs → is_same_place (place_in (get_or xs k d)) place ≡ false)
    → is_among place (map place_in xs) ≡ false
none_among place [] none = refl
none_among place (x ∷ xs) none =
    ap (λ b. b || is_among place (map place_in xs)) (none 0 x (omega arith))
    ∙ none_among place xs (λ k d within. none (suc k) d (omega (arith, within)))

pub among_recordings : (place : PlaceName) (xs : List Recording) (k : ℕ) → k < length xs
    → ((d : Recording) → place_in (get_or xs k d) ≡ place) → is_among place (map place_in xs) ≡ true
among_recordings place [] k within is = absurd (omega (arith, within))
among_recordings place (x ∷ xs) zero within is =
    ap (λ b. b || is_among place (map place_in xs)) ((same_place (place_in x) place).1 (is x))
among_recordings place (x ∷ xs) (suc k) within is =
    or_stays (is_same_place (place_in x) place) (is_among place (map place_in xs))
    (among_recordings place xs k (omega (arith, within)) is)

-- ---- one datagram more at a place, and at others
same_rows : (place : PlaceName) (r : PlacedRow) (rows : List PlacedRow) → is_same_place place r.place ≡ false
    → rows_at place (r ∷ rows) ≡ rows_at place rows
same_rows place r rows other = ap (λ b. if b then r.row ∷ rows_at place rows else rows_at place rows) other

more_rows : (place : PlaceName) (r : PlacedRow) (rows : List PlacedRow) → place ≡ r.place
    → rows_at place (r ∷ rows) ≡ r.row ∷ rows_at place rows
more_rows place r rows is = ap (λ b. if b then r.row ∷ rows_at place rows else rows_at place rows)
    ((same_place place r.place).1 is)

IsRecording-other : (w : WantedPorts) (rows : List PlacedRow) (r : PlacedRow) (x : Recording)
    → is_same_place (place_in x) r.place ≡ false → IsRecording w rows x → IsRecording w (r ∷ rows) x
IsRecording-other w rows r x other is =
    let same = sym (same_rows (place_in x) r rows other) in record {
      noticed = subst (λ (rs : List Row). IsNoticed w (datagrams rs) x) same is.noticed;
      kept = λ few. subst (AreKeptRows [] x.kept.items) same (is.kept (omega (arith, few)));
      early = subst (λ (rs : List Row). IsCounts (early_at w (place_in x) rs) x.early.counts) same is.early;
    }

pub IsRecording-there : (w : WantedPorts) (rows : List PlacedRow) (r : PlacedRow) (place : PlaceName) (x : Recording)
    → place ≡ r.place → place_in x ≡ place
    → IsNoticed w (r.row.datagram ∷ datagrams (rows_at place rows)) x
    → (length rows + 1 ≤ kept_most → AreKeptRows [] x.kept.items (r.row ∷ rows_at place rows))
    → IsCounts (early_at w place (r.row ∷ rows_at place rows)) x.early.counts → IsRecording w (r ∷ rows) x
IsRecording-there w rows r place x there is noticed kept early =
    let same : r.row ∷ rows_at place rows ≡ rows_at (place_in x) (r ∷ rows) =
    sym (ap (λ (i : PlaceName). rows_at i (r ∷ rows)) is ∙ more_rows place r rows there) in record {
      noticed = subst (λ (rs : List Row). IsNoticed w (datagrams rs) x) same noticed;
      kept = λ few. subst (AreKeptRows [] x.kept.items) same (kept (omega (arith, few)));
      early = subst (λ (all : List Fate). IsCounts all x.early.counts)
          (ap (λ (i : PlaceName). early_at w i (r.row ∷ rows_at place rows)) (sym is) ∙ ap (early_at w (place_in x)) same) early;
    }

-- the others are at other places
others_differ : (known : List PlaceName) (xs : List Recording) (j k : ℕ) (d : Recording) (place : PlaceName)
    → map place_in xs ≡ known → AreDistinct known → j ≢ k → j < length xs → k < length xs
    → place_in (get_or xs k d) ≡ place → is_same_place (place_in (get_or xs j d)) place ≡ false
others_differ known xs j k d place are distinct other within within' is =
    let count : length known ≡ length xs = ap length (sym are) ∙ length-map xs place_in in
    let at : (i : ℕ) → i < length xs → get_or known i (place_in d) ≡ place_in (get_or xs i d) =
    λ i inside. ap (λ (l : List PlaceName). get_or l i (place_in d)) (sym are) ∙ get_or-map place_in xs i d (place_in d) inside in
    ap (is_same_place (place_in (get_or xs j d))) (sym is)
    ∙ (λ i. is_same_place (sym (at j within) i) (sym (at k within') i))
    ∙ distinct j k (place_in d) other (omega (arith, within, count)) (omega (arith, within', count))

-- one of them is replaced by another at its place
map-set : (xs : List Recording) (index : ℕ) (x : Recording) → ((d : Recording) → place_in x ≡ place_in (get_or xs index d))
    → map place_in (slice_set xs index x) ≡ map place_in xs
map-set [] index x same = refl
map-set (y ∷ xs) zero x same = ap (λ (i : PlaceName). i ∷ map place_in xs) (same x)
map-set (y ∷ xs) (suc index) x same = ap (λ (is : List PlaceName). place_in y ∷ is) (map-set xs index x same)

pub taken_there : (w : WantedPorts) (rows : List PlacedRow) (r : PlacedRow) (added : List Recording) (index : ℕ) (x : Recording)
    → map place_in added ≡ places_in (r ∷ rows) → index < length added
    → ((d : Recording) → place_in (get_or added index d) ≡ r.place) → place_in x ≡ r.place
    → All (IsRecording w rows) added → IsRecording w (r ∷ rows) x → AreRecordings w (r ∷ rows) (slice_set added index x)
taken_there w rows r added index x are within there is each new = record {
  places = map-set added index x (λ d. is ∙ sym (there d)) ∙ are;
  each = λ k d inside. go k d (subst (λ (n : ℕ). k < n) (length-set added index x) inside) (cases_eq k index);
}
  where
    go : (k : ℕ) (d : Recording) → k < length added → (k ≡ index) ⊎ (k ≢ index) → IsRecording w (r ∷ rows) (get_or (slice_set added index x) k d)
    go k d inside (inl same) =
        subst (IsRecording w (r ∷ rows)) (sym (ap (λ (n : ℕ). get_or (slice_set added index x) n d) same ∙ get_or-set_same added index x d within)) new
    go k d inside (inr other) =
        subst (IsRecording w (r ∷ rows)) (sym (get_or-set_other added index k x d other))
        (IsRecording-other w rows r (get_or added k d)
        (others_differ (places_in (r ∷ rows)) added k index d r.place are (distinct_in (r ∷ rows)) other inside within (there d))
        (each k d inside))

pub taken_nowhere : (w : WantedPorts) (rows : List PlacedRow) (r : PlacedRow) (added : List Recording)
    → map place_in added ≡ places_in (r ∷ rows) → is_among r.place (map place_in added) ≡ false
    → All (IsRecording w rows) added → AreRecordings w (r ∷ rows) added
taken_nowhere w rows r added are none each = record {
  places = are;
  each = λ k d inside.
      IsRecording-other w rows r (get_or added k d)
      (ap (λ (i : PlaceName). is_same_place i r.place) (sym (get_or-map place_in added k d (place_in d) inside))
      ∙ not_among r.place (map place_in added) k (place_in d) none (omega (arith, inside, length-map added place_in)))
      (each k d inside);
}

-- ---- a place that was found or added
fresh_recording : (w : WantedPorts) (rows : List PlacedRow) (place : PlaceName) (x : Recording) → IsFresh w place x
    → rows_at place rows ≡ [] → IsRecording w rows x
fresh_recording w rows place x fresh none =
    let nothing : [] ≡ rows_at (place_in x) rows = sym (ap (λ (i : PlaceName). rows_at i rows) fresh.is_at ∙ none) in record {
      noticed = subst (λ (rs : List Row). IsNoticed w (datagrams rs) x) nothing fresh.noticed;
      kept = λ few. subst (λ (kept : List Kept). AreKeptRows [] kept (rows_at (place_in x) rows)) (sym fresh.kept) (sym nothing);
      early = subst (λ (rs : List Row). IsCounts (early_at w (place_in x) rs) x.early.counts) nothing fresh.early;
    }

pub each_added : (w : WantedPorts) (rows : List PlacedRow) (place : PlaceName) (found : Option ℕ) (old new : List Recording)
    → AreRecordings w rows old → HasAdded w place found old new → All (IsRecording w rows) new
each_added w rows place found old new are added = go added.recordings
  where
    go : (new ≡ old) ⊎ ((fresh : Recording) × IsFresh w place fresh × (new ≡ old ++ fresh ∷ [])
        × (is_among place (map place_in old) ≡ false) × (nat_le places_most (length old) ≡ false)) → All (IsRecording w rows) new
    go (inl same) = subst (All (IsRecording w rows)) (sym same) are.each
    go (inr (fresh, is, more, none, few)) =
        let nothing = no_rows place rows (ap (is_among place) (sym are.places) ∙ none)
        (ap (nat_le places_most) (ap length (sym are.places) ∙ length-map old place_in) ∙ few) in
        subst (All (IsRecording w rows)) (sym more)
        (All-push (IsRecording w rows) old fresh are.each (fresh_recording w rows place fresh is nothing))

pub places_added : (w : WantedPorts) (rows : List PlacedRow) (r : PlacedRow) (found : Option ℕ) (old new : List Recording)
    → AreRecordings w rows old → HasAdded w r.place found old new → map place_in new ≡ places_in (r ∷ rows)
places_added w rows r found old new are added =
    added.places ∙ ap (with_place r.place) are.places

-- a place that wasn't there was added
pub added_one : (w : WantedPorts) (place : PlaceName) (old new : List Recording) (x : Recording) → IsFresh w place x
    → new ≡ old ++ x ∷ [] → (index : ℕ) → index ≡ length old → is_among place (map place_in old) ≡ false
    → length old < places_most → HasAdded w place (Some index) old new
added_one w place old new x fresh more index at none room = subst (λ (n : ℕ). HasAdded w place (Some n) old new) (sym at) (
    let few : nat_le places_most (length old) ≡ false = lt-leb places_most (length old) room in
    let last : (d : Recording) → place_in (get_or new (length old) d) ≡ place =
    λ d. ap (λ (l : List Recording). place_in (get_or l (length old) d)) more
    ∙ ap place_in (get_or_push old x d (length old) refl) ∙ fresh.is_at in
    let within : length old < length new = omega (arith, ap length more, length-append old (x ∷ [])) in record {
      places = ap (map place_in) more ∙ map-append place_in old (x ∷ [])
          ∙ ap (λ (i : PlaceName). map place_in old ++ i ∷ []) fresh.is_at
          ∙ sym (ap (λ b. if b || nat_le places_most (length (map place_in old)) then map place_in old
          else map place_in old ++ place ∷ []) none
          ∙ ap (λ b. if b then map place_in old else map place_in old ++ place ∷ [])
          (ap (nat_le places_most) (length-map old place_in) ∙ few));
      found_at = (among_recordings place new (length old) within last, within, last);
      recordings = inr (x, fresh, more, none, few);
    })

-- a datagram at a place that was found or added, whose recording took it
pub added_taken : (w : WantedPorts) (rows : List PlacedRow) (r : PlacedRow) (index : ℕ) (old added : List Recording) (was x : Recording)
    → AreRecordings w rows old → HasAdded w r.place (Some index) old added → was ≡ get_or added index was
    → place_in x ≡ place_in was → ((ds : List Recorded) → IsNoticed w ds was → IsNoticed w (r.row.datagram ∷ ds) x)
    → (length rows + 1 ≤ kept_most → (rs : List Row) → AreKeptRows [] was.kept.items rs → AreKeptRows [] x.kept.items (r.row ∷ rs))
    → ((rs : List Row) → IsNoticed w (datagrams rs) was → IsCounts (early_at w (place_in was) rs) was.early.counts
    → IsCounts (early_at w (place_in was) (r.row ∷ rs)) x.early.counts)
    → AreRecordings w (r ∷ rows) (slice_set added index x)
    × IsFoundAt r.place (places_in (r ∷ rows)) (Some index) (slice_set added index x)
added_taken w rows r index old added was x are has at is noticed kept early =
    let (among, within, there) = has.found_at in
    let all : map place_in added ≡ places_in (r ∷ rows) = places_added w rows r (Some index) old added are has in
    let each = each_added w rows r.place (Some index) old added are has in
    let stood : IsRecording w rows was = subst (IsRecording w rows) (sym at) (each index was within) in
    let here : place_in was ≡ r.place = ap place_in at ∙ there was in
    let new = IsRecording-there w rows r (place_in was) x here is
    (noticed (datagrams (rows_at (place_in was) rows)) stood.noticed)
    (λ few. kept few (rows_at (place_in was) rows) (stood.kept (omega (arith, few))))
    (early (rows_at (place_in was) rows) stood.noticed stood.early) in (
      taken_there w rows r added index x all within there (is ∙ here) each new,
      (
        ap (is_among r.place) (sym all) ∙ among,
        omega (arith, within, length-set added index x),
        λ d. ap place_in (get_or-set_same added index x d within) ∙ is ∙ here,
      ),
    )

-- a datagram at a place that isn't looked at
pub added_nowhere : (w : WantedPorts) (rows : List PlacedRow) (r : PlacedRow) (found : Option ℕ) (old added : List Recording)
    → AreRecordings w rows old → HasAdded w r.place found old added → ((index : ℕ) → found ≡ Some index → ⊥)
    → AreRecordings w (r ∷ rows) added × IsFoundAt r.place (places_in (r ∷ rows)) found added
added_nowhere w rows r (Some index) old added are has other = absurd (other index refl)
added_nowhere w rows r None old added are has other =
    let all : map place_in added ≡ places_in (r ∷ rows) = places_added w rows r None old added are has in (
      taken_nowhere w rows r added all has.found_at (each_added w rows r.place None old added are has),
      ap (is_among r.place) (sym all) ∙ has.found_at,
    )

-- one more is kept
pub keeps_row : (rows : List Row) (old new : List Kept) (d : Datagram) → KeepsMore old new d → IsReading d.octets.now (reading_of d.said)
    → AreKeptRows [] old rows → AreKeptRows [] new (row_of (datagram_of d) ∷ rows)
keeps_row rows old new d (k, more, copy) reads are =
    subst (λ (kept : List Kept). AreKeptRows [] kept (row_of (datagram_of d) ∷ rows)) (sym more)
    (AreKeptRows-more [] rows old k (row_of (datagram_of d)) are (record {
      written = sym copy.written;
      octets = sym copy.octets;
      numbered = sym copy.numbered;
      moment_is = sym copy.moment_is;
      said = subst (λ (o : List ℕ). IsReading o (reading_of d.said)) (sym copy.octets) reads;
      own = sym copy.own;
    }))

-- what was kept of a datagram has one row
pub kept_row : (k : Kept) (written octets : List ℕ) (said : Reading) (row : Row) → string_bytes k.written ≡ written
    → k.octets.items ≡ octets → IsReading k.octets.items said
    → IsRowOf k row → row ≡ record { time = written; octets = octets; datagram = record { line = k.number; time = k.time; said = said }; own = k.own }
kept_row k written octets said row same alike reads is = λ i. record {
  time = (is.written ∙ same) i;
  octets = (is.octets ∙ alike) i;
  datagram = record {
    line = is.numbered i;
    time = is.moment_is i;
    said = one_reading k.octets.items said row.datagram.said reads is.said i;
  };
  own = is.own i;
}
