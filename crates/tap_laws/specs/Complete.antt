-- What is told of a Sync or a Delay_Req that was met at both taps. Lists of messages have the newest in front.
-- `laws::each_complete_record_is_told` promises it.
use Rattle.std.specs.Prelude.{◌≡◌, ℕ, ◌+◌, ◌<◌, Bool, ◌&&◌, nat_eq, true, false, ⊤, List, [], ◌∷◌, ◌++◌, Contains}
use Rattle.std.specs.Prelude.{Some, None, is_none, option_map, option_and_then, if◌then◌else◌}
use Rattle.ptp_units.specs.declared.sequence.Seq.{Seq}
use Rattle.tap_crossing.specs.declared.sighting.Kind.{Kind}
use Rattle.tap_crossing.specs.declared.sighting.Placed.{Placed}
use Rattle.tap_crossing.specs.declared.places.Places.{Places}
use Rattle.tap_crossing.specs.declared.crossing.Crossing.{Crossing}
use Rattle.tap_crossing.specs.declared.crossing.MessageOutcome.TheVariants as outcomes
use Rattle.tap_crossing.specs.Crossing.{crossing, no_crossing}
use Rattle.tap_crossing.specs.Record.{no_places, place_in, with_place, complete}
use Rattle.tap_crossing.specs.Records.{open_record, is_same_kind, records}
use Rattle.tap_crossing.specs.Told.{told}
use Rattle.tap_laws.specs.Sound.{crossings_of}

-- a message of this kind and number
abbrev pub is_of : Kind → (number : ℕ) → Placed → Bool
is_of kind number p = is_same_kind kind p.kind && nat_eq p.number.0 number

-- what was met of these, each at its place
abbrev pub met_of : Kind → (number : ℕ) → List Placed → Places
met_of kind number [] = no_places
met_of kind number (p ∷ earlier) =
    if is_of kind number p then with_place p.place p.sighting (met_of kind number earlier) else met_of kind number earlier

-- no second one of these is met at a place
abbrev pub AreSingle : Kind → (number : ℕ) → List Placed → Type 0
AreSingle kind number [] = ⊤
AreSingle kind number (p ∷ earlier) =
    (is_of kind number p ≡ true → place_in (met_of kind number earlier) p.place ≡ None) × AreSingle kind number earlier

-- no record of this number is open among the last
abbrev pub is_free : (capacity : ℕ) → Kind → (number : ℕ) → (before : List Placed) → Bool
is_free capacity kind number before = is_none (open_record capacity number (records capacity kind before))

-- how many records of a kind these open, behind those before them
abbrev pub opened_by : (capacity : ℕ) → Kind → (since before : List Placed) → ℕ
opened_by capacity kind [] before = 0
opened_by capacity kind (p ∷ since) before =
    (if is_same_kind kind p.kind && is_free capacity kind p.number.0 (since ++ before) then 1 else 0) + opened_by capacity kind since before

-- What was met of a number since its record was opened is told, where that has what it needs: the event message at both taps, and the
-- others that it needs. No second message of the number was met at a place, fewer records of the kind were opened since than count,
-- and there is no reason why it is none: no correction is too big, the timestamp is the same at both taps, and the Sync isn't two-step at
-- `from` alone.
abbrev pub EachCompleteIsTold : Type 0
EachCompleteIsTold = (capacity : ℕ) (kind : Kind) (number : Seq) (later since before : List Placed) (opening : Placed) (x : Crossing)
    → is_of kind number.0 opening ≡ true → is_free capacity kind number.0 before ≡ true
    → AreSingle kind number.0 (since ++ opening ∷ []) → opened_by capacity kind since (opening ∷ before) < capacity
    → option_map (crossing kind number) (complete (met_of kind number.0 (since ++ opening ∷ []))) ≡ Some x
    → option_and_then (no_crossing kind) (complete (met_of kind number.0 (since ++ opening ∷ []))) ≡ None
    → Contains (crossings_of capacity (later ++ (since ++ opening ∷ before))) x

-- messages of other kinds or numbers
abbrev pub AreOthers : Kind → (number : ℕ) → List Placed → Type 0
AreOthers kind number [] = ⊤
AreOthers kind number (p ∷ earlier) = (is_of kind number p ≡ false) × AreOthers kind number earlier

-- where nothing was met, no number has an open record
abbrev pub EachBeginsFree : Type 0
EachBeginsFree = (capacity : ℕ) (kind : Kind) (number : ℕ) → is_free capacity kind number [] ≡ true

-- it has none as long as messages of others come
abbrev pub EachStaysFree : Type 0
EachStaysFree = (capacity : ℕ) (kind : Kind) (number : ℕ) (later before : List Placed)
    → is_free capacity kind number before ≡ true → AreOthers kind number later → is_free capacity kind number (later ++ before) ≡ true

-- and none once a crossing of it is told
abbrev pub EachToldIsFree : Type 0
EachToldIsFree = (capacity : ℕ) (p : Placed) (before : List Placed) (x : Crossing)
    → told capacity p before ≡ outcomes.Crossed x → is_free capacity p.kind p.number.0 (p ∷ before) ≡ true
