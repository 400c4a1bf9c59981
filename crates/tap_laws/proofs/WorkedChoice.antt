-- Worked cases of the choice: the first Sync of a real capture at two ports of a clock, of which the second was described first;
-- and what comes out where a premise is missing.
use Rattle.std.proofs.Common.{◌≡◌, ℕ, pos, Bool, List, [], ◌∷◌, ◌++◌, length, Some, None, refl, ap, arith, length-append}
use Rattle.ptp_units.specs.Moment.{stamp}
use Rattle.event_codec.specs.declared.message.Body.TheVariants as bodies
use Rattle.event_codec.specs.declared.port.PortIdentity.{PortIdentity}
use Rattle.tap_choice.specs.declared.met.Met.{Met}
use Rattle.tap_choice.specs.declared.met.Side.{Side}
use Rattle.tap_choice.specs.declared.met.Side.TheVariants as taps
use Rattle.tap_choice.specs.declared.wanted.WantedTaps.{WantedTaps}
use Rattle.tap_laws.specs.Choice.{known_after, is_of_master, IsMetAtBoth, IsFirstOf}
use Rattle.tap_laws.proofs.Choices.{chooses_first}

abbrev nothing_asked : WantedTaps
nothing_asked = record { from = None; to = None; domain = None; master = None; slave = None }

abbrev master : PortIdentity
master = record { clock = 2 ∷ 0 ∷ 0 ∷ 255 ∷ 254 ∷ 0 ∷ 0 ∷ 1 ∷ []; port = 1 }

-- a Sync of the master, at a tap and a time
abbrev sync_at : Side → (number line time : ℕ) → Met
sync_at side number line time = record {
  side = side;
  line = line;
  time = time;
  header = record {
    major_sdo = 0;
    minor_version = 1;
    domain = 0;
    minor_sdo = 0;
    flags = 2 ∷ 0 ∷ [];
    correction = record { 0 = pos 0 };
    specific = 0 ∷ 0 ∷ 0 ∷ 0 ∷ [];
    source = master;
    sequence = record { 0 = number };
    control = 0;
    log = pos 0;
  };
  body = bodies.Sync (stamp 0 0);
}

abbrev late : Met
late = sync_at taps.First 0 6 117679394939041552990208

abbrev early : Met
early = sync_at taps.Second 0 3 117679394939036587458560

-- one more that was met at the first tap
abbrev next : Met
next = sync_at taps.First 1 8 117679395004577088536576

abbrev met : List Met
met = next ∷ early ∷ late ∷ []

-- the one that was met at the second tap is the first at both
abbrev at_both : IsMetAtBoth 256 (is_of_master nothing_asked met) met early late
at_both = record {
  later = next ∷ [];
  earlier = late ∷ [];
  parts = refl;
  of_master_is = refl;
  before = record { since = []; before = []; parts = refl; is_named = refl; newest = refl; within = omega arith };
}

-- before it none was: one message has none before it
none_before : (capacity : ℕ) (of_master : Met → Bool) (m s o : Met) → IsMetAtBoth capacity of_master (m ∷ []) s o → ⊥
none_before capacity of_master m s o both = at both.later both.earlier both.before.since both.before.before both.parts both.before.parts
  where
    at : (later earlier since before : List Met) → m ∷ [] ≡ later ++ s ∷ earlier → earlier ≡ since ++ o ∷ before → ⊥
    at later earlier since before parts rest =
        let one : 1 ≡ length (later ++ s ∷ earlier) = ap length parts in
        let two : length earlier ≡ length (since ++ o ∷ before) = ap length rest in
        omega (arith, one, two, length-append later (s ∷ earlier), length-append since (o ∷ before))

is_first : IsFirstOf 256 (is_of_master nothing_asked met) met taps.Second
is_first = record {
  sync = early;
  other = late;
  is_first = record { at_both = at_both; first = none_before 256 (is_of_master nothing_asked met) late };
  from_is = refl;
}

-- so the law tells the second tap, and so it is
chosen : (known_after 256 nothing_asked met).from ≡ Some taps.Second
chosen = (chooses_first 256 nothing_asked met taps.Second refl refl).1 is_first

computed : (known_after 256 nothing_asked met).from ≡ Some taps.Second
computed = refl

-- of equal times the tap that met it before
equal_times : (known_after 256 nothing_asked (sync_at taps.First 0 6 5 ∷ sync_at taps.Second 0 3 5 ∷ [])).from ≡ Some taps.Second
equal_times = refl

-- where a tap is asked for, that is the first of the two whatever the Syncs say
one_asked : (known_after 256 (record nothing_asked { from = Some (97 ∷ []) }) met).from ≡ Some taps.First
one_asked = refl

-- where as many came to the other tap since as count, it isn't known any more that it was met there
too_late : (known_after 1 nothing_asked (early ∷ next ∷ late ∷ [])).from ≡ None
too_late = refl

in_time : (known_after 2 nothing_asked (early ∷ next ∷ late ∷ [])).from ≡ Some taps.Second
in_time = refl
