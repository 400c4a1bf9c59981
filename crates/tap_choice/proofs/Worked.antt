-- A worked case: the first Sync of a real capture at two ports of a clock, of which the second was described first.
use Rattle.std.proofs.Common.{◌≡◌, ℕ, pos, List, [], ◌∷◌, Some, None, refl}
use Rattle.ptp_units.specs.Moment.{stamp}
use Rattle.event_codec.specs.declared.message.Body.TheVariants as bodies
use Rattle.event_codec.specs.declared.port.PortIdentity.{PortIdentity}
use Rattle.tap_choice.specs.declared.choice.Pair.{Pair}
use Rattle.tap_choice.specs.declared.met.Met.{Met}
use Rattle.tap_choice.specs.declared.met.Side.{Side}
use Rattle.tap_choice.specs.declared.met.Side.TheVariants as taps
use Rattle.tap_choice.specs.declared.wanted.WantedTaps.{WantedTaps}
use Rattle.tap_choice.specs.Known.{Known, asked, noticed, pair_of}

abbrev nothing_asked : WantedTaps
nothing_asked = record { from = None; to = None; domain = None; master = None; slave = None }

abbrev port_of : ℕ → PortIdentity
port_of last = record { clock = 2 ∷ 0 ∷ 0 ∷ 255 ∷ 254 ∷ 0 ∷ 0 ∷ last ∷ []; port = 1 }

-- a Sync of number 0 of this domain and source, at a tap and a time
abbrev sync_at : (domain : ℕ) → (source : PortIdentity) → Side → (line time : ℕ) → Met
sync_at domain source side line time = record {
  side = side;
  line = line;
  time = time;
  header = record {
    major_sdo = 0;
    minor_version = 1;
    domain = domain;
    minor_sdo = 0;
    flags = 2 ∷ 0 ∷ [];
    correction = record { 0 = pos 0 };
    specific = 0 ∷ 0 ∷ 0 ∷ 0 ∷ [];
    source = source;
    sequence = record { 0 = 0 };
    control = 0;
    log = pos 0;
  };
  body = bodies.Sync (stamp 0 0);
}

-- what is known after messages, the newest in front
abbrev after : List Met → Known
after [] = asked nothing_asked
after (m ∷ earlier) = noticed 256 m (after earlier)

abbrev late : Met
late = sync_at 0 (port_of 1) taps.First 6 117679394939041552990208

abbrev early : Met
early = sync_at 0 (port_of 1) taps.Second 3 117679394939036587458560

abbrev pair : Pair
pair = record { domain = 0; master = port_of 1; from = taps.Second }

-- at one tap it says whose it is, and not yet which way
one_tap : pair_of (after (late ∷ [])) ≡ None
one_tap = refl

-- the tap with the earlier time is the one that it met first, whichever line is first
told_first : pair_of (after (early ∷ late ∷ [])) ≡ Some pair
told_first = refl

told_last : pair_of (after (late ∷ early ∷ [])) ≡ Some pair
told_last = refl

-- of equal times the tap counts that met it before
equal_times : pair_of (after (sync_at 0 (port_of 1) taps.First 6 5 ∷ sync_at 0 (port_of 1) taps.Second 3 5 ∷ [])) ≡ Some pair
equal_times = refl

-- Syncs of another domain or another master change nothing
others : pair_of (after (early ∷ sync_at 1 (port_of 1) taps.Second 5 1 ∷ sync_at 0 (port_of 2) taps.Second 4 1 ∷ late ∷ []))
    ≡ Some pair
others = refl
