-- A worked case: the first Sync of a real capture at two ports of a clock, by its four packets, and the line that is written.
use Rattle.std.proofs.Common.{◌≡◌, ℕ, ℤ, pos, Bool, true, false, List, [], ◌∷◌, Some, None, Option, codes, refl}
use Rattle.std.specs.Fmt.{digits}
use Rattle.ptp_units.specs.Moment.{Stamp, stamp}
use Rattle.ptp_units.specs.Nanoseconds.{decimals}
use Rattle.event_codec.specs.declared.message.Body.{Body}
use Rattle.event_codec.specs.declared.message.Body.TheVariants as bodies
use Rattle.event_codec.specs.declared.port.PortIdentity.{PortIdentity}
use Rattle.tap_choice.specs.declared.met.Met.{Met}
use Rattle.tap_choice.specs.declared.met.Side.{Side}
use Rattle.tap_choice.specs.declared.met.Side.TheVariants as taps
use Rattle.tap_choice.specs.declared.wanted.WantedTaps.{WantedTaps}
use Rattle.tap_choice.specs.Sides.{lacks_tap}
use Rattle.tap_follow.specs.declared.follower.Arrival.TheVariants as arrivals
use Rattle.tap_follow.specs.declared.following.Form.TheVariants.{Json}
use Rattle.tap_follow.specs.Course.{Course, begun, arrival_of, with_tap, after, new_text, end_text}

abbrev port_of : ℕ → PortIdentity
port_of last = record { clock = 2 ∷ 0 ∷ 0 ∷ 255 ∷ 254 ∷ 0 ∷ 0 ∷ last ∷ []; port = 1 }

-- a message of number 0 of the master: its flags, tap, packet, time, correction and body
abbrev message : (flags : ℕ) → Side → (line time : ℕ) → (correction : ℤ) → Body → Met
message flags side line time correction body = record {
  side = side;
  line = line;
  time = time;
  header = record {
    major_sdo = 0;
    minor_version = 1;
    domain = 0;
    minor_sdo = 0;
    flags = flags ∷ 0 ∷ [];
    correction = record { 0 = correction };
    specific = 0 ∷ 0 ∷ 0 ∷ 0 ∷ [];
    source = port_of 1;
    sequence = record { 0 = 0 };
    control = 0;
    log = pos 0;
  };
  body = body;
}

abbrev precise : Stamp
precise = stamp 1795645064 377383817

abbrev sync_left : Met
sync_left = message 2 taps.First 3 117679394939036587458560 (pos 0) (bodies.Sync (stamp 0 0))

abbrev follow_left : Met
follow_left = message 0 taps.First 4 117679394939038252597248 (pos 0) (bodies.FollowUp precise)

abbrev sync_right : Met
sync_right = message 2 taps.Second 6 117679394939041552990208 (pos 0) (bodies.Sync (stamp 0 0))

abbrev follow_right : Met
follow_right = message 0 taps.Second 7 117679394939045136302080 (pos 5203755008) (bodies.FollowUp precise)

-- who the slave is, is asked for or not
abbrev asked : Option PortIdentity → WantedTaps
asked slave = record { from = None; to = None; domain = None; master = None; slave = slave }

-- once both taps met something
abbrev taps_met : Option PortIdentity → Course
taps_met slave = with_tap (codes "right") (with_tap (codes "left") (begun Json (asked slave)))

abbrev three : Option PortIdentity → Course
three slave = after sync_right (after follow_left (after sync_left (taps_met slave)))

abbrev line : List ℕ
line = codes "{\"corrected\":\"79403\",\"from\":\"left\",\"kind\":\"sync\",\"lines\":[3,6,4,7],\"number\":0,\"rest\":\"-3635\",\"taken\":\"75768\",\"time\":\"1795645064.377389335\",\"to\":\"right\"}\n"

-- where the slave is asked for, the line goes out with the last packet
with_slave : new_text follow_right (three (Some (port_of 2))) ≡ line
unfolding digits decimals
with_slave = refl

nothing_more : end_text (after follow_right (three (Some (port_of 2)))) ≡ []
nothing_more = refl

-- where nobody tells him, it goes out at the end
waits : new_text follow_right (three None) ≡ []
waits = refl

at_end : end_text (after follow_right (three None)) ≡ line
unfolding digits decimals
at_end = refl

-- a third tap is told as that
third : arrival_of (taps_met None) (codes "mid") ≡ arrivals.Third
third = refl

-- ---- taps that are asked for, where left and right were met
abbrev lacks : (from to : Option (List ℕ)) → Bool
lacks from to =
    let w : WantedTaps = record { from = from; to = to; domain = None; master = None; slave = None } in
    lacks_tap w (with_tap (codes "right") (with_tap (codes "left") (begun Json w))).sides

none_asked : lacks None None ≡ false
none_asked = refl

both_there : lacks (Some (codes "right")) (Some (codes "left")) ≡ false
both_there = refl

one_there : lacks None (Some (codes "left")) ≡ false
one_there = refl

no_from : lacks (Some (codes "Left")) (Some (codes "right")) ≡ true
no_from = refl

no_to : lacks (Some (codes "left")) (Some (codes "Right")) ≡ true
no_to = refl

neither : lacks (Some (codes "Left")) (Some (codes "Right")) ≡ true
neither = refl
